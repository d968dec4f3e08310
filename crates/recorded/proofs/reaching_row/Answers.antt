-- `recorded::reaching_row` meets its contract: the set so far is that of the places below `k`.
use Rattle.std.proofs.Common.{rules, arith, ◌≡◌, ◌+◌, ◌*◌}
use Rattle.recorded.specs.Tests.{reaches, reading, row_at}
use Rattle.recorded.proofs.Turns.{below_none, below_room, below_in, below_out, below_all_lem}
use Rattle.recorded.proofs.reaching_row.Goals as goal
use Rattle.recorded.proofs.reaching_row.Goals.{then-reaches, else-reaches}

pub loop-k-init : goal.loop-k-init
loop-k-init c = below_none _

pub overflow_add-set : goal.overflow_add-set
overflow_add-set c = record { fits = below_room _ _ _ c.loop-k.invariant c.loop-k-test.true }

pub loop-k-preserved : goal.loop-k-preserved
loop-k-preserved c =
    let k = c.loop-k.k in
    let told : c.reaches.result ≡ reaches c.args.cutoff c.args.row k (reading c.args.readings.now (c.args.i * 64 + k)) = search rules in
    elim c.if-reaches.branch [
      | then-reaches w ↦ rw (w.set-is) (below_in _ _ _ c.loop-k.invariant c.loop-k-test.true _ told w.if-reaches.true)
      | else-reaches w ↦ rw (w.set-is) (below_out _ _ _ c.loop-k.invariant c.loop-k-test.true _ told w.if-reaches.false)
    ]

pub returns : goal.returns
unfolding row_at
returns c = below_all_lem _ _ _ c.loop-k.invariant (omega arith)
