-- `preference::is_plain` meets its contract: the numbers passed that differ are counted.
use Rattle.std.proofs.Common.{◌≡◌, arith}
use Rattle.preference.specs.private.Testing.{plain_at}
use Rattle.preference.proofs.PlainOrder.{lifted_at, counted_none, counted_stray, counted_same, counted_all}
use Rattle.preference.proofs.is_plain.Goals as goal
use Rattle.preference.proofs.is_plain.Goals.{then-order-i, else-order-i}

pub loop-i-init : goal.loop-i-init
loop-i-init c = counted_none _ _

pub loop-i-preserved : goal.loop-i-preserved
loop-i-preserved c =
    let due : c.plain_number.result ≡ plain_at c.args.n c.loop-i.i = lifted_at _ _ _ _ c.loop-i-test.true c.lift_of-lift.ensures c.plain_number.ensures in
    elim c.if-order-i.branch [
      | then-order-i w ↦ rw w.strays-is (counted_stray _ _ _ _ _ c.loop-i.invariant c.loop-i-test.true due w.if-order-i.true)
      | else-order-i w ↦ rw w.strays-is (counted_same _ _ _ _ _ c.loop-i.invariant c.loop-i-test.true due w.if-order-i.false)
    ]

pub returns : goal.returns
returns c = counted_all _ _ _ _ c.loop-i.invariant (omega arith)
