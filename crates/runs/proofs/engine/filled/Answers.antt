-- `runs::engine::filled` meets its contract: what was counted is the number of the places passed that are not zero.
use mathlib.Core.Path.{sym, ap}
use native.Mathlib.Numerals.{add-one}
use native.Mathlib.Omega.{arith}
use Rattle.runs.specs.private.Working.{filled}
use Rattle.runs.proofs.Filled.{filled_none, filled_zero, filled_some, filled_most}
use Rattle.runs.proofs.engine.filled.Goals.{then-picks-i-ne0, else-picks-i-ne0}
use Rattle.runs.proofs.engine.filled.Goals as goal

pub loop-i-init : goal.loop-i-init
loop-i-init c = sym (filled_none _)

pub overflow_add-seen : goal.overflow_add-seen
overflow_add-seen c = omega (arith, filled_most c.args.picks.now c.loop-i.i)

pub loop-i-preserved : goal.loop-i-preserved
loop-i-preserved c =
    let k = c.args.picks.now in
    let e = ap (filled k) (add-one c.loop-i.i) in
    elim c.if-picks-i-ne0.branch [
      | then-picks-i-ne0 w ↦ omega (arith, e, w.seen-is, c.loop-i.invariant, filled_some k c.loop-i.i w.if-picks-i-ne0.true)
      | else-picks-i-ne0 w ↦ omega (arith, e, w.seen-is, c.loop-i.invariant, filled_zero k c.loop-i.i w.if-picks-i-ne0.false)
    ]
