-- `wiring::pairs_in` meets its contract: after `i` rows it is the number of their pairs, at most 64 each.
use native.Mathlib.Omega.{arith}
use Rattle.wiring.proofs.Rows.{pairs_none, pairs_more}
use Rattle.wiring.proofs.pairs_in.Goals as goal

pub loop-i-init : goal.loop-i-init
loop-i-init c = (pairs_none _, omega arith)

pub loop-i-preserved : goal.loop-i-preserved
loop-i-preserved c =
    let l = c.loop-i in
    (pairs_more _ _ _ _ l.invariant.0 c.case_count-total.ensures.0, omega (arith, c.case_count-total.ensures.1))
