-- `wiring::contains` meets its contract: the test holds at each row passed.
use native.Mathlib.Omega.{arith}
use Rattle.sets.proofs.Tabulated.{all_none, all_more, all_fails, all_done}
use Rattle.wiring.specs.private.Steps.{includes}
use Rattle.wiring.proofs.contains.Goals as goal

pub loop-i-init : goal.loop-i-init
loop-i-init c = all_none _

pub returns-then-not-subset : goal.returns-then-not-subset
unfolding includes
returns-then-not-subset c = all_fails _ _ c.loop-i.i _ c.loop-i-test.true c.subset.ensures c.if-not-subset.true

pub loop-i-preserved : goal.loop-i-preserved
loop-i-preserved c = all_more _ _ _ c.loop-i.invariant c.subset.ensures c.if-not-subset.false

pub returns : goal.returns
unfolding includes
returns c = all_done _ _ _ c.loop-i.invariant (omega arith)
