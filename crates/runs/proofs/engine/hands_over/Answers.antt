-- `runs::engine::hands_over` meets its contract.
use mathlib.Core.Path.{refl}
use Rattle.runs.specs.private.Working.{hands_over}
use Rattle.runs.proofs.engine.hands_over.Goals as goal

pub returns-in_default : goal.returns-in_default
unfolding hands_over
returns-in_default c = rw c.in_default.is refl

pub returns : goal.returns
unfolding hands_over
returns c = rw (c.in-Some.is, c.apart.ensures) refl
