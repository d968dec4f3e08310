-- `runs::engine::apart` meets its contract: a row that has something in common fails the test.
use mathlib.Core.Path.{refl}
use borrow.Author.Tests.{ne_eqb}
use Rattle.sets.proofs.Tabulated.{all_fails}
use Rattle.runs.specs.private.Working.{apart}
use Rattle.runs.proofs.engine.apart.Goals as goal

pub returns-then-chain-i-ne0 : goal.returns-then-chain-i-ne0
unfolding apart
returns-then-chain-i-ne0 c = all_fails _ _ c.loop-i.i _ c.loop-i-test.true refl (ne_eqb _ _ c.if-chain-i-ne0.true)
