-- `wiring::beyond` meets its contract.
use Rattle.wiring.proofs.Rows.{beyond_out, beyond_in}
use Rattle.wiring.proofs.beyond.Goals as goal

pub returns-then-not-has : goal.returns-then-not-has
returns-then-not-has c = beyond_out _ _ _ _ c.has.ensures c.if-not-has.true

pub returns : goal.returns
returns c = beyond_in _ _ _ _ _ c.has.ensures c.if-not-has.false c.has-2.ensures
