-- `essentials::included` meets its contract.
use Rattle.essentials.proofs.RowLaws.{includes_out, includes_in}
use Rattle.essentials.proofs.included.Goals as goal

pub returns-then-has : goal.returns-then-has
returns-then-has c = includes_out _ _ _ _ _ c.has.ensures c.if-has.true

pub returns : goal.returns
returns c = includes_in _ _ _ _ _ _ c.has.ensures c.if-has.false c.subset.ensures
