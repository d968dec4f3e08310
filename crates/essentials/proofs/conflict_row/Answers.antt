-- `essentials::conflict_row` meets its contract.
use Rattle.essentials.proofs.RowLaws.{row_none, row_some}
use Rattle.essentials.proofs.conflict_row.Goals as goal

pub returns-then-has : goal.returns-then-has
returns-then-has c = row_none _ _ _ _ c.has.ensures c.if-has.true

pub returns : goal.returns
returns c = row_some _ _ _ _ _ c.has.ensures c.if-has.false c.minus.ensures
