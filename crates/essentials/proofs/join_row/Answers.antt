-- `essentials::join_row` meets its contract.
use Rattle.essentials.proofs.RowLaws.{joined_has, joined_within, joined_both}
use Rattle.essentials.proofs.join_row.Goals as goal

pub returns-then-has : goal.returns-then-has
returns-then-has c = joined_has _ _ _ _ _ c.has.ensures c.if-has.true

pub returns-then-subset : goal.returns-then-subset
returns-then-subset c = joined_within _ _ _ _ _ _ c.has.ensures c.if-has.false c.subset.ensures c.if-subset.true

pub returns : goal.returns
returns c = joined_both _ _ _ _ _ _ c.has.ensures c.if-has.false c.subset.ensures c.if-subset.false
