-- `preference::row_numbered` meets its contract.
use Rattle.preference.proofs.Gathering.{row_zero, row_large, row_some}
use Rattle.preference.proofs.row_numbered.Goals as goal

pub returns-then-g-eq0 : goal.returns-then-g-eq0
returns-then-g-eq0 c = row_zero _ _ c.if-g-eq0.true

pub returns-then-g-gt-MOST : goal.returns-then-g-gt-MOST
returns-then-g-gt-MOST c = row_large _ _ c.if-g-gt-MOST.true

pub returns : goal.returns
returns c = row_some _ _ c.if-g-eq0.false c.if-g-gt-MOST.false
