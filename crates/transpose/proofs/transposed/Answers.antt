-- `transpose::transposed` meets its contract: the columns are put into an array without rows.
use Rattle.transpose.proofs.Columns.{putting_array}
use Rattle.transpose.proofs.transposed.Goals as goal

pub returns : goal.returns
returns c = putting_array _ _ _ _ _ c.at_most_rows-high.ensures c.at_most_rows-last.ensures _ c.put_columns.ensures
