-- `transpose::transpose_into` meets its contract: with room for the columns they are put, and else nothing is.
use native.Mathlib.Omega.{arith}
use Rattle.transpose.proofs.Columns.{puts_short, puts_there}
use Rattle.transpose.proofs.transpose_into.Goals as goal

pub returns-then-out-last : goal.returns-then-out-last
returns-then-out-last c = puts_short _ _ _ _ _ c.at_most_rows-last.ensures (omega arith)

pub returns-then-out-last-2 : goal.returns-then-out-last-2
returns-then-out-last-2 c = puts_short _ _ _ _ _ c.at_most_rows-last.ensures (omega arith)

pub returns : goal.returns
returns c = puts_there _ _ _ _ _ c.at_most_rows.ensures c.at_most_rows-last.ensures _ _ _ (omega arith) c.put_columns.ensures
