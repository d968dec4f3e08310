-- `transpose::FirstRows::column` meets its contract: the number so far is the column of the rows passed.
use Rattle.transpose.proofs.Columns.{Gathered}
use Rattle.transpose.proofs.FirstRows.column.Given as goal

abbrev pub invariant-loop-i : goal.invariant-loop-i
invariant-loop-i l = Gathered l.self.many l.k l.self.rows.now l.i l.set
