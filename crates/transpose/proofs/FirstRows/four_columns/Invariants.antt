-- `transpose::FirstRows::four_columns` meets its contract: the four numbers so far are the columns of the rows passed.
use Rattle.transpose.proofs.Columns.{Fours}
use Rattle.transpose.proofs.FirstRows.four_columns.Given as goal

abbrev pub invariant-loop-i : goal.invariant-loop-i
invariant-loop-i l = Fours l.self.many l.k l.self.rows.now l.i l.a l.b l.c l.d
