-- `wiring::next_row` meets its contract: the rows passed can take none.
use Rattle.wiring.proofs.Rows.{Passed}
use Rattle.wiring.proofs.next_row.Given as goal

abbrev pub invariant-loop-i : goal.invariant-loop-i
invariant-loop-i l = Passed l.outer l.rows l.n l.i
