-- `explain::first_lacking` meets its contract: what is found from the turn's place on is what is found at all (`Ahead`).
use Rattle.explain.proofs.Searching.{Ahead}
use Rattle.explain.proofs.first_lacking.Given as goal

abbrev pub invariant-loop-i : goal.invariant-loop-i
invariant-loop-i l = Ahead l.rows l.k l.picks l.count l.own l.i
