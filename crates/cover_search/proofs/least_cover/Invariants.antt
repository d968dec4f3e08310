-- `cover_search::least_cover` meets its contract: before each k none was found, and what is left of the budget does for the rest (`Deepening`).
use Rattle.cover_search.proofs.Steps.{Deepening}
use Rattle.cover_search.proofs.least_cover.Given as goal

abbrev pub invariant-loop-k : goal.invariant-loop-k
invariant-loop-k l = Deepening l.ladders l.left l.budget l.k l.rest l.cover
