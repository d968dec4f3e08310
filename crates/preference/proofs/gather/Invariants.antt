-- `preference::gather` meets its contract: the first rows are gathered, and the others are empty.
use Rattle.preference.proofs.Gathering.{Gathered}
use Rattle.preference.proofs.gather.Given as goal

abbrev pub invariant-loop-i : goal.invariant-loop-i
invariant-loop-i l = Gathered l.rows l.numbers l.out l.i
