-- `preference::renumber` meets its contract: the first numbers are renumbered.
use Rattle.preference.proofs.Gathering.{Renumbered}
use Rattle.preference.proofs.renumber.Given as goal

abbrev pub invariant-loop-i : goal.invariant-loop-i
invariant-loop-i l = Renumbered l.numbers l.n l.picks l.out l.i
