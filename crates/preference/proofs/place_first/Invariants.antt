-- `preference::place_first` meets its contract: the numbers passed are marked; one that cannot be is in no preference.
use Rattle.preference.proofs.Placing.{Marked}
use Rattle.preference.proofs.place_first.Given as goal

abbrev pub invariant-loop-i : goal.invariant-loop-i
invariant-loop-i l = Marked l.n l.order l.places l.i
