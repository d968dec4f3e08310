-- `c_recorded::readings_at` meets its contract: the readings passed are those of the slice.
use Rattle.c_recorded.proofs.Readings.{Taken}
use Rattle.c_recorded.proofs.readings_at.Given as goal

abbrev pub invariant-loop-i : goal.invariant-loop-i
invariant-loop-i l = Taken l.v l.readings l.i
