-- `c_recorded::put_readings` meets its contract: the readings passed are stored.
use lib.ListN.{take}
use Rattle.c_recorded.specs.private.Putting.{PutReadings}
use Rattle.c_recorded.proofs.put_readings.Given as goal

abbrev pub invariant-loop-i : goal.invariant-loop-i
invariant-loop-i l = PutReadings l.initial.out (take l.i l.readings) l.out
