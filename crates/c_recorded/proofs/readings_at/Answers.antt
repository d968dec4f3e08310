-- `c_recorded::readings_at` meets its contract: the readings passed are those of the slice.
use native.Mathlib.Omega.{arith}
use Rattle.c_recorded.proofs.Readings.{taken_all}
use Rattle.c_recorded.proofs.readings_at.Goals as goal

pub returns : goal.returns
returns c = taken_all _ c.loop-i.invariant (omega arith)
