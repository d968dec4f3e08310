-- `recorded::readings_within` meets its contract: the readings passed are in range.
use mathlib.Core.Path.{◌≡◌}
use mathlib.Core.Bool.{true}
use Rattle.sets.specs.Lists.{all_below}
use Rattle.recorded.specs.Tests.{within_at}
use Rattle.recorded.proofs.readings_within.Given as goal

abbrev pub invariant-loop-p : goal.invariant-loop-p
invariant-loop-p l = all_below (within_at l.readings) l.p ≡ true
