-- `recorded::readings_fit` meets its contract: the readings passed fit.
use mathlib.Core.Path.{◌≡◌}
use mathlib.Core.Bool.{true}
use Rattle.sets.specs.Lists.{all_below}
use Rattle.recorded.specs.Tests.{fits_at}
use Rattle.recorded.proofs.readings_fit.Given as goal

abbrev pub invariant-loop-p : goal.invariant-loop-p
invariant-loop-p l = all_below (fits_at l.rows l.readings) l.p ≡ true
