-- `extend::next_fitting` meets its contract: no place passed fits.
use Prim.Native.Nat.{ℕ, ◌≤◌, ◌<◌}
use mathlib.Core.Path.{◌≡◌}
use mathlib.Core.Bool.{false}
use Rattle.extend.specs.private.PickSteps.{fits_in}
use Rattle.extend.proofs.next_fitting.Given as goal

abbrev pub invariant-loop-g : goal.invariant-loop-g
invariant-loop-g l = (i : ℕ) → 0 ≤ i → i < l.g → fits_in l.rows l.unpicked l.left l.owed i ≡ false
