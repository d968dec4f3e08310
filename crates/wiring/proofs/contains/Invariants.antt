-- `wiring::contains` meets its contract: the test holds at each row passed.
use Prim.Native.Nat.{ℕ}
use mathlib.Core.Path.{◌≡◌}
use mathlib.Core.Bool.{true}
use Rattle.sets.specs.Sets.{is_subset}
use Rattle.sets.specs.Lists.{all_below}
use Rattle.table.specs.Pairs.{row}
use Rattle.wiring.proofs.contains.Given as goal

abbrev pub invariant-loop-i : goal.invariant-loop-i
invariant-loop-i l = all_below (λ (j : ℕ). is_subset (row l.rows j) (row l.outer j)) l.i ≡ true
