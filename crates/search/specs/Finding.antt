-- Candidates by the rows that are still to be picked (01, "A **candidate** is an unpicked gauge with a remainder that is not empty, such that no
-- unpicked gauge's remainder strictly contains it, and no lower-numbered unpicked gauge has an equal one"). `unpicked` has the row of each
-- unpicked gauge, nothing for a picked one, and `left` is the set of left cases. Places count from 0: place i is gauge i + 1.
use Rattle.std.specs.Prelude.{◌≡◌, Bool, true, false, not, ◌&&◌, ◌||◌, cond, List, ℕ, ◌≤◌, ◌<◌, min, eqb, ltb}
use Rattle.sets.specs.Sets.{bit, meet, is_subset}
use Rattle.sets.specs.Lists.{tabulate, all_below}
use Rattle.table.specs.Pairs.{row}

-- a gauge's row restricted to the left cases
abbrev pub remainder_in : List ℕ → ℕ → ℕ → ℕ
remainder_in unpicked left g = meet (row unpicked g) left

-- the remainder y holds all of x, and more, or the same and its gauge is lower-numbered
unfoldable pub blocks : ℕ → ℕ → Bool → Bool
blocks x y lower = is_subset x y && (not (eqb x y) || lower)

-- the gauge at place g is one of the first n, at most 64, and a candidate among them
unfoldable pub candidate_in : List ℕ → ℕ → ℕ → ℕ → Bool
candidate_in unpicked left n g =
    ltb g (min n 64)
    && (not (eqb (remainder_in unpicked left g) 0)
    && all_below (λ h. not (blocks (remainder_in unpicked left g) (remainder_in unpicked left h) (ltb h g))) (min n 64))

-- r is the lowest number from `from` on, below n, at which f holds, or n where there is none
pub record FirstOf (f : ℕ → Bool) (from n r : ℕ) : Type 0 where
  pub least : (i : ℕ) → from ≤ i → i < r → f i ≡ false
  pub found : r < n → (from ≤ r) × (f r ≡ true)
  pub none : n ≤ r → r ≡ n

-- the rows at the places of a set, and nothing elsewhere: the rows of the unpicked gauges, where the set has their places
unfoldable pub within : ℕ → List ℕ → List ℕ
within set rows = tabulate (λ i. cond (bit set i) (row rows i) 0) 64
