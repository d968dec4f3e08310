-- The tests by which the next pair is found. Row i of the chain s can take a case of row i of x that it lacks and that every row of s that strictly
-- contains row i has: that these are the pairs that can come next is proved in proofs/NextPair.antt. Rows and places count from 0.
use Rattle.std.specs.Prelude.{◌≡◌, Bool, false, not, ◌&&◌, ◌||◌, List, ℕ, zero, suc, ◌+◌, ◌≤◌, ◌<◌}
use Rattle.std.specs.Int.Count.{ones}
use Rattle.sets.specs.Sets.{bit, is_proper_subset}
use Rattle.sets.specs.Lists.{all_below}
use Rattle.table.specs.Pairs.{row}

-- place k is in the row `other`, if that strictly contains the row `own`
unfoldable pub spares : ℕ → ℕ → ℕ → Bool
spares own other k = not (is_proper_subset own other) || bit other k

-- each of the first n rows that strictly contains row i has place k
unfoldable pub allowed : List ℕ → ℕ → ℕ → ℕ → Bool
allowed s i k n = all_below (λ j. spares (row s i) (row s j) k) n

-- r has the places of the set `most` that are allowed in row i
pub record Room (s : List ℕ) (most i n r : ℕ) : Type 0 where
  pub bits : (k : ℕ) → bit r k ≡ (bit most k && allowed s i k n)

-- place k is in the set `wide` and not in the set `own`
unfoldable pub beyond : ℕ → ℕ → ℕ → Bool
beyond wide own k = bit wide k && not (bit own k)

-- row i of s, of n rows, can take place k within x
unfoldable pub takes : List ℕ → List ℕ → ℕ → ℕ → ℕ → Bool
takes x s n i k = (bit (row x i) k && allowed s i k n) && not (bit (row s i) k)

-- row i can take none
abbrev pub Full : List ℕ → List ℕ → ℕ → ℕ → Type 0
Full x s n i = (k : ℕ) → takes x s n i k ≡ false

-- r is the first of the n rows that can take a place, or n where none can
pub record FirstRow (x s : List ℕ) (n r : ℕ) : Type 0 where
  pub few : r ≤ n
  pub least : (j : ℕ) → j < r → Full x s n j
  pub found : r < n → ¬ Full x s n r

-- how many pairs the first n rows have
unfoldable pub pairs_in : List ℕ → ℕ → ℕ
pairs_in s zero = 0
pairs_in s (suc n) = pairs_in s n + ones (row s n)
