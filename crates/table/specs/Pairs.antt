-- Sets of pairs (01, "Tables, chains, ladders"): a set of pairs is a list of rows, one for each gauge, and a table's own pairs are
-- such a set too. Gauges and cases are numbered from 1: gauge g is row g - 1, and case c is place c - 1 of it.
use Rattle.std.specs.Prelude.{◌≡◌, List, ℕ, ◌-◌, ◌≤◌, ◌<◌, T, length, get_or}
use Rattle.sets.specs.Sets.{bit}

-- row i, counted from 0; past the last it is empty
abbrev pub row : List ℕ → ℕ → ℕ
row s i = get_or s i 0

-- the pair g:c is in the set s ("bit c-1 is set when the gauge responds under case c")
pub record Has (s : List ℕ) (g c : ℕ) : Type 0 where
  pub gauge : 1 ≤ g
  pub case : 1 ≤ c
  pub set : T (bit (row s (g - 1)) (c - 1))

-- s is a set of pairs of the set r: as many rows, and each pair of s is in r
pub record Within (r s : List ℕ) : Type 0 where
  pub size : length s ≡ length r
  pub inside : (g c : ℕ) → Has s g c → Has r g c

-- every case of the rows is among the first w
abbrev pub Cases : ℕ → List ℕ → Type 0
Cases w rows = (i k : ℕ) → T (bit (row rows i) k) → k < w
