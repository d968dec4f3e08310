-- The tests that the judges' private steps compute. No public promise mentions them: that they decide the definitions is proved in
-- proofs/NestedTest.antt and proofs/WidestTest.antt.
use Rattle.std.specs.Prelude.{Bool, ◌||◌, List, ℕ, eqb}
use Rattle.sets.specs.Sets.{is_subset}
use Rattle.sets.specs.Lists.{all_below}
use Rattle.table.specs.Pairs.{row}
use Rattle.judge.specs.WidestRows.{widest}

-- one of two sets includes the other
unfoldable pub nested : ℕ → ℕ → Bool
nested a b = is_subset a b || is_subset b a

-- row i is nested with each of the first n, and each of the first n with each
unfoldable pub nested_with : List ℕ → ℕ → ℕ → Bool
nested_with s n i = all_below (λ j. nested (row s i) (row s j)) n

unfoldable pub all_nested : List ℕ → ℕ → Bool
all_nested s n = all_below (nested_with s n) n

-- each of the first n rows is the widest it can be
unfoldable pub all_widest : List ℕ → List ℕ → ℕ → Bool
all_widest r s n = all_below (λ i. eqb (widest s (row r i) i n) (row s i)) n
