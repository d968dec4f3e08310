-- The pairs of a set in order (R-7: "Pairs go by gauge, then case"). A pair is the gauge's number and the case's, both from 1; w is the
-- number of cases. That the list has each pair of the set, each once and in order, is `pairs_listed` in proofs/Pairs.antt.
use Rattle.std.specs.Prelude.{◌≡◌, ◌⊎◌, ◌↔◌, Bool, ℕ, suc, ◌-◌, ◌<◌}
use mathlib.Core.List.{List, [], ◌∷◌, ◌++◌, map, Memᴰ}
use Rattle.sets.specs.Sets.{bit}
use Rattle.table.specs.Pairs.{row, Has}
use Rattle.rules.specs.Sequences.{Sorted}
use Rattle.lists.specs.Picks.{select}

abbrev pub Pair : Type 0
Pair = ℕ × ℕ

-- the pair p is in the set x, as a test
unfoldable pub holds : List ℕ → Pair → Bool
holds x p = bit (row x (p.0 - 1)) (p.1 - 1)

-- by gauge, then case
abbrev pub PairBefore : Pair → Pair → Type 0
PairBefore p q = (p.0 < q.0) ⊎ ((p.0 ≡ q.0) × (p.1 < q.1))

-- the pairs of the set x, each once, in order
pub record PairList (x : List ℕ) (ps : List Pair) : Type 0 where
  pub ascends : Sorted PairBefore ps
  pub members : (p : Pair) → Memᴰ p ps ↔ Has x p.0 p.1

-- the pairs of the rows x, of which the first is that of gauge g
unfoldable pub pairs_from : ℕ → ℕ → List ℕ → List Pair
pairs_from w g [] = []
pairs_from w g (a ∷ x) = map (λ k. (g, suc k)) (select (bit a) w) ++ pairs_from w (suc g) x

abbrev pub pairs : ℕ → List ℕ → List Pair
pairs w x = pairs_from w 1 x
