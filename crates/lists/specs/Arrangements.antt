-- Preferences (02, R-12: "a preference, an arrangement of 1..G, or of 1..L for the case run"), the most trusted
-- first, and the "place in it" that R-12 has everything go by. A preference of a side with n rows is a list of row
-- indices from 0, as picks are: index i is gauge i + 1, on the case side case i + 1. Places count from 0.
--
-- Elsewhere: the 64 numbers that hold a preference, and refusal 27, crate `preference`; that each index has one place
-- and each place one index, proofs/Standing.antt.
use Rattle.std.specs.Prelude.{◌≡◌, cond, List, [], ◌∷◌, ℕ, suc, ◌<◌, eqb, length}
use Rattle.sets.specs.Lists.{tabulate}

-- how often i is in o
unfoldable pub times : ℕ → List ℕ → ℕ
times i [] = 0
times i (x ∷ o) = cond (eqb i x) (suc (times i o)) (times i o)

-- o is an arrangement of the indices below n: n of them, each exactly once
pub record IsArrangement (n : ℕ) (o : List ℕ) : Type 0 where
  pub size : length o ≡ n
  pub once : (i : ℕ) → i < n → times i o ≡ 1

-- the place of i: where it is first; past the last where it is not in o
unfoldable pub place_of : List ℕ → ℕ → ℕ
place_of [] i = 0
place_of (x ∷ o) i = cond (eqb i x) 0 (suc (place_of o i))

-- "The arrangement 1, 2, 3 and on"
abbrev pub plain : ℕ → List ℕ
plain n = tabulate (λ i. i) n
