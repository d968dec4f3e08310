-- Which picks go with a phase: a test of the state alone. That it holds exactly of the states that are reached is `reachable` in
-- proofs/Reach.antt.
use Rattle.std.specs.Prelude.{◌≡◌, ℕ}
use mathlib.Core.List.{List, [], ◌∷◌, ◌++◌, Memᴰ}
use Rattle.rules.specs.Machine.{Phase, Down, Handed, Back, Ended}

module _ (kids : List ℕ → List ℕ) where
  -- each element of the second list is among the kids of the elements before it, of which q are the first
  abbrev pub ValidFrom : List ℕ → List ℕ → Type 0
  ValidFrom q [] = Unit {0}
  ValidFrom q (x ∷ xs) = Memᴰ x (kids q) × ValidFrom (q ++ (x ∷ [])) xs

  abbrev pub Valid : List ℕ → Type 0
  Valid p = ValidFrom [] p

  abbrev pub Fits : List ℕ → Phase → Type 0
  Fits p Down = Valid p
  Fits p Handed = Valid p × (kids p ≡ [])
  Fits p (Back g) = Valid p × Memᴰ g (kids p)
  Fits p Ended = p ≡ []
