-- Sequences of numbers: lists that ascend by an order, the order number by number, and n!.
use Rattle.std.specs.Prelude.{◌≡◌, ◌⊎◌, List, [], ◌∷◌, ℕ, zero, suc, ◌*◌, ◌<◌}

-- `p` holds of each element
abbrev pub All : {A : Type 0} → (A → Type 0) → List A → Type 0
All p [] = Unit {0}
All p (x ∷ xs) = p x × All p xs

-- each element is in relation `r` to every later one
abbrev pub Sorted : {A : Type 0} → (A → A → Type 0) → List A → Type 0
Sorted r [] = Unit {0}
Sorted r (x ∷ xs) = All (r x) xs × Sorted r xs

-- "compared number by number from the first": p comes before q where the first difference says so, or where p ends and q goes on
abbrev pub Before : List ℕ → List ℕ → Type 0
Before [] [] = ⊥
Before [] (y ∷ q) = Unit {0}
Before (x ∷ p) [] = ⊥
Before (x ∷ p) (y ∷ q) = (x < y) ⊎ ((x ≡ y) × Before p q)

-- n! = 1 * 2 * .. * n
abbrev pub factorial : ℕ → ℕ
factorial zero = 1
factorial (suc n) = suc n * factorial n
