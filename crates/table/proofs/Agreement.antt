-- Two arrays compared: where they are tested to be one, their rows are (`same_of_one`), and back (`rows_same`).
--
-- Pins, which nothing else cites: `rows_same`.
use mathlib.Core.Path.{◌≡◌, sym, ap, ◌∙◌}
use mathlib.Core.Bool.{Bool, true}
use mathlib.Core.List.{List}
use mathlib.Core.Logic.{◌↔◌}
use Prim.Native.Nat.{ℕ, ◌<◌}
use native.Mathlib.Omega.{arith}
use lib.ListN.{length}
use lib.Seq.{ext_get_or}
use Rattle.table.specs.Pairs.{row}

-- ---- the same rows
abbrev SameRows : List ℕ → List ℕ → Type 0
SameRows a b = (i : ℕ) → i < 64 → row a i ≡ row b i

-- where the arrays are tested to be one, their rows are
pub same_of_one : (a b : List ℕ) (t : Bool) → length a ≡ 64 → length b ≡ 64 → (t ≡ true) ↔ (a ≡ b) → (t ≡ true) ↔ SameRows a b
same_of_one a b t n m s = (λ e i l. ap (λ (x : List ℕ). row x i) (s.0 e), λ f. s.1 (ext_get_or 0 a b (n ∙ sym m) (λ i l. f i (omega arith))))

pub rows_same : (a b : List ℕ) (t : Bool) → length a ≡ 64 → length b ≡ 64 → (t ≡ true) ↔ SameRows a b → (t ≡ true) ↔ (a ≡ b)
rows_same a b t n m s = (λ e. ext_get_or 0 a b (n ∙ sym m) (λ i l. s.0 e i (omega arith)), λ e. s.1 (λ i l. ap (λ (x : List ℕ). row x i) e))
