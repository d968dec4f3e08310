-- Picks by number and by place, and a valid sequence at each of its places.
use mathlib.Core.Path.{◌≡◌, refl, sym, ap, ap₂, ◌∙◌}
use mathlib.Core.List.{List, [], ◌∷◌, ◌++◌, map, append-nil, Memᴰ}
use Prim.Native.Nat.{ℕ, zero, suc, ◌-◌, ◌<◌}
use native.Mathlib.Omega.{arith}
use lib.ListN.{length, get_or, take}
use lib.Seq.{append_snoc}
use Rattle.rules.specs.private.Fitting.{ValidFrom, Valid}
use Rattle.rules.proofs.Trees.{valid_snoc}

-- ---- numbers and places
pub length_numbers : (p : List ℕ) → length (map suc p) ≡ length p
length_numbers [] = refl
length_numbers (g ∷ p) = ap suc (length_numbers p)

pub places_numbers : (p : List ℕ) → map (λ x. x - 1) (map suc p) ≡ p
places_numbers [] = refl
places_numbers (g ∷ p) = let e : suc g - 1 ≡ g = omega arith in ap₂ (λ (x : ℕ) (l : List ℕ). x ∷ l) e (places_numbers p)

pub numbers_snoc : (p : List ℕ) (g : ℕ) → map suc (p ++ (g ∷ [])) ≡ map suc p ++ (suc g ∷ [])
numbers_snoc [] g = refl
numbers_snoc (x ∷ p) g = ap (λ (l : List ℕ). suc x ∷ l) (numbers_snoc p g)

pub get_or_numbers : (p : List ℕ) (i : ℕ) → i < length p → get_or (map suc p) i 0 ≡ suc (get_or p i 0)
get_or_numbers [] i l = absurd (omega arith)
get_or_numbers (x ∷ p) zero l = refl
get_or_numbers (x ∷ p) (suc i) l = get_or_numbers p i (omega arith)

pub numbers_same : (p q : List ℕ) → map suc p ≡ map suc q → p ≡ q
numbers_same p q e = sym (places_numbers p) ∙ ap (map (λ x. x - 1)) e ∙ places_numbers q

-- ---- a valid sequence, at each of its places
valid_from : (kids : List ℕ → List ℕ) (q p : List ℕ) (i : ℕ) → ValidFrom kids q p → i < length p → Memᴰ (get_or p i 0) (kids (q ++ take i p))
valid_from kids q [] i v l = absurd (omega arith)
valid_from kids q (x ∷ p) zero v l = rw (append-nil q) v.0
valid_from kids q (x ∷ p) (suc i) v l = rw (append_snoc q x (take i p)) at (valid_from kids (q ++ (x ∷ [])) p i v.1 (omega arith))

take_from_lem : (kids : List ℕ → List ℕ) (q p : List ℕ) (i : ℕ) → ValidFrom kids q p → ValidFrom kids q (take i p)
take_from_lem kids q p zero v = tt
take_from_lem kids q [] (suc i) v = tt
take_from_lem kids q (x ∷ p) (suc i) v = (v.0, take_from_lem kids (q ++ (x ∷ [])) p i v.1)

-- the first picks of a valid sequence, and the next
pub valid_next : (kids : List ℕ → List ℕ) (p : List ℕ) (i : ℕ) → Valid kids p → i < length p → Valid kids (take i p ++ (get_or p i 0 ∷ []))
valid_next kids p i v l = valid_snoc kids (take i p) (get_or p i 0) (take_from_lem kids [] p i v) (valid_from kids [] p i v l)
