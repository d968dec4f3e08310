-- Sequences that start with others: the test says what the statement says (`starts_test`, `starts_not`); starting is transitive (`starts_trans`); what
-- starts with sequences that part comes in their order (`parted_before`, `parted_in`). Nothing of tables or runs is here.
use mathlib.Core.Path.{◌≡◌, refl, sym, ap, ap₂, ◌∙◌}
use mathlib.Core.Logic.{inl, inr, ◌↔◌}
use mathlib.Core.Bool.{Bool, true, false, ◌&&◌}
use mathlib.Core.List.{List, [], ◌∷◌, ◌++◌, map, append_assoc, head-eq_of_cons-eq, tail-eq_of_cons-eq}
use Prim.Native.Nat.{ℕ}
use native.Mathlib.Decide.{ℕ_discrete}
use lib.Dec.{eqb}
use borrow.Author.Tests.{eq-eqb, ne_eqb}
use Rattle.basics.proofs.Clash.{clash}
use Rattle.rules.specs.Sequences.{Before}
use Rattle.lists.specs.Arrangements.{place_of}
use Rattle.parts.specs.Parts.{StartsWith, Parted, PartedIn}
use Rattle.parts.specs.Calls.{starts_with}

pub starts_nil : (q : List ℕ) → StartsWith [] q
starts_nil q = record { rest = q; is = refl }

pub starts_same : (p : List ℕ) → StartsWith p p
starts_same p = record { rest = []; is = sym (nil p) }
  where
    nil : (l : List ℕ) → l ++ [] ≡ l
    nil [] = refl
    nil (x ∷ l) = ap (λ (m : List ℕ). x ∷ m) (nil l)

pub starts_trans : (p q r : List ℕ) → StartsWith p q → StartsWith q r → StartsWith p r
starts_trans p q r a b = record {
  rest = a.rest ++ b.rest;
  is = b.is ∙ ap (λ (l : List ℕ). l ++ b.rest) a.is ∙ append_assoc p a.rest b.rest;
}

-- ---- the test
pub starts_test : (p q : List ℕ) → (starts_with p q ≡ true) ↔ StartsWith p q
unfolding starts_with
starts_test [] q = (λ e. starts_nil q, λ h. refl)
starts_test (x ∷ p) [] = (λ e. clash cc, λ h. let e = h.is in clash cc)
starts_test (x ∷ p) (y ∷ q) = go (ℕ_discrete x y) (starts_test p q)
  where
    go : Dec (x ≡ y) → (starts_with p q ≡ true) ↔ StartsWith p q → ((eqb x y && starts_with p q) ≡ true) ↔ StartsWith (x ∷ p) (y ∷ q)
    go (yes d) ih = (
      λ e. let h = ih.0 (rw (eq-eqb x y d) at e) in
          record { rest = h.rest; is = ap₂ (λ (a : ℕ) (l : List ℕ). a ∷ l) (sym d) h.is },
      λ h. rw (eq-eqb x y d) (ih.1 (record { rest = h.rest; is = tail-eq_of_cons-eq h.is })),
    )
    go (no d) ih = (
      λ e. let f : ◌≡◌ {A = Bool} false true = rw (ne_eqb x y d) at e in clash cc,
      λ h. absurd (d (sym (head-eq_of_cons-eq h.is))),
    )

pub starts_not : (p q : List ℕ) → (StartsWith p q → ⊥) → starts_with p q ≡ false
starts_not p q n = go (starts_with p q) refl
  where
    go : (b : Bool) → starts_with p q ≡ b → b ≡ false
    go true e = absurd (n ((starts_test p q).0 e))
    go false e = refl

-- ---- the order
pub map_append : (f : ℕ → ℕ) (a b : List ℕ) → map f (a ++ b) ≡ map f a ++ map f b
map_append f [] b = refl
map_append f (x ∷ a) b = ap (λ (l : List ℕ). f x ∷ l) (map_append f a b)

parted_before : (p q a b : List ℕ) → Parted p q → Before (p ++ a) (q ++ b)
parted_before [] q a b h = absurd h
parted_before (x ∷ p) [] a b h = absurd h
parted_before (x ∷ p) (y ∷ q) a b (inl l) = inl l
parted_before (x ∷ p) (y ∷ q) a b (inr h) = inr (h.0, parted_before p q a b h.1)

pub parted_in : (o p q x y : List ℕ) → PartedIn o p q → StartsWith p x → StartsWith q y → Before (map (place_of o) x) (map (place_of o) y)
parted_in o p q x y h a b =
    rw (a.is, b.is, map_append (place_of o) p a.rest, map_append (place_of o) q b.rest)
    (parted_before (map (place_of o) p) (map (place_of o) q) (map (place_of o) a.rest) (map (place_of o) b.rest) h)
