-- The kept part of a list: its members and its order. Nothing of runs is here.
use mathlib.Core.Path.{◌≡◌, refl, subst}
use mathlib.Core.Logic.{◌⊎◌, inl, inr, ◌↔◌}
use mathlib.Core.Bool.{Bool, true, false, cond}
use mathlib.Core.List.Memᴰ
use mathlib.Core.List.{List, [], ◌∷◌, Memᴰ}
use Prim.Native.Nat.{ℕ}
use lib.Dec.{T}
use Rattle.rules.specs.Sequences.{Sorted}
use Rattle.rules.specs.Keeping.{kept_sets}
use Rattle.rules.proofs.Sequences.{All_get, All_of}

module _ (keep : List ℕ → Bool) where
  pub kept_yes : (x : List ℕ) (xs : List (List ℕ)) → keep x ≡ true → kept_sets keep (x ∷ xs) ≡ x ∷ kept_sets keep xs
  kept_yes x xs e = rw e

  pub kept_no : (x : List ℕ) (xs : List (List ℕ)) → keep x ≡ false → kept_sets keep (x ∷ xs) ≡ kept_sets keep xs
  kept_no x xs e = rw e

  pub mem_kept : (xs : List (List ℕ)) (x : List ℕ) → Memᴰ x (kept_sets keep xs) ↔ (Memᴰ x xs × T (keep x))
  mem_kept [] x = (λ m. absurd (Memᴰ.not-nil m), λ h. absurd (Memᴰ.not-nil h.0))
  mem_kept (y ∷ xs) x = go (keep y) refl (mem_kept xs x)
    where
      go : (b : Bool) → keep y ≡ b → Memᴰ x (kept_sets keep xs) ↔ (Memᴰ x xs × T (keep x))
          → Memᴰ x (cond b (y ∷ kept_sets keep xs) (kept_sets keep xs)) ↔ (Memᴰ x (y ∷ xs) × T (keep x))
      go true e ih = (λ m. into (Memᴰ.cases_cons m), λ h. onto (Memᴰ.cases_cons h.0) h.1)
        where
          into : (x ≡ y) ⊎ Memᴰ x (kept_sets keep xs) → Memᴰ x (y ∷ xs) × T (keep x)
          into (inl d) = (Memᴰ.head d, rw (d, e) tt)
          into (inr m) = (Memᴰ.tail (ih.0 m).0, (ih.0 m).1)

          onto : (x ≡ y) ⊎ Memᴰ x xs → T (keep x) → Memᴰ x (y ∷ kept_sets keep xs)
          onto (inl d) t = Memᴰ.head d
          onto (inr m) t = Memᴰ.tail (ih.1 (m, t))
      go false e ih = (λ m. (Memᴰ.tail (ih.0 m).0, (ih.0 m).1), λ h. onto (Memᴰ.cases_cons h.0) h.1)
        where
          onto : (x ≡ y) ⊎ Memᴰ x xs → T (keep x) → Memᴰ x (kept_sets keep xs)
          onto (inl d) t = absurd (subst T e (rw d at t))
          onto (inr m) t = ih.1 (m, t)

  -- in the same order
  pub kept_sorted : (q : List ℕ → List ℕ → Type 0) (xs : List (List ℕ)) → Sorted q xs → Sorted q (kept_sets keep xs)
  kept_sorted q [] s = tt
  kept_sorted q (y ∷ xs) s = go (keep y) (kept_sorted q xs s.1)
    where
      go : (b : Bool) → Sorted q (kept_sets keep xs) → Sorted q (cond b (y ∷ kept_sets keep xs) (kept_sets keep xs))
      go true h = (All_of (q y) (kept_sets keep xs) (λ a m. All_get (q y) ((mem_kept xs a).0 m).0 s.0), h)
      go false h = h
