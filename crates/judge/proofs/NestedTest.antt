-- The test of nested rows decides `IsChain` (`chain_dec`).
use mathlib.Core.Path.{◌≡◌, refl, sym, ◌∙◌, subst}
use mathlib.Core.Logic.{inl, inr}
use mathlib.Core.Bool.{Bool, true, false, ◌||◌}
use mathlib.Core.List.{List}
use Prim.Native.Nat.{ℕ, ◌<◌}
use native.Mathlib.Decide.{dec_lt}
use native.Mathlib.Omega.{arith}
use lib.Dec.{T}
use lib.ListN.{length}
use Rattle.basics.proofs.Clash.{clash}
use Rattle.sets.specs.Sets.{◌⊆◌, is_subset}
use Rattle.sets.proofs.Tests.{is_true}
use Rattle.sets.proofs.Order.{subset_is, is_subset_lem, zero_sub}
use Rattle.sets.proofs.Tabulated.{all_at, all_of}
use Rattle.table.specs.Pairs.{row}
use Rattle.table.specs.Chains.{IsChain}
use Rattle.table.proofs.Places.{row_past}
use Rattle.table.proofs.Nesting.{Nested, chain_nested, nested_chain}
use Rattle.judge.specs.private.RowTests.{nested, nested_with, all_nested}

pub as_true : (b : Bool) → b ≡ true → T b
as_true b e = rw e tt

nested_is : (a b : ℕ) → T (nested a b) → Nested a b
unfolding nested
nested_is a b t = go (is_subset a b) refl (is_subset b a) refl t
  where
    go : (x : Bool) → is_subset a b ≡ x → (y : Bool) → is_subset b a ≡ y → T (x || y) → Nested a b
    go true p y q t = inl (subset_is a b p)
    go false p true q t = inr (subset_is b a q)
    go false p false q t = absurd t

is_nested : (a b : ℕ) → Nested a b → T (nested a b)
unfolding nested
is_nested a b (inl h) = rw (is_subset_lem a b h) tt
is_nested a b (inr h) = rw (is_subset_lem b a h) (right (is_subset a b))
  where
    right : (x : Bool) → T (x || true)
    right true = tt
    right false = tt

module _ (s : List ℕ) where
  pub chain_of_test : all_nested s (length s) ≡ true → IsChain s
  unfolding all_nested nested_with
  chain_of_test e = nested_chain s (λ i j. at i j (dec_lt i (length s)) (dec_lt j (length s)))
    where
      empty : (i : ℕ) → ¬ (i < length s) → (b : ℕ) → row s i ⊆ b
      empty i l b = subst (λ (x : ℕ). x ⊆ b) (sym (row_past s i (omega arith))) (zero_sub b)

      at : (i j : ℕ) → Dec (i < length s) → Dec (j < length s) → Nested (row s i) (row s j)
      at i j (no l) k = inl (empty i l (row s j))
      at i j (yes l) (no k) = inr (empty j k (row s i))
      at i j (yes l) (yes k) =
          nested_is (row s i) (row s j)
          (all_at (λ j. nested (row s i) (row s j)) (length s) j (all_at (nested_with s (length s)) (length s) i (as_true (all_nested s (length s)) e) l) k)

  pub test_of_chain : IsChain s → all_nested s (length s) ≡ true
  unfolding all_nested nested_with
  test_of_chain c =
      is_true (all_nested s (length s)) (all_of (nested_with s (length s)) (length s) (λ i l.
      all_of (λ j. nested (row s i) (row s j)) (length s) (λ j k. is_nested (row s i) (row s j) (chain_nested s c i j))))

  pub chain_dec : Dec (IsChain s)
  chain_dec = go (all_nested s (length s)) refl
    where
      go : (b : Bool) → all_nested s (length s) ≡ b → Dec (IsChain s)
      go true e = yes (chain_of_test e)
      go false e = no (λ c. let z : true ≡ false = sym (test_of_chain c) ∙ e in clash cc)
