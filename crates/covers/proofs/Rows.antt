-- One row of a set alone, which is a chain (`only_chain`); a set without one row, which is a chain where the set is (`without_chain`); and a bound on
-- the rows of a set (`some_cases`).
use mathlib.Core.Path.{◌≡◌, refl, sym, ◌∙◌}
use mathlib.Core.Logic.{inl, inr}
use mathlib.Core.Bool.{Bool, true, false, cond}
use mathlib.Core.List.{List, [], ◌∷◌}
use Prim.Native.Nat.{ℕ, zero, suc, ◌+◌, ◌^◌, ◌≤◌, ◌<◌}
use native.Mathlib.Nat.{pow-suc, lt_of_lt_of_le}
use native.Mathlib.Decide.{ℕ_discrete, dec_lt}
use native.Mathlib.Omega.{arith}
use lib.Dec.{eqb}
use lib.ListN.{length}
use lib.Pow.{pow_pos, pow_mono}
use borrow.Author.Tests.{eq-eqb, ne_eqb}
use Rattle.sets.specs.Lists.{tabulate}
use Rattle.sets.proofs.Order.{sub_refl, zero_sub}
use Rattle.sets.proofs.Tabulated.{length-tabulate, get_or-tabulate}
use Rattle.table.specs.Pairs.{row, Cases}
use Rattle.table.specs.Chains.{IsChain}
use Rattle.table.proofs.Places.{row_past, small_cases}
use Rattle.table.proofs.Nesting.{Nested, chain_nested, nested_chain}

row-tabulate : (f : ℕ → ℕ) (n j : ℕ) → (n ≤ j → f j ≡ 0) → row (tabulate f n) j ≡ f j
row-tabulate f n j z = go (dec_lt j n)
  where
    go : Dec (j < n) → row (tabulate f n) j ≡ f j
    go (yes l) = get_or-tabulate f n j l
    go (no l) = row_past (tabulate f n) j (omega (arith, length-tabulate f n)) ∙ sym (z (omega arith))

either : (b : Bool) → ◌≡◌ {A = ℕ} (cond b 0 0) 0
either true = refl
either false = refl

module _ (x : List ℕ) (i : ℕ) where
  -- row i alone
  pub only : List ℕ
  only = tabulate (λ j. cond (eqb j i) (row x j) 0) (length x)

  -- all rows but row i
  pub without : List ℕ
  without = tabulate (λ j. cond (eqb j i) 0 (row x j)) (length x)

  pub length_only : length only ≡ length x
  unfolding only
  length_only = length-tabulate (λ j. cond (eqb j i) (row x j) 0) (length x)

  pub length-without : length without ≡ length x
  unfolding without
  length-without = length-tabulate (λ j. cond (eqb j i) 0 (row x j)) (length x)

  row_only : (j : ℕ) → row only j ≡ cond (eqb j i) (row x j) 0
  unfolding only
  row_only j = row-tabulate (λ j. cond (eqb j i) (row x j) 0) (length x) j (λ l. rw (row_past x j l) (either (eqb j i)))

  row-without : (j : ℕ) → row without j ≡ cond (eqb j i) 0 (row x j)
  unfolding without
  row-without j = row-tabulate (λ j. cond (eqb j i) 0 (row x j)) (length x) j (λ l. rw (row_past x j l) (either (eqb j i)))

  pub only_same : (j : ℕ) → j ≡ i → row only j ≡ row x j
  only_same j e = row_only j ∙ rw (eq-eqb j i e) refl

  pub only_other : (j : ℕ) → ¬ (j ≡ i) → row only j ≡ 0
  only_other j e = row_only j ∙ rw (ne_eqb j i e) refl

  pub without_same : (j : ℕ) → j ≡ i → row without j ≡ 0
  without_same j e = row-without j ∙ rw (eq-eqb j i e) refl

  pub without_other : (j : ℕ) → ¬ (j ≡ i) → row without j ≡ row x j
  without_other j e = row-without j ∙ rw (ne_eqb j i e) refl

  pub only_chain : IsChain only
  only_chain = nested_chain only (λ a b. go a b (ℕ_discrete a i) (ℕ_discrete b i))
    where
      go : (a b : ℕ) → Dec (a ≡ i) → Dec (b ≡ i) → Nested (row only a) (row only b)
      go a b (no d) e = inl (rw (only_other a d) (zero_sub (row only b)))
      go a b (yes d) (no e) = inr (rw (only_other b e) (zero_sub (row only a)))
      go a b (yes d) (yes e) = inl (rw (d, e) (sub_refl (row only i)))

  pub without_chain : IsChain x → IsChain without
  without_chain h = nested_chain without (λ a b. go a b (ℕ_discrete a i) (ℕ_discrete b i))
    where
      go : (a b : ℕ) → Dec (a ≡ i) → Dec (b ≡ i) → Nested (row without a) (row without b)
      go a b (yes d) e = inl (rw (without_same a d) (zero_sub (row without b)))
      go a b (no d) (yes e) = inr (rw (without_same b e) (zero_sub (row without a)))
      go a b (no d) (no e) = rw (without_other a d, without_other b e) (chain_nested x h a b)

-- ---- every list of rows has a number of cases that bounds it
below_power : (n : ℕ) → n < 2 ^ n
below_power zero = pow_pos 0
below_power (suc n) = omega (arith, below_power n, pow-suc 2 n)

pub bound : (x : List ℕ) → (w : ℕ) × ((i : ℕ) → row x i < 2 ^ w)
bound [] = (0, λ i. pow_pos 0)
bound (a ∷ x) = let r = bound x in (a + r.0, λ i. at r.0 r.1 i)
  where
    at : (w : ℕ) → ((i : ℕ) → row x i < 2 ^ w) → (i : ℕ) → row (a ∷ x) i < 2 ^ (a + w)
    at w h zero = lt_of_lt_of_le (below_power a) (pow_mono (omega arith))
    at w h (suc i) = lt_of_lt_of_le (h i) (pow_mono (omega arith))

pub some_cases : (x : List ℕ) → (w : ℕ) × Cases w x
some_cases x = let r = bound x in (r.0, small_cases r.0 x r.1)
