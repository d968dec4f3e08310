-- A chain of the table is maximal exactly when each of its rows is the widest it can be: the table's row, narrowed to every row of the
-- chain that strictly contains it.
--
-- In order: the widest row; one way, widening one row keeps a chain, so a maximal chain has widest rows (`test_of_maximal`); the other way, by
-- induction from the widest row down: a row of a larger chain lies under each row that strictly contains it, since the table's row does not hold the
-- least of these (`maximal_of_test`).
use mathlib.Core.Path.{◌≡◌, refl, sym, ap, ◌∙◌, subst}
use mathlib.Core.Logic.{◌⊎◌, inl, inr}
use mathlib.Core.Bool.{Bool, true, false}
use mathlib.Core.List.{List}
use Prim.Native.Nat.{ℕ, zero, suc, ◌+◌, ◌^◌, ◌≤◌, ◌<◌}
use native.Mathlib.Decide.{ℕ_discrete, dec_lt}
use native.Mathlib.Omega.{arith}
use lib.Dec.{eqb}
use lib.Count.{ones, ones-le}
use lib.ListN.{length, set, length-set}
use lib.Seq.{ext_get_or, get_or-set_same, get_or-set_other}
use borrow.Author.Tests.{eqb-true, eq-eqb}
use Rattle.basics.proofs.Clash.{clash}
use Rattle.sets.specs.Sets.{meet, ◌⊆◌, is_proper_subset}
use Rattle.sets.proofs.Tests.{is_true}
use Rattle.sets.proofs.Order.{sub_refl, sub_trans, sub_antisym, sub_dec, meet_left, meet_right, meet_glb, zero_sub, ones_mono, ones_strict, proper_is}
use Rattle.sets.proofs.Order.{not_proper}
use Rattle.sets.proofs.Tabulated.{all_at, all_of}
use Rattle.table.specs.Pairs.{row, Within}
use Rattle.table.specs.Chains.{IsChain, IsMaximal}
use Rattle.table.proofs.Places.{row_past, within_sub, sub_within}
use Rattle.table.proofs.Nesting.{Nested, chain_nested, nested_chain}
use Rattle.judge.specs.WidestRows.{narrowed, widest}
use Rattle.judge.specs.private.RowTests.{all_widest}
use Rattle.judge.proofs.NestedTest.{as_true}

-- ---- the widest row is the greatest lower bound of the table's row and the rows strictly above
module _ (s : List ℕ) (x i : ℕ) where
  step_yes : (n : ℕ) → is_proper_subset (row s i) (row s n) ≡ true → widest s x i (suc n) ≡ meet (widest s x i n) (row s n)
  unfolding widest narrowed
  step_yes n e = rw e

  step_no : (n : ℕ) → is_proper_subset (row s i) (row s n) ≡ false → widest s x i (suc n) ≡ widest s x i n
  unfolding widest narrowed
  step_no n e = rw e

  widest_none : widest s x i 0 ≡ x
  unfolding widest
  widest_none = refl

  widest_own : (n : ℕ) → widest s x i n ⊆ x
  widest_own zero = rw widest_none (sub_refl x)
  widest_own (suc n) = go (is_proper_subset (row s i) (row s n)) refl (widest_own n)
    where
      go : (b : Bool) → is_proper_subset (row s i) (row s n) ≡ b → widest s x i n ⊆ x → widest s x i (suc n) ⊆ x
      go true e h = rw (step_yes n e) (sub_trans (meet (widest s x i n) (row s n)) (widest s x i n) x (meet_left (widest s x i n) (row s n)) h)
      go false e h = rw (step_no n e) h

  widest_under : (n j : ℕ) → j < n → is_proper_subset (row s i) (row s j) ≡ true → widest s x i n ⊆ row s j
  widest_under zero j l e = absurd (omega arith)
  widest_under (suc n) j l e = go (ℕ_discrete j n) (is_proper_subset (row s i) (row s n)) refl (λ k. widest_under n j k e)
    where
      go : Dec (j ≡ n) → (b : Bool) → is_proper_subset (row s i) (row s n) ≡ b → (j < n → widest s x i n ⊆ row s j) → widest s x i (suc n) ⊆ row s j
      go (yes d) true f ih = rw (step_yes n f, d) (meet_right (widest s x i n) (row s n))
      go (yes d) false f ih =
          let z : true ≡ false = sym e ∙ ap (λ (m : ℕ). is_proper_subset (row s i) (row s m)) d ∙ f in clash cc
      go (no d) true f ih =
          rw (step_yes n f) (sub_trans (meet (widest s x i n) (row s n)) (widest s x i n) (row s j) (meet_left (widest s x i n) (row s n)) (ih (omega arith)))
      go (no d) false f ih = rw (step_no n f) (ih (omega arith))

  -- z within x is within the widest row, or some row strictly above row i does not hold it
  abbrev Blocks : ℕ → ℕ → Type 0
  Blocks z n = (j : ℕ) × (j < n) × (is_proper_subset (row s i) (row s j) ≡ true) × (¬ (z ⊆ row s j))

  widest_or : (z : ℕ) → z ⊆ x → (n : ℕ) → (z ⊆ widest s x i n) ⊎ Blocks z n
  widest_or z h zero = inl (rw widest_none h)
  widest_or z h (suc n) = go (is_proper_subset (row s i) (row s n)) refl (sub_dec z (row s n)) (widest_or z h n)
    where
      go : (b : Bool) → is_proper_subset (row s i) (row s n) ≡ b → Dec (z ⊆ row s n) → (z ⊆ widest s x i n) ⊎ Blocks z n
          → (z ⊆ widest s x i (suc n)) ⊎ Blocks z (suc n)
      go b e d (inr k) = inr (k.0, omega (arith, k.1), k.2, k.3)
      go true e (yes d) (inl k) = inl (rw (step_yes n e) (meet_glb z (widest s x i n) (row s n) k d))
      go true e (no d) (inl k) = inr (n, omega arith, e, d)
      go false e d (inl k) = inl (rw (step_no n e) k)

  widest_glb : (z : ℕ) → z ⊆ x → (n : ℕ) → ((j : ℕ) → j < n → is_proper_subset (row s i) (row s j) ≡ true → z ⊆ row s j) → z ⊆ widest s x i n
  widest_glb z h n f = go (widest_or z h n)
    where
      go : (z ⊆ widest s x i n) ⊎ Blocks z n → z ⊆ widest s x i n
      go (inl k) = k
      go (inr k) = absurd (k.3 (f k.0 k.1 k.2))

module _ (r s : List ℕ) (w : Within r s) (c : IsChain s) where
  abbrev n : ℕ
  n = length s

  abbrev W : ℕ → ℕ
  W i = widest s (row r i) i n

  own_under : (i : ℕ) → row s i ⊆ W i
  own_under i = widest_glb s (row r i) i (row s i) (within_sub r s w i) n (λ j l e. (proper_is (row s i) (row s j) e).0)

  -- ---- maximal: widening row i keeps a chain, so it was wide already
  module _ (i : ℕ) (l : i < n) where
    s+ : List ℕ
    s+ = set s i (W i)

    at_i : row s+ i ≡ W i
    unfolding s+
    at_i = get_or-set_same s i (W i) 0 l

    at_j : (j : ℕ) → ¬ (j ≡ i) → row s+ j ≡ row s j
    unfolding s+
    at_j j d = get_or-set_other s i j (W i) 0 d

    size+ : length s+ ≡ length s
    unfolding s+
    size+ = length-set s i (W i)

    -- any other row lies under the widened one, or holds it
    beside : (j : ℕ) → j < n → Nested (W i) (row s j)
    beside j b = go (is_proper_subset (row s i) (row s j)) refl (chain_nested s c i j)
      where
        go : (t : Bool) → is_proper_subset (row s i) (row s j) ≡ t → Nested (row s i) (row s j) → Nested (W i) (row s j)
        go true e d = inl (widest_under s (row r i) i n j b e)
        go false e (inl h) = inr (subst (λ (y : ℕ). y ⊆ W i) (not_proper (row s i) (row s j) e h) (own_under i))
        go false e (inr h) = inr (sub_trans (row s j) (row s i) (W i) h (own_under i))

    past : (j : ℕ) → ¬ (j < n) → row s+ j ≡ 0
    past j b = row_past s+ j (omega (arith, size+))

    chain+ : IsChain s+
    chain+ = nested_chain s+ (λ a b. go a b (dec_lt a n) (dec_lt b n) (ℕ_discrete a i) (ℕ_discrete b i))
      where
        swap : (x y : ℕ) → Nested x y → Nested y x
        swap x y (inl h) = inr h
        swap x y (inr h) = inl h

        both : (a b : ℕ) → a < n → b < n → Dec (a ≡ i) → Dec (b ≡ i) → Nested (row s+ a) (row s+ b)
        both a b x y (yes d) (yes e) = inl (rw (d, e) (sub_refl (row s+ i)))
        both a b x y (yes d) (no e) = rw (d, at_i, at_j b e) (beside b y)
        both a b x y (no d) (yes e) = rw (e, at_i, at_j a d) (swap (W i) (row s a) (beside a x))
        both a b x y (no d) (no e) = rw (at_j a d, at_j b e) (chain_nested s c a b)

        go : (a b : ℕ) → Dec (a < n) → Dec (b < n) → Dec (a ≡ i) → Dec (b ≡ i) → Nested (row s+ a) (row s+ b)
        go a b (no x) y d e = inl (rw (past a x) (zero_sub (row s+ b)))
        go a b (yes x) (no y) d e = inr (rw (past b y) (zero_sub (row s+ a)))
        go a b (yes x) (yes y) d e = both a b x y d e

    within+ : Within r s+
    within+ = sub_within r s+ (size+ ∙ w.size) (λ j. go j (ℕ_discrete j i))
      where
        go : (j : ℕ) → Dec (j ≡ i) → row s+ j ⊆ row r j
        go j (yes d) = rw (d, at_i) (widest_own s (row r i) i n)
        go j (no d) = rw (at_j j d) (within_sub r s w j)

    contains+ : Within s+ s
    contains+ = sub_within s+ s (sym size+) (λ j. go j (ℕ_discrete j i))
      where
        go : (j : ℕ) → Dec (j ≡ i) → row s j ⊆ row s+ j
        go j (yes d) = rw (d, at_i) (own_under i)
        go j (no d) = rw (at_j j d) (sub_refl (row s j))

    wide-already : IsMaximal r s → W i ≡ row s i
    wide-already m = sym at_i ∙ ap (λ (x : List ℕ). row x i) (m.largest s+ within+ chain+ contains+)

  pub test_of_maximal : IsMaximal r s → all_widest r s n ≡ true
  unfolding all_widest
  test_of_maximal m =
      is_true (all_widest r s n) (all_of (λ i. eqb (W i) (row s i)) n (λ i l. as_true (eqb (W i) (row s i)) (eq-eqb (W i) (row s i) (wide-already i l m))))

  -- ---- every row as wide as it can be: no larger chain
  module _ (most : ℕ) (small : (i : ℕ) → row r i < 2 ^ most) (wide : (i : ℕ) → i < n → W i ≡ row s i) where
    few : (i : ℕ) → ones (row s i) ≤ most
    few i = omega (arith, ones_mono (row s i) (row r i) (within_sub r s w i), ones-le most (row r i) (small i))

    more : (i j : ℕ) → is_proper_subset (row s i) (row s j) ≡ true → ones (row s i) < ones (row s j)
    more i j e = ones_strict (row s i) (row s j) (proper_is (row s i) (row s j) e).0 (proper_is (row s i) (row s j) e).1

    -- the table's row does not hold a row strictly above: else neither the least of those
    not-held : (f i j : ℕ) → i < n → j < n → ones (row s j) ≤ f → is_proper_subset (row s i) (row s j) ≡ true → row s j ⊆ row r i → ⊥
    not-held zero i j l k b e h = omega (arith, more i j e)
    not-held (suc f) i j l k b e h = go (widest_or s (row r i) i (row s j) h n) (λ m. not-held f i m)
      where
        Lower : Type 0
        Lower = (m : ℕ) → i < n → m < n → ones (row s m) ≤ f → is_proper_subset (row s i) (row s m) ≡ true → row s m ⊆ row r i → ⊥

        go : (row s j ⊆ W i) ⊎ Blocks s (row r i) i (row s j) n → Lower → ⊥
        go (inl x) ih =
            let (sub, ne) = proper_is (row s i) (row s j) e in
            ne (sub_antisym (row s i) (row s j) sub (subst (λ (y : ℕ). row s j ⊆ y) (wide i l) x))
        go (inr x) ih = lower x.0 x.1 x.2 x.3 (chain_nested s c j x.0)
          where
            lower : (m : ℕ) → m < n → is_proper_subset (row s i) (row s m) ≡ true → ¬ (row s j ⊆ row s m) → Nested (row s j) (row s m) → ⊥
            lower m p q u (inl v) = u v
            lower m p q u (inr v) =
                ih m l p
                (omega (arith, ones_strict (row s m) (row s j) v (λ d. u (subst (λ (y : ℕ). y ⊆ row s m) d (sub_refl (row s m))))))
                q (sub_trans (row s m) (row s j) (row r i) v h)

    module _ (s' : List ℕ) (w' : Within r s') (c' : IsChain s') (k : Within s' s) where
      -- row i of the larger chain, where the rows strictly above it in s are kept
      under-step : (i : ℕ) → i < n → ((j : ℕ) → j < n → is_proper_subset (row s i) (row s j) ≡ true → row s' j ⊆ row s j) → row s' i ⊆ row s i
      under-step i l up =
          subst (λ (y : ℕ). row s' i ⊆ y) (wide i l)
          (widest_glb s (row r i) i (row s' i) (within_sub r s' w' i) n (λ j p e. each j p e (chain_nested s' c' i j)))
        where
          each : (j : ℕ) → j < n → is_proper_subset (row s i) (row s j) ≡ true → Nested (row s' i) (row s' j) → row s' i ⊆ row s j
          each j p e (inr h) =
              absurd (not-held (ones (row s j)) i j l p (omega arith) e
              (sub_trans (row s j) (row s' j) (row r i) (within_sub s' s k j) (sub_trans (row s' j) (row s' i) (row r i) h (within_sub r s' w' i))))
          each j p e (inl h) = sub_trans (row s' i) (row s' j) (row s j) h (up j p e)

      under : (f i : ℕ) → i < n → most ≤ ones (row s i) + f → row s' i ⊆ row s i
      under zero i l b = under-step i l (λ j p e. absurd (omega (arith, few j, more i j e)))
      under (suc f) i l b = under-step i l (λ j p e. under f j p (omega (arith, more i j e)))

      none-larger : s' ≡ s
      none-larger = ext_get_or 0 s' s (sym k.size) (λ i l.
          sub_antisym (row s' i) (row s i) (under most i (omega (arith, k.size)) (omega arith)) (within_sub s' s k i))

  pub maximal_of_test : (most : ℕ) → ((i : ℕ) → row r i < 2 ^ most) → all_widest r s n ≡ true → IsMaximal r s
  unfolding all_widest
  maximal_of_test most small e = record {
    within = w;
    chain = c;
    largest =
        none-larger most small
        (λ i l. eqb-true (W i) (row s i) (is_true (eqb (W i) (row s i)) (all_at (λ i. eqb (W i) (row s i)) n i (as_true (all_widest r s n) e) l)));
  }
