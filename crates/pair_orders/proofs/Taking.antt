-- What a row can take: row i of the chain can take a case of x that it lacks exactly when every row that strictly contains it has that case.
--
-- In order: the computed test (`takes`) read as a record (`Taken`); such a case, one more in row i, leaves a chain (`can_take`); a pair that can come
-- next is such a case (`come_takes`).
use mathlib.Core.Path.{◌≡◌, refl, sym, ap, ◌∙◌, subst}
use mathlib.Core.Logic.{◌⊎◌, inl, inr}
use mathlib.Core.Bool.{Bool, true, false, not, ◌&&◌, ◌||◌}
use mathlib.Core.List.{List}
use Prim.Native.Nat.{ℕ, suc, ◌^◌, ◌<◌}
use native.Mathlib.Decide.{ℕ_discrete, dec_lt}
use native.Mathlib.Omega.{arith}
use lib.Dec.{T, T_not, not_T, eqb→eq, eqb_refl}
use lib.ListN.{length}
use Rattle.basics.proofs.Clash.{clash}
use Rattle.sets.specs.Sets.{bit, join, ◌⊆◌, is_proper_subset}
use Rattle.sets.proofs.Tests.{or_l, or_r, or_e, and_l, and_r, and_i, test, is_true, is_false}
use Rattle.sets.proofs.Order.{Breaks, sub_or, sub_bit, sub_refl, sub_trans, sub_antisym, zero_sub, proper_is, not_proper}
use Rattle.sets.proofs.Joins.{bit-join, join_left, join_lub}
use Rattle.sets.proofs.OnePlace.{bit_power}
use Rattle.sets.proofs.Tabulated.{all_at, all_of}
use Rattle.table.specs.Pairs.{row, Within}
use Rattle.table.specs.Chains.{IsChain}
use Rattle.table.proofs.Places.{row_past, has_place, place_has}
use Rattle.table.proofs.Nesting.{Nested, chain_nested, nested_chain}
use Rattle.pair_orders.specs.Adding.{CanCome}
use Rattle.pair_orders.specs.private.Growing.{spares, allowed, takes}
use Rattle.pair_orders.proofs.Adding.{single_sub, plus, plus_same, plus_other, has_row}

-- ---- the test of a place, read
pub true-false : true ≡ false → ⊥
true-false e = clash cc

spared : (a b k : ℕ) → T (spares a b k) → is_proper_subset a b ≡ true → T (bit b k)
unfolding spares
spared a b k t e = go (or_e (not (is_proper_subset a b)) (bit b k) t)
  where
    go : T (not (is_proper_subset a b)) ⊎ T (bit b k) → T (bit b k)
    go (inl u) = absurd (true-false (sym e ∙ is_false (is_proper_subset a b) u))
    go (inr u) = u

spare : (a b k : ℕ) → (is_proper_subset a b ≡ true → T (bit b k)) → T (spares a b k)
unfolding spares
spare a b k f = go (test (is_proper_subset a b))
  where
    go : T (is_proper_subset a b) ⊎ T (not (is_proper_subset a b)) → T (not (is_proper_subset a b) || bit b k)
    go (inl u) = or_r (not (is_proper_subset a b)) (bit b k) (f (is_true (is_proper_subset a b) u))
    go (inr u) = or_l (not (is_proper_subset a b)) (bit b k) u

-- place k of row i: in x, not in s, and in each of the first n rows of s that strictly contain row i
pub record Taken (x s : List ℕ) (n i k : ℕ) : Type 0 where
  pub inside : T (bit (row x i) k)
  pub lacks : T (not (bit (row s i) k))
  pub above : (j : ℕ) → j < n → is_proper_subset (row s i) (row s j) ≡ true → T (bit (row s j) k)

pub takes_taken : (x s : List ℕ) (n i k : ℕ) → takes x s n i k ≡ true → Taken x s n i k
unfolding takes allowed
takes_taken x s n i k e = record {
  inside = and_l (bit (row x i) k) (allowed s i k n) both;
  lacks = and_r (bit (row x i) k && allowed s i k n) (not (bit (row s i) k)) all;
  above = λ j l. spared (row s i) (row s j) k (all_at (λ j. spares (row s i) (row s j) k) n j (and_r (bit (row x i) k) (allowed s i k n) both) l);
}
  where
    all : T ((bit (row x i) k && allowed s i k n) && not (bit (row s i) k))
    all = rw e tt

    both : T (bit (row x i) k && allowed s i k n)
    both = and_l (bit (row x i) k && allowed s i k n) (not (bit (row s i) k)) all

pub taken_takes : (x s : List ℕ) (n i k : ℕ) → Taken x s n i k → takes x s n i k ≡ true
unfolding takes allowed
taken_takes x s n i k h =
    is_true ((bit (row x i) k && allowed s i k n) && not (bit (row s i) k))
    (and_i (bit (row x i) k && allowed s i k n) (not (bit (row s i) k))
    (and_i (bit (row x i) k) (allowed s i k n) h.inside
    (all_of (λ j. spares (row s i) (row s j) k) n (λ j l. spare (row s i) (row s j) k (h.above j l)))) h.lacks)

module _ (x s : List ℕ) (w : Within x s) (c : IsChain s) where
  abbrev n : ℕ
  n = length s

  -- ---- such a case, one more in row i, leaves a chain
  grown_chain : (i k : ℕ) → i < n → Taken x s n i k → IsChain (plus s i k)
  grown_chain i k l t = nested_chain (plus s i k) (λ a b. go a b (ℕ_discrete a i) (ℕ_discrete b i))
    where
      own : row s i ⊆ row (plus s i k) i
      own = rw (plus_same s i k l) (join_left (row s i) (2 ^ k))

      past : (j : ℕ) → ¬ (j < n) → row s j ≡ 0
      past j d = row_past s j (omega arith)

      beside : (j : ℕ) → Nested (row (plus s i k) i) (row s j)
      beside j = at (dec_lt j n) (is_proper_subset (row s i) (row s j)) refl (chain_nested s c i j)
        where
          at : Dec (j < n) → (b : Bool) → is_proper_subset (row s i) (row s j) ≡ b → Nested (row s i) (row s j) → Nested (row (plus s i k) i) (row s j)
          at (no d) b e h = inr (rw (past j d) (zero_sub (row (plus s i k) i)))
          at (yes d) true e h =
              inl (rw (plus_same s i k l)
              (join_lub (row s i) (2 ^ k) (row s j) (proper_is (row s i) (row s j) e).0 (single_sub k (row s j) (t.above j d e))))
          at (yes d) false e (inl h) = inr (subst (λ (y : ℕ). y ⊆ row (plus s i k) i) (not_proper (row s i) (row s j) e h) own)
          at (yes d) false e (inr h) = inr (sub_trans (row s j) (row s i) (row (plus s i k) i) h own)

      swap : (a b : ℕ) → Nested a b → Nested b a
      swap a b (inl h) = inr h
      swap a b (inr h) = inl h

      go : (a b : ℕ) → Dec (a ≡ i) → Dec (b ≡ i) → Nested (row (plus s i k) a) (row (plus s i k) b)
      go a b (yes d) (yes e) = inl (rw (d, e) (sub_refl (row (plus s i k) i)))
      go a b (yes d) (no e) = rw (d, plus_other s i k b e) (beside b)
      go a b (no d) (yes e) = rw (e, plus_other s i k a d) (swap (row (plus s i k) i) (row s a) (beside a))
      go a b (no d) (no e) = rw (plus_other s i k a d, plus_other s i k b e) (chain_nested s c a b)

  pub in_rows : (i k : ℕ) → T (bit (row x i) k) → i < n
  in_rows i k t = rw w.size (has_row x i k t)

  pub can_take : (i k : ℕ) → Taken x s n i k → CanCome x s (suc i, suc k)
  can_take i k t = record {
    inside = place_has x i k t.inside;
    missing = λ h. T_not (bit (row s i) k) t.lacks (has_place s i k h);
    chain = grown_chain i k (in_rows i k t.inside) t;
  }

  -- ---- a pair that can come next is such a case
  pub come_takes : (i k : ℕ) → CanCome x s (suc i, suc k) → Taken x s n i k
  unfolding Breaks
  come_takes i k h = record {
    inside = here;
    lacks = not_T (bit (row s i) k) (λ u. h.missing (place_has s i k u));
    above = λ j l e. above j e (beside j e);
  }
    where
      here : T (bit (row x i) k)
      here = has_place x i k h.inside

      a : ℕ
      a = join (row s i) (2 ^ k)

      beside : (j : ℕ) → is_proper_subset (row s i) (row s j) ≡ true → Nested a (row s j)
      beside j e =
          subst (λ (b : ℕ). Nested a b) (plus_other s i k j (λ d. (proper_is (row s i) (row s j) e).1 (ap (row s) (sym d))))
          (subst (λ (b : ℕ). Nested b (row (plus s i k) j)) (plus_same s i k (in_rows i k here)) (chain_nested (plus s i k) h.chain i j))

      -- a place of row j that row i lacks is place k, where row j is within row i and place k
      only : (j m : ℕ) → T (bit (row s j) m) → T (not (bit (row s i) m)) → row s j ⊆ a → m ≡ k
      only j m t u q = at (or_e (bit (row s i) m) (bit (2 ^ k) m) (rw (bit-join (row s i) (2 ^ k) m) at (sub_bit (row s j) a m q t)))
        where
          at : T (bit (row s i) m) ⊎ T (bit (2 ^ k) m) → m ≡ k
          at (inl v) = absurd (T_not (bit (row s i) m) u v)
          at (inr v) = eqb→eq m k (rw (bit_power k m) at v)

      above : (j : ℕ) → is_proper_subset (row s i) (row s j) ≡ true → Nested a (row s j) → T (bit (row s j) k)
      above j e (inl q) = sub_bit a (row s j) k q (rw (bit-join (row s i) (2 ^ k) k) (or_r (bit (row s i) k) (bit (2 ^ k) k) (rw (bit_power k k) (eqb_refl k))))
      above j e (inr q) = go (sub_or (row s j) (row s i))
        where
          go : (row s j ⊆ row s i) ⊎ Breaks (row s j) (row s i) → T (bit (row s j) k)
          go (inl v) = absurd ((proper_is (row s i) (row s j) e).1 (sub_antisym (row s i) (row s j) (proper_is (row s i) (row s j) e).0 v))
          go (inr v) = subst (λ (m : ℕ). T (bit (row s j) m)) (only j v.0 v.1 v.2 q) v.1
