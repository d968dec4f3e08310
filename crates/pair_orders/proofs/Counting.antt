-- How many pairs a set has: one pair more is one more (`with_count`), a set within another has no more (`count_mono`), and so a chain with as many
-- pairs as a chain that contains it is that chain (`count_whole`).
use mathlib.Core.Path.{◌≡◌, refl, sym, ap, ap₂, ◌∙◌}
use mathlib.Core.Logic.{◌⊎◌, inl, inr}
use mathlib.Core.Bool.{Bool, true, false, ◌||◌}
use mathlib.Core.List.{List}
use Prim.Native.Nat.{ℕ, zero, suc, ◌+◌, ◌%◌, ◌/◌, ◌^◌, ◌≤◌, ◌<◌}
use native.Mathlib.Decide.{ℕ_discrete}
use native.Mathlib.Omega.{arith}
use lib.Dec.{T, not_T, eqb, eqb-zero-suc, eqb-suc-zero, eqb-suc-suc}
use lib.Count.{ones, ones_step}
use lib.ListN.{length}
use borrow.Author.Tests.{eqb-true, eqb-false}
use Rattle.sets.specs.Sets.{bit, join}
use Rattle.sets.proofs.Tests.{is_false}
use Rattle.sets.proofs.Digits.{lt2, digit, bit_zero, bit-suc}
use Rattle.sets.proofs.Order.{eq_of_bits, ones_mono}
use Rattle.sets.proofs.Joins.{bit-join}
use Rattle.sets.proofs.OnePlace.{bit_power}
use Rattle.table.specs.Pairs.{row, Within}
use Rattle.table.specs.Chains.{IsChain}
use Rattle.table.proofs.Places.{by_place_lem, place_has, within_sub}
use Rattle.pairs.specs.PairOrder.{Pair}
use Rattle.pair_orders.specs.Adding.{with_pair, CanCome}
use Rattle.pair_orders.specs.private.Growing.{pairs_in}
use Rattle.pair_orders.proofs.Adding.{plus, plus_same, plus_other, has_row, with_length, with_within}
use Rattle.pair_orders.proofs.OneMore.{one_more}

-- ---- one case more in a set is one more
or_none : (b : Bool) → (b || false) ≡ b
or_none true = refl
or_none false = refl

-- the lowest digit, by the lowest place
digit_none : (a : ℕ) → bit a 0 ≡ false → a % 2 ≡ 0
digit_none a h = go (digit (a % 2) (lt2 a)) (sym (bit_zero a) ∙ h)
  where
    go : (a % 2 ≡ 0) ⊎ (a % 2 ≡ 1) → eqb (a % 2) 1 ≡ false → a % 2 ≡ 0
    go (inl p) e = p
    go (inr p) e = absurd (eqb-false (a % 2) 1 e p)

digit_same : (a b : ℕ) → bit a 0 ≡ bit b 0 → a % 2 ≡ b % 2
digit_same a b e = go (bit b 0) refl
  where
    go : (t : Bool) → bit b 0 ≡ t → a % 2 ≡ b % 2
    go true d = eqb-true (a % 2) 1 (sym (bit_zero a) ∙ e ∙ d) ∙ sym (eqb-true (b % 2) 1 (sym (bit_zero b) ∙ d))
    go false d = digit_none a (e ∙ d) ∙ sym (digit_none b d)

-- b is a and place k, which a lacks
ones_more : (k a b : ℕ) → bit a k ≡ false → ((i : ℕ) → bit b i ≡ (bit a i || eqb i k)) → ones b ≡ suc (ones a)
ones_more zero a b h f = omega (arith, ones_step a, ones_step b, digit_none a h, one, ap ones halves)
  where
    one : b % 2 ≡ 1
    one = eqb-true (b % 2) 1 (sym (bit_zero b) ∙ f 0 ∙ ap (λ (t : Bool). t || true) h)

    halves : b / 2 ≡ a / 2
    halves =
        eq_of_bits (b / 2) (a / 2) (λ i.
        sym (bit-suc b i) ∙ f (suc i) ∙ ap (λ (t : Bool). bit a (suc i) || t) (eqb-suc-zero i) ∙ or_none (bit a (suc i)) ∙ bit-suc a i)
ones_more (suc k) a b h f =
    omega (
      arith,
      ones_step a,
      ones_step b,
      digit_same b a (f 0 ∙ ap (λ (t : Bool). bit a 0 || t) (eqb-zero-suc k) ∙ or_none (bit a 0)),
      ones_more k (a / 2) (b / 2) (sym (bit-suc a k) ∙ h) (λ i.
          sym (bit-suc b i) ∙ f (suc i) ∙ ap₂ (λ (t u : Bool). t || u) (bit-suc a i) (eqb-suc-suc i k)),
    )

ones-join : (a k : ℕ) → bit a k ≡ false → ones (join a (2 ^ k)) ≡ suc (ones a)
ones-join a k h = ones_more k a (join a (2 ^ k)) h (λ i. bit-join a (2 ^ k) i ∙ ap (λ (t : Bool). bit a i || t) (bit_power k i))

-- ---- one pair more in a set is one more
count_none : (s : List ℕ) → pairs_in s 0 ≡ 0
unfolding pairs_in
count_none s = refl

count_more : (s : List ℕ) (n : ℕ) → pairs_in s (suc n) ≡ pairs_in s n + ones (row s n)
unfolding pairs_in
count_more s n = refl

module _ (s : List ℕ) (i k : ℕ) (l : i < length s) (h : bit (row s i) k ≡ false) where
  plus_before : (n : ℕ) → n ≤ i → pairs_in (plus s i k) n ≡ pairs_in s n
  plus_before zero b = count_none (plus s i k) ∙ sym (count_none s)
  plus_before (suc n) b =
      omega (arith, count_more s n, count_more (plus s i k) n, plus_before n (omega arith), ap ones (plus_other s i k n (λ d. omega arith)))

  plus_count : (n : ℕ) → i < n → pairs_in (plus s i k) n ≡ suc (pairs_in s n)
  plus_count zero b = absurd (omega arith)
  plus_count (suc n) b = go (ℕ_discrete n i) (λ d. plus_count n d)
    where
      go : Dec (n ≡ i) → (i < n → pairs_in (plus s i k) n ≡ suc (pairs_in s n)) → pairs_in (plus s i k) (suc n) ≡ suc (pairs_in s (suc n))
      go (yes d) ih = omega (arith, count_more s n, count_more (plus s i k) n, plus_before n (omega arith), ap (λ (j : ℕ). ones (row s j)) d, here)
        where
          here : ones (row (plus s i k) n) ≡ suc (ones (row s i))
          here = ap (λ (j : ℕ). ones (row (plus s i k) j)) d ∙ ap ones (plus_same s i k l) ∙ ones-join (row s i) k h
      go (no d) ih = omega (arith, count_more s n, count_more (plus s i k) n, ih (omega arith), ap ones (plus_other s i k n d))

module _ (x s : List ℕ) (w : Within x s) where
  pub with_count : (p : Pair) → CanCome x s p → pairs_in (with_pair s p) (length s) ≡ suc (pairs_in s (length s))
  with_count p q = by_place_lem x (λ g c. CanCome x s (g, c) → pairs_in (with_pair s (g, c)) (length s) ≡ suc (pairs_in s (length s))) at p.0 p.1 q.inside q
    where
      at : (i k : ℕ) → T (bit (row x i) k) → CanCome x s (suc i, suc k) → pairs_in (plus s i k) (length s) ≡ suc (pairs_in s (length s))
      at i k t q =
          let l : i < length s = rw w.size (has_row x i k t) in
          plus_count s i k l (is_false (bit (row s i) k) (not_T (bit (row s i) k) (λ u. q.missing (place_has s i k u)))) (length s) l

  -- ---- a set within another
  count_below : (n : ℕ) → pairs_in s n ≤ pairs_in x n
  count_below zero = omega (arith, count_none s, count_none x)
  count_below (suc n) = omega (arith, count_more s n, count_more x n, count_below n, ones_mono (row s n) (row x n) (within_sub x s w n))

  pub count_mono : pairs_in s (length s) ≤ pairs_in x (length x)
  count_mono = omega (arith, count_below (length s), ap (pairs_in x) w.size)

pub count_whole : (x s : List ℕ) → Within x s → IsChain x → IsChain s → pairs_in x (length x) ≤ pairs_in s (length s) → s ≡ x
count_whole x s w h c b = go (one_more x s w c h)
  where
    go : (s ≡ x) ⊎ ((p : Pair) × CanCome x s p) → s ≡ x
    go (inl e) = e
    go (inr (p, k)) =
        absurd (omega (
          arith,
          with_count x s w p k,
          count_mono x (with_pair s p) (with_within x s w p k.inside),
          ap (pairs_in (with_pair s p)) (with_length x s w p k.inside),
        ))
