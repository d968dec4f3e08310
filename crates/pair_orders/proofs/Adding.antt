-- One pair more: which pairs the set with it has (`with_pair_lem`, `with_keeps`, `with_only`), its rows, and what contains it.
use mathlib.Core.Path.{◌≡◌, sym, ap, ◌∙◌, subst}
use mathlib.Core.Logic.{◌⊎◌, inl, inr}
use mathlib.Core.List.{List}
use Prim.Native.Nat.{ℕ, suc, ◌-◌, ◌^◌, ◌<◌}
use native.Mathlib.Decide.{ℕ_discrete, dec_lt}
use native.Mathlib.Omega.{arith}
use lib.Dec.{T, eqb→eq, eqb_refl}
use lib.ListN.{length, set, length-set}
use lib.Seq.{get_or-set_same, get_or-set_other}
use Rattle.sets.specs.Sets.{bit, join, ◌⊆◌}
use Rattle.sets.proofs.Tests.{or_l, or_r, or_e}
use Rattle.sets.proofs.Order.{bits_sub}
use Rattle.sets.proofs.Joins.{bit-join}
use Rattle.table.specs.Pairs.{row, Has, Within}
use Rattle.table.proofs.Places.{row_past, place_has, by_place_lem}
use Rattle.sets.proofs.OnePlace.{none_in, bit_power}
use Rattle.pairs.specs.PairOrder.{Pair}
use Rattle.pair_orders.specs.Adding.{with_pair}

-- ---- one case alone
pub single_sub : (k a : ℕ) → T (bit a k) → 2 ^ k ⊆ a
single_sub k a t = bits_sub (2 ^ k) a (λ j u. rw (eqb→eq j k (rw (bit_power k j) at u)) t)

-- ---- the rows, at the place of row i and case k
module _ (s : List ℕ) (i k : ℕ) where
  abbrev pub plus : List ℕ
  plus = with_pair s (suc i, suc k)

  pub plus_is : plus ≡ set s i (join (row s i) (2 ^ k))
  unfolding with_pair
  plus_is = let a : suc i - 1 ≡ i = omega arith in let b : suc k - 1 ≡ k = omega arith in rw (a, b)

  length-plus : length plus ≡ length s
  length-plus = ap length plus_is ∙ length-set s i (join (row s i) (2 ^ k))

  pub plus_same : i < length s → row plus i ≡ join (row s i) (2 ^ k)
  plus_same l = ap (λ (x : List ℕ). row x i) plus_is ∙ get_or-set_same s i (join (row s i) (2 ^ k)) 0 l

  pub plus_other : (j : ℕ) → ¬ (j ≡ i) → row plus j ≡ row s j
  plus_other j d = ap (λ (x : List ℕ). row x j) plus_is ∙ get_or-set_other s i j (join (row s i) (2 ^ k)) 0 d

  module _ (l : i < length s) where
    plus-bit : (j c : ℕ) → T (bit (row plus j) c) → T (bit (row s j) c) ⊎ ((j ≡ i) × (c ≡ k))
    plus-bit j c t = go (ℕ_discrete j i)
      where
        part : j ≡ i → T (bit (row s i) c) ⊎ T (bit (2 ^ k) c) → T (bit (row s j) c) ⊎ ((j ≡ i) × (c ≡ k))
        part e (inl u) = inl (rw e u)
        part e (inr u) = inr (e, eqb→eq c k (rw (bit_power k c) at u))

        go : Dec (j ≡ i) → T (bit (row s j) c) ⊎ ((j ≡ i) × (c ≡ k))
        go (no d) = inl (subst (λ (a : ℕ). T (bit a c)) (plus_other j d) t)
        go (yes e) =
            let u : T (bit (join (row s i) (2 ^ k)) c) = subst (λ (a : ℕ). T (bit a c)) (ap (row plus) e ∙ plus_same l) t in
            part e (or_e (bit (row s i) c) (bit (2 ^ k) c) (rw (bit-join (row s i) (2 ^ k) c) at u))

    keep-bit : (j c : ℕ) → T (bit (row s j) c) → T (bit (row plus j) c)
    keep-bit j c t = go (ℕ_discrete j i)
      where
        go : Dec (j ≡ i) → T (bit (row plus j) c)
        go (no d) = subst (λ (a : ℕ). T (bit a c)) (sym (plus_other j d)) t
        go (yes e) = rw (e, plus_same l, bit-join (row s i) (2 ^ k) c) (or_l (bit (row s i) c) (bit (2 ^ k) c) (subst (λ (j : ℕ). T (bit (row s j) c)) e t))

    new-bit : T (bit (row plus i) k)
    new-bit = rw (plus_same l, bit-join (row s i) (2 ^ k) k) (or_r (bit (row s i) k) (bit (2 ^ k) k) (rw (bit_power k k) (eqb_refl k)))

-- ---- the pairs, by their numbers
-- a pair of a set has a row of its own
pub has_row : (x : List ℕ) (i k : ℕ) → T (bit (row x i) k) → i < length x
has_row x i k t = go (dec_lt i (length x))
  where
    go : Dec (i < length x) → i < length x
    go (yes l) = l
    go (no l) = absurd (subst T (none_in k) (subst (λ (a : ℕ). T (bit a k)) (row_past x i (omega arith)) t))

module _ (x s : List ℕ) (w : Within x s) where
  -- what holds of every place of x holds of every pair of x
  at_place : (P : Pair → Type 0) → ((i k : ℕ) → T (bit (row x i) k) → i < length s → P (suc i, suc k)) → (p : Pair) → Has x p.0 p.1 → P p
  at_place P f p h = by_place_lem x (λ g c. P (g, c)) (λ i k t. f i k t (rw w.size (has_row x i k t))) p.0 p.1 h

  -- for a pair p of x: s with p has p, all of s, and nothing else, so it is within x
  pub with_pair_lem : (p : Pair) → Has x p.0 p.1 → Has (with_pair s p) p.0 p.1
  with_pair_lem = at_place (λ p. Has (with_pair s p) p.0 p.1) (λ i k t l. place_has (plus s i k) i k (new-bit s i k l))

  pub with_keeps : (p : Pair) → Has x p.0 p.1 → (g c : ℕ) → Has s g c → Has (with_pair s p) g c
  with_keeps = at_place (λ p. (g c : ℕ) → Has s g c → Has (with_pair s p) g c) (λ i k t l.
      by_place_lem s (Has (plus s i k)) (λ j c u. place_has (plus s i k) j c (keep-bit s i k l j c u)))

  pub with_only : (p : Pair) → Has x p.0 p.1 → (g c : ℕ) → Has (with_pair s p) g c → Has s g c ⊎ ((g ≡ p.0) × (c ≡ p.1))
  with_only = at_place (λ p. (g c : ℕ) → Has (with_pair s p) g c → Has s g c ⊎ ((g ≡ p.0) × (c ≡ p.1))) (λ i k t l.
      by_place_lem (plus s i k) (λ g c. Has s g c ⊎ ((g ≡ suc i) × (c ≡ suc k))) (λ j c u. go i k j c (plus-bit s i k l j c u)))
    where
      go : (i k j c : ℕ) → T (bit (row s j) c) ⊎ ((j ≡ i) × (c ≡ k)) → Has s (suc j) (suc c) ⊎ ((suc j ≡ suc i) × (suc c ≡ suc k))
      go i k j c (inl u) = inl (place_has s j c u)
      go i k j c (inr u) = inr (ap suc u.0, ap suc u.1)

  pub with_length : (p : Pair) → Has x p.0 p.1 → length (with_pair s p) ≡ length s
  with_length = at_place (λ p. length (with_pair s p) ≡ length s) (λ i k t l. length-plus s i k)

  pub with_within : (p : Pair) → Has x p.0 p.1 → Within x (with_pair s p)
  with_within p h = record { size = with_length p h ∙ w.size; inside = λ g c q. go g c (with_only p h g c q) }
    where
      go : (g c : ℕ) → Has s g c ⊎ ((g ≡ p.0) × (c ≡ p.1)) → Has x g c
      go g c (inl q) = w.inside g c q
      go g c (inr e) = rw (e.0, e.1) h

  pub within_with : (p : Pair) → Has x p.0 p.1 → Within (with_pair s p) s
  within_with p h = record { size = sym (with_length p h); inside = with_keeps p h }
