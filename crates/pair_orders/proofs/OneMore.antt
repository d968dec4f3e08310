-- A chain that is not the whole of a chain that contains it can take a pair (`one_more`). Hence a chain of a table is maximal exactly when no pair of
-- the table can come next (`maximal_iff`). And a bound on the rows of a set (`bound`, `some_cases`).
use mathlib.Core.Path.{◌≡◌, refl, sym, ap, ◌∙◌, subst}
use mathlib.Core.Logic.{◌⊎◌, inl, inr, ◌↔◌}
use mathlib.Core.Bool.{Bool, true, false, not}
use mathlib.Core.List.{List, [], ◌∷◌}
use Prim.Native.Nat.{ℕ, zero, suc, ◌+◌, ◌^◌, ◌≤◌, ◌<◌}
use native.Mathlib.Nat.{pow-suc, lt_of_lt_of_le}
use native.Mathlib.Decide.{ℕ_discrete}
use native.Mathlib.Omega.{arith}
use lib.Dec.{T, T_not}
use lib.Count.{ones, ones-le}
use lib.ListN.{length}
use lib.Pow.{pow_pos, pow_mono}
use lib.Seq.{ext_get_or}
use Rattle.sets.specs.Sets.{bit, ◌⊆◌, is_proper_subset}
use Rattle.sets.proofs.Tests.{test}
use Rattle.sets.proofs.Order.{Breaks, sub_or, sub_bit, sub_antisym, proper_is, ones_mono, ones_strict}
use Rattle.table.specs.Pairs.{row, Has, Within, Cases}
use Rattle.table.specs.Chains.{IsChain, IsMaximal}
use Rattle.table.proofs.Places.{within_sub, chain_places, small_cases}
use Rattle.pairs.specs.PairOrder.{Pair}
use Rattle.pair_orders.specs.Adding.{with_pair, CanCome}
use Rattle.pair_orders.proofs.Taking.{true-false, can_take}
use Rattle.pair_orders.proofs.Adding.{with_pair_lem, with_within, within_with}

-- ---- every list of rows has a number of cases that bounds it
below_power : (n : ℕ) → n < 2 ^ n
below_power zero = pow_pos 0
below_power (suc n) = omega (arith, below_power n, pow-suc 2 n)

bound : (x : List ℕ) → (w : ℕ) × ((i : ℕ) → row x i < 2 ^ w)
bound [] = (0, λ i. pow_pos 0)
bound (a ∷ x) = let r = bound x in (a + r.0, λ i. at r.0 r.1 i)
  where
    at : (w : ℕ) → ((i : ℕ) → row x i < 2 ^ w) → (i : ℕ) → row (a ∷ x) i < 2 ^ (a + w)
    at w h zero = lt_of_lt_of_le (below_power a) (pow_mono (omega arith))
    at w h (suc i) = lt_of_lt_of_le (h i) (pow_mono (omega arith))

pub some_cases : (x : List ℕ) → (w : ℕ) × Cases w x
some_cases x = let r = bound x in (r.0, small_cases r.0 x r.1)

module _ (x s : List ℕ) (w : Within x s) (c : IsChain s) where
  abbrev n : ℕ
  n = length s

  module _ (h : IsChain x) where
    -- ---- a chain that is not x can take a pair
    -- A case k of x that row g lacks is held against each row of s that strictly contains row g. Where one of them, row m, lacks it: either x has
    -- it in row m, and row m is a larger row that lacks a case; or row g has in x each case of row m, and one of these takes the place of k.
    record Wanted (g m : ℕ) : Type 0 where
      case : ℕ
      inside : T (bit (row x g) case)
      lacks : T (not (bit (row s g) case))
      above : (j : ℕ) → j < m → is_proper_subset (row s g) (row s j) ≡ true → T (bit (row s j) case)

    record Higher (g : ℕ) : Type 0 where
      gauge : ℕ
      more : ones (row s g) < ones (row s gauge)
      case : ℕ
      inside : T (bit (row x gauge) case)
      lacks : T (not (bit (row s gauge) case))

    -- one row more, m, that strictly contains row g
    held-against : (g m : ℕ) → Wanted g m → is_proper_subset (row s g) (row s m) ≡ true → Wanted g (suc m) ⊎ Higher g
    unfolding Breaks
    held-against g m p e = go (test (bit (row s m) p.case)) (test (bit (row x m) p.case)) (sub_or (row s m) (row s g))
      where
        -- the rows below m, and m
        more : (k : ℕ) → ((j : ℕ) → j < m → is_proper_subset (row s g) (row s j) ≡ true → T (bit (row s j) k)) → T (bit (row s m) k)
            → (j : ℕ) → j < suc m → is_proper_subset (row s g) (row s j) ≡ true → T (bit (row s j) k)
        more k f t j l d = at (ℕ_discrete j m)
          where
            at : Dec (j ≡ m) → T (bit (row s j) k)
            at (yes q) = subst (λ (j : ℕ). T (bit (row s j) k)) (sym q) t
            at (no q) = f j (omega arith) d

        -- a case d of row m that row g lacks, where rows m of s and of x both lack k
        other : T (not (bit (row s m) p.case)) → T (not (bit (row x m) p.case)) → (d : ℕ) → T (bit (row s m) d) → T (not (bit (row s g) d))
            → Wanted g (suc m)
        other u v d t z = record {
          case = d;
          inside = outer (chain_places x h g m p.case d p.inside (sub_bit (row s m) (row x m) d (within_sub x s w m) t));
          lacks = z;
          above = more d (λ j l q. inner j (chain_places s c j m p.case d (p.above j l q) t)) t;
        }
          where
            outer : T (bit (row x g) d) ⊎ T (bit (row x m) p.case) → T (bit (row x g) d)
            outer (inl q) = q
            outer (inr q) = absurd (T_not (bit (row x m) p.case) v q)

            inner : (j : ℕ) → T (bit (row s j) d) ⊎ T (bit (row s m) p.case) → T (bit (row s j) d)
            inner j (inl q) = q
            inner j (inr q) = absurd (T_not (bit (row s m) p.case) u q)

        go : T (bit (row s m) p.case) ⊎ T (not (bit (row s m) p.case)) → T (bit (row x m) p.case) ⊎ T (not (bit (row x m) p.case))
            → (row s m ⊆ row s g) ⊎ Breaks (row s m) (row s g) → Wanted g (suc m) ⊎ Higher g
        go (inl t) v b = inl (record { case = p.case; inside = p.inside; lacks = p.lacks; above = more p.case p.above t })
        go (inr u) (inl v) b =
            let (sub, ne) = proper_is (row s g) (row s m) e in
            inr (record { gauge = m; more = ones_strict (row s g) (row s m) sub ne; case = p.case; inside = v; lacks = u })
        go (inr u) (inr v) (inl b) = let (sub, ne) = proper_is (row s g) (row s m) e in absurd (ne (sub_antisym (row s g) (row s m) sub b))
        go (inr u) (inr v) (inr b) = inl (other u v b.0 b.1 b.2)

    against-all : (g m : ℕ) → Wanted g 0 → Wanted g m ⊎ Higher g
    against-all g zero p = inl p
    against-all g (suc m) p = go (against-all g m p) (is_proper_subset (row s g) (row s m)) refl
      where
        go : Wanted g m ⊎ Higher g → (b : Bool) → is_proper_subset (row s g) (row s m) ≡ b → Wanted g (suc m) ⊎ Higher g
        go (inr q) b e = inr q
        go (inl q) true e = held-against g m q e
        go (inl q) false e = inl (record { case = q.case; inside = q.inside; lacks = q.lacks; above = λ j l d. at j l d (ℕ_discrete j m) })
          where
            at : (j : ℕ) → j < suc m → is_proper_subset (row s g) (row s j) ≡ true → Dec (j ≡ m) → T (bit (row s j) q.case)
            at j l d (yes z) = absurd (true-false (sym d ∙ ap (λ (j : ℕ). is_proper_subset (row s g) (row s j)) z ∙ e))
            at j l d (no z) = q.above j (omega arith) d

    -- from a row that lacks a case of x, up to a row that can take one
    module _ (most : ℕ) (small : (i : ℕ) → row x i < 2 ^ most) where
      few : (i : ℕ) → ones (row s i) ≤ most
      few i = omega (arith, ones_mono (row s i) (row x i) (within_sub x s w i), ones-le most (row x i) (small i))

      taken : (g : ℕ) → Wanted g n → (p : Pair) × CanCome x s p
      taken g q = ((suc g, suc q.case), can_take x s w c g q.case (record { inside = q.inside; lacks = q.lacks; above = q.above }))

      find : (f g : ℕ) → most ≤ ones (row s g) + f → Wanted g 0 → (p : Pair) × CanCome x s p
      find zero g b p = go (against-all g n p)
        where
          go : Wanted g n ⊎ Higher g → (p : Pair) × CanCome x s p
          go (inl q) = taken g q
          go (inr q) = absurd (omega (arith, few q.gauge, q.more))
      find (suc f) g b p = go (against-all g n p) (λ g. find f g)
        where
          go : Wanted g n ⊎ Higher g → ((g : ℕ) → most ≤ ones (row s g) + f → Wanted g 0 → (p : Pair) × CanCome x s p) → (p : Pair) × CanCome x s p
          go (inl q) ih = taken g q
          go (inr q) ih =
              ih q.gauge (omega (arith, q.more))
              (record { case = q.case; inside = q.inside; lacks = q.lacks; above = λ j l. absurd (omega arith) })

    -- a row of s is that of x, or lacks a case of it
    row-or : (i : ℕ) → (row s i ≡ row x i) ⊎ Wanted i 0
    unfolding Breaks
    row-or i = go (sub_or (row x i) (row s i))
      where
        go : (row x i ⊆ row s i) ⊎ Breaks (row x i) (row s i) → (row s i ≡ row x i) ⊎ Wanted i 0
        go (inl q) = inl (sub_antisym (row s i) (row x i) (within_sub x s w i) q)
        go (inr q) = inr (record { case = q.0; inside = q.1; lacks = q.2; above = λ j l. absurd (omega arith) })

    rows-or : (m : ℕ) → ((i : ℕ) → i < m → row s i ≡ row x i) ⊎ ((i : ℕ) × Wanted i 0)
    rows-or zero = inl (λ i l. absurd (omega arith))
    rows-or (suc m) = go (rows-or m) (row-or m)
      where
        go : ((i : ℕ) → i < m → row s i ≡ row x i) ⊎ ((i : ℕ) × Wanted i 0) → (row s m ≡ row x m) ⊎ Wanted m 0
            → ((i : ℕ) → i < suc m → row s i ≡ row x i) ⊎ ((i : ℕ) × Wanted i 0)
        go (inr q) r = inr q
        go (inl q) (inr r) = inr (m, r)
        go (inl q) (inl r) = inl (λ i l. at i l (ℕ_discrete i m))
          where
            at : (i : ℕ) → i < suc m → Dec (i ≡ m) → row s i ≡ row x i
            at i l (yes d) = rw d r
            at i l (no d) = q i (omega arith)

    pub one_more : (s ≡ x) ⊎ ((p : Pair) × CanCome x s p)
    one_more = go (rows-or n)
      where
        go : ((i : ℕ) → i < n → row s i ≡ row x i) ⊎ ((i : ℕ) × Wanted i 0) → (s ≡ x) ⊎ ((p : Pair) × CanCome x s p)
        go (inl f) = inl (ext_get_or 0 s x w.size f)
        go (inr q) = let b = bound x in inr (find b.0 b.1 b.0 q.0 (omega arith) q.1)

-- 02, R-9: "a chain is a ladder exactly when no single table pair can be added"
pub maximal_iff : (r s : List ℕ) → Within r s → IsChain s → IsMaximal r s ↔ ((p : Pair) → ¬ CanCome r s p)
maximal_iff r s w c = (none, largest-of)
  where
    none : IsMaximal r s → (p : Pair) → ¬ CanCome r s p
    none m p k = k.missing (subst (λ (y : List ℕ). Has y p.0 p.1) same (with_pair_lem r s w p k.inside))
      where
        same : with_pair s p ≡ s
        same = m.largest (with_pair s p) (with_within r s w p k.inside) k.chain (within_with r s w p k.inside)

    largest-of : ((p : Pair) → ¬ CanCome r s p) → IsMaximal r s
    largest-of f = record { within = w; chain = c; largest = λ y v h k. at y v h k (one_more y s k c h) }
      where
        at : (y : List ℕ) → Within r y → IsChain y → Within y s → (s ≡ y) ⊎ ((p : Pair) × CanCome y s p) → y ≡ s
        at y v h k (inl e) = sym e
        at y v h k (inr q) =
            absurd (f q.0 (record { inside = v.inside q.0.0 q.0.1 q.1.inside; missing = q.1.missing; chain = q.1.chain }))
