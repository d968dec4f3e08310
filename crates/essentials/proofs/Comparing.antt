-- Comparing conflicts by one union of rows (`includes_short`): let u be the union of the table's rows that have a conflict of g:c, that is,
-- which lack case c and are not within gauge g's row. The conflicts of h:d include those of g:c exactly when d is not in u and what row h
-- has of u is in row g. So two pairs are compared in a few steps on sets, where the sets of their conflicts take G steps each.
use mathlib.Core.Path.{◌≡◌, refl, subst}
use mathlib.Core.Logic.{◌⊎◌, inl, inr, ◌↔◌}
use mathlib.Core.Bool.{Bool, true, false, not, ◌&&◌, ◌||◌, cond}
use mathlib.Core.List.{List}
use Prim.Native.Nat.{ℕ, zero, suc, ◌<◌}
use native.Mathlib.Decide.{ℕ_discrete, dec_lt}
use native.Mathlib.Omega.{arith}
use lib.Dec.{T, T_not, not_T}
use Rattle.sets.specs.Sets.{bit, meet, join, ◌⊆◌, is_subset}
use Rattle.sets.proofs.Tests.{test, and_l, and_r, and_i, or_l, or_r, or_e, is_true}
use Rattle.sets.proofs.Order.{Breaks, sub_or, sub_bit, bits_sub, bit-meet, is_subset_lem, subset_is, not_subset}
use Rattle.sets.proofs.Joins.{bit-join}
use Rattle.sets.proofs.OnePlace.{none_in}
use Rattle.table.specs.Pairs.{row, Has}
use Rattle.table.proofs.Places.{has_place, place_has, by_place_lem}
use Rattle.conflicts.specs.Conflicts.{Conflict, Includes}
use Rattle.essentials.specs.private.Unions.{joined, against, includes, Past}
use Rattle.conflicts.proofs.Searching.{cross}

-- ---- what is in the union
-- a row that brings place l into it
pub record Against (r : List ℕ) (own k l : ℕ) : Type 0 where
  pub index : ℕ
  pub has : T (bit (row r index) l)
  pub lacks : T (not (bit (row r index) k))
  pub breaks : Breaks (row r index) own

-- a place of the union as it grows by the row a: it was there, or a brings it
joined_in : (seen a own k l : ℕ) → T (bit (joined seen a own k) l) → T (bit seen l) ⊎ (T (bit a l) × T (not (bit a k)) × Breaks a own)
unfolding joined
joined_in seen a own k l t = go (bit a k) refl (is_subset a own) refl t
  where
    breaks : is_subset a own ≡ false → (a ⊆ own) ⊎ Breaks a own → Breaks a own
    breaks d (inl s) = absurd (not_subset a own d s)
    breaks d (inr b) = b

    go : (p : Bool) → bit a k ≡ p → (q : Bool) → is_subset a own ≡ q → T (bit (cond (p || q) seen (join seen a)) l)
        → T (bit seen l) ⊎ (T (bit a l) × T (not (bit a k)) × Breaks a own)
    go true e q d u = inl u
    go false e true d u = inl u
    go false e false d u = pick (or_e (bit seen l) (bit a l) (rw (bit-join seen a l) at u))
      where
        pick : T (bit seen l) ⊎ T (bit a l) → T (bit seen l) ⊎ (T (bit a l) × T (not (bit a k)) × Breaks a own)
        pick (inl v) = inl v
        pick (inr v) = inr (v, rw e tt, breaks d (sub_or a own))

joined_old : (seen a own k l : ℕ) → T (bit seen l) → T (bit (joined seen a own k) l)
unfolding joined
joined_old seen a own k l t = go (bit a k || is_subset a own)
  where
    go : (p : Bool) → T (bit (cond p seen (join seen a)) l)
    go true = t
    go false = rw (bit-join seen a l) (or_l (bit seen l) (bit a l) t)

joined_new : (seen a own k l : ℕ) → T (bit a l) → T (not (bit a k)) → (a ⊆ own → ⊥) → T (bit (joined seen a own k) l)
unfolding joined
joined_new seen a own k l t u n = go (bit a k) refl (is_subset a own) refl
  where
    go : (p : Bool) → bit a k ≡ p → (q : Bool) → is_subset a own ≡ q → T (bit (cond (p || q) seen (join seen a)) l)
    go true e q d = absurd (T_not (bit a k) u (rw e tt))
    go false e true d = absurd (n (subset_is a own d))
    go false e false d = rw (bit-join seen a l) (or_r (bit seen l) (bit a l) t)

against_in : (r : List ℕ) (own k n l : ℕ) → T (bit (against r own k n) l) → Against r own k l
unfolding against
against_in r own k zero l t = absurd (subst T (none_in l) t)
against_in r own k (suc n) l t = go (joined_in (against r own k n) (row r n) own k l t) (against_in r own k n l)
  where
    go : T (bit (against r own k n) l) ⊎ (T (bit (row r n) l) × T (not (bit (row r n) k)) × Breaks (row r n) own)
        → (T (bit (against r own k n) l) → Against r own k l) → Against r own k l
    go (inl u) ih = ih u
    go (inr x) ih = record { index = n; has = x.0; lacks = x.1; breaks = x.2 }

in_against : (r : List ℕ) (own k n l i : ℕ) → i < n → T (bit (row r i) l) → T (not (bit (row r i) k)) → (row r i ⊆ own → ⊥) → T (bit (against r own k n) l)
unfolding against
in_against r own k zero l i h t u x = absurd (omega arith)
in_against r own k (suc n) l i h t u x = go (ℕ_discrete i n) (λ h. in_against r own k n l i h t u x)
  where
    go : Dec (i ≡ n) → (i < n → T (bit (against r own k n) l)) → T (bit (joined (against r own k n) (row r n) own k) l)
    go (yes e) ih = joined_new (against r own k n) (row r n) own k l (rw e at t) (rw e at u) (λ s. x (rw e s))
    go (no e) ih = joined_old (against r own k n) (row r n) own k l (ih (omega arith))

-- ---- the comparison, of place b of row a and place k of row i, both pairs of the table
module _ (r : List ℕ) (n : ℕ) (past : Past r n) (a b i k : ℕ) (p : T (bit (row r a) b)) (q : T (bit (row r i) k)) where
  U : ℕ
  U = against r (row r a) b n

  Short : Type 0
  Short = T (not (bit U k)) × (meet U (row r i) ⊆ row r a)

  -- a row with a case is one of the first n
  low_row : (j l : ℕ) → T (bit (row r j) l) → j < n
  low_row j l t = go (dec_lt j n)
    where
      go : Dec (j < n) → j < n
      go (yes h) = h
      go (no h) = absurd (subst T (none_in l) (rw (past j (omega arith)) at t))

  -- case l of row j is a conflict of case b of row a
  conflict_at : (j l : ℕ) → T (bit (row r j) l) → T (not (bit (row r j) b)) → T (not (bit (row r a) l)) → Conflict r (suc a) (suc b) (suc j) (suc l)
  conflict_at j l t u v = go (cross r (suc a) (suc b) (suc j) (suc l) (place_has r a b p) (place_has r j l t))
    where
      go : Conflict r (suc a) (suc b) (suc j) (suc l) ⊎ (Has r (suc a) (suc l) ⊎ Has r (suc j) (suc b)) → Conflict r (suc a) (suc b) (suc j) (suc l)
      go (inl x) = x
      go (inr (inl y)) = absurd (T_not (bit (row r a) l) v (has_place r a l y))
      go (inr (inr y)) = absurd (T_not (bit (row r j) b) u (has_place r j b y))

  include_short : Includes r (suc i) (suc k) (suc a) (suc b) → Short
  unfolding Short U Breaks
  include_short f = (
    not_T (bit U k) (λ t. none (against_in r (row r a) b n k t)),
    bits_sub (meet U (row r i)) (row r a) (λ l t. low l (rw (bit-meet U (row r i) l) at t) (test (bit (row r a) l))),
  )
    where
      none : Against r (row r a) b k → ⊥
      none y =
          (f (suc y.index) (suc y.breaks.0) (conflict_at y.index y.breaks.0 y.breaks.1 y.lacks y.breaks.2)).missing_back
          (place_has r y.index k y.has)

      low : (l : ℕ) → T (bit U l && bit (row r i) l) → T (bit (row r a) l) ⊎ T (not (bit (row r a) l)) → T (bit (row r a) l)
      low l t (inl u) = u
      low l t (inr u) =
          let y = against_in r (row r a) b n l (and_l (bit U l) (bit (row r i) l) t) in
          absurd ((f (suc y.index) (suc l) (conflict_at y.index l y.has y.lacks u)).missing (place_has r i l (and_r (bit U l) (bit (row r i) l) t)))

  short_include : Short → Includes r (suc i) (suc k) (suc a) (suc b)
  unfolding Short U
  short_include s h d v =
      by_place_lem r (λ h d. Conflict r (suc a) (suc b) h d → Conflict r (suc i) (suc k) h d)
      (λ j l t v. at j l t v (cross r (suc i) (suc k) (suc j) (suc l) (place_has r i k q) (place_has r j l t))) h d v.pair v
    where
      at : (j l : ℕ) → T (bit (row r j) l) → Conflict r (suc a) (suc b) (suc j) (suc l)
          → Conflict r (suc i) (suc k) (suc j) (suc l) ⊎ (Has r (suc i) (suc l) ⊎ Has r (suc j) (suc k)) → Conflict r (suc i) (suc k) (suc j) (suc l)
      at j l t v (inl x) = x
      at j l t v (inr y) = absurd (clash y)
        where
          lacks : T (not (bit (row r j) b))
          lacks = not_T (bit (row r j) b) (λ x. v.missing_back (place_has r j b x))

          out : row r j ⊆ row r a → ⊥
          out x = v.missing (place_has r a l (sub_bit (row r j) (row r a) l x t))

          brought : (e : ℕ) → T (bit (row r j) e) → T (bit U e)
          brought e u = in_against r (row r a) b n e j (low_row j l t) u lacks out

          clash : Has r (suc i) (suc l) ⊎ Has r (suc j) (suc k) → ⊥
          clash (inl y) =
              v.missing (place_has r a l (sub_bit (meet U (row r i)) (row r a) l s.1
              (rw (bit-meet U (row r i) l) (and_i (bit U l) (bit (row r i) l) (brought l t) (has_place r i l y)))))
          clash (inr y) = T_not (bit U k) s.0 (brought k (has_place r j k y))

  pub includes_short : T (includes (against r (row r a) b n) k (row r i) (row r a)) ↔ Includes r (suc i) (suc k) (suc a) (suc b)
  unfolding includes Short U
  includes_short = (
    λ t. short_include (and_l (not (bit U k)) low t, subset_is (meet U (row r i)) (row r a) (is_true low (and_r (not (bit U k)) low t))),
    λ f. let s = include_short f in and_i (not (bit U k)) low s.0 (rw (is_subset_lem (meet U (row r i)) (row r a) s.1) tt),
  )
    where
      low : Bool
      low = is_subset (meet U (row r i)) (row r a)
