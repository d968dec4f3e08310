-- Unions of rows. In order: one turn of the loop of `union_of`, and its end; the first n rows (`union_first`), whose union is included exactly when
-- every row is (`union_subset`); the union of a list with one row more in front (`union_cons`, `union_tail`).
use mathlib.Core.Path.{◌≡◌, refl, sym, ap, ap₂, ◌∙◌}
use mathlib.Core.Bool.{Bool, ◌&&◌}
use mathlib.Core.List.{List, [], ◌∷◌}
use Prim.Native.Nat.{ℕ, zero, suc, ◌+◌, ◌-◌, ◌≤◌, min}
use native.Mathlib.Omega.{arith}
use lib.Bits.{bit_or}
use Rattle.sets.specs.Sets.{join, is_subset}
use Rattle.sets.specs.Lists.{all_below}
use Rattle.sets.proofs.Order.{is_subset_lem, zero_sub}
use Rattle.sets.proofs.Joins.{join_assoc, join_none, none_join, join_subset}
use Rattle.table.specs.Pairs.{row}
use Rattle.table.specs.Unions.{union_from, union_of}

-- ---- the loop
module _ (s : List ℕ) (from : ℕ) where
  pub union_start : 0 ≡ union_from s from (from - from)
  unfolding union_from
  union_start = let e : 0 ≡ from - from = omega arith in ap (union_from s from) e

  pub union_more : (i seen : ℕ) → from ≤ i → seen ≡ union_from s from (i - from) → bit_or seen (row s i) ≡ union_from s from (i + 1 - from)
  unfolding union_from join
  union_more i seen l e =
      let here : i ≡ from + (i - from) = omega arith in
      let next : suc (i - from) ≡ i + 1 - from = omega arith in
      ap₂ bit_or e (ap (row s) here) ∙ ap (union_from s from) next

  pub union_done : (to last i seen : ℕ) → last ≡ min to 64 → i - from ≤ last - from → last ≤ i → seen ≡ union_from s from (i - from) → seen ≡ union_of s from to
  unfolding union_of
  union_done to last i seen m l h e =
      let d : i - from ≡ last - from = omega arith in
      e ∙ ap (union_from s from) d ∙ ap (λ (x : ℕ). union_from s from (x - from)) m

-- ---- the first rows
pub union_first : (s : List ℕ) (n : ℕ) → n ≤ 64 → union_of s 0 n ≡ union_from s 0 n
unfolding union_of
union_first s n l = let e : min n 64 - 0 ≡ n = omega arith in ap (union_from s 0) e

pub union_subset : (s : List ℕ) (n z : ℕ) → is_subset (union_from s 0 n) z ≡ all_below (λ i. is_subset (row s i) z) n
unfolding union_from all_below
union_subset s zero z = is_subset_lem 0 z (zero_sub z)
union_subset s (suc n) z =
    let e : 0 + n ≡ n = omega arith in
    join_subset (union_from s 0 n) (row s (0 + n)) z ∙ ap₂ (λ (a b : Bool). a && b) (union_subset s n z) (ap (λ (i : ℕ). is_subset (row s i) z) e)

-- ---- one row more in front
pub union_nothing : (i k : ℕ) → union_from [] i k ≡ 0
unfolding union_from
union_nothing i zero = refl
union_nothing i (suc k) = join_none (union_from [] i k) ∙ union_nothing i k

module _ (r : ℕ) (s : List ℕ) where
  pub union_cons : (k : ℕ) → union_from (r ∷ s) 0 (suc k) ≡ join r (union_from s 0 k)
  unfolding union_from
  union_cons zero = none_join r ∙ sym (join_none r)
  union_cons (suc k) =
      let e : 0 + suc k ≡ suc k = omega arith in
      let d : k ≡ 0 + k = omega arith in
      ap₂ join (union_cons k) (ap (row (r ∷ s)) e) ∙ join_assoc r (union_from s 0 k) (row s k) ∙ ap (λ (m : ℕ). join r (join (union_from s 0 k) (row s m))) d

  pub union_tail : (i k : ℕ) → union_from (r ∷ s) (suc i) k ≡ union_from s i k
  unfolding union_from
  union_tail i zero = refl
  union_tail i (suc k) = let e : suc i + k ≡ suc (i + k) = omega arith in ap₂ join (union_tail i k) (ap (row (r ∷ s)) e)
