-- What each answer and each turn of the steps on rows says of the definitions in specs/private/Unions.antt, and that the rows of conflicts
-- hold exactly the pairs that `Conflict` says (`conflict_pairs`).
use mathlib.Core.Path.{◌≡◌, refl, subst}
use mathlib.Core.Logic.{◌⊎◌, inl, inr, ◌↔◌}
use mathlib.Core.Bool.{Bool, true, false, not, ◌&&◌, cond}
use mathlib.Core.List.{List}
use Prim.Native.Nat.{ℕ, zero, suc, ◌+◌, ◌-◌, ◌/◌, ◌%◌, ◌≤◌, ◌<◌, min}
use native.Mathlib.Numerals.{add-one}
use native.Mathlib.Decide.{dec_lt}
use native.Mathlib.Omega.{arith}
use lib.Dec.{T, T_not, not_T, eqb}
use lib.Bits.{bit_and, bit_or, and_le_l}
use lib.ListN.{length}
use Rattle.sets.specs.Sets.{bit, meet, join, is_subset}
use Rattle.sets.proofs.Tests.{and_l, and_r, and_i}
use Rattle.sets.proofs.Digits.{lt2, meet_half, meet_low, bit_zero, bit-suc, digit}
use Rattle.sets.proofs.OnePlace.{none_in}
use Rattle.sets.proofs.Tabulated.{length-tabulate, get_or-tabulate}
use Rattle.table.specs.Pairs.{row, Has}
use Rattle.table.proofs.Places.{has_place, place_has, by_place_lem, row_past}
use Rattle.conflicts.specs.Conflicts.{Conflict}
use Rattle.essentials.specs.private.Unions.{without, conflict_row, conflict_rows, joined, against, includes}
use Rattle.conflicts.proofs.Searching.{cross}

-- ---- the cases of a that are not in b
pub fewer : (a b : ℕ) → meet a b ≤ a
unfolding meet
fewer a b = and_le_l a b

without_half : (a b : ℕ) → without a b / 2 ≡ without (a / 2) (b / 2)
unfolding without
without_half a b = omega (arith, meet_half a b, meet_low a b, lt2 a, lt2 b, fewer a b, fewer (a / 2) (b / 2))

without_low : (a b : ℕ) → without a b % 2 ≡ a % 2 - min (a % 2) (b % 2)
unfolding without
without_low a b = omega (arith, meet_half a b, meet_low a b, lt2 a, lt2 b, fewer a b, fewer (a / 2) (b / 2))

less_digit : (x y : ℕ) → (x ≡ 0) ⊎ (x ≡ 1) → (y ≡ 0) ⊎ (y ≡ 1) → eqb (x - min x y) 1 ≡ (eqb x 1 && not (eqb y 1))
less_digit x y (inl e) (inl d) = rw (e, d)
less_digit x y (inl e) (inr d) = rw (e, d)
less_digit x y (inr e) (inl d) = rw (e, d)
less_digit x y (inr e) (inr d) = rw (e, d)

pub bit-without : (a b k : ℕ) → bit (without a b) k ≡ (bit a k && not (bit b k))
bit-without a b zero =
    rw (bit_zero (without a b), bit_zero a, bit_zero b, without_low a b) (less_digit (a % 2) (b % 2) (digit (a % 2) (lt2 a)) (digit (b % 2) (lt2 b)))
bit-without a b (suc k) = rw (bit-suc (without a b) k, bit-suc a k, bit-suc b k, without_half a b) (bit-without (a / 2) (b / 2) k)

pub without_is : (a b : ℕ) → a - bit_and a b ≡ without a b
unfolding without meet
without_is a b = refl

-- ---- a row's conflicts
pub row_none : (a own k : ℕ) (t : Bool) → t ≡ bit a k → t ≡ true → 0 ≡ conflict_row a own k
unfolding conflict_row
row_none a own k t e d = rw (← e, d)

pub row_some : (a own k v : ℕ) (t : Bool) → t ≡ bit a k → t ≡ false → v ≡ without a own → v ≡ conflict_row a own k
unfolding conflict_row
row_some a own k v t e d f = rw (← e, d) f

-- ---- the union
pub joined_has : (seen a own k : ℕ) (t : Bool) → t ≡ bit a k → t ≡ true → seen ≡ joined seen a own k
unfolding joined
joined_has seen a own k t e d = rw (← e, d)

pub joined_within : (seen a own k : ℕ) (t u : Bool) → t ≡ bit a k → t ≡ false → u ≡ is_subset a own → u ≡ true → seen ≡ joined seen a own k
unfolding joined
joined_within seen a own k t u e d f h = rw (← e, d, ← f, h)

pub joined_both : (seen a own k : ℕ) (t u : Bool) → t ≡ bit a k → t ≡ false → u ≡ is_subset a own → u ≡ false → bit_or seen a ≡ joined seen a own k
unfolding joined join
joined_both seen a own k t u e d f h = rw (← e, d, ← f, h)

pub against_none : (r : List ℕ) (own k : ℕ) → 0 ≡ against r own k 0
unfolding against
against_none r own k = refl

pub against_more : (r : List ℕ) (own k i seen v : ℕ) → seen ≡ against r own k i → v ≡ joined seen (row r i) own k → v ≡ against r own k (i + 1)
unfolding against
against_more r own k i seen v e d = rw (add-one i, ← e) d

-- ---- the comparison
pub includes_out : (u k outer inner : ℕ) (t : Bool) → t ≡ bit u k → t ≡ true → false ≡ includes u k outer inner
unfolding includes
includes_out u k outer inner t e d = rw (← e, d)

pub includes_in : (u k outer inner : ℕ) (t v : Bool) → t ≡ bit u k → t ≡ false → v ≡ is_subset (bit_and u outer) inner → v ≡ includes u k outer inner
unfolding includes meet
includes_in u k outer inner t v e d f = rw (← e, d) f

-- ---- the set of conflicts
pub length_conflicts : (r : List ℕ) (g k : ℕ) → length (conflict_rows r g k) ≡ 64
unfolding conflict_rows
length_conflicts r g k = length-tabulate (λ i. conflict_row (row r i) (row r g) k) 64

module _ (r : List ℕ) (size : length r ≡ 64) where
  row_conflicts : (g k i : ℕ) → i < 64 → row (conflict_rows r g k) i ≡ conflict_row (row r i) (row r g) k
  unfolding conflict_rows
  row_conflicts g k i l = get_or-tabulate (λ i. conflict_row (row r i) (row r g) k) 64 i l

  -- place l of row i is a conflict of place k of row g
  abbrev ConflictPlace : ℕ → ℕ → ℕ → ℕ → Type 0
  ConflictPlace g k i l = T (bit (row r i) l) × T (not (bit (row r i) k)) × T (not (bit (row r g) l))

  empty : (l : ℕ) → T (bit 0 l) → ⊥
  empty l t = subst T (none_in l) t

  -- a row with a case is one of the 64
  row_below : (s : List ℕ) (i l : ℕ) → length s ≡ 64 → T (bit (row s i) l) → i < 64
  row_below s i l e t = go (dec_lt i 64)
    where
      go : Dec (i < 64) → i < 64
      go (yes h) = h
      go (no h) = absurd (empty l (rw (row_past s i (omega arith)) at t))

  row_place : (a own k l : ℕ) → T (bit (conflict_row a own k) l) ↔ (T (bit a l) × T (not (bit a k)) × T (not (bit own l)))
  unfolding conflict_row
  row_place a own k l = go (bit a k) refl
    where
      go : (x : Bool) → bit a k ≡ x → T (bit (cond x 0 (without a own)) l) ↔ (T (bit a l) × T (not (bit a k)) × T (not (bit own l)))
      go true e = (λ t. absurd (empty l t), λ h. absurd (T_not (bit a k) h.1 (rw e tt)))
      go false e = (
        λ t. let u : T (bit a l && not (bit own l)) = rw (bit-without a own l) at t in
            (and_l (bit a l) (not (bit own l)) u, rw e tt, and_r (bit a l) (not (bit own l)) u),
        λ h. rw (bit-without a own l) (and_i (bit a l) (not (bit own l)) h.0 h.2),
      )

  conflicts_place : (g k i l : ℕ) → T (bit (row (conflict_rows r g k) i) l) ↔ ConflictPlace g k i l
  conflicts_place g k i l = (
    λ t. (row_place (row r i) (row r g) k l).0 (rw (row_conflicts g k i (row_below (conflict_rows r g k) i l (length_conflicts r g k) t)) at t),
    λ h. rw (row_conflicts g k i (row_below r i l size h.0)) ((row_place (row r i) (row r g) k l).1 h),
  )

  -- the rows hold the conflicts of place k of row g
  pub conflict_pairs : (g k : ℕ) → T (bit (row r g) k) → (h d : ℕ) → Has (conflict_rows r g k) h d ↔ Conflict r (suc g) (suc k) h d
  conflict_pairs g k t h d = (by_place_lem (conflict_rows r g k) (Conflict r (suc g) (suc k)) (λ i l u. at i l ((conflicts_place g k i l).0 u)) h d, onto)
    where
      at : (i l : ℕ) → ConflictPlace g k i l → Conflict r (suc g) (suc k) (suc i) (suc l)
      at i l x = go (cross r (suc g) (suc k) (suc i) (suc l) (place_has r g k t) (place_has r i l x.0))
        where
          go : Conflict r (suc g) (suc k) (suc i) (suc l) ⊎ (Has r (suc g) (suc l) ⊎ Has r (suc i) (suc k)) → Conflict r (suc g) (suc k) (suc i) (suc l)
          go (inl v) = v
          go (inr (inl y)) = absurd (T_not (bit (row r g) l) x.2 (has_place r g l y))
          go (inr (inr y)) = absurd (T_not (bit (row r i) k) x.1 (has_place r i k y))

      onto : Conflict r (suc g) (suc k) h d → Has (conflict_rows r g k) h d
      onto v =
          by_place_lem r (λ h d. Conflict r (suc g) (suc k) h d → Has (conflict_rows r g k) h d) (λ i l u v.
          place_has (conflict_rows r g k) i l ((conflicts_place g k i l).1
          (u, not_T (bit (row r i) k) (λ x. v.missing_back (place_has r i k x)), not_T (bit (row r g) l) (λ x. v.missing (place_has r g l x))))) h d
          v.pair v
