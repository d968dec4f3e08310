-- The least number on both sides of a table.
--
-- In order: a cover of the table is one of the exchanged table, of as many ladders (`least_transpose`); the rows, each a chain of its own, cover a
-- table, so the least number is at most G (`by_gauges`), at most L by exchanging sides (`by_cases`), hence at most min G L (`least_few`).
use mathlib.Core.Path.{◌≡◌, refl, sym, ap, ◌∙◌, subst}
use mathlib.Core.Logic.{◌⊎◌, inl, inr}
use mathlib.Core.List.Memᴰ
use mathlib.Core.List.{List, [], ◌∷◌, map, Memᴰ}
use Prim.Native.Nat.{ℕ, zero, suc, ◌≤◌, ◌<◌, min}
use native.Mathlib.Nat.{min-eq_left, min-eq_right}
use native.Mathlib.Decide.{ℕ_discrete, dec_le, dec_lt}
use native.Mathlib.Omega.{arith}
use lib.Dec.{T}
use lib.ListN.{length, length-map}
use Rattle.sets.specs.Sets.{bit}
use Rattle.sets.proofs.OnePlace.{none_in}
use Rattle.table.specs.declared.Table.{Table}
use Rattle.table.specs.Pairs.{row, Has, Cases}
use Rattle.table.specs.Chains.{IsMaximal}
use Rattle.table.specs.Tables.{Legal, table_rows}
use Rattle.table.proofs.Places.{by_place_lem, place_has, row_past}
use Rattle.table.proofs.Legality.{length_rows, legal_cases}
use Rattle.transpose.specs.Transposing.{transpose}
use Rattle.transpose.proofs.Transposition.{length-transpose, cases_transpose, cases_within, transpose_twice, has_transpose, maximal_transpose}
use Rattle.conflicts.specs.Covers.{Cover}
use Rattle.covers.specs.Covers.{ChainOf, ChainCover, LeastNumber}
use Rattle.covers.proofs.Rows.{only, only_same}
use Rattle.covers.proofs.Covers.{only_of, none_smaller}

-- ---- the two sides have the same least number
cover_transpose : (w : ℕ) (r : List ℕ) → Cases w r → (xs : List (List ℕ)) → Cover r xs → Cover (transpose w r) (map (transpose w) xs)
cover_transpose w r h xs a = record {
  maximal = λ y m.
      let k = Memᴰ.of_map (transpose w) xs m in
      subst (IsMaximal (transpose w r)) k.2 (maximal_transpose w r k.0 h (a.maximal k.0 k.1));
  together = λ c g p.
      let (x, m, q) = a.together g c ((has_transpose w r h g c).1 p) in
      (transpose w x, Memᴰ.map (transpose w) m, (has_transpose w x (cases_within w r x h (a.maximal x m).within) g c).0 q);
}

pub least_transpose : (w : ℕ) (r : List ℕ) → Cases w r → (k : ℕ) → LeastNumber r k → LeastNumber (transpose w r) k
least_transpose w r h k l = record {
  cover = map (transpose w) l.cover;
  covers = cover_transpose w r h l.cover l.covers;
  number = length-map l.cover (transpose w) ∙ l.number;
  least = least;
}
  where
    n : ℕ
    n = length r

    least : (xs : List (List ℕ)) → Cover (transpose w r) xs → k ≤ length xs
    least xs a =
        subst (λ (m : ℕ). k ≤ m) (length-map xs (transpose n))
        (l.least (map (transpose n) xs)
        (subst (λ (s : List ℕ). Cover s (map (transpose n) xs)) (transpose_twice n w r refl h)
        (cover_transpose n (transpose w r) (cases_transpose w r h) xs a)))

-- ---- a table's rows cover it
module _ (r : List ℕ) where
  -- the first n rows, each alone
  rows_alone : ℕ → List (List ℕ)
  rows_alone zero = []
  rows_alone (suc n) = only r n ∷ rows_alone n

  length_alone : (n : ℕ) → length (rows_alone n) ≡ n
  unfolding rows_alone
  length_alone zero = refl
  length_alone (suc n) = ap suc (length_alone n)

  alone_in : (n i : ℕ) → i < n → Memᴰ (only r i) (rows_alone n)
  unfolding rows_alone
  alone_in zero i l = absurd (omega arith)
  alone_in (suc n) i l = go (ℕ_discrete i n) (alone_in n i)
    where
      go : Dec (i ≡ n) → (i < n → Memᴰ (only r i) (rows_alone n)) → Memᴰ (only r i) (only r n ∷ rows_alone n)
      go (yes e) ih = Memᴰ.head (ap (only r) e)
      go (no e) ih = Memᴰ.tail (ih (omega arith))

  alone_of : (n : ℕ) (x : List ℕ) → Memᴰ x (rows_alone n) → ChainOf r x
  unfolding rows_alone
  alone_of zero x m = absurd (Memᴰ.not-nil m)
  alone_of (suc n) x m = go (Memᴰ.cases_cons m) (alone_of n x)
    where
      go : (x ≡ only r n) ⊎ Memᴰ x (rows_alone n) → (Memᴰ x (rows_alone n) → ChainOf r x) → ChainOf r x
      go (inl e) ih = subst (ChainOf r) (sym e) (only_of r n)
      go (inr j) ih = ih j

  rows_cover : ChainCover r (rows_alone (length r))
  rows_cover = record {
    chains = alone_of (length r);
    together = by_place_lem r (λ g c. (x : List ℕ) × Memᴰ x (rows_alone (length r)) × Has x g c) (λ i k t. (
      only r i,
      alone_in (length r) i (inside i k t (dec_lt i (length r))),
      place_has (only r i) i k
          (subst (λ (a : ℕ). T (bit a k)) (sym (only_same r i i refl)) t),
    ));
  }
    where
      inside : (i k : ℕ) → T (bit (row r i) k) → Dec (i < length r) → i < length r
      inside i k t (yes l) = l
      inside i k t (no l) = absurd (subst T (none_in k) (subst (λ (a : ℕ). T (bit a k)) (row_past r i (omega arith)) t))

  pub by_gauges : (k : ℕ) → LeastNumber r k → k ≤ length r
  by_gauges k l = omega (arith, none_smaller r k l (rows_alone (length r)) rows_cover, length_alone (length r))

pub by_cases : (w : ℕ) (r : List ℕ) → Cases w r → (k : ℕ) → LeastNumber r k → k ≤ w
by_cases w r h k l = omega (arith, by_gauges (transpose w r) k (least_transpose w r h k l), length-transpose w r)

-- so a cover of the least number fits in min G L places
pub least_few : (t : Table) → Legal t → (k : ℕ) → LeastNumber (table_rows t) k → k ≤ min t.gauges t.cases
least_few t l k a = go (dec_le t.gauges t.cases)
  where
    low : k ≤ t.gauges
    low = omega (arith, by_gauges (table_rows t) k a, length_rows t l)

    also : k ≤ t.cases
    also = by_cases t.cases (table_rows t) (legal_cases t l) k a

    go : Dec (t.gauges ≤ t.cases) → k ≤ min t.gauges t.cases
    go (yes e) = rw (min-eq_left e) low
    go (no e) = let d : t.cases ≤ t.gauges = omega arith in rw (min-eq_right d) also
