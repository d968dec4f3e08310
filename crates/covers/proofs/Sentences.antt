-- What a reader finds in R-8, sentence by sentence: every other gauge's row is as it was (`gauge_rows`), or every other case's column (`case_columns`), in
-- two tables of the same shape (`replaced_is`); a difference of at most 1 (`at_most_one`), of the one least number of each (`moves_reads`). Last, the
-- definition is met by two tables that are not square (`replaced_made`).
use mathlib.Core.Path.{◌≡◌, refl}
use mathlib.Core.Logic.{◌⊎◌, inl, inr, ◌↔◌}
use mathlib.Core.List.{List, [], ◌∷◌}
use Prim.Native.Nat.{ℕ, zero, suc, ◌+◌}
use native.Mathlib.Decide.{ℕ_discrete}
use native.Mathlib.Omega.{arith}
use lib.Dec.{T}
use lib.ListN.{length}
use Rattle.sets.specs.Sets.{bit}
use Rattle.sets.proofs.Order.{bits_sub, sub_antisym}
use Rattle.table.specs.declared.Table.{Table}
use Rattle.table.specs.Pairs.{row, Has}
use Rattle.table.specs.Tables.{Legal, table_rows, padded}
use Rattle.table.proofs.Places.{has_place, place_has, by_place_lem}
use Rattle.covers.specs.Covers.{LeastNumber}
use Rattle.covers.specs.Replacing.{OneGauge, OneCase, Replaced, AtMostOne, ReplacingClaim}
use Rattle.covers.proofs.Fewest.{least_exists}

-- ---- "differ in one gauge's row only, or in one case's column only"
pub gauge_rows : (g : ℕ) (r r' : List ℕ) → OneGauge g r r' → (length r' ≡ length r) × ((i : ℕ) → ¬ (suc i ≡ g) → row r i ≡ row r' i)
gauge_rows g r r' d = (
  d.shape,
  λ i n. sub_antisym (row r i) (row r' i)
      (bits_sub (row r i) (row r' i) (λ k t. has_place r' i k ((d.others (suc i) (suc k) n).0 (place_has r i k t))))
      (bits_sub (row r' i) (row r i) (λ k t. has_place r i k ((d.others (suc i) (suc k) n).1 (place_has r' i k t)))),
)

pub case_columns : (c : ℕ) (r r' : List ℕ) → OneCase c r r'
    → (length r' ≡ length r) × ((i k : ℕ) → ¬ (suc k ≡ c) → T (bit (row r i) k) ↔ T (bit (row r' i) k))
case_columns c r r' d = (
  d.shape,
  λ i k n. (
    λ t. has_place r' i k ((d.others (suc i) (suc k) n).0 (place_has r i k t)),
    λ t. has_place r i k ((d.others (suc i) (suc k) n).1 (place_has r' i k t)),
  ),
)

pub replaced_is : (t u : Table) → Replaced t u → (u.gauges ≡ t.gauges) × (u.cases ≡ t.cases)
    × (((g : ℕ) × ((i : ℕ) → ¬ (suc i ≡ g) → row (table_rows t) i ≡ row (table_rows u) i))
    ⊎ ((c : ℕ) × ((i k : ℕ) → ¬ (suc k ≡ c) → T (bit (row (table_rows t) i) k) ↔ T (bit (row (table_rows u) i) k))))
replaced_is t u d = (d.gauges, d.cases, go d.one)
  where
    go : ((g : ℕ) × OneGauge g (table_rows t) (table_rows u)) ⊎ ((c : ℕ) × OneCase c (table_rows t) (table_rows u))
        → ((g : ℕ) × ((i : ℕ) → ¬ (suc i ≡ g) → row (table_rows t) i ≡ row (table_rows u) i))
        ⊎ ((c : ℕ) × ((i k : ℕ) → ¬ (suc k ≡ c) → T (bit (row (table_rows t) i) k) ↔ T (bit (row (table_rows u) i) k)))
    go (inl e) = inl (e.0, (gauge_rows e.0 (table_rows t) (table_rows u) e.1).1)
    go (inr e) = inr (e.0, (case_columns e.0 (table_rows t) (table_rows u) e.1).1)

-- ---- "differs by at most 1"
pub at_most_one : (k j : ℕ) → AtMostOne k j → (j ≡ k) ⊎ ((j ≡ k + 1) ⊎ (k ≡ j + 1))
at_most_one k j h = go (ℕ_discrete j k) (ℕ_discrete j (k + 1))
  where
    go : Dec (j ≡ k) → Dec (j ≡ k + 1) → (j ≡ k) ⊎ ((j ≡ k + 1) ⊎ (k ≡ j + 1))
    go (yes e) d = inl e
    go (no e) (yes d) = inr (inl d)
    go (no e) (no d) = inr (inr (omega (arith, h.more, h.fewer)))

pub moves_reads : ReplacingClaim → (t u : Table) → Legal t → Legal u → Replaced t u
    → (k : ℕ) × (j : ℕ) × LeastNumber (table_rows t) k × LeastNumber (table_rows u) j × ((j ≡ k) ⊎ ((j ≡ k + 1) ⊎ (k ≡ j + 1)))
moves_reads c t u l m d =
    let a = least_exists (table_rows t) in
    let b = least_exists (table_rows u) in
    (a.0, b.0, a.1, b.1, at_most_one a.0 b.0 (c.differs t u l m d a.0 b.0 a.1 b.1))

-- ---- two tables of one gauge and two cases: {1}, and {1,2}
abbrev pub narrow : Table
narrow = record { gauges = 1; cases = 2; rows = padded (1 ∷ []) }

abbrev pub wide : Table
wide = record { gauges = 1; cases = 2; rows = padded (3 ∷ []) }

-- of one row no pair is another gauge's
one_row : (a b h c : ℕ) → ¬ (h ≡ 1) → Has (a ∷ []) h c → Has (b ∷ []) h c
one_row a b h c n p = by_place_lem (a ∷ []) (λ g d. ¬ (g ≡ 1) → Has (b ∷ []) g d) at h c p n
  where
    at : (i k : ℕ) → T (bit (row (a ∷ []) i) k) → ¬ (suc i ≡ 1) → Has (b ∷ []) (suc i) (suc k)
    at zero k t m = absurd (m refl)
    at (suc i) k t m = place_has (b ∷ []) (suc i) k t

pub replaced_made : Replaced narrow wide
replaced_made = record {
  gauges = refl;
  cases = refl;
  one = inl (1, record { shape = refl; others = λ h c n. (one_row 1 3 h c n, one_row 3 1 h c n) });
}
