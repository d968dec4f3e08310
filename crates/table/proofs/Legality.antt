-- The checks 10 to 13 decide what they say: a table passes exactly when it is legal, a chain exactly when it is a set of pairs of its
-- table; and the facts of a legal table that the other crates use. The code tests rows by their unions: `fit_by_unions`.
--
-- Pins, which nothing else cites: `no_rows_lem`.
use mathlib.Core.Path.{◌≡◌, refl, sym, ap, ap₂, ◌∙◌, subst, subst₂}
use mathlib.Core.Bool.{Bool, true, false, ◌&&◌, cond, and_assoc}
use mathlib.Core.List.{List, [], ◌∷◌}
use Prim.Native.Nat.{ℕ, zero, suc, ◌-◌, ◌^◌, ◌≤◌, ◌<◌, min}
use native.Mathlib.Omega.{arith}
use native.Mathlib.Decide.{dec_lt}
use lib.Dec.{eqb, ltb, leb}
use lib.ListN.{length}
use lib.Seq.{get_or-take, length-take-le}
use lib.Pow.{pow_pos}
use borrow.Author.Tests.{ltb-true, lt-ltb, leb-true, le-leb, lt-leb, eqb-true, eqb-false, eq-eqb}
use Rattle.basics.proofs.Clash.{clash}
use Rattle.sets.specs.Sets.{◌⊆◌, is_subset, lowest}
use Rattle.sets.proofs.Order.{subset_is, is_subset_lem, zero_sub, sub_zero}
use Rattle.sets.proofs.Joins.{join_subset, join_empty}
use Rattle.sets.proofs.Masks.{below_lowest}
use Rattle.table.specs.Pairs.{row, Within, Cases}
use Rattle.table.specs.Tables.{Legal, table_rows, chain_rows, in_range, rows_fit, table_refusal, rows_within, chain_refusal}
use Rattle.table.specs.Unions.{union_from, union_of}
use Rattle.table.specs.declared.Table.{Table}
use Rattle.table.specs.declared.Chain.{Chain}
use Rattle.table.proofs.Places.{row_past, sub_within, small_cases}
use Rattle.table.proofs.Unions.{union_first, union_nothing, union_cons, union_tail}

pub both : (a b : Bool) → (a && b) ≡ true → (a ≡ true) × (b ≡ true)
both true b e = (refl, e)
both false b e = clash cc

-- ---- numbers in range
pub range_is : (m n : ℕ) → in_range m n ≡ true → (1 ≤ n) × (n ≤ m)
range_is m n e =
    let (a, b) = both (leb 1 n) (leb n m) e in
    (leb-true 1 n a, leb-true n m b)

pub in_range_lem : (m n : ℕ) → 1 ≤ n → n ≤ m → in_range m n ≡ true
in_range_lem m n l h = rw (le-leb 1 n l, le-leb n m h)

pub below_range : (m n : ℕ) → n < 1 → false ≡ in_range m n
below_range m n h = sym (rw (lt-leb 1 n h))

pub above_range : (m n : ℕ) → 1 ≤ n → m < n → false ≡ in_range m n
above_range m n l h = sym (rw (le-leb 1 n l, lt-leb n m h))

pub range_not : (m n : ℕ) → in_range m n ≡ false → (1 ≤ n) × (n ≤ m) → ⊥
range_not m n e h = let z : true ≡ false = sym (in_range_lem m n h.0 h.1) ∙ e in clash cc

-- ---- rows that fit
fit_bits : (g l : ℕ) (rows : List ℕ) → rows_fit g l rows ≡ true → (i : ℕ) → row rows i < 2 ^ l
unfolding rows_fit
fit_bits g l [] e i = pow_pos l
fit_bits zero l (r ∷ rows) e zero = omega (arith, eqb-true r 0 (both (eqb r 0) (rows_fit zero l rows) e).0, pow_pos l)
fit_bits zero l (r ∷ rows) e (suc i) = fit_bits zero l rows (both (eqb r 0) (rows_fit zero l rows) e).1 i
fit_bits (suc g) l (r ∷ rows) e zero = ltb-true r (2 ^ l) (both (ltb r (2 ^ l)) (rows_fit g l rows) e).0
fit_bits (suc g) l (r ∷ rows) e (suc i) = fit_bits g l rows (both (ltb r (2 ^ l)) (rows_fit g l rows) e).1 i

fit_rest : (g l : ℕ) (rows : List ℕ) → rows_fit g l rows ≡ true → (i : ℕ) → g ≤ i → row rows i ≡ 0
unfolding rows_fit
fit_rest g l [] e i h = refl
fit_rest zero l (r ∷ rows) e zero h = eqb-true r 0 (both (eqb r 0) (rows_fit zero l rows) e).0
fit_rest zero l (r ∷ rows) e (suc i) h = fit_rest zero l rows (both (eqb r 0) (rows_fit zero l rows) e).1 i (omega arith)
fit_rest (suc g) l (r ∷ rows) e zero h = absurd (omega arith)
fit_rest (suc g) l (r ∷ rows) e (suc i) h = fit_rest g l rows (both (ltb r (2 ^ l)) (rows_fit g l rows) e).1 i (omega arith)

fit_of : (g l : ℕ) (rows : List ℕ) → ((i : ℕ) → row rows i < 2 ^ l) → ((i : ℕ) → g ≤ i → row rows i ≡ 0) → rows_fit g l rows ≡ true
unfolding rows_fit
fit_of g l [] b z = refl
fit_of zero l (r ∷ rows) b z = rw (eq-eqb r 0 (z 0 (omega arith))) (fit_of zero l rows (λ i. b (suc i)) (λ i h. z (suc i) (omega arith)))
fit_of (suc g) l (r ∷ rows) b z = rw (lt-ltb r (2 ^ l) (b 0)) (fit_of g l rows (λ i. b (suc i)) (λ i h. z (suc i) (omega arith)))

-- ---- a table passes exactly when it is legal
module _ (t : Table) where
  abbrev shape : Bool
  shape = in_range 64 t.gauges && in_range 64 t.cases

  abbrev fit : Bool
  fit = rows_fit t.gauges t.cases t.rows

  passes : table_refusal t ≡ 0 → (shape ≡ true) × (fit ≡ true)
  unfolding table_refusal
  passes e = go shape fit e
    where
      go : (a b : Bool) → ◌≡◌ {A = ℕ} (cond a (cond b 0 11) 10) 0 → (a ≡ true) × (b ≡ true)
      go true true x = (refl, refl)
      go true false x = absurd (omega arith)
      go false b x = absurd (omega arith)

  pub legal_of : length t.rows ≡ 64 → table_refusal t ≡ 0 → Legal t
  legal_of n e =
      let (s, f) = passes e in
      let (g, c) = both (in_range 64 t.gauges) (in_range 64 t.cases) s in
      record {
        gauges_low = (range_is 64 t.gauges g).0;
        gauges_high = (range_is 64 t.gauges g).1;
        cases_low = (range_is 64 t.cases c).0;
        cases_high = (range_is 64 t.cases c).1;
        rows_length = n;
        rows_bits = fit_bits t.gauges t.cases t.rows f;
        rows_rest = fit_rest t.gauges t.cases t.rows f;
      }

  pub legal_passes : Legal t → table_refusal t ≡ 0
  unfolding table_refusal
  legal_passes l =
      rw (
        in_range_lem 64 t.gauges l.gauges_low l.gauges_high,
        in_range_lem 64 t.cases l.cases_low l.cases_high,
        fit_of t.gauges t.cases t.rows l.rows_bits l.rows_rest,
      )

  -- ---- the rows of a legal table
  pub length_rows : Legal t → length (table_rows t) ≡ t.gauges
  length_rows l = length-take-le t.gauges t.rows (omega (arith, l.rows_length, l.gauges_high))

  -- as a set of pairs the 64 rows are the first G
  pub row-table_rows : Legal t → (i : ℕ) → row (table_rows t) i ≡ row t.rows i
  row-table_rows l i = go (dec_lt i t.gauges)
    where
      go : Dec (i < t.gauges) → row (table_rows t) i ≡ row t.rows i
      go (yes h) = get_or-take t.gauges t.rows i 0 h
      go (no h) = row_past (table_rows t) i (omega (arith, length_rows l)) ∙ sym (l.rows_rest i (omega arith))

  pub legal_cases : Legal t → Cases t.cases (table_rows t)
  legal_cases l = small_cases t.cases (table_rows t) (λ i. subst (λ (x : ℕ). x < 2 ^ t.cases) (sym (row-table_rows l i)) (l.rows_bits i))

-- a table whose numbers are in range and whose rows do not fit is refused with 11
module _ (t : Table) (a b f : Bool) (ea : a ≡ in_range 64 t.gauges) (ta : a ≡ true) (eb : b ≡ in_range 64 t.cases) (tb : b ≡ true)
    (ef : f ≡ rows_fit t.gauges t.cases t.rows) where
  pub no_rows_lem : f ≡ false → 11 ≡ table_refusal t
  unfolding table_refusal
  no_rows_lem e = rw (← ea, ta, ← eb, tb, ← ef, e)

module _ (t : Table) (s : Chain) (w : Bool) (e : table_refusal t ≡ 0) (n : s.gauges ≡ t.gauges) (ew : w ≡ rows_within t.rows s.rows) where
  pub chain_passes : w ≡ true → 0 ≡ chain_refusal t s
  unfolding chain_refusal
  chain_passes f = rw (e, eq-eqb s.gauges t.gauges n, ← ew, f)

-- ---- the code's way: one union of the first rows, one of the others
none_subset : (m : ℕ) → is_subset 0 m ≡ true
none_subset m = is_subset_lem 0 m (zero_sub m)

fit_by_unions : (g l : ℕ) (rows : List ℕ) → l ≤ 64
    → rows_fit g l rows ≡ (is_subset (union_from rows 0 g) (lowest l) && eqb (union_from rows g (length rows - g)) 0)
unfolding rows_fit union_from
fit_by_unions g l [] h =
    sym (ap₂ (λ (x y : ℕ). is_subset x (lowest l) && eqb y 0) (union_nothing 0 g) (union_nothing g (0 - g))
    ∙ ap (λ (b : Bool). b && eqb 0 0) (none_subset (lowest l)))
fit_by_unions zero l (r ∷ rows) h =
    ap (λ (b : Bool). eqb r 0 && b) (fit_by_unions zero l rows h ∙ rest-only rows (length rows))
    ∙ sym (join_empty r (union_from rows 0 (length rows))) ∙ ap (λ (x : ℕ). eqb x 0) (sym (union_cons r rows (length rows)))
    ∙ sym (rest-only (r ∷ rows) (suc (length rows)))
  where
    rest-only : (s : List ℕ) (k : ℕ) → (is_subset 0 (lowest l) && eqb (union_from s 0 (k - 0)) 0) ≡ eqb (union_from s 0 k) 0
    rest-only s k =
        let e : k - 0 ≡ k = omega arith in
        ap₂ (λ (b : Bool) (m : ℕ). b && eqb (union_from s 0 m) 0) (none_subset (lowest l)) e
fit_by_unions (suc g) l (r ∷ rows) h =
    let e : length rows - g ≡ suc (length rows) - suc g = omega arith in
    ap (λ (b : Bool). ltb r (2 ^ l) && b) (fit_by_unions g l rows h)
    ∙ sym (and_assoc (ltb r (2 ^ l)) (is_subset (union_from rows 0 g) (lowest l)) (eqb (union_from rows g (length rows - g)) 0))
    ∙ ap₂ (λ (b : Bool) (x : ℕ). b && eqb x 0)
    (ap (λ (b : Bool). b && is_subset (union_from rows 0 g) (lowest l)) (sym (below_lowest r l h))
    ∙ sym (join_subset r (union_from rows 0 g) (lowest l)) ∙ ap (λ (x : ℕ). is_subset x (lowest l)) (sym (union_cons r rows g)))
    (sym (union_tail r rows g (length rows - g)) ∙ ap (union_from (r ∷ rows) (suc g)) e)

-- what the two unions answer
module _ (g l used rest mask : ℕ) (rows : List ℕ) (t : Bool) (n : length rows ≡ 64) (few : g ≤ 64) (h : l ≤ 64)
    (u : used ≡ union_of rows 0 g) (r : rest ≡ union_of rows g 64) (m : mask ≡ lowest l) (test : t ≡ is_subset used mask) where
  rest_is : union_of rows g 64 ≡ union_from rows g (length rows - g)
  unfolding union_of
  rest_is = let e : min 64 64 - g ≡ length rows - g = omega arith in ap (union_from rows g) e

  fit_both : (t && eqb rest 0) ≡ rows_fit g l rows
  fit_both =
      ap₂ (λ (a b : Bool). a && b) (test ∙ ap₂ is_subset (u ∙ union_first rows g few) m) (ap (λ (x : ℕ). eqb x 0) (r ∙ rest_is))
      ∙ sym (fit_by_unions g l rows h)

  pub fit_wide : t ≡ false → false ≡ rows_fit g l rows
  fit_wide e = sym (ap (λ (x : Bool). x && eqb rest 0) e) ∙ fit_both

  pub fit_past : t ≡ true → eqb rest 0 ≡ rows_fit g l rows
  fit_past e = sym (ap (λ (x : Bool). x && eqb rest 0) e) ∙ fit_both

-- ---- a chain passes exactly when it is a set of pairs of its table
pub within_rows : (r s : List ℕ) → rows_within r s ≡ true → (i : ℕ) → row s i ⊆ row r i
unfolding rows_within
within_rows r [] e i = zero_sub (row r i)
within_rows [] (b ∷ s) e zero = rw (eqb-true b 0 (both (eqb b 0) (rows_within [] s) e).0) (zero_sub 0)
within_rows [] (b ∷ s) e (suc i) = within_rows [] s (both (eqb b 0) (rows_within [] s) e).1 i
within_rows (a ∷ r) (b ∷ s) e zero = subset_is b a (both (is_subset b a) (rows_within r s) e).0
within_rows (a ∷ r) (b ∷ s) e (suc i) = within_rows r s (both (is_subset b a) (rows_within r s) e).1 i

-- the facts of a chain that passes: its table is legal, and its rows are G, within the table's, and none past the G-th
pub record ChainFacts (t : Table) (s : Chain) : Type 0 where
  pub legal : Legal t
  pub count : s.gauges ≡ t.gauges
  pub inside : (i : ℕ) → row s.rows i ⊆ row t.rows i

pub chain_facts : (t : Table) (s : Chain) → length t.rows ≡ 64 → chain_refusal t s ≡ 0 → ChainFacts t s
unfolding chain_refusal
chain_facts t s n e = go (eqb (table_refusal t) 0) refl (eqb s.gauges t.gauges) refl (rows_within t.rows s.rows) refl e
  where
    go : (a : Bool) → eqb (table_refusal t) 0 ≡ a → (b : Bool) → eqb s.gauges t.gauges ≡ b → (w : Bool) → rows_within t.rows s.rows ≡ w
        → cond a (cond b (cond w 0 13) 12) (table_refusal t) ≡ 0 → ChainFacts t s
    go true p true q true r x = record {
      legal = legal_of t n (eqb-true (table_refusal t) 0 p);
      count = eqb-true s.gauges t.gauges q;
      inside = within_rows t.rows s.rows r;
    }
    go true p true q false r x = absurd (omega arith)
    go true p false q w r x = absurd (omega arith)
    go false p b q w r x = absurd (eqb-false (table_refusal t) 0 p x)

-- as a set of pairs its 64 rows are the first G, and these are within the table's
module _ (t : Table) (s : Chain) (f : ChainFacts t s) (n : length s.rows ≡ 64) where
  pub length-chain_rows : length (chain_rows s) ≡ t.gauges
  length-chain_rows = length-take-le s.gauges s.rows (omega (arith, f.count, f.legal.gauges_high)) ∙ f.count

  pub row-chain_rows : (i : ℕ) → row (chain_rows s) i ≡ row s.rows i
  row-chain_rows i = go (dec_lt i t.gauges)
    where
      go : Dec (i < t.gauges) → row (chain_rows s) i ≡ row s.rows i
      go (yes h) = get_or-take s.gauges s.rows i 0 (omega (arith, f.count))
      go (no h) =
          row_past (chain_rows s) i (omega (arith, length-chain_rows))
          ∙ sym (sub_zero (row s.rows i) (subst (λ (x : ℕ). row s.rows i ⊆ x) (f.legal.rows_rest i (omega arith)) (f.inside i)))

  pub chain_within : Within (table_rows t) (chain_rows s)
  chain_within =
      sub_within (table_rows t) (chain_rows s) (length-chain_rows ∙ sym (length_rows t f.legal)) (λ i.
      subst₂ (λ (a b : ℕ). a ⊆ b) (sym (row-chain_rows i)) (sym (row-table_rows t f.legal i)) (f.inside i))
