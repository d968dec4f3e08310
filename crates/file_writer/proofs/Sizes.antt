-- How long the file is: of a table at most 23,484 bytes (`write_length`), and that for the full table (`full_length`), and at most 60 and 6 for each
-- pair that there can be (`write_six`); of a test at most 60,348 (`test_length`), and that for 64 by 64 entries with the reading -1,000,000
-- (`longest_length`).
use Prim.Native.Nat.{ℕ, zero, suc, ◌+◌, ◌-◌, ◌*◌, ◌/◌, ◌^◌, ◌≤◌}
use mathlib.Core.Path.{◌≡◌, refl, ap, subst}
use mathlib.Core.Bool.{Bool, true, ◌&&◌}
use mathlib.Core.List.{List, [], ◌∷◌, ◌++◌}
use native.Mathlib.Omega.{arith}
use native.Mathlib.Nat.{mul-le-mul_left, mul-le-mul_right, suc-mul}
use lib.Dec.{leb}
use lib.IntN.{ℤ, pos, negsuc}
use lib.ListN.{length, replicate, length-append, get_or-replicate}
use borrow.Author.Tests.{leb-true}
use Rattle.table.specs.Tables.{Legal, table_rows}
use Rattle.table.specs.declared.Gauge.{Gauge}
use Rattle.table.specs.declared.Table.{Table}
use Rattle.table.proofs.Legality.{length_rows, both}
use Rattle.recorded.specs.Tests.{listed, LegalTest}
use Rattle.recorded.specs.declared.Kind.{Kind}
use Rattle.recorded.specs.declared.Kind.TheVariants.{Pattern, Integer}
use Rattle.recorded.specs.declared.Test.{Test}
use Rattle.recorded.proofs.Legality.{small-place, full_test}
use Rattle.file_writer.specs.Writing.{decimal, digits, gauge_of, GaugeCase, row_pairs, pairs_from, pairs, pair_text, lines_of, write_file}
use Rattle.file_writer.specs.TestFiles.{reading_text, value_at, entry_text, file_of, test_file}
use Rattle.file_writer.specs.private.StoreSteps.{Suits, value_bytes}
use Rattle.file_writer.proofs.Decimals.{decimal_width}
use Rattle.file_writer.proofs.Readings.{lines_values, values_few}
use Rattle.file_writer.proofs.PairLines.{by_low, row_few}

-- the digits of the n numbers from c
widths : ℕ → ℕ → ℕ
widths zero c = 0
widths (suc n) c = length (digits c) + widths n (suc c)

widths_mono : (n m c : ℕ) → n ≤ m → widths n c ≤ widths m c
unfolding widths
widths_mono zero m c h = omega arith
widths_mono (suc n) zero c h = absurd (omega arith)
widths_mono (suc n) (suc m) c h = omega (arith, widths_mono n m (suc c) (omega arith))

pub pairs_count : (cs g : ℕ) (rs : List ℕ) → cs ≤ 64 → length (pairs_from cs g rs) ≤ 64 * length rs
unfolding pairs_from
pairs_count cs g [] h = omega arith
pairs_count cs g (r ∷ rs) h =
    omega (
      arith,
      length-append (row_pairs (gauge_of g) cs 1 r) (pairs_from cs (suc g) rs),
      row_few (gauge_of g) cs 1 r,
      pairs_count cs (suc g) rs h,
    )

row_size : (g : Gauge) (n c bits : ℕ) (ps : List GaugeCase)
    → length (lines_of pair_text (row_pairs g n c bits ++ ps)) ≤ n * (length (digits g.0) + 2) + widths n c + length (lines_of pair_text ps)
unfolding row_pairs widths
row_size g zero c bits ps = omega arith
row_size g (suc n) c bits ps =
    by_low (λ l. length (lines_of pair_text (l ++ ps)) ≤ suc n * (length (digits g.0) + 2) + widths (suc n) c + length (lines_of pair_text ps)) g n c bits
    (λ e. simp length-append (omega (arith, row_size g n (suc c) (bits / 2) ps)))
    (λ e. omega (arith, row_size g n (suc c) (bits / 2) ps))

all_widths : widths 64 1 ≡ 119
unfolding widths decimal
all_widths = refl

widths_bound : (n : ℕ) → n ≤ 64 → widths n 1 ≤ 119
widths_bound n h = omega (arith, widths_mono n 64 1 h, all_widths)

pairs_size : (cs g : ℕ) (rs : List ℕ) → cs ≤ 64 → length (lines_of pair_text (pairs_from cs g rs)) ≤ 64 * widths (length rs) g + 247 * length rs
unfolding pairs_from widths
pairs_size cs g [] h = omega arith
pairs_size cs g (r ∷ rs) h =
    omega (
      arith,
      row_size (gauge_of g) cs 1 r (pairs_from cs (suc g) rs),
      pairs_size cs (suc g) rs h,
      widths_bound cs h,
      mul-le-mul_right (length (digits g) + 2) h,
    )

pairs_bytes : (cs : ℕ) (rs : List ℕ) → cs ≤ 64 → length rs ≤ 64 → length (lines_of pair_text (pairs_from cs 1 rs)) ≤ 23424
pairs_bytes cs rs h k = omega (arith, pairs_size cs 1 rs h, widths_bound (length rs) k)

-- at most six bytes for each pair that there can be: both numbers have at most two digits
widths_two : (n c : ℕ) → n + c ≤ 100 → widths n c ≤ 2 * n
unfolding widths
widths_two zero c h = omega arith
widths_two (suc n) c h = omega (arith, decimal_width 9 1 c (omega arith), widths_two n (suc c) (omega arith))

pairs_six : (cs g : ℕ) (rs : List ℕ) → cs ≤ 64 → g + length rs ≤ 65 → length (lines_of pair_text (pairs_from cs g rs)) ≤ length rs * (6 * cs)
unfolding pairs_from
pairs_six cs g [] h k = omega arith
pairs_six cs g (r ∷ rs) h k =
    omega (
      arith,
      row_size (gauge_of g) cs 1 r (pairs_from cs (suc g) rs),
      pairs_six cs (suc g) rs h (omega arith),
      widths_two cs 1 (omega arith),
      mul-le-mul_left cs two,
      suc-mul (length rs) (6 * cs),
    )
  where
    two : length (digits g) + 2 ≤ 4
    two = omega (arith, decimal_width 9 1 g (omega arith))

-- the lines of either kind
pub lines_bytes : (kind : Kind) (vs : List ℤ) → Suits kind vs → (cs : ℕ) (rs : List ℕ) → cs ≤ 64 → length rs ≤ 64
    → length (lines_of (entry_text kind vs) (pairs_from cs 1 rs)) ≤ 60288
lines_bytes Pattern vs f cs rs h k = omega (arith, pairs_bytes cs rs h k)
lines_bytes Integer vs f cs rs h k =
    omega (
      arith,
      lines_values vs (pairs_from cs 1 rs),
      values_few vs (f.small refl) (pairs_from cs 1 rs),
      pairs_count cs 1 rs h,
      pairs_bytes cs rs h k,
    )

-- the file beside its lines
module _ (kind : Kind) (vs : List ℤ) (t : Table) where
  pub file_parts : length (file_of kind vs t)
      ≡ 52 + length (digits t.gauges) + length (digits t.cases) + length (digits (length (pairs t))) + length (lines_of (entry_text kind vs) (pairs t))
  file_parts = go kind
    where
      go : (k : Kind) → length (file_of k vs t)
          ≡ 52 + length (digits t.gauges) + length (digits t.cases) + length (digits (length (pairs t))) + length (lines_of (entry_text k vs) (pairs t))
      go Pattern = simp length-append (omega arith)
      go Integer = simp length-append (omega arith)

module _ (t : Table) (ok : Legal t) where
  pub count_bound : length (pairs t) ≤ 4096
  count_bound = omega (arith, pairs_count t.cases 1 (table_rows t) ok.cases_high, length_rows t ok, ok.gauges_high)

  -- the size line and the banner take at most 60 bytes
  beside : (kind : Kind) (vs : List ℤ) → length (file_of kind vs t) ≤ 60 + length (lines_of (entry_text kind vs) (pairs t))
  beside kind vs =
      omega (
        arith,
        file_parts kind vs t,
        decimal_width 9 1 t.gauges (omega (arith, ok.gauges_high)),
        decimal_width 9 1 t.cases (omega (arith, ok.cases_high)),
        decimal_width 9 3 (length (pairs t)) (omega (arith, count_bound)),
      )

  rows_few : length (table_rows t) ≤ 64
  rows_few = omega (arith, length_rows t ok, ok.gauges_high)

  -- the file of a table is never longer than that of the full table
  pub write_length : length (write_file t) ≤ 23484
  unfolding write_file
  write_length = omega (arith, beside Pattern [], pairs_bytes t.cases (table_rows t) ok.cases_high rows_few)

  pub write_six : length (write_file t) ≤ 60 + t.gauges * (6 * t.cases)
  unfolding write_file
  write_six =
      let few : 1 + length (table_rows t) ≤ 65 = omega (arith, rows_few) in
      let lines : length (lines_of pair_text (pairs t)) ≤ t.gauges * (6 * t.cases) =
      subst (λ (n : ℕ). length (lines_of pair_text (pairs t)) ≤ n * (6 * t.cases)) (length_rows t ok)
      (pairs_six t.cases 1 (table_rows t) ok.cases_high few) in
      omega (arith, beside Pattern [], lines)

  file_bound : (kind : Kind) (vs : List ℤ) → Suits kind vs → length (file_of kind vs t) ≤ 60348
  file_bound kind vs f = omega (arith, beside kind vs, lines_bytes kind vs f t.cases (table_rows t) ok.cases_high rows_few)

-- the readings of a legal test are as its kind asks
pub test_readings : (t : Test) → LegalTest t → Suits t.kind t.readings
test_readings t ok = record { size = λ e. ok.readings_length; small = λ e. small-place t ok }

-- the file of a test has at most 60,348 bytes, so the reader takes it ("a file at most 65,536")
pub test_length : (t : Test) → LegalTest t → length (test_file t) ≤ 60348
unfolding test_file
test_length t ok = file_bound (listed t) ok.entries_legal t.kind t.readings (test_readings t ok)

-- the table in which every gauge responds under every case, 64 by 64
abbrev pub full_table : Table
full_table = record { gauges = 64; cases = 64; rows = replicate 64 (2 ^ 64 - 1) }

pub full_length : length (write_file full_table) ≡ 23484
unfolding write_file pairs_from row_pairs decimal
full_length = refl

-- ---- 64 by 64, every reading -1,000,000: 60,348 bytes
in_places : List GaugeCase → Bool
in_places [] = true
in_places (p ∷ ps) = (leb p.gauge.0 64 && leb p.case.0 64) && in_places ps

full_places : (length (pairs full_table) ≡ 4096) × (in_places (pairs full_table) ≡ true)
unfolding pairs_from row_pairs in_places
full_places = (refl, refl)

least_width : length (reading_text (negsuc 999999)) ≡ 8
unfolding reading_text decimal
least_width = refl

full_values : (ps : List GaugeCase) → in_places ps ≡ true → value_bytes (replicate 4096 (negsuc 999999)) ps ≡ 9 * length ps
unfolding in_places
full_values [] e = omega arith
full_values (p ∷ ps) e =
    let (a, b) = both (leb p.gauge.0 64 && leb p.case.0 64) (in_places ps) e in
    let (c, d) = both (leb p.gauge.0 64) (leb p.case.0 64) a in
    let g : p.gauge.0 ≤ 64 = leb-true p.gauge.0 64 c in
    let k : p.case.0 ≤ 64 = leb-true p.case.0 64 d in
    let v : value_at (replicate 4096 (negsuc 999999)) p ≡ negsuc 999999 =
    get_or-replicate 4096 ((p.gauge.0 - 1) * 64 + (p.case.0 - 1)) (negsuc 999999) (pos 0) (omega arith) in
    omega (arith, full_values ps b, ap (λ (x : ℤ). length (reading_text x)) v, least_width)

pub longest_length : length (test_file (full_test (negsuc 999999))) ≡ 60348
unfolding test_file write_file
longest_length =
    let vs : List ℤ = replicate 4096 (negsuc 999999) in
    omega (
      arith,
      file_parts Integer vs full_table,
      file_parts Pattern vs full_table,
      full_length,
      lines_values vs (pairs full_table),
      full_values (pairs full_table) full_places.1,
      full_places.0,
    )
