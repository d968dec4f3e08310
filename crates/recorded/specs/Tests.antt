-- Recorded tests (02, R-5): the legal test, the checks of a test handed in, and the table that a cutoff gives. Rows
-- and places of a row are counted from 0 (gauge g is row g - 1, case c is place c - 1 of it), and the reading of
-- place k of row i is at place i * 64 + k. That the checks decide `LegalTest`, and which pairs the table has, is
-- proved in proofs/Legality.antt and proofs/Reaching.antt.
use Rattle.std.specs.Prelude.{◌≡◌, Bool, ◌&&◌, ◌||◌, cond, List, ℕ, zero, suc, ◌+◌, ◌-◌, ◌*◌, ◌/◌, ◌%◌, ◌^◌, ◌≤◌, eqb, leb, ℤ, pos, nat_abs, length, get_or, replicate}
use Rattle.sets.specs.Sets.{bit}
use Rattle.sets.specs.Lists.{tabulate, all_below}
use Rattle.table.specs.Pairs.{row, Has}
use Rattle.table.specs.Tables.{Legal, in_range, table_refusal, no_rows, blank_table}
use Rattle.table.specs.declared.Table.{Table}
use Rattle.refusals.specs.Answers.{Answer, answer}
use Rattle.recorded.specs.declared.Kind.{Kind}
use Rattle.recorded.specs.declared.Kind.TheVariants.{Pattern, Integer}
use Rattle.recorded.specs.declared.Test.{Test}

-- the reading at a place
abbrev pub reading : List ℤ → ℕ → ℤ
reading vs p = get_or vs p (pos 0)

-- the reading of gauge g under case c
abbrev pub reading_of : Test → ℕ → ℕ → ℤ
reading_of t g c = reading t.readings ((g - 1) * 64 + (c - 1))

-- the entries of a test, as a table
abbrev pub listed : Test → Table
listed t = record { gauges = t.gauges; cases = t.cases; rows = t.entries }

-- a legal test: its entries within G by L, a non-zero reading only at an entry of an integer test, and every reading
-- "in -1,000,000..1,000,000"
pub record LegalTest (t : Test) : Type 0 where
  pub entries_legal : Legal (listed t)
  pub readings_length : length t.readings ≡ 4096
  pub at_entry : (g c : ℕ) → 1 ≤ g → g ≤ 64 → 1 ≤ c → c ≤ 64 → ¬ (reading_of t g c ≡ pos 0) → (t.kind ≡ Integer) × Has t.entries g c
  pub small : (g c : ℕ) → 1 ≤ g → g ≤ 64 → 1 ≤ c → c ≤ 64 → nat_abs (reading_of t g c) ≤ 1000000

-- no readings, and the test beside a refusal
abbrev pub no_readings : List ℤ
no_readings = replicate 4096 (pos 0)

abbrev pub blank_test : Test
blank_test = record { kind = Pattern; gauges = 0; cases = 0; entries = no_rows; readings = no_readings }

-- the entries that may have a reading: none in a pattern test
abbrev pub readable : Kind → List ℕ → List ℕ
readable Pattern entries = no_rows
readable Integer entries = entries

-- a reading v at place k of row r: zero, or at an entry
unfoldable pub place_fits : ℕ → ℕ → ℤ → Bool
place_fits r k v = eqb (nat_abs v) 0 || bit r k

unfoldable pub fits_at : List ℕ → List ℤ → ℕ → Bool
fits_at rows vs p = place_fits (row rows (p / 64)) (p % 64) (reading vs p)

-- "in -1,000,000..1,000,000"
unfoldable pub within_at : List ℤ → ℕ → Bool
within_at vs p = leb (nat_abs (reading vs p)) 1000000

-- 02's number for a test handed in, or 0: "A test handed in gets 10, then 11 for an entry outside G by L or a
-- non-zero reading at an absent entry or in a pattern test, then 20"
unfoldable pub test_refusal : Test → ℕ
test_refusal t =
    cond (eqb (table_refusal (listed t)) 0)
    (cond (all_below (fits_at (readable t.kind t.entries) t.readings) 4096)
    (cond (all_below (within_at t.readings) 4096) 0 20)
    11)
    (table_refusal (listed t))

-- the set of the places below n at which f holds
unfoldable pub set_below : (ℕ → Bool) → ℕ → ℕ
set_below f zero = 0
set_below f (suc n) = set_below f n + cond (f n) (2 ^ n) 0

-- "a pair exists when the magnitude of v reaches it": v at an entry, place k of row r
unfoldable pub reaches : ℕ → ℕ → ℕ → ℤ → Bool
reaches cutoff r k v = bit r k && leb cutoff (nat_abs v)

-- row i of the table at a cutoff, made of row r of the entries, and all rows; every entry of a pattern test is a pair
unfoldable pub row_at : ℕ → ℕ → List ℤ → ℕ → ℕ
row_at cutoff r vs i = set_below (λ k. reaches cutoff r k (reading vs (i * 64 + k))) 64

abbrev pub rows_at : Kind → List ℕ → List ℤ → ℕ → List ℕ
rows_at Pattern entries vs cutoff = entries
rows_at Integer entries vs cutoff = tabulate (λ i. row_at cutoff (row entries i) vs i) 64

-- the table of a test at a cutoff
abbrev pub table_of : Test → ℕ → Table
table_of t cutoff = record { gauges = t.gauges; cases = t.cases; rows = rows_at t.kind t.entries t.readings cutoff }

-- "a cutoff from 1 to 1,000,000"; "21: cutoff out of range, before all else": n is the number of what comes after it
abbrev pub cutoff_first : ℕ → ℕ → ℕ
cutoff_first cutoff n = cond (in_range 1000000 cutoff) n 21

unfoldable pub cutoff_refusal : Test → ℕ → ℕ
cutoff_refusal t cutoff = cutoff_first cutoff (test_refusal t)

-- the table at a cutoff, or the refusal and the blank table
abbrev pub table_at : Test → ℕ → Answer Table
table_at t cutoff = answer (cutoff_refusal t cutoff) (table_of t cutoff) blank_table
