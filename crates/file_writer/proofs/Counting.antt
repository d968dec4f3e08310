-- How many pairs a table has and how long their lines are, counted row by row: `Counting` is the loop's invariant. One row is counted in
-- RowSizes.antt.
use Prim.Native.Nat.{ℕ, ◌+◌, ◌≤◌, ◌<◌}
use mathlib.Core.Path.{◌≡◌, ap}
use mathlib.Core.List.{List, [], ◌++◌}
use native.Mathlib.Omega.{arith}
use lib.IntN.{ℤ}
use lib.ListN.{length, get_or, take, length-append, length-take}
use Rattle.table.specs.declared.Gauge.{Gauge}
use Rattle.recorded.specs.declared.Kind.{Kind}
use Rattle.file_writer.specs.Writing.{gauge_of, GaugeCase, row_pairs, lines_of}
use Rattle.file_writer.specs.TestFiles.{entry_text}
use Rattle.file_writer.specs.private.StoreSteps.{pairs_at, IsTotals, Suits}
use Rattle.file_writer.specs.declared.Totals.{Totals}
use Rattle.file_writer.proofs.Sizes.{pairs_count, lines_bytes}
use Rattle.file_writer.proofs.PairLines.{lines_append, at_end, at_next}

-- counting: count pairs of size bytes so far, and the pairs ps are still to come, of all the pairs total
pub record Counting (text : GaugeCase → List ℕ) (total : List GaugeCase) (count size : ℕ) (ps : List GaugeCase) : Type 0 where
  pub pairs : count + length ps ≡ length total
  pub bytes : size + length (lines_of text ps) ≡ length (lines_of text total)

pub counting_row : (text : GaugeCase → List ℕ) (gs : Gauge) (rows : List ℕ) (i : ℕ) {total : List GaugeCase} {count size : ℕ} {t : Totals}
    → Counting text total count size (pairs_at gs rows i) → i < gs.0 → gs.0 ≤ length rows → IsTotals text (row_pairs (gauge_of (i + 1)) 64 1 (get_or rows i 0)) t
    → Counting text total (count + t.count) (size + t.size) (pairs_at gs rows (i + 1))
counting_row text gs rows i w h l r =
    let a : List GaugeCase = row_pairs (gauge_of (i + 1)) 64 1 (get_or rows i 0) in
    let b : List GaugeCase = pairs_at gs rows (i + 1) in
    let e : pairs_at gs rows i ≡ a ++ b = at_next gs rows i h l in
    record {
      pairs = omega (arith, w.pairs, r.pairs, ap length e, length-append a b);
      bytes = omega (
        arith,
        w.bytes,
        r.bytes,
        ap (λ (p : List GaugeCase). length (lines_of text p)) e,
        ap length (lines_append text a b),
        length-append (lines_of text a) (lines_of text b),
      );
    }

pub counting_rows_done : (text : GaugeCase → List ℕ) (gs : Gauge) (rows : List ℕ) (i : ℕ) {total : List GaugeCase} {count size : ℕ}
    → Counting text total count size (pairs_at gs rows i) → gs.0 ≤ i → IsTotals text total (record { count = count; size = size })
counting_rows_done text gs rows i w h =
    let e : pairs_at gs rows i ≡ [] = at_end gs rows i h in
    record {
      pairs = omega (arith, w.pairs, ap length e);
      bytes = omega (arith, w.bytes, ap (λ (p : List GaugeCase). length (lines_of text p)) e);
    }

-- the counts stay small
pub record Small (count size : ℕ) : Type 0 where
  pub pairs : count ≤ 4096
  pub bytes : size ≤ 60288

pub counting_small : (kind : Kind) (vs : List ℤ) → Suits kind vs → (gs : Gauge) (rows : List ℕ) {count size : ℕ} {ps : List GaugeCase}
    → Counting (entry_text kind vs) (pairs_at gs rows 0) count size ps → gs.0 ≤ 64 → Small count size
counting_small kind vs f gs rows w k =
    let n : length (take gs.0 rows) ≤ 64 = omega (arith, length-take gs.0 rows) in
    record {
      pairs = omega (arith, w.pairs, pairs_count 64 1 (take gs.0 rows) (omega arith));
      bytes = omega (arith, w.bytes, lines_bytes kind vs f 64 (take gs.0 rows) (omega arith) n);
    }
