-- Readings as they are written. In order: a reading by its sign, and how long it is; the line of an entry by the kind of file; the bytes
-- of the readings, added to those of the pairs' lines (`lines_values`); one turn of the loop that counts them (`Valuing`).
use Prim.Native.Nat.{ℕ, suc, ◌+◌, ◌-◌, ◌*◌, ◌≤◌}
use mathlib.Core.Path.{◌≡◌, ap, sym, ◌∙◌, subst}
use mathlib.Core.List.{List, [], ◌∷◌, ◌++◌, append_assoc}
use mathlib.Core.Bool.{true, false}
use native.Mathlib.Omega.{arith}
use lib.Dec.{leb-suc-zero}
use lib.IntN.{ℤ, pos, negsuc, nat_abs}
use lib.Signed.{lt_z}
use lib.Count.{count_trailing_zeros}
use lib.ListN.{length, length-append}
use Rattle.basics.proofs.Clash.{clash}
use Rattle.sets.specs.First.{Lowest, Rest}
use Rattle.table.specs.declared.Gauge.{Gauge}
use Rattle.table.specs.declared.Case.{Case}
use Rattle.recorded.specs.Tests.{reading}
use Rattle.recorded.specs.declared.Kind.{Kind}
use Rattle.recorded.specs.declared.Kind.TheVariants.{Integer}
use Rattle.file_writer.specs.Writing.{digits, case_of, GaugeCase, row_pairs, pair_text, lines_of}
use Rattle.file_writer.specs.TestFiles.{reading_text, value_at, entry_text}
use Rattle.file_writer.specs.private.StoreSteps.{pair_at, pair_bytes, entry_bytes, reading_bytes, IsTotals, value_bytes}
use Rattle.file_writer.specs.declared.Totals.{Totals}
use Rattle.file_writer.proofs.Decimals.{decimal_width, decimal-length}
use Rattle.file_writer.proofs.PairLines.{pairs_first, row_few}

-- ---- a reading by its sign: x is what the code compares, and m the magnitude
module _ (v x : ℤ) (s : x ≡ v) (m : ℕ) (e : m ≡ nat_abs v) where
  pub text_minus : lt_z x (pos 0) ≡ true → reading_text v ≡ 45 ∷ digits m
  unfolding reading_text
  text_minus t = go v e (ap (λ (z : ℤ). lt_z z (pos 0)) (sym s) ∙ t)
    where
      go : (w : ℤ) → m ≡ nat_abs w → lt_z w (pos 0) ≡ true → reading_text w ≡ 45 ∷ digits m
      go (pos n) d u = clash (cc (leb-suc-zero n))
      go (negsuc n) d u = ap (λ (k : ℕ). 45 ∷ digits k) (sym d)

  pub text_plain : lt_z x (pos 0) ≡ false → reading_text v ≡ digits m
  unfolding reading_text
  text_plain t = go v e (ap (λ (z : ℤ). lt_z z (pos 0)) (sym s) ∙ t)
    where
      go : (w : ℤ) → m ≡ nat_abs w → lt_z w (pos 0) ≡ false → reading_text w ≡ digits m
      go (pos n) d u = ap digits (sym d)
      go (negsuc n) d u = clash cc

pub reading_short : (v : ℤ) → nat_abs v ≤ 1000000 → length (reading_text v) ≤ 8
unfolding reading_text
reading_short (pos n) h = omega (arith, decimal_width 9 6 n (omega arith))
reading_short (negsuc n) h = omega (arith, decimal_width 9 6 (suc n) (omega arith))

-- ---- the line of an entry
pub integer_line : (kind : Kind) (vs : List ℤ) (g : Gauge) (c : Case) → kind ≡ Integer
    → entry_bytes kind vs g c ≡ pair_bytes g c 32 ++ reading_bytes (value_at vs (pair_at g c))
integer_line kind vs g c e = ap (λ (k : Kind). entry_bytes k vs g c) e ∙ read
  where
    read : entry_bytes Integer vs g c ≡ pair_bytes g c 32 ++ reading_bytes (value_at vs (pair_at g c))
    read = simp append_assoc

-- ---- the bytes of the readings
pub lines_values : (vs : List ℤ) (ps : List GaugeCase) → length (lines_of (entry_text Integer vs) ps) ≡ length (lines_of pair_text ps) + value_bytes vs ps
lines_values vs [] = omega arith
lines_values vs (p ∷ ps) = simp length-append (omega (arith, lines_values vs ps))

pub values_few : (vs : List ℤ) → ((p : ℕ) → nat_abs (reading vs p) ≤ 1000000) → (ps : List GaugeCase) → value_bytes vs ps ≤ 9 * length ps
values_few vs f [] = omega arith
values_few vs f (p ∷ ps) = omega (arith, values_few vs f ps, reading_short (value_at vs p) (f ((p.gauge.0 - 1) * 64 + (p.case.0 - 1))))

pub lines_few : (ps : List GaugeCase) → length (lines_of pair_text ps) ≤ 20 * length ps
lines_few [] = omega arith
lines_few (p ∷ ps) = simp length-append (omega (arith, lines_few ps, decimal-length 9 p.gauge.0, decimal-length 9 p.case.0))

-- the totals of a kind's lines, by those of the pairs
module _ (kind : Kind) (vs : List ℤ) (ps : List GaugeCase) (t : Totals) (h : IsTotals pair_text ps t) where
  pub integer_totals : (more : ℕ) → kind ≡ Integer → more ≡ value_bytes vs ps
      → IsTotals (entry_text kind vs) ps (record { count = t.count; size = t.size + more })
  integer_totals more e m =
      subst (λ (k : Kind). IsTotals (entry_text k vs) ps (record { count = t.count; size = t.size + more })) (sym e)
      (record { pairs = h.pairs; bytes = omega (arith, h.bytes, m, lines_values vs ps) })

-- counting: size bytes so far, and the readings of the pairs ps are still to come, of all the pairs total
pub record Valuing (vs : List ℤ) (total : List GaugeCase) (size : ℕ) (ps : List GaugeCase) : Type 0 where
  pub bytes : size + value_bytes vs ps ≡ value_bytes vs total

module _ (vs : List ℤ) (g : Gauge) (b k r : ℕ) (e : k ≡ count_trailing_zeros 64 b) (l : Lowest b k) (h : Rest b r) where
  pub valuing_turn : (total : List GaugeCase) (size w : ℕ) → Valuing vs total size (row_pairs g 64 1 b)
      → w ≡ length (reading_text (value_at vs (pair_at g (case_of (k + 1))))) → Valuing vs total (size + 1 + w) (row_pairs g 64 1 r)
  valuing_turn total size w v d = record { bytes = omega (arith, v.bytes, ap (value_bytes vs) (pairs_first g b k r e l h), d) }

pub valuing_small : (vs : List ℤ) → ((p : ℕ) → nat_abs (reading vs p) ≤ 1000000) → (g : Gauge) (b size : ℕ) (ps : List GaugeCase)
    → Valuing vs (row_pairs g 64 1 b) size ps → size ≤ 576
valuing_small vs f g b size ps v = omega (arith, v.bytes, values_few vs f (row_pairs g 64 1 b), row_few g 64 1 b)

pub valuing_done : {vs : List ℤ} {total : List GaugeCase} {size : ℕ} {ps : List GaugeCase} → Valuing vs total size ps → ps ≡ [] → size ≡ value_bytes vs total
valuing_done {vs} v e = omega (arith, v.bytes, ap (value_bytes vs) e)
