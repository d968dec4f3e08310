-- The refusals of a sample table, each by the tests that led to it: the shape first, then the start and the density. And a table that is not
-- refused is legal (`sample_legal`).
use mathlib.Core.Path.{◌≡◌, refl, sym, ◌∙◌}
use mathlib.Core.Bool.{Bool, true, false, ◌&&◌, cond}
use mathlib.Core.List.{[]}
use Prim.Native.Nat.{ℕ, zero, suc, ◌%◌, ◌^◌, ◌≤◌, ◌<◌}
use native.Mathlib.Nat.{pow-suc}
use native.Mathlib.Omega.{arith}
use lib.Dec.{ltb}
use lib.Pow.{pow_pos}
use borrow.Author.Tests.{eq-eqb, ne_eqb, le-leb, lt-leb}
use Rattle.table.specs.Pairs.{row}
use Rattle.table.specs.Tables.{Legal, in_range}
use Rattle.table.proofs.Legality.{both, range_is}
use Rattle.table.proofs.Padding.{pad_length, pad_get_or}
use Rattle.table.proofs.Places.{row_past}
use Rattle.samples.specs.Xorshift.{step, after}
use Rattle.samples.specs.Samples.{sample_row, sample_rows, shape_refusal, input_refusal, sample_refusal, sampled}
use Rattle.samples.proofs.Rows.{rows_length}

-- ---- the shape
module _ (g l : ℕ) (t : Bool) (e : t ≡ in_range 64 g) where
  pub bad_gauges : t ≡ false → shape_refusal g l ≡ 10
  unfolding shape_refusal
  bad_gauges f = rw (sym e ∙ f)

  module _ (f : t ≡ true) (u : Bool) (d : u ≡ in_range 64 l) where
    pub bad-cases : u ≡ false → shape_refusal g l ≡ 10
    unfolding shape_refusal
    bad-cases k = rw (sym e ∙ f, sym d ∙ k)

    pub good-shape : u ≡ true → shape_refusal g l ≡ 0
    unfolding shape_refusal
    good-shape k = rw (sym e ∙ f, sym d ∙ k)

-- ---- the start and the density
module _ (start density : ℕ) where
  pub bad_start : start ≡ 0 → input_refusal start density ≡ 28
  unfolding input_refusal
  bad_start z = rw (eq-eqb start 0 z)

  module _ (z : start ≡ 0 → ⊥) where
    pub bad-density : 256 < density → input_refusal start density ≡ 28
    unfolding input_refusal
    bad-density h = rw (ne_eqb start 0 z, lt-leb density 256 h)

    pub good-input : density ≤ 256 → input_refusal start density ≡ 0
    unfolding input_refusal
    good-input h = rw (ne_eqb start 0 z, le-leb density 256 h)

-- ---- the shape comes first
module _ (g l start density : ℕ) where
  pub refused_shape : shape_refusal g l ≡ 10 → 10 ≡ sample_refusal g l start density
  unfolding sample_refusal
  refused_shape e = rw e

  pub refused_input : shape_refusal g l ≡ 0 → input_refusal start density ≡ 28 → 28 ≡ sample_refusal g l start density
  unfolding sample_refusal
  refused_input e d = rw (e, d)

  pub not_refused : shape_refusal g l ≡ 0 → input_refusal start density ≡ 0 → sample_refusal g l start density ≡ 0
  unfolding sample_refusal
  not_refused e d = rw (e, d)

  taken_shape : sample_refusal g l start density ≡ 0 → (in_range 64 g ≡ true) × (in_range 64 l ≡ true)
  unfolding sample_refusal shape_refusal
  taken_shape e = both (in_range 64 g) (in_range 64 l) (go (in_range 64 g && in_range 64 l) refl)
    where
      go : (b : Bool) → (in_range 64 g && in_range 64 l) ≡ b → (in_range 64 g && in_range 64 l) ≡ true
      go true d = d
      go false d = absurd (omega (arith, sym (rw d at e)))

-- ---- legal
row_small : (density n x : ℕ) → sample_row density n x < 2 ^ n
unfolding sample_row
row_small density zero x = omega arith
row_small density (suc n) x = omega (arith, row_small density n (step x), pow-suc 2 n, one-digit (ltb (step x % 256) density))
  where
    one-digit : (b : Bool) → cond b 1 0 < 2
    one-digit true = omega arith
    one-digit false = omega arith

rows_small : (density l g x i : ℕ) → row (sample_rows density l g x) i < 2 ^ l
unfolding sample_rows
rows_small density l zero x i = omega (arith, pow_pos l, row_past [] i (omega arith))
rows_small density l (suc g) x zero = row_small density l x
rows_small density l (suc g) x (suc i) = rows_small density l g (after l x) i

-- every table that is not refused is one that 01 takes
pub sample_legal : (g l start density : ℕ) → sample_refusal g l start density ≡ 0 → Legal (sampled g l start density)
sample_legal g l start density e = record {
  gauges_low = gauges.0;
  gauges_high = gauges.1;
  cases_low = cases.0;
  cases_high = cases.1;
  rows_length = pad_length (sample_rows density l g start) (omega (arith, rows_length density l g start, gauges.1));
  rows_bits = λ i. rw (pad_get_or (sample_rows density l g start) i) (rows_small density l g start i);
  rows_rest = λ i h. pad_get_or (sample_rows density l g start) i ∙ row_past (sample_rows density l g start) i (omega (arith, rows_length density l g start));
}
  where
    gauges : (1 ≤ g) × (g ≤ 64)
    gauges = range_is 64 g (taken_shape g l start density e).0

    cases : (1 ≤ l) × (l ≤ 64)
    cases = range_is 64 l (taken_shape g l start density e).1
