-- The cutoff's number before all else: out of range, and in range.
-- Pins, which nothing else cites: `cutoff_out`, `cutoff_in`.
use mathlib.Core.Path.{◌≡◌, sym, ◌∙◌}
use mathlib.Core.Bool.{Bool, true, false}
use Prim.Native.Nat.{ℕ}
use Rattle.table.specs.Tables.{in_range}
use Rattle.recorded.specs.Tests.{test_refusal, cutoff_refusal}
use Rattle.recorded.specs.declared.Test.{Test}

pub cutoff_out : (t : Test) (cutoff : ℕ) (u : Bool) → u ≡ in_range 1000000 cutoff → u ≡ false → 21 ≡ cutoff_refusal t cutoff
unfolding cutoff_refusal
cutoff_out t cutoff u e n = rw (sym e ∙ n)

pub cutoff_in : (t : Test) (cutoff : ℕ) (u : Bool) (m : ℕ) → u ≡ in_range 1000000 cutoff → u ≡ true → m ≡ test_refusal t → m ≡ cutoff_refusal t cutoff
unfolding cutoff_refusal
cutoff_in t cutoff u m e y d = rw (sym e ∙ y) d
