-- Which pairs a sample table has: "Step once before each place, by gauge, then case" (02). The state after (g - 1) L + c steps decides the
-- pair g:c (`sample_has`), and there is no pair outside the shape. So density 0 gives no pair, and 256 every pair. With `sample_legal`
-- these are the claims of a sample table (`sample_claims`).
use mathlib.Core.Path.{◌≡◌, sym, ap, ◌∙◌, subst}
use mathlib.Core.Logic.{◌↔◌}
use mathlib.Core.Bool.{Bool, true, false, cond}
use mathlib.Core.List.{List}
use Prim.Native.Nat.{ℕ, zero, suc, ◌+◌, ◌-◌, ◌*◌, ◌/◌, ◌%◌, ◌≤◌, ◌<◌}
use native.Mathlib.Nat.{zero-add, suc-add, add_comm, suc-mul, zero-mul, add-mul-mod_self_right, not-suc-le-zero, le_of_suc-le-suc, mod-lt, zero-lt-suc}
use native.Mathlib.Decide.{dec_le}
use native.Mathlib.Omega.{arith}
use lib.Dec.{T, ltb, eqb}
use lib.Arith.{digits_div}
use borrow.Author.Tests.{ltb-true, lt-ltb}
use Rattle.sets.specs.Sets.{bit}
use Rattle.sets.proofs.Digits.{bit_zero, bit-suc}
use Rattle.sets.proofs.OnePlace.{none_in}
use Rattle.table.specs.Pairs.{row, Has}
use Rattle.table.specs.Tables.{padded}
use Rattle.table.proofs.Padding.{pad_get_or}
use Rattle.table.proofs.Places.{row_past, has_bit}
use Rattle.samples.specs.Xorshift.{step, after}
use Rattle.samples.specs.Samples.{sample_row, sample_rows, SampleClaims}
use Rattle.samples.proofs.Rows.{rows_length}
use Rattle.samples.proofs.Refusing.{sample_legal}

after_add : (a b x : ℕ) → after (a + b) x ≡ after b (after a x)
unfolding after
after_add zero b x = ap (λ (n : ℕ). after n x) (zero-add b)
after_add (suc a) b x = ap (λ (n : ℕ). after n x) (suc-add a b) ∙ after_add a b (step x)

-- a number by its lowest digit
low_digit : (b : Bool) (r : ℕ) → eqb ((cond b 1 0 + r * 2) % 2) 1 ≡ b
low_digit true r = ap (λ (x : ℕ). eqb x 1) (add-mul-mod_self_right 1 r 2)
low_digit false r = ap (λ (x : ℕ). eqb x 1) (add-mul-mod_self_right 0 r 2)

high_digits : (b : Bool) (r : ℕ) → (cond b 1 0 + r * 2) / 2 ≡ r
high_digits true r = ap (λ (x : ℕ). x / 2) (add_comm 1 (r * 2)) ∙ digits_div r {m = 2} {r = 1} (omega arith)
high_digits false r = ap (λ (x : ℕ). x / 2) (add_comm 0 (r * 2)) ∙ digits_div r {m = 2} {r = 0} (omega arith)

row_bit : (density n x k : ℕ) → k < n → bit (sample_row density n x) k ≡ ltb (after (suc k) x % 256) density
unfolding sample_row after
row_bit density zero x k h = absurd (not-suc-le-zero h)
row_bit density (suc n) x zero h = bit_zero (sample_row density (suc n) x) ∙ low_digit (ltb (step x % 256) density) (sample_row density n (step x))
row_bit density (suc n) x (suc k) h =
    bit-suc (sample_row density (suc n) x) k ∙ ap (λ (r : ℕ). bit r k) (high_digits (ltb (step x % 256) density) (sample_row density n (step x)))
    ∙ row_bit density n (step x) k (le_of_suc-le-suc h)

row_at_lem : (density l g x i : ℕ) → i < g → row (sample_rows density l g x) i ≡ sample_row density l (after (i * l) x)
unfolding sample_rows after
row_at_lem density l zero x i h = absurd (not-suc-le-zero h)
row_at_lem density l (suc g) x zero h = ap (λ (n : ℕ). sample_row density l (after n x)) (sym (zero-mul l))
row_at_lem density l (suc g) x (suc i) h =
    row_at_lem density l g (after l x) i (le_of_suc-le-suc h)
    ∙ ap (sample_row density l) (sym (after_add l (i * l) x) ∙ ap (λ (n : ℕ). after n x) (add_comm l (i * l) ∙ sym (suc-mul i l)))

-- ---- every place
row_past_cases : (density n x k : ℕ) → n ≤ k → bit (sample_row density n x) k ≡ false
unfolding sample_row
row_past_cases density zero x k h = none_in k
row_past_cases density (suc n) x zero h = absurd (not-suc-le-zero h)
row_past_cases density (suc n) x (suc k) h =
    bit-suc (sample_row density (suc n) x) k ∙ ap (λ (r : ℕ). bit r k) (high_digits (ltb (step x % 256) density) (sample_row density n (step x)))
    ∙ row_past_cases density n (step x) k (le_of_suc-le-suc h)

module _ (g l start density : ℕ) where
  abbrev rows : List ℕ
  rows = padded (sample_rows density l g start)

  -- the place i, k of the table, both from 0
  sample_bit : (i k : ℕ) → i < g → k < l → bit (row rows i) k ≡ ltb (after (i * l + suc k) start % 256) density
  sample_bit i k h m =
      ap (λ (r : ℕ). bit r k) (pad_get_or (sample_rows density l g start) i ∙ row_at_lem density l g start i h) ∙ row_bit density l (after (i * l) start) k m
      ∙ ap (λ (s : ℕ). ltb (s % 256) density) (sym (after_add (i * l) (suc k) start))

  past_gauges : (i k : ℕ) → g ≤ i → bit (row rows i) k ≡ false
  past_gauges i k h =
      ap (λ (r : ℕ). bit r k)
      (pad_get_or (sample_rows density l g start) i ∙ row_past (sample_rows density l g start) i (omega (arith, rows_length density l g start)))
      ∙ none_in k

  past_cases : (i k : ℕ) → i < g → l ≤ k → bit (row rows i) k ≡ false
  past_cases i k h m =
      ap (λ (r : ℕ). bit r k) (pad_get_or (sample_rows density l g start) i ∙ row_at_lem density l g start i h)
      ∙ row_past_cases density l (after (i * l) start) k m

  -- the pair i:c, in numbers from 1: the state after (i - 1) L + c steps decides it
  pub sample_has : (i c : ℕ) → 1 ≤ i → i ≤ g → 1 ≤ c → c ≤ l → Has rows i c ↔ (after ((i - 1) * l + c) start % 256 < density)
  sample_has i c a b d e = (λ h. ltb-true state density (says.1 h), λ h. says.0 (lt-ltb state density h))
    where
      state : ℕ
      state = after ((i - 1) * l + c) start % 256

      at : suc (c - 1) ≡ c
      at = omega arith

      says : (ltb state density ≡ true) ↔ Has rows i c
      says =
          has_bit rows i c (ltb state density) a d
          (sym (sample_bit (i - 1) (c - 1) (omega arith) (omega arith) ∙ ap (λ (n : ℕ). ltb (after ((i - 1) * l + n) start % 256) density) at))

  -- and there is no other pair
  pub sample_only : (i c : ℕ) → Has rows i c → (i ≤ g) × (c ≤ l)
  sample_only i c h = go (dec_le i g) (dec_le c l)
    where
      never : bit (row rows (i - 1)) (c - 1) ≡ false → ⊥
      never e = subst T e h.set

      go : Dec (i ≤ g) → Dec (c ≤ l) → (i ≤ g) × (c ≤ l)
      go (yes a) (yes b) = (a, b)
      go (yes a) (no b) = absurd (never (past_cases (i - 1) (c - 1) (omega (arith, h.gauge)) (omega arith)))
      go (no a) d = absurd (never (past_gauges (i - 1) (c - 1) (omega arith)))

-- ---- the least and the greatest density
pub density_none : (g l start i c : ℕ) → Has (padded (sample_rows 0 l g start)) i c → ⊥
density_none g l start i c h =
    let o : (i ≤ g) × (c ≤ l) = sample_only g l start 0 i c h in
    not-suc-le-zero ((sample_has g l start 0 i c h.gauge o.0 h.case o.1).0 h)

pub density_every : (g l start i c : ℕ) → 1 ≤ i → i ≤ g → 1 ≤ c → c ≤ l → Has (padded (sample_rows 256 l g start)) i c
density_every g l start i c a b d e = (sample_has g l start 256 i c a b d e).1 (mod-lt (after ((i - 1) * l + c) start) (zero-lt-suc 255))

-- ---- together
pub sample_claims : (g l start density : ℕ) → SampleClaims g l start density
sample_claims g l start density = record {
  legal = sample_legal g l start density;
  place = sample_has g l start density;
  shape = sample_only g l start density;
  none = density_none g l start;
  every = density_every g l start;
}
