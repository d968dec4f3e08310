-- Marsaglia's xorshift64 (02, R-13: "with left 13, right 7, left 17 on 64-bit numbers").
--
-- In order: a step, its inverse, the state after some steps; the two claims of R-13 about them, which proofs/Reversal.antt proves.
use Rattle.std.specs.Prelude.{◌≡◌, ◌≢◌, ℕ, zero, suc, ◌*◌, ◌/◌, ◌%◌, ◌^◌, ◌<◌}
use Rattle.std.specs.Int.Bits.{bit_xor}

-- x ^ (x << k) and x ^ (x >> k) on 64 bits
unfoldable pub shifted_left : ℕ → ℕ → ℕ
shifted_left k x = bit_xor x (x * 2 ^ k % 2 ^ 64)

unfoldable pub right : ℕ → ℕ → ℕ
right k x = bit_xor x (x / 2 ^ k)

unfoldable pub step : ℕ → ℕ
step x = shifted_left 17 (right 7 (shifted_left 13 x))

-- the inverse: `shifted_left k` is undone by itself and by `shifted_left` at twice k, four times k, and so on up to 64 bits; `right` likewise
unfoldable pub unstep : ℕ → ℕ
unstep x = shifted_left 13 (shifted_left 26 (shifted_left 52 (right 7 (right 14 (right 28 (right 56 (shifted_left 17 (shifted_left 34 x))))))))

-- the state after n steps
unfoldable pub after : ℕ → ℕ → ℕ
after zero x = x
after (suc n) x = after n (step x)

-- ---- "Show that the state never becomes zero and that a step can be reversed", on 64-bit numbers
pub record StepClaims : Type 0 where
  pub undone : (x : ℕ) → x < 2 ^ 64 → unstep (step x) ≡ x
  pub redone : (x : ℕ) → x < 2 ^ 64 → step (unstep x) ≡ x
  pub nonzero : (n x : ℕ) → x < 2 ^ 64 → x ≢ 0 → after n x ≢ 0
