-- A step of the generator can be reversed and never gives zero. Shifts are additive for `^`, so that mixing a shift in twice is
-- mixing the double shift in (`twice`), and a shift by 64 places or more mixes nothing in.
use mathlib.Core.Path.{◌≡◌, refl, sym, ap, ap₂, ◌∙◌}
use Prim.Native.Nat.{ℕ, zero, suc, ◌+◌, ◌*◌, ◌/◌, ◌%◌, ◌^◌, ◌<◌, ◌≤◌}
use native.Mathlib.Nat.{add_comm, add-zero, mul_assoc, mul-mod_left, mul-add-mod_self_right, add-mul, mul_comm, div-add-mod', div-eq_of_lt}
use native.Mathlib.Nat.{mod-lt, not-suc-le-zero, le_of_suc-le-suc, zero-lt-suc}
use native.Mathlib.Omega.{arith}
use lib.Arith.{bin_ind, digits_mod}
use lib.Pow.{pow-add, pow_pos, shr-shr, pow_mono, shr_le}
use lib.Bits.{bit_xor, differ, xor_step, xor_shr, xor_mod, xor_comm, xor_self, xor_zero_r, xor_block, xor_lt}
use Rattle.samples.specs.Xorshift.{shifted_left, right, step, unstep, after, StepClaims}

-- ---- `^` is associative
digit_assoc : (x y z : ℕ) → x < 2 → y < 2 → z < 2 → differ (differ x y) z ≡ differ x (differ y z)
digit_assoc zero y z hx hy hz = refl
digit_assoc (suc zero) zero z hx hy hz = refl
digit_assoc (suc zero) (suc zero) zero hx hy hz = refl
digit_assoc (suc zero) (suc zero) (suc zero) hx hy hz = refl
digit_assoc (suc zero) (suc zero) (suc (suc z)) hx hy hz = absurd (not-suc-le-zero (le_of_suc-le-suc (le_of_suc-le-suc hz)))
digit_assoc (suc zero) (suc (suc y)) z hx hy hz = absurd (not-suc-le-zero (le_of_suc-le-suc (le_of_suc-le-suc hy)))
digit_assoc (suc (suc x)) y z hx hy hz = absurd (not-suc-le-zero (le_of_suc-le-suc (le_of_suc-le-suc hx)))

digit_lt : (x y : ℕ) → x < 2 → y < 2 → differ x y < 2
digit_lt zero y hx hy = hy
digit_lt (suc zero) zero hx hy = omega arith
digit_lt (suc zero) (suc y) hx hy = omega arith
digit_lt (suc (suc x)) y hx hy = absurd (not-suc-le-zero (le_of_suc-le-suc (le_of_suc-le-suc hx)))

lt2 : (a : ℕ) → a % 2 < 2
lt2 a = mod-lt a (zero-lt-suc 1)

xor_low : (a b : ℕ) → bit_xor a b % 2 ≡ differ (a % 2) (b % 2)
xor_low a b = ap (λ (x : ℕ). x % 2) (xor_step a b) ∙ digits_mod (bit_xor (a / 2) (b / 2)) (digit_lt (a % 2) (b % 2) (lt2 a) (lt2 b))

xor_assoc : (a b c : ℕ) → bit_xor (bit_xor a b) c ≡ bit_xor a (bit_xor b c)
xor_assoc = bin_ind (λ (n : ℕ). (b c : ℕ) → bit_xor (bit_xor n b) c ≡ bit_xor n (bit_xor b c)) (λ b c. refl) (λ n ih b c.
    xor_step (bit_xor n b) c
    ∙ ap₂ (λ (x y : ℕ). x * 2 + y)
    (ap (λ (x : ℕ). bit_xor x (c / 2)) (xor_shr n b 1) ∙ ih (b / 2) (c / 2) ∙ ap (bit_xor (n / 2)) (sym (xor_shr b c 1)))
    (ap (λ (x : ℕ). differ x (c % 2)) (xor_low n b) ∙ digit_assoc (n % 2) (b % 2) (c % 2) (lt2 n) (lt2 b) (lt2 c)
    ∙ ap (differ (n % 2)) (sym (xor_low b c)))
    ∙ sym (xor_step n (bit_xor b c)))

-- the two in the middle change places
exchange : (a b c d : ℕ) → bit_xor (bit_xor a b) (bit_xor c d) ≡ bit_xor (bit_xor a c) (bit_xor b d)
exchange a b c d =
    xor_assoc a b (bit_xor c d)
    ∙ ap (bit_xor a) (sym (xor_assoc b c d) ∙ ap (λ (x : ℕ). bit_xor x d) (xor_comm b c) ∙ xor_assoc c b d)
    ∙ sym (xor_assoc a c (bit_xor b d))

-- ---- mixing in a shift, of any shifts that are additive and add up
module _
    (S : ℕ → ℕ → ℕ)
    (additive : (k a b : ℕ) → S k (bit_xor a b) ≡ bit_xor (S k a) (S k b))
    (add-up : (j k x : ℕ) → S j (S k x) ≡ S (k + j) x)
  where
    mixed : (j k x : ℕ) → bit_xor (bit_xor x (S k x)) (S j (bit_xor x (S k x))) ≡ bit_xor (bit_xor x (S k x)) (bit_xor (S j x) (S (k + j) x))
    mixed j k x = ap (bit_xor (bit_xor x (S k x))) (additive j x (S k x) ∙ ap (bit_xor (S j x)) (add-up j k x))

    mix-twice : (k x : ℕ) → bit_xor (bit_xor x (S k x)) (S k (bit_xor x (S k x))) ≡ bit_xor x (S (k + k) x)
    mix-twice k x =
        mixed k k x ∙ xor_assoc x (S k x) (bit_xor (S k x) (S (k + k) x))
        ∙ ap (bit_xor x) (sym (xor_assoc (S k x) (S k x) (S (k + k) x)) ∙ ap (λ (y : ℕ). bit_xor y (S (k + k) x)) (xor_self (S k x)))

    mix-swap : (j k x : ℕ) → bit_xor (bit_xor x (S k x)) (S j (bit_xor x (S k x))) ≡ bit_xor (bit_xor x (S j x)) (S k (bit_xor x (S j x)))
    mix-swap j k x =
        mixed j k x ∙ exchange x (S k x) (S j x) (S (k + j) x)
        ∙ ap (λ (y : ℕ). bit_xor (bit_xor x (S j x)) (bit_xor (S k x) (S y x))) (add_comm k j)
        ∙ sym (mixed k j x)

-- ---- the two shifts
shl : ℕ → ℕ → ℕ
shl k x = x * 2 ^ k % 2 ^ 64

shr : ℕ → ℕ → ℕ
shr k x = x / 2 ^ k

shift_xor : (k a b : ℕ) → bit_xor a b * 2 ^ k ≡ bit_xor (a * 2 ^ k) (b * 2 ^ k)
shift_xor k a b =
    sym (add-zero (bit_xor a b * 2 ^ k)) ∙ sym (xor_block k a b 0 0 (pow_pos k) (pow_pos k))
    ∙ ap₂ bit_xor (add-zero (a * 2 ^ k)) (add-zero (b * 2 ^ k))

shl_additive : (k a b : ℕ) → shl k (bit_xor a b) ≡ bit_xor (shl k a) (shl k b)
unfolding shl
shl_additive k a b = ap (λ (x : ℕ). x % 2 ^ 64) (shift_xor k a b) ∙ xor_mod (a * 2 ^ k) (b * 2 ^ k) 64

mod_mul_mod : (a b m : ℕ) → a % m * b % m ≡ a * b % m
mod_mul_mod a b m =
    sym (mul-add-mod_self_right (a / m * b) m (a % m * b))
    ∙ ap (λ (x : ℕ). x % m)
    (ap (λ (x : ℕ). x + a % m * b) (mul_assoc (a / m) b m ∙ ap (λ (x : ℕ). a / m * x) (mul_comm b m) ∙ sym (mul_assoc (a / m) m b))
    ∙ sym (add-mul (a / m * m) (a % m) b) ∙ ap (λ (x : ℕ). x * b) (div-add-mod' a m))

shl_add_up : (j k x : ℕ) → shl j (shl k x) ≡ shl (k + j) x
unfolding shl
shl_add_up j k x =
    mod_mul_mod (x * 2 ^ k) (2 ^ j) (2 ^ 64)
    ∙ ap (λ (y : ℕ). y % 2 ^ 64) (mul_assoc x (2 ^ k) (2 ^ j) ∙ ap (λ (y : ℕ). x * y) (sym (pow-add 2 k j)))

shr_additive : (k a b : ℕ) → shr k (bit_xor a b) ≡ bit_xor (shr k a) (shr k b)
unfolding shr
shr_additive k a b = xor_shr a b k

shr_add_up : (j k x : ℕ) → shr j (shr k x) ≡ shr (k + j) x
unfolding shr
shr_add_up j k x = shr-shr x k j

-- ---- so for `shifted_left` and `right`
left_twice : (k x : ℕ) → shifted_left k (shifted_left k x) ≡ shifted_left (k + k) x
unfolding shifted_left shl
left_twice = mix-twice shl shl_additive shl_add_up

left_swap : (j k x : ℕ) → shifted_left j (shifted_left k x) ≡ shifted_left k (shifted_left j x)
unfolding shifted_left shl
left_swap = mix-swap shl shl_additive shl_add_up

right_twice : (k x : ℕ) → right k (right k x) ≡ right (k + k) x
unfolding right shr
right_twice = mix-twice shr shr_additive shr_add_up

right_swap : (j k x : ℕ) → right j (right k x) ≡ right k (right j x)
unfolding right shr
right_swap = mix-swap shr shr_additive shr_add_up

left_none : (k x : ℕ) → shifted_left (k + 64) x ≡ x
unfolding shifted_left
left_none k x =
    ap (bit_xor x)
    (ap (λ (y : ℕ). x * y % 2 ^ 64) (pow-add 2 k 64) ∙ ap (λ (y : ℕ). y % 2 ^ 64) (sym (mul_assoc x (2 ^ k) (2 ^ 64)))
    ∙ mul-mod_left (x * 2 ^ k) (2 ^ 64))
    ∙ xor_zero_r x

right_none : (k x : ℕ) → x < 2 ^ 64 → 64 ≤ k → right k x ≡ x
unfolding right
right_none k x h l = ap (bit_xor x) (div-eq_of_lt (omega (arith, pow_mono {i = 64} {j = k} l))) ∙ xor_zero_r x

left_lt : (k x : ℕ) → x < 2 ^ 64 → shifted_left k x < 2 ^ 64
unfolding shifted_left
left_lt k x h = xor_lt 64 x (x * 2 ^ k % 2 ^ 64) h (mod-lt (x * 2 ^ k) (pow_pos 64))

right_lt : (k x : ℕ) → x < 2 ^ 64 → right k x < 2 ^ 64
unfolding right
right_lt k x h = xor_lt 64 x (x / 2 ^ k) h (omega (arith, shr_le x k))

-- ---- the parts of a step, undone before and behind
left13_behind : (x : ℕ) → shifted_left 13 (shifted_left 13 (shifted_left 26 (shifted_left 52 x))) ≡ x
left13_behind x = left_twice 13 (shifted_left 26 (shifted_left 52 x)) ∙ left_twice 26 (shifted_left 52 x) ∙ left_twice 52 x ∙ left_none 40 x

left13_before : (x : ℕ) → shifted_left 13 (shifted_left 26 (shifted_left 52 (shifted_left 13 x))) ≡ x
left13_before x = ap (λ (y : ℕ). shifted_left 13 (shifted_left 26 y)) (left_swap 52 13 x) ∙ ap (shifted_left 13) (left_swap 26 13 (shifted_left 52 x))
    ∙ left13_behind x

left17_behind : (x : ℕ) → shifted_left 17 (shifted_left 17 (shifted_left 34 x)) ≡ x
left17_behind x = left_twice 17 (shifted_left 34 x) ∙ left_twice 34 x ∙ left_none 4 x

left17_before : (x : ℕ) → shifted_left 17 (shifted_left 34 (shifted_left 17 x)) ≡ x
left17_before x = ap (shifted_left 17) (left_swap 34 17 x) ∙ left17_behind x

right7_behind : (x : ℕ) → x < 2 ^ 64 → right 7 (right 7 (right 14 (right 28 (right 56 x)))) ≡ x
right7_behind x h =
    right_twice 7 (right 14 (right 28 (right 56 x))) ∙ right_twice 14 (right 28 (right 56 x)) ∙ right_twice 28 (right 56 x) ∙ right_twice 56 x
    ∙ right_none 112 x h (omega arith)

right7_before : (x : ℕ) → x < 2 ^ 64 → right 7 (right 14 (right 28 (right 56 (right 7 x)))) ≡ x
right7_before x h =
    ap (λ (y : ℕ). right 7 (right 14 (right 28 y))) (right_swap 56 7 x) ∙ ap (λ (y : ℕ). right 7 (right 14 y)) (right_swap 28 7 (right 56 x))
    ∙ ap (right 7) (right_swap 14 7 (right 28 (right 56 x))) ∙ right7_behind x h

-- ---- the claims
pub unstep-step : (x : ℕ) → x < 2 ^ 64 → unstep (step x) ≡ x
unfolding step unstep
unstep-step x h =
    ap (λ (y : ℕ). shifted_left 13 (shifted_left 26 (shifted_left 52 (right 7 (right 14 (right 28 (right 56 y))))))) (left17_before (right 7 (shifted_left 13 x)))
    ∙ ap (λ (y : ℕ). shifted_left 13 (shifted_left 26 (shifted_left 52 y))) (right7_before (shifted_left 13 x) (left_lt 13 x h))
    ∙ left13_before x

pub step-unstep : (x : ℕ) → x < 2 ^ 64 → step (unstep x) ≡ x
unfolding step unstep
step-unstep x h =
    ap (λ (y : ℕ). shifted_left 17 (right 7 y)) (left13_behind (right 7 (right 14 (right 28 (right 56 (shifted_left 17 (shifted_left 34 x)))))))
    ∙ ap (shifted_left 17) (right7_behind (shifted_left 17 (shifted_left 34 x)) (left_lt 17 (shifted_left 34 x) (left_lt 34 x h)))
    ∙ left17_behind x

step_lt : (x : ℕ) → x < 2 ^ 64 → step x < 2 ^ 64
unfolding step
step_lt x h = left_lt 17 (right 7 (shifted_left 13 x)) (right_lt 7 (shifted_left 13 x) (left_lt 13 x h))

pub unstep_lt : (x : ℕ) → x < 2 ^ 64 → unstep x < 2 ^ 64
unfolding unstep
unstep_lt x h =
    left_lt 13 _ (left_lt 26 _ (left_lt 52 _ (right_lt 7 _ (right_lt 14 _ (right_lt 28 _ (right_lt 56 _ (left_lt 17 _ (left_lt 34 x h))))))))

unstep_zero : unstep 0 ≡ 0
unfolding unstep shifted_left right
unstep_zero = refl

-- "the state never becomes zero"
pub step_nonzero : (x : ℕ) → x < 2 ^ 64 → step x ≡ 0 → x ≡ 0
step_nonzero x h e = sym (unstep-step x h) ∙ ap unstep e ∙ unstep_zero

pub after_nonzero : (n x : ℕ) → x < 2 ^ 64 → after n x ≡ 0 → x ≡ 0
unfolding after
after_nonzero zero x h e = e
after_nonzero (suc n) x h e = step_nonzero x h (after_nonzero n (step x) (step_lt x h) e)

-- the first states from 1
pub first_states : (after 1 1 ≡ 1082269761) × (after 2 1 ≡ 1152992998833853505)
unfolding after step shifted_left right
first_states = (refl, refl)

pub step_claims : StepClaims
step_claims = record { undone = unstep-step; redone = step-unstep; nonzero = λ n x h z e. z (after_nonzero n x h e) }
