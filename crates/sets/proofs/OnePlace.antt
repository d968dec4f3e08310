-- A set changed at one place: without it, with it, and the places from one on, as the code computes them; then that
-- each leaves one answer, and what a reader finds in them beyond that (`added_places`, `rest_falls`).
--
-- Pins, which nothing else cites: `rest_unique`, `without_unique`, `upper_unique`.
use mathlib.Core.Path.{◌≡◌, refl, sym, ap, ap₂, ◌∙◌}
use mathlib.Core.Bool.{Bool, true, false, not, ◌&&◌, ◌||◌}
use Prim.Native.Nat.{ℕ, zero, suc, ◌+◌, ◌*◌, ◌-◌, ◌/◌, ◌%◌, ◌^◌, ◌≤◌, ◌<◌, min}
use native.Mathlib.Nat.{pow-suc, div-one, mul-one, mul_assoc, mul_comm, div-mul-le_self, mod-eq_of_lt, one-mul}
use native.Mathlib.Decide.{dec_lt}
use native.Mathlib.Omega.{arith}
use lib.Dec.{eqb, leb, ltb}
use lib.Count.{count_trailing_zeros}
use lib.Pow.{shr-shr, shl_exact, pow_pos}
use borrow.Author.Tests.{eq-eqb, ne_eqb, eqb-true, le-leb, lt-leb, lt-ltb, le-ltb}
use Rattle.basics.proofs.Clash.{clash}
use Rattle.sets.specs.Sets.{bit, join, lowest}
use Rattle.sets.specs.First.{First, Rest, Without, Added, With, Upper}
use Rattle.sets.proofs.Digits.{bit_zero, bit-suc}
use Rattle.sets.proofs.Masks.{bit_past}
use Rattle.sets.proofs.Joins.{bit-join}
use Rattle.sets.proofs.Order.{eq_of_bits}
use Rattle.sets.proofs.LowestPlace.{eqb-suc}

pub none_in : (k : ℕ) → bit 0 k ≡ false
none_in zero = bit_zero 0
none_in (suc k) = bit-suc 0 k ∙ none_in k

pub bit_power : (k i : ℕ) → bit (2 ^ k) i ≡ eqb i k
bit_power zero zero = bit_zero 1 ∙ sym (eq-eqb 0 0 refl)
bit_power zero (suc i) = bit-suc 1 i ∙ none_in i ∙ sym (ne_eqb (suc i) 0 (λ e. omega arith))
bit_power (suc k) zero =
    let e : 2 ^ suc k % 2 ≡ 0 = omega (arith, pow-suc 2 k) in
    bit_zero (2 ^ suc k) ∙ ap (λ (x : ℕ). eqb x 1) e ∙ sym (ne_eqb 0 (suc k) (λ z. omega arith))
bit_power (suc k) (suc i) =
    let e : 2 ^ suc k / 2 ≡ 2 ^ k = omega (arith, pow-suc 2 k) in
    bit-suc (2 ^ suc k) i ∙ ap (λ (x : ℕ). bit x i) e ∙ bit_power k i ∙ sym (eqb-suc i k)

pub with_of : (a k : ℕ) → k < 64 → With a k (join a (2 ^ k))
with_of a k l = record {
  inside = λ d. record { bits = λ i. bit-join a (2 ^ k) i ∙ ap (λ (x : Bool). bit a i || x) (bit_power k i) };
  past = λ h. absurd (omega arith);
}

-- the empty set has no lowest place to lose
pub rest_none : (a : ℕ) → a ≡ 0 → Rest a 0
rest_none a e = record {
  bits =
      λ k. none_in k ∙ sym (ap (λ (x : ℕ). bit x k && not (eqb k (count_trailing_zeros 64 a))) e
      ∙ ap (λ (x : Bool). x && not (eqb k (count_trailing_zeros 64 a))) (none_in k));
  fewer = λ ne. absurd (ne e);
}

-- a place that is in the set: the set is that large, and taking it out changes no other digit
pub large : (a k : ℕ) → bit a k ≡ true → 2 ^ k ≤ a
large a zero h = let e : a % 2 ≡ 1 = eqb-true (a % 2) 1 (sym (bit_zero a) ∙ h) in omega arith
large a (suc k) h = omega (arith, large (a / 2) k (sym (bit-suc a k) ∙ h), pow-suc 2 k)

bit_minus : (a k i : ℕ) → bit a k ≡ true → bit (a - 2 ^ k) i ≡ (bit a i && not (eqb i k))
bit_minus a zero zero h =
    let e : a % 2 ≡ 1 = eqb-true (a % 2) 1 (sym (bit_zero a) ∙ h) in
    let d : (a - 1) % 2 ≡ 0 = omega arith in
    bit_zero (a - 1) ∙ ap (λ (x : ℕ). eqb x 1) d ∙ sym (ap (λ (x : Bool). bit a 0 && not x) (eq-eqb 0 0 refl) ∙ and-false (bit a 0))
  where
    and-false : (x : Bool) → (x && false) ≡ false
    and-false true = refl
    and-false false = refl
bit_minus a zero (suc i) h =
    let e : a % 2 ≡ 1 = eqb-true (a % 2) 1 (sym (bit_zero a) ∙ h) in
    let d : (a - 1) / 2 ≡ a / 2 = omega arith in
    bit-suc (a - 1) i ∙ ap (λ (x : ℕ). bit x i) d ∙ sym (bit-suc a i)
    ∙ sym (ap (λ (x : Bool). bit a (suc i) && not x) (ne_eqb (suc i) 0 (λ z. omega arith)) ∙ and-true (bit a (suc i)))
  where
    and-true : (x : Bool) → (x && true) ≡ x
    and-true true = refl
    and-true false = refl
bit_minus a (suc k) zero h =
    let l : 2 ^ suc k ≤ a = large a (suc k) h in
    let d : (a - 2 ^ suc k) % 2 ≡ a % 2 = omega (arith, pow-suc 2 k) in
    bit_zero (a - 2 ^ suc k) ∙ ap (λ (x : ℕ). eqb x 1) d ∙ sym (bit_zero a)
    ∙ sym (ap (λ (x : Bool). bit a 0 && not x) (ne_eqb 0 (suc k) (λ z. omega arith)) ∙ and-true (bit a 0))
  where
    and-true : (x : Bool) → (x && true) ≡ x
    and-true true = refl
    and-true false = refl
bit_minus a (suc k) (suc i) h =
    let l : 2 ^ suc k ≤ a = large a (suc k) h in
    let d : (a - 2 ^ suc k) / 2 ≡ a / 2 - 2 ^ k = omega (arith, pow-suc 2 k) in
    bit-suc (a - 2 ^ suc k) i ∙ ap (λ (x : ℕ). bit x i) d ∙ bit_minus (a / 2) k i (sym (bit-suc a k) ∙ h)
    ∙ ap₂ (λ (x y : Bool). x && not y) (sym (bit-suc a i)) (sym (eqb-suc i k))

pub without_of : (a k : ℕ) → bit a k ≡ true → Without a k (a - 2 ^ k)
without_of a k h = record { bits = λ i. bit_minus a k i h }

-- the places from k on
twice : (q k : ℕ) → q * 2 ^ suc k ≡ 2 * (q * 2 ^ k)
twice q k = ap (λ (x : ℕ). q * x) (pow-suc 2 k) ∙ sym (mul_assoc q (2 ^ k) 2) ∙ mul_comm (q * 2 ^ k) 2

leb-suc : (k i : ℕ) → leb k i ≡ leb (suc k) (suc i)
leb-suc k i = go (dec_lt i k)
  where
    go : Dec (i < k) → leb k i ≡ leb (suc k) (suc i)
    go (yes l) = lt-leb k i l ∙ sym (lt-leb (suc k) (suc i) (omega arith))
    go (no l) = le-leb k i (omega arith) ∙ sym (le-leb (suc k) (suc i) (omega arith))

bit_upper : (a k i : ℕ) → bit (a / 2 ^ k * 2 ^ k) i ≡ (leb k i && bit a i)
bit_upper a zero i =
    let e : a / 2 ^ 0 * 2 ^ 0 ≡ a = mul-one (a / 2 ^ 0) ∙ div-one a in
    ap (λ (x : ℕ). bit x i) e ∙ sym (ap (λ (x : Bool). x && bit a i) (le-leb 0 i (omega arith)))
bit_upper a (suc k) zero =
    let q : ℕ = a / 2 ^ suc k in
    let e : q * 2 ^ suc k ≡ 2 * (q * 2 ^ k) = twice q k in
    let d : (2 * (q * 2 ^ k)) % 2 ≡ 0 = omega arith in
    bit_zero (q * 2 ^ suc k) ∙ ap (λ (x : ℕ). eqb (x % 2) 1) e ∙ ap (λ (x : ℕ). eqb x 1) d
    ∙ sym (ap (λ (x : Bool). x && bit a 0) (lt-leb (suc k) 0 (omega arith)))
bit_upper a (suc k) (suc i) =
    let q : ℕ = a / 2 ^ suc k in
    let e : q * 2 ^ suc k ≡ 2 * (q * 2 ^ k) = twice q k in
    let d : (2 * (q * 2 ^ k)) / 2 ≡ q * 2 ^ k = omega arith in
    let n : 1 + k ≡ suc k = omega arith in
    let h : q ≡ a / 2 / 2 ^ k = sym (shr-shr a 1 k ∙ ap (λ (x : ℕ). a / 2 ^ x) n) in
    bit-suc (q * 2 ^ suc k) i ∙ ap (λ (x : ℕ). bit (x / 2) i) e ∙ ap (λ (x : ℕ). bit x i) d ∙ ap (λ (x : ℕ). bit (x * 2 ^ k) i) h ∙ bit_upper (a / 2) k i
    ∙ ap₂ (λ (x y : Bool). x && y) (leb-suc k i) (sym (bit-suc a i))

pub upper_of : (a k : ℕ) → Upper a k (a / 2 ^ k * 2 ^ k)
upper_of a k = record { bits = λ i. bit_upper a k i }

-- as the code has them, in 64 places
pub power : (k : ℕ) → k < 64 → (1 * 2 ^ k) % 2 ^ 64 ≡ 2 ^ k
power k l = shl_exact 1 k 64 (omega arith) (omega arith) ∙ one-mul (2 ^ k)

pub shifted : (a k : ℕ) → a < 2 ^ 64 → (a / 2 ^ k * 2 ^ k) % 2 ^ 64 ≡ a / 2 ^ k * 2 ^ k
shifted a k l = mod-eq_of_lt (omega (arith, div-mul-le_self a (2 ^ k)))

pub upper_past : (a k : ℕ) → a < 2 ^ 64 → 64 ≤ k → Upper a k 0
upper_past a k l h = record { bits = λ i. none_in i ∙ go i (dec_lt i k) }
  where
    and-false : (x : Bool) → false ≡ (x && false)
    and-false true = refl
    and-false false = refl

    go : (i : ℕ) → Dec (i < k) → false ≡ (leb k i && bit a i)
    go i (yes y) = sym (ap (λ (x : Bool). x && bit a i) (lt-leb k i y))
    go i (no y) = and-false (leb k i) ∙ sym (ap (λ (x : Bool). leb k i && x) (bit_past a i l (omega arith)))

pub in_places_lem : (a k : ℕ) → a < 2 ^ 64 → bit a k ≡ true → k < 64
in_places_lem a k l h = go (dec_lt k 64)
  where
    go : Dec (k < 64) → k < 64
    go (yes y) = y
    go (no y) = let e : true ≡ false = sym h ∙ bit_past a k l (omega arith) in clash cc

-- the lowest n places
ltb-suc : (k i : ℕ) → ltb k i ≡ ltb (suc k) (suc i)
ltb-suc k i = go (dec_lt k i)
  where
    go : Dec (k < i) → ltb k i ≡ ltb (suc k) (suc i)
    go (yes l) = lt-ltb k i l ∙ sym (lt-ltb (suc k) (suc i) (omega arith))
    go (no l) = le-ltb k i (omega arith) ∙ sym (le-ltb (suc k) (suc i) (omega arith))

bit_ones : (m i : ℕ) → bit (2 ^ m - 1) i ≡ ltb i m
bit_ones zero i = none_in i ∙ sym (le-ltb i 0 (omega arith))
bit_ones (suc m) zero =
    let d : (2 ^ suc m - 1) % 2 ≡ 1 = omega (arith, pow-suc 2 m, pow_pos m) in
    bit_zero (2 ^ suc m - 1) ∙ ap (λ (x : ℕ). eqb x 1) d ∙ sym (lt-ltb 0 (suc m) (omega arith))
bit_ones (suc m) (suc i) =
    let d : (2 ^ suc m - 1) / 2 ≡ 2 ^ m - 1 = omega (arith, pow-suc 2 m, pow_pos m) in
    bit-suc (2 ^ suc m - 1) i ∙ ap (λ (x : ℕ). bit x i) d ∙ bit_ones m i ∙ ltb-suc i m

pub bit-lowest : (n i : ℕ) → bit (lowest n) i ≡ ltb i (min n 64)
unfolding lowest
bit-lowest n i = bit_ones (min n 64) i

-- ---- each leaves one answer
pub first_unique : (a r q : ℕ) → First a r → First a q → r ≡ q
first_unique a r q f g = f.counted ∙ sym g.counted

pub rest_unique : (a r q : ℕ) → Rest a r → Rest a q → r ≡ q
rest_unique a r q f g = eq_of_bits r q (λ k. f.bits k ∙ sym (g.bits k))

pub without_unique : (a k r q : ℕ) → Without a k r → Without a k q → r ≡ q
without_unique a k r q f g = eq_of_bits r q (λ i. f.bits i ∙ sym (g.bits i))

pub with_unique : (a k r q : ℕ) → With a k r → With a k q → r ≡ q
with_unique a k r q f g = go (dec_lt k 64)
  where
    go : Dec (k < 64) → r ≡ q
    go (yes l) = eq_of_bits r q (λ i. (f.inside l).bits i ∙ sym ((g.inside l).bits i))
    go (no l) = f.past (omega arith) ∙ sym (g.past (omega arith))

pub upper_unique : (a k r q : ℕ) → Upper a k r → Upper a k q → r ≡ q
upper_unique a k r q f g = eq_of_bits r q (λ i. f.bits i ∙ sym (g.bits i))

-- ---- what a reader finds in them
-- the place put in is there, and every other place is there exactly where it was
added_places : (a k r : ℕ) → Added a k r → (bit r k ≡ true) × ((i : ℕ) → ¬ (i ≡ k) → bit r i ≡ bit a i)
added_places a k r h = (
  h.bits k ∙ ap (λ (x : Bool). bit a k || x) (eq-eqb k k refl) ∙ or-true (bit a k),
  λ i n. h.bits i ∙ ap (λ (x : Bool). bit a i || x) (ne_eqb i k n) ∙ or-false (bit a i),
)
  where
    or-true : (x : Bool) → (x || true) ≡ true
    or-true true = refl
    or-true false = refl

    or-false : (x : Bool) → (x || false) ≡ x
    or-false true = refl
    or-false false = refl

-- the lowest places of a set, taken one after the other, reach an end: what is left is a smaller number each time
pub rest_falls : (a r : ℕ) → Rest a r → ¬ (a ≡ 0) → r < a
rest_falls a r h n = h.fewer n
