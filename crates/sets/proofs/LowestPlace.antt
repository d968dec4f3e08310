-- The lowest place of a set, as `trailing_zeros` finds it, and the set without it, as `a & (a - 1)` gives it.
use mathlib.Core.Path.{◌≡◌, refl, sym, ap, ◌∙◌, subst}
use mathlib.Core.Logic.{◌⊎◌, inl, inr}
use mathlib.Core.Bool.{Bool, true, false, not, ◌&&◌}
use Prim.Native.Nat.{ℕ, zero, suc, ◌-◌, ◌/◌, ◌%◌, ◌^◌, ◌<◌}
use native.Mathlib.Nat.{pow-suc}
use native.Mathlib.Decide.{ℕ_discrete, dec_lt}
use native.Mathlib.Omega.{arith}
use lib.Dec.{eqb}
use lib.Bits.{and_le_r}
use borrow.Author.Tests.{eq-eqb, ne_eqb}
use lib.Count.{count_trailing_zeros, trailing_of_zero, under}
use Rattle.std.specs.Int.{w64}
use Rattle.std.proofs.lemmas.Nat.Bits.{bit_at-trailing_zeros}
use Rattle.sets.specs.Sets.{bit, meet}
use Rattle.sets.specs.First.{First, Rest}
use Rattle.sets.proofs.Digits.{lt2, meet_half, meet_low, bit_zero, bit-suc, digit}
use Rattle.sets.proofs.Order.{sub_refl}

half_below : (d a : ℕ) → a < 2 ^ suc d → a / 2 < 2 ^ d
half_below d a l = omega (arith, subst (λ (x : ℕ). a < x) (pow-suc 2 d) l)

pub eqb-suc : (k t : ℕ) → eqb (suc k) (suc t) ≡ eqb k t
eqb-suc k t = by (ℕ_discrete k t)
  where
    by : Dec (k ≡ t) → eqb (suc k) (suc t) ≡ eqb k t
    by (yes e) = eq-eqb (suc k) (suc t) (ap suc e) ∙ sym (eq-eqb k t e)
    by (no e) = ne_eqb (suc k) (suc t) (λ h. e (omega arith)) ∙ sym (ne_eqb k t e)

-- a & (a - 1) is a without its lowest place
bit_rest : (d a : ℕ) → a < 2 ^ d → ¬ (a ≡ 0) → (k : ℕ) → bit (meet a (a - 1)) k ≡ (bit a k && not (eqb k (count_trailing_zeros d a)))
unfolding count_trailing_zeros
bit_rest zero a l ne k = absurd (ne (omega arith))
bit_rest (suc d) a l ne k = go (digit (a % 2) (lt2 a)) (bit_rest d (a / 2) (half_below d a l)) k
  where
    and-true : (x : Bool) → x ≡ (x && true)
    and-true true = refl
    and-true false = refl

    go : (a % 2 ≡ 0) ⊎ (a % 2 ≡ 1) → (¬ (a / 2 ≡ 0) → (k : ℕ) → bit (meet (a / 2) (a / 2 - 1)) k ≡ (bit (a / 2) k && not (eqb k (count_trailing_zeros d (a / 2)))))
        → (k : ℕ) → bit (meet a (a - 1)) k ≡ (bit a k && not (eqb k (under (a % 2) (count_trailing_zeros d (a / 2)))))
    go (inl e) f zero =
        let h : (a - 1) % 2 ≡ 1 = odd (λ z. ne z) in
        rw (bit_zero (meet a (a - 1)), bit_zero a, meet_low a (a - 1), e, h) refl
      where
        odd : ¬ (a ≡ 0) → (a - 1) % 2 ≡ 1
        odd n = by (dec_lt 0 a)
          where
            by : Dec (0 < a) → (a - 1) % 2 ≡ 1
            by (yes y) = omega arith
            by (no y) = absurd (n (omega arith))
    go (inl e) f (suc k) =
        let h : (a - 1) / 2 ≡ a / 2 - 1 = omega arith in
        rw (bit-suc (meet a (a - 1)) k, meet_half a (a - 1), h, bit-suc a k, e)
        (f (λ z. ne (omega arith)) k ∙ ap (λ (x : Bool). bit (a / 2) k && not x) (sym (eqb-suc k (count_trailing_zeros d (a / 2)))))
    go (inr e) f zero =
        let h : (a - 1) % 2 ≡ 0 = omega arith in
        rw (bit_zero (meet a (a - 1)), bit_zero a, meet_low a (a - 1), e, h) refl
    go (inr e) f (suc k) =
        let h : (a - 1) / 2 ≡ a / 2 = omega arith in
        rw (bit-suc (meet a (a - 1)) k, meet_half a (a - 1), h, bit-suc a k, e)
        (ap (λ (x : ℕ). bit x k) (sub_refl (a / 2)) ∙ and-true (bit (a / 2) k)
        ∙ ap (λ (x : Bool). bit (a / 2) k && not x) (sym (ne_eqb (suc k) 0 (λ z. omega arith))))

pub first_of_lem : (a : ℕ) → a < 2 ^ 64 → First a (count_trailing_zeros 64 a)
unfolding bit
first_of_lem a l = record {
  counted = refl;
  some = λ ne.
      let (below, here, none) = bit_at-trailing_zeros w64 a (omega arith) l in
      record { below = below; here = rw here refl; none = λ k h. rw (none k h) refl };
  none = λ e. ap (count_trailing_zeros 64) e ∙ trailing_of_zero 64;
}

pub rest_of_lem : (a : ℕ) → a < 2 ^ 64 → ¬ (a ≡ 0) → Rest a (meet a (a - 1))
unfolding meet
rest_of_lem a l ne = record { bits = bit_rest 64 a l ne; fewer = λ d. less (dec_lt 0 a) }
  where
    less : Dec (0 < a) → meet a (a - 1) < a
    less (yes y) = omega (arith, and_le_r a (a - 1))
    less (no y) = absurd (ne (omega arith))
