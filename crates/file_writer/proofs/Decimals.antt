-- Decimal numbers as the writer writes them: by their cases, their lengths, and `digits` without its count.
use Prim.Native.Nat.{ℕ, zero, suc, ◌+◌, ◌/◌, ◌%◌, ◌^◌, ◌≤◌, ◌<◌}
use mathlib.Core.Path.{◌≡◌, refl, ap, sym, ◌∙◌}
use mathlib.Core.List.{List, [], ◌∷◌, ◌++◌}
use mathlib.Core.Bool.{Bool, true, false}
use mathlib.Core.Logic.{◌⊎◌, inl, inr, ⊎_elim}
use native.Mathlib.Omega.{arith}
use lib.ListN.{length, length-append}
use lib.Dec.{ltb}
use borrow.Author.Tests.{lt-ltb, le-ltb, ltb-true, ltb-false}
use Rattle.file_writer.specs.Writing.{decimal, digits}
use Rattle.file_writer.specs.private.StoreSteps.{Width}

-- a decimal number by its cases
pub decimal_short : (k n : ℕ) → n < 10 → decimal (suc k) n ≡ (48 + n) ∷ []
unfolding decimal
decimal_short k n h = rw (lt-ltb n 10 h, decimal)

pub decimal_long : (k n : ℕ) → 10 ≤ n → decimal (suc k) n ≡ decimal k (n / 10) ++ (48 + n % 10) ∷ []
unfolding decimal
decimal_long k n h = rw (le-ltb n 10 h, decimal)

pub lt_or_le : (a b : ℕ) → (a < b) ⊎ (b ≤ a)
lt_or_le a b = go (ltb a b) refl
  where
    go : (t : Bool) → ltb a b ≡ t → (a < b) ⊎ (b ≤ a)
    go true e = inl (ltb-true a b e)
    go false e = inr (ltb-false a b e)

pub decimal-length : (k n : ℕ) → length (decimal k n) ≤ k
unfolding decimal
decimal-length zero n = omega arith
decimal-length (suc k) n =
    ⊎_elim (λ h. rw (decimal_short k n h) (omega arith))
    (λ h. rw (decimal_long k n h) (simp length-append (omega (arith, decimal-length k (n / 10)))))
    (lt_or_le n 10)

pub decimal_some : (k n : ℕ) → 1 ≤ length (decimal (suc k) n)
decimal_some k n =
    ⊎_elim (λ h. rw (decimal_short k n h) (omega arith)) (λ h. rw (decimal_long k n h) (simp length-append (omega arith))) (lt_or_le n 10)

-- a number below 10 ^ (j + 1) has at most j + 1 digits
pub decimal_width : (k j n : ℕ) → n < 10 ^ suc j → length (decimal k n) ≤ suc j
unfolding decimal
decimal_width zero j n h = omega arith
decimal_width (suc k) zero n h = rw (decimal_short k n (omega arith)) (omega arith)
decimal_width (suc k) (suc j) n h =
    ⊎_elim (λ l. rw (decimal_short k n l) (omega arith))
    (λ l. rw (decimal_long k n l) (simp length-append (omega (arith, decimal_width k j (n / 10) (omega arith)))))
    (lt_or_le n 10)

decimal_fuel : (k n : ℕ) → n < 10 ^ suc k → decimal (suc k) n ≡ decimal (suc (suc k)) n
decimal_fuel zero n h = decimal_short 0 n (omega arith) ∙ sym (decimal_short 1 n (omega arith))
decimal_fuel (suc k) n h =
    ⊎_elim (λ l. decimal_short (suc k) n l ∙ sym (decimal_short (suc (suc k)) n l))
    (λ l.
    decimal_long (suc k) n l
    ∙ ap (λ (d : List ℕ). d ++ (48 + n % 10) ∷ []) (decimal_fuel k (n / 10) (omega arith))
    ∙ sym (decimal_long (suc (suc k)) n l))
    (lt_or_le n 10)

pub digits_short : (n : ℕ) → n < 10 → digits n ≡ (48 + n) ∷ []
digits_short n h = decimal_short 8 n h

pub digits_long : (n : ℕ) → 10 ≤ n → n < 10 ^ 9 → digits n ≡ digits (n / 10) ++ (48 + n % 10) ∷ []
digits_long n l h = decimal_long 8 n l ∙ ap (λ (d : List ℕ). d ++ (48 + n % 10) ∷ []) (decimal_fuel 7 (n / 10) (omega arith))

pub digits_long_length : (n : ℕ) → 10 ≤ n → n < 10 ^ 9 → length (digits n) ≡ suc (length (digits (n / 10)))
digits_long_length n l h = ap length (digits_long n l h) ∙ length-append (digits (n / 10)) ((48 + n % 10) ∷ []) ∙ omega arith

pub width_one : (n : ℕ) → n < 10 → 1 ≡ length (digits n)
width_one n h = sym (ap length (digits_short n h))

pub width_two : (n : ℕ) → 10 ≤ n → n < 100 → 2 ≡ length (digits n)
width_two n l h = omega (arith, digits_long_length n l (omega arith), width_one (n / 10) (omega arith))

-- as the code counts them
pub width_short : (n : ℕ) → n < 10 → Width n 1
width_short n h = record { is = width_one n h; small = omega arith }

pub width_long : (n r : ℕ) → 10 ≤ n → n < 10 ^ 9 → Width (n / 10) r → Width n (r + 1)
width_long n r l h w =
    let e : r + 1 ≡ length (digits n) = omega (arith, digits_long_length n l h, w.is) in
    record { is = e; small = omega (arith, e, decimal-length 9 n) }
