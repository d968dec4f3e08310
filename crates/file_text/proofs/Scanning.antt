-- The fields of a line from a place on, as the code tests its bytes. In order: one byte of the line, by its kind; what the bytes of a
-- turn make of the line from there on; and the bound of a number of at most nine digits.
use Prim.Native.Nat.{ℕ, zero, suc, ◌+◌, ◌-◌, ◌*◌, ◌^◌, ◌≤◌, ◌<◌}
use mathlib.Core.Path.{◌≡◌, refl, ap, sym, ◌∙◌}
use mathlib.Core.List.{List, [], ◌∷◌}
use mathlib.Core.Option.{Option, some, none}
use mathlib.Core.Bool.{Bool, true, false, ◌&&◌, cond}
use native.Mathlib.Omega.{arith}
use native.Mathlib.Numerals.{add-one}
use native.Mathlib.Nat.{zero-add, suc-add}
use lib.ListN.{length, get_or, drop, drop_of_length-le}
use lib.Seq.{drop-cons, drop-length}
use lib.Dec.{ltb, leb}
use borrow.Author.Tests.{lt-ltb, leb-true}
use Rattle.basics.proofs.Clash.{clash}
use Rattle.file_text.specs.Fields.{scan, close, is_blank, is_digit, digit_of}
use Rattle.file_text.specs.private.ScanSteps.{rest}

scan_blank : (k v b : ℕ) (s : List ℕ) → is_blank b ≡ true → scan k v (b ∷ s) ≡ close k v (scan 0 0 s)
unfolding scan
scan_blank k v b s h = rw (h, scan)

scan_step : (k v b : ℕ) (s : List ℕ) → is_blank b ≡ false → is_digit b ≡ true → k < 9 → scan k v (b ∷ s) ≡ scan (suc k) (v * 10 + (b - 48)) s
unfolding scan
scan_step k v b s h d l = rw (h, d, lt-ltb k 9 l, scan)

scan_bad : (k v b : ℕ) (s : List ℕ) → is_blank b ≡ false → (is_digit b && ltb k 9) ≡ false → scan k v (b ∷ s) ≡ none
unfolding scan
scan_bad k v b s h d = rw (h, d, scan)

-- a byte with a digit's value is that digit
pub digit_is : (b d : ℕ) → d ≡ digit_of b → d ≤ 9 → (is_digit b ≡ true) × (d ≡ b - 48)
digit_is b d e h = go (is_digit b) refl e
  where
    go : (t : Bool) → is_digit b ≡ t → d ≡ cond t (b - 48) 10 → (is_digit b ≡ true) × (d ≡ b - 48)
    go true p q = (p, q)
    go false p q = absurd (omega arith)

pub digit_not : (b d : ℕ) → d ≡ digit_of b → 9 < d → is_digit b ≡ false
digit_not b d e h = go (is_digit b) refl e
  where
    go : (t : Bool) → is_digit b ≡ t → d ≡ cond t (b - 48) 10 → is_digit b ≡ false
    go true p q = absurd (omega (arith, both (leb 48 b) refl p))
      where
        both : (t : Bool) → leb 48 b ≡ t → (t && leb b 57) ≡ true → b ≤ 57
        both true x y = leb-true b 57 y
        both false x y = clash cc
    go false p q = p

long_not : (t : Bool) → (t && ltb 9 9) ≡ false
long_not true = refl
long_not false = refl

-- a line from a place on; S is what the loop started with
module _ (l : List ℕ) (i k v : ℕ) (S : Option (List ℕ)) (q : scan k v (drop i l) ≡ S) where
  scan_end_at : length l ≤ i → S ≡ close k v (some [])
  unfolding scan
  scan_end_at h = sym q ∙ rw (drop_of_length-le l h)

  module _ (h : i < length l) (t : Bool) (e : t ≡ is_blank (get_or l i 0)) where
    scan-blank-at : t ≡ true → S ≡ close k v (rest l (i + 1))
    scan-blank-at p = sym q ∙ rw (add-one i, drop-cons l i 0 h) (scan_blank k v (get_or l i 0) (drop (suc i) l) (sym e ∙ p))

    module _ (p : t ≡ false) where
      pub scan-digit-at : (d : ℕ) → d ≡ digit_of (get_or l i 0) → d ≤ 9 → k < 9 → scan (k + 1) (v * 10 + d) (drop (i + 1) l) ≡ S
      scan-digit-at d x y z =
          let w : (is_digit (get_or l i 0) ≡ true) × (d ≡ get_or l i 0 - 48) = digit_is (get_or l i 0) d x y in
          rw (add-one i, add-one k, w.1) (sym (scan_step k v (get_or l i 0) (drop (suc i) l) (sym e ∙ p) w.0 z) ∙ rw (← drop-cons l i 0 h) q)

      pub scan-bad-at : (d : ℕ) → d ≡ digit_of (get_or l i 0) → 9 < d → S ≡ none
      scan-bad-at d x y =
          sym q ∙ rw (drop-cons l i 0 h) (scan_bad k v (get_or l i 0) (drop (suc i) l) (sym e ∙ p) (rw (digit_not (get_or l i 0) d x y)))

      pub scan-long-at : k ≡ 9 → S ≡ none
      scan-long-at x =
          sym q ∙ rw (drop-cons l i 0 h) (scan_bad k v (get_or l i 0) (drop (suc i) l) (sym e ∙ p) (rw x (long_not (is_digit (get_or l i 0)))))

close_pos : (k v : ℕ) (r : Option (List ℕ)) → 0 < k → close k v r ≡ close 1 v r
close_pos zero v r h = absurd (omega arith)
close_pos (suc k) v none h = refl
close_pos (suc k) v (some fs) h = refl

digits_small : (k v : ℕ) → k ≤ 9 → v < 10 ^ k → v < 10 ^ 9
digits_small k v h l = go (9 - k) (omega arith)
  where
    grow : (n j : ℕ) → v < 10 ^ j → v < 10 ^ (n + j)
    grow zero j x = rw (zero-add j) x
    grow (suc n) j x = rw (suc-add n j) (omega (arith, grow n j x))

    go : (n : ℕ) → n + k ≡ 9 → v < 10 ^ 9
    go n e = rw e at (grow n k l)

pub digits_more : (k v d : ℕ) → v < 10 ^ k → d ≤ 9 → v * 10 + d < 10 ^ (k + 1)
digits_more k v d h l = rw (add-one k) (omega arith)

no_digits : (k v : ℕ) → k ≤ 0 → v < 10 ^ k → v ≡ 0
no_digits zero v h l = omega arith
no_digits (suc k) v h l = absurd (omega arith)

module _ (l : List ℕ) (i k v : ℕ) (S : Option (List ℕ)) (q : scan k v (drop i l) ≡ S) where
  -- the line ends after a field, or after blanks alone
  pub last_at : length l ≤ i → 0 < k → S ≡ close 1 v (rest l (length l))
  unfolding scan
  last_at h p = scan_end_at l i k v S q h ∙ close_pos k v (some []) p ∙ rw (drop-length l)

  pub none_at : length l ≤ i → k ≤ 0 → S ≡ some []
  none_at h p = scan_end_at l i k v S q h ∙ ap (λ (n : ℕ). close n v (some [])) k0
    where
      k0 : k ≡ 0
      k0 = omega arith

  module _ (h : i < length l) (t : Bool) (e : t ≡ is_blank (get_or l i 0)) (p : t ≡ true) where
    pub number_at : 0 < k → S ≡ close 1 v (rest l (i + 1))
    number_at z = scan-blank-at l i k v S q h t e p ∙ close_pos k v (rest l (i + 1)) z

    pub skip_at : k ≤ 0 → v < 10 ^ k → scan k v (drop (i + 1) l) ≡ S
    skip_at z w =
        let a : k ≡ 0 = omega arith in
        let b : v ≡ 0 = no_digits k v z w in
        rw (a, b) (sym (rw a at (scan-blank-at l i k v S q h t e p)))
