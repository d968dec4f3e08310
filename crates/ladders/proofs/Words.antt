-- The number of a word, as the code takes its digits. In order: one digit; the digits taken so far (`Taken`), of whose number the code keeps only that it is
-- above the greatest cutoff; what the code answers, a law for each return; zeros ahead change nothing, however many there are (`zeros_lead`), and words
-- at the bound (`million_taken`, `more_refused`, `ten_million_refused`).
use mathlib.Core.Path.{◌≡◌, refl, sym, ap, ◌∙◌}
use mathlib.Core.Bool.{Bool, true, false, cond}
use mathlib.Core.List.{List, [], ◌∷◌, ◌++◌}
use mathlib.Core.Option.{some, none}
use Prim.Native.Nat.{ℕ, zero, suc, ◌+◌, ◌-◌, ◌*◌, ◌≤◌, ◌<◌, min}
use native.Mathlib.Numerals.{add-one}
use native.Mathlib.Omega.{arith}
use lib.ListN.{length, get_or, drop, replicate, drop_of_length-le}
use lib.Seq.{drop-cons}
use borrow.Author.Tests.{le-leb, lt-leb}
use Rattle.file_text.specs.Fields.{is_digit, digit_of}
use Rattle.file_text.proofs.Scanning.{digit_is, digit_not}
use Rattle.ladders.specs.Cutoff.{number_from, up_to, cutoff_of}

-- ---- one digit
number_end : (v : ℕ) → number_from v [] ≡ some v
unfolding number_from
number_end v = refl

number_step : (v b : ℕ) (s : List ℕ) → is_digit b ≡ true → number_from v (b ∷ s) ≡ number_from (v * 10 + (b - 48)) s
unfolding number_from
number_step v b s d = rw (d, number_from)

number_stop : (v b : ℕ) (s : List ℕ) → is_digit b ≡ false → number_from v (b ∷ s) ≡ none
unfolding number_from
number_stop v b s d = rw (d, number_from)

-- ---- the first i bytes of the word are digits of the number `value`; n is that number, or 1,000,001 where it is above
pub record Taken (w : List ℕ) (i n : ℕ) : Type 0 where
  pub value : ℕ
  pub most : i ≤ length w
  pub capped : n ≡ min value 1000001
  pub whole : number_from value (drop i w) ≡ number_from 0 w

module _ (w : List ℕ) (i n d : ℕ) (m : Taken w i n) (h : i < length w) (e : d ≡ digit_of (get_or w i 0)) where
  next : number_from m.value (get_or w i 0 ∷ drop (suc i) w) ≡ number_from 0 w
  next = ap (number_from m.value) (sym (drop-cons w i 0 h)) ∙ m.whole

  pub number_bad : 9 < d → 0 ≡ cutoff_of w
  number_bad k = ap up_to (sym (number_stop m.value (get_or w i 0) (drop (suc i) w) (digit_not (get_or w i 0) d e k)) ∙ next)

  pub taken_more : d ≤ 9 → (r : ℕ) → r ≡ min (n * 10 + d) 1000001 → Taken w (i + 1) r
  taken_more k r f =
      let x : (is_digit (get_or w i 0) ≡ true) × (d ≡ get_or w i 0 - 48) = digit_is (get_or w i 0) d e k in
      record {
        value = m.value * 10 + d;
        most = omega arith;
        capped = omega (arith, f, m.capped);
        whole = rw (add-one i, x.1) (sym (number_step m.value (get_or w i 0) (drop (suc i) w) x.0) ∙ next);
      }

module _ (w : List ℕ) (i n : ℕ) (m : Taken w i n) (h : length w ≤ i) where
  ended : some m.value ≡ number_from 0 w
  ended = sym (number_end m.value) ∙ ap (number_from m.value) (sym (drop_of_length-le w h)) ∙ m.whole

  pub number_above : 1000000 < n → 0 ≡ cutoff_of w
  number_above k = sym (ap (λ (b : Bool). cond b m.value 0) (lt-leb m.value 1000000 (omega (arith, m.capped)))) ∙ ap up_to ended

  pub number_taken : n ≤ 1000000 → n ≡ cutoff_of w
  number_taken k =
      let z : n ≡ m.value = omega (arith, m.capped) in
      z ∙ sym (ap (λ (b : Bool). cond b m.value 0) (le-leb m.value 1000000 (omega arith))) ∙ ap up_to ended

-- ---- "leading zeros allowed", at any length
pub zeros_lead : (k : ℕ) (w : List ℕ) → cutoff_of (replicate k 48 ++ w) ≡ cutoff_of w
zeros_lead zero w = refl
zeros_lead (suc k) w = ap up_to (number_step 0 48 (replicate k 48 ++ w) refl) ∙ zeros_lead k w

-- ---- "from 1 to 1,000,000": the greatest, one more, and the greatest with a digit more
pub million_taken : cutoff_of (49 ∷ 48 ∷ 48 ∷ 48 ∷ 48 ∷ 48 ∷ 48 ∷ []) ≡ 1000000
unfolding number_from
million_taken = refl

pub more_refused : cutoff_of (49 ∷ 48 ∷ 48 ∷ 48 ∷ 48 ∷ 48 ∷ 49 ∷ []) ≡ 0
unfolding number_from
more_refused = refl

pub ten_million_refused : cutoff_of (49 ∷ 48 ∷ 48 ∷ 48 ∷ 48 ∷ 48 ∷ 48 ∷ 48 ∷ []) ≡ 0
unfolding number_from
ten_million_refused = refl
