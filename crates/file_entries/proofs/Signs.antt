-- The number of a field, as the code makes it: one turn over the digits.
use mathlib.Core.Path.{◌≡◌, refl, sym, ap, ◌∙◌}
use mathlib.Core.Bool.{Bool, true, false, ◌&&◌}
use mathlib.Core.List.{List, [], ◌∷◌}
use mathlib.Core.Option.{some, none}
use Rattle.std.specs.Prelude.{Some, None}
use Prim.Native.Nat.{ℕ, zero, suc, ◌+◌, ◌-◌, ◌*◌, ◌≤◌, ◌<◌, ◌^◌}
use native.Mathlib.Omega.{arith}
use native.Mathlib.Numerals.{add-one}
use native.Mathlib.Nat.{pow-suc, pow-le-pow_right}
use native.Mathlib.Decide.{dec_lt}
use lib.Dec.{ltb}
use lib.ListN.{length, get_or, drop, drop_of_length-le}
use lib.Seq.{drop-cons}
use borrow.Author.Tests.{lt-ltb, le-ltb}
use Rattle.file_text.specs.Fields.{is_digit, digit_of}
use Rattle.file_entries.specs.Values.{number_from, number_of}
use Rattle.file_entries.specs.private.ValueSteps.{NumberIs}
use Rattle.file_text.proofs.Scanning.{digit_is, digit_not}

-- ---- the digits: k are read and v is their number
number_step : (k v b : ℕ) (s : List ℕ) → is_digit b ≡ true → k < 9 → number_from k v (b ∷ s) ≡ number_from (suc k) (v * 10 + (b - 48)) s
unfolding number_from
number_step k v b s d l = rw (d, lt-ltb k 9 l, number_from)

number_stop : (k v b : ℕ) (s : List ℕ) → (is_digit b && ltb k 9) ≡ false → number_from k v (b ∷ s) ≡ none
unfolding number_from
number_stop k v b s d = rw (d, number_from)

number_long : (k v : ℕ) (l : List ℕ) → k ≤ 9 → 9 < k + length l → number_from k v l ≡ none
number_long k v [] h n = absurd (omega arith)
number_long k v (b ∷ s) h n = go (is_digit b) refl (dec_lt k 9) (λ x y. number_long (suc k) (v * 10 + (b - 48)) s x y)
  where
    go : (d : Bool) → is_digit b ≡ d → Dec (k < 9) → (suc k ≤ 9 → 9 < suc k + length s → number_from (suc k) (v * 10 + (b - 48)) s ≡ none)
        → number_from k v (b ∷ s) ≡ none
    go true p (yes l) ih = number_step k v b s p l ∙ ih (omega arith) (omega arith)
    go true p (no l) ih = number_stop k v b s (rw (p, le-ltb k 9 (omega arith)))
    go false p d ih = number_stop k v b s (rw p)

number_end : (k v : ℕ) → 0 < k → number_from k v [] ≡ some v
unfolding number_from
number_end zero v h = absurd (omega arith)
number_end (suc k) v h = refl

pow10_mono : (a b : ℕ) → a ≤ b → 10 ^ a ≤ 10 ^ b
pow10_mono a b k = pow-le-pow_right (omega arith) k

-- i bytes of a field of at most 9 are read as digits, and v is their number
pub record Digiting (l : List ℕ) (i v : ℕ) : Type 0 where
  pub most : i ≤ length l
  pub few : length l ≤ 9
  pub some : 0 < length l
  pub small : v < 10 ^ i
  pub whole : number_from i v (drop i l) ≡ number_of l

pub number_empty : (l : List ℕ) → length l < 1 → NumberIs l None
unfolding number_from
number_empty [] h = record { says = refl; small = tt }
number_empty (b ∷ l) h = absurd (omega arith)

pub number_wide : (l : List ℕ) → 9 < length l → NumberIs l None
number_wide l h = record { says = sym (number_long 0 0 l (omega arith) (omega arith)); small = tt }

module _ (l : List ℕ) (i v d : ℕ) (m : Digiting l i v) (h : i < length l) (e : d ≡ digit_of (get_or l i 0)) where
  pub number_bad : 9 < d → NumberIs l None
  number_bad n =
      record {
        says =
            sym (sym m.whole ∙ ap (number_from i v) (drop-cons l i 0 h)
            ∙ number_stop i v (get_or l i 0) (drop (suc i) l) (rw (digit_not (get_or l i 0) d e n)));
        small = tt;
      }

  pub digits_more : d ≤ 9 → Digiting l (i + 1) (v * 10 + d)
  digits_more n =
      let w : (is_digit (get_or l i 0) ≡ true) × (d ≡ get_or l i 0 - 48) = digit_is (get_or l i 0) d e n in
      record {
        most = omega arith;
        few = m.few;
        some = m.some;
        small = rw (add-one i) (omega (arith, m.small, pow-suc 10 i));
        whole =
            ap (λ (x : ℕ). number_from x (v * 10 + d) (drop x l)) (add-one i)
            ∙ ap (λ (x : ℕ). number_from (suc i) (v * 10 + x) (drop (suc i) l)) w.1
            ∙ sym (number_step i v (get_or l i 0) (drop (suc i) l) w.0 (omega (arith, m.few)))
            ∙ ap (number_from i v) (sym (drop-cons l i 0 h)) ∙ m.whole;
      }

pub digits_done : (l : List ℕ) (i v : ℕ) → Digiting l i v → length l ≤ i → NumberIs l (Some v)
digits_done l i v m h =
    record {
      says = sym (sym m.whole ∙ ap (number_from i v) (drop_of_length-le l h) ∙ number_end i v (omega (arith, m.some)));
      small = omega (arith, m.small, pow10_mono i 9 (omega (arith, m.few, m.most)));
    }
