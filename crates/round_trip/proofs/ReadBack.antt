-- How the reader takes the lines that the writer writes. In order: a line without CR and LF; the words of a line; a decimal number and a
-- reading; the fields of a line of two or three numbers; the line of an entry, of either kind (`entry-back`).
use Prim.Native.Nat.{ℕ, zero, suc, ◌+◌, ◌*◌, ◌/◌, ◌%◌, ◌^◌, ◌≤◌, ◌<◌}
use mathlib.Core.Path.{◌≡◌, refl, ap, sym, ◌∙◌}
use mathlib.Core.List.{List, [], ◌∷◌, ◌++◌, append_assoc, append-nil}
use mathlib.Core.Option.{some}
use mathlib.Core.Bool.{Bool, true, false}
use mathlib.Core.Logic.{⊎_elim}
use native.Mathlib.Omega.{arith}
use native.Mathlib.Numerals.{add-one}
use lib.IntN.{ℤ, pos, negsuc, nat_abs}
use lib.ListN.{length, length-append}
use borrow.Author.Tests.{lt-ltb, le-ltb, le-leb, ne_eqb}
use Rattle.recorded.specs.declared.Kind.{Kind}
use Rattle.recorded.specs.declared.Kind.TheVariants.{Pattern, Integer}
use Rattle.file_text.specs.Lines.{lines}
use Rattle.file_text.specs.Fields.{is_blank, fields}
use Rattle.file_text.specs.declared.Fields.TheVariants.{Two, Three}
use Rattle.file_entries.specs.Values.{number_from, number_of, is_minus, unsigned, signed, value_of}
use Rattle.file_entries.specs.Words.{grow, words, entry_fields}
use Rattle.file_entries.specs.declared.EntryFields.TheVariants.{Entry as fields_of}
use Rattle.file_entries.proofs.Words.{words_blank, words_solid}
use Rattle.file_entries.proofs.OldFields.{fields_are_words}
use Rattle.file_kinds.specs.Kinds.{is_comment, fields_by, entry_of, entry_line}
use Rattle.file_kinds.specs.declared.EntryLine.TheVariants.{Entry}
use Rattle.file_writer.specs.Writing.{decimal, digits, gauge_of, case_of, GaugeCase}
use Rattle.file_writer.specs.TestFiles.{reading_text, value_at, entry_text}
use Rattle.file_writer.proofs.Decimals.{lt_or_le, decimal_short, decimal_long, decimal-length, decimal_some}
use Rattle.file_writer.proofs.Readings.{reading_short}

-- ---- lines
-- every byte is above m
abbrev pub Over : ℕ → List ℕ → Type 0
Over m [] = Unit {0}
Over m (b ∷ s) = (m < b) × Over m s

over_append : (m : ℕ) (s t : List ℕ) → Over m s → Over m t → Over m (s ++ t)
over_append m [] t h k = k
over_append m (b ∷ s) t h k = (h.0, over_append m s t h.1 k)

-- bytes above CR make one line
pub line_front : (l s : List ℕ) → Over 13 l → lines (l ++ 10 ∷ s) ≡ record { text = l; size = suc (length l) } ∷ lines s
unfolding lines
line_front [] s h = refl
line_front (b ∷ l) s h =
    rw (ne_eqb b 10 (omega arith), lines) (rw (ne_eqb b 13 (omega arith), line_front l s h.1) refl)

decimal_over : (m : ℕ) → m < 48 → (k n : ℕ) → Over m (decimal k n)
unfolding decimal
decimal_over m l zero n = tt
decimal_over m l (suc k) n =
    ⊎_elim (λ h. rw (decimal_short k n h) (omega arith, tt))
    (λ h. rw (decimal_long k n h) (over_append m (decimal k (n / 10)) _ (decimal_over m l k (n / 10)) (omega arith, tt)))
    (lt_or_le n 10)

reading_over : (m : ℕ) → m < 45 → (v : ℤ) → Over m (reading_text v)
unfolding reading_text
reading_over m l (pos n) = decimal_over m (omega arith) 9 n
reading_over m l (negsuc n) = (l, decimal_over m (omega arith) 9 (suc n))

pub text_over : (a : ℕ) (s : List ℕ) → Over 13 s → Over 13 (digits a ++ 32 ∷ s)
text_over a s h = over_append 13 (digits a) (32 ∷ s) (decimal_over 13 (omega arith) 9 a) (omega arith, h)

pub two_over : (a b : ℕ) → Over 13 (digits a ++ 32 ∷ digits b)
two_over a b = text_over a (digits b) (decimal_over 13 (omega arith) 9 b)

-- ---- words: bytes above the space, at least one
solid : (b : ℕ) → 32 < b → is_blank b ≡ false
solid b h = rw (ne_eqb b 32 (λ e. omega arith), ne_eqb b 9 (λ e. omega arith))

word_front : (b : ℕ) (w s : List ℕ) → 32 < b → Over 32 w → words ((b ∷ w) ++ 32 ∷ s) ≡ (b ∷ w) ∷ words s
word_front b [] s h k = words_solid b (32 ∷ s) (solid b h) ∙ ap (λ (ws : List (List ℕ)). (b ∷ []) ∷ ws) (words_blank 32 s refl)
word_front b (d ∷ w) s h k =
    words_solid b ((d ∷ w) ++ 32 ∷ s) (solid b h)
    ∙ ap (λ (t : Bool). grow b t (words ((d ∷ w) ++ 32 ∷ s))) (solid d k.0)
    ∙ ap (grow b false) (word_front d w s k.0 k.1)

word_last : (b : ℕ) (w : List ℕ) → 32 < b → Over 32 w → words (b ∷ w) ≡ (b ∷ w) ∷ []
unfolding words
word_last b [] h k = words_solid b [] (solid b h)
word_last b (d ∷ w) h k =
    words_solid b (d ∷ w) (solid b h)
    ∙ ap (λ (t : Bool). grow b t (words (d ∷ w))) (solid d k.0)
    ∙ ap (grow b false) (word_last d w k.0 k.1)

-- the same of a text that is not empty
word_then : (w s : List ℕ) → 1 ≤ length w → Over 32 w → words (w ++ 32 ∷ s) ≡ w ∷ words s
word_then [] s l k = absurd (omega arith)
word_then (b ∷ w) s l k = word_front b w s k.0 k.1

word_end : (w : List ℕ) → 1 ≤ length w → Over 32 w → words w ≡ w ∷ []
word_end [] l k = absurd (omega arith)
word_end (b ∷ w) l k = word_last b w k.0 k.1

number_then : (n : ℕ) (s : List ℕ) → words (digits n ++ 32 ∷ s) ≡ digits n ∷ words s
number_then n s = word_then (digits n) s (decimal_some 8 n) (decimal_over 32 (omega arith) 9 n)

number_end : (n : ℕ) → words (digits n) ≡ digits n ∷ []
number_end n = word_end (digits n) (decimal_some 8 n) (decimal_over 32 (omega arith) 9 n)

reading_some : (v : ℤ) → 1 ≤ length (reading_text v)
unfolding reading_text
reading_some (pos n) = decimal_some 8 n
reading_some (negsuc n) = omega arith

-- ---- a number, and a reading
number_digit : (k v d : ℕ) (s : List ℕ) → d < 10 → k < 9 → number_from k v ((48 + d) ∷ s) ≡ number_from (suc k) (v * 10 + d) s
unfolding number_from
number_digit k v d s hd hk =
    rw (le-leb 48 (48 + d) (omega arith), le-leb (48 + d) 57 (omega arith), lt-ltb k 9 hk, number_from)
    (ap (λ (x : ℕ). number_from (suc k) (v * 10 + x) s) (omega arith))

number_decimal : (k n : ℕ) (s : List ℕ) → n < 10 ^ k → k ≤ 9 → number_from 0 0 (decimal k n ++ s) ≡ number_from (length (decimal k n)) n s
unfolding decimal
number_decimal zero n s h hk = ap (λ (x : ℕ). number_from 0 x s) (omega arith)
number_decimal (suc k) n s h hk =
    ⊎_elim (λ l. rw (decimal_short k n l) (number_digit 0 0 n s l (omega arith) ∙ ap (λ (x : ℕ). number_from 1 x s) (omega arith)))
    (λ l.
    rw (decimal_long k n l, append_assoc, number_decimal k (n / 10) ((48 + n % 10) ∷ s) (omega arith) (omega arith), length-append, add-one)
    (number_digit (length (decimal k (n / 10))) (n / 10) (n % 10) s (omega arith) (omega (arith, decimal-length k (n / 10)))
    ∙ ap (λ (x : ℕ). number_from (suc (length (decimal k (n / 10)))) x s) (omega arith)))
    (lt_or_le n 10)

number_ended : (k v : ℕ) → 1 ≤ k → number_from k v [] ≡ some v
unfolding number_from
number_ended zero v h = absurd (omega arith)
number_ended (suc k) v h = refl

number_back : (n : ℕ) → n < 10 ^ 9 → number_of (digits n) ≡ some n
number_back n h =
    ap number_of (sym (append-nil (digits n))) ∙ number_decimal 9 n [] h (omega arith) ∙ number_ended (length (digits n)) n (decimal_some 8 n)

-- the first byte of a number is no sign
no_minus : (l : List ℕ) → 1 ≤ length l → Over 47 l → is_minus l ≡ false
unfolding is_minus
no_minus [] n h = absurd (omega arith)
no_minus (b ∷ s) n h = ne_eqb b 45 (λ e. omega arith)

no_sign : (l : List ℕ) → 1 ≤ length l → Over 47 l → unsigned l ≡ l
unfolding unsigned
no_sign [] n h = absurd (omega arith)
no_sign (b ∷ s) n h = rw (ne_eqb b 43 (λ e. omega arith), ne_eqb b 45 (λ e. omega arith))

value_back : (v : ℤ) → nat_abs v < 10 ^ 9 → value_of (reading_text v) ≡ some v
unfolding reading_text is_minus unsigned
value_back (pos n) h =
    let k : 1 ≤ length (digits n) = decimal_some 8 n in
    let o : Over 47 (digits n) = decimal_over 47 (omega arith) 9 n in
    ap (λ (b : Bool). signed b (number_of (unsigned (digits n)))) (no_minus (digits n) k o)
    ∙ ap (λ (l : List ℕ). signed false (number_of l)) (no_sign (digits n) k o)
    ∙ ap (signed false) (number_back n h)
value_back (negsuc n) h = ap (signed true) (number_back (suc n) h)

-- ---- the fields of a line of two numbers, and of three
fields_two : (a b : ℕ) → a < 10 ^ 9 → b < 10 ^ 9 → fields (digits a ++ 32 ∷ digits b) ≡ Two a b
fields_two a b ha hb =
    rw (fields_are_words (digits a ++ 32 ∷ digits b), number_then a (digits b), number_end b) (rw (number_back a ha, number_back b hb) refl)

pub fields_three : (a b c : ℕ) → a < 10 ^ 9 → b < 10 ^ 9 → c < 10 ^ 9 → fields (digits a ++ 32 ∷ (digits b ++ 32 ∷ digits c)) ≡ Three a b c
fields_three a b c ha hb hc =
    rw (
      fields_are_words (digits a ++ 32 ∷ (digits b ++ 32 ∷ digits c)),
      number_then a (digits b ++ 32 ∷ digits c),
      number_then b (digits c),
      number_end c,
    )
    (rw (number_back a ha, number_back b hb, number_back c hc) refl)

pub three_length : (a b c : ℕ) → length (digits a ++ 32 ∷ (digits b ++ 32 ∷ digits c)) ≤ 29
three_length a b c = simp length-append (omega (arith, decimal-length 9 a, decimal-length 9 b, decimal-length 9 c))

-- a number is no comment
pub number_no_comment : (k n : ℕ) (s : List ℕ) → is_comment s ≡ false → is_comment (decimal k n ++ s) ≡ false
unfolding decimal
number_no_comment zero n s h = h
number_no_comment (suc k) n s h =
    ⊎_elim (λ l. rw (decimal_short k n l) (ne_eqb (48 + n) 37 (omega arith)))
    (λ l.
    rw (decimal_long k n l, append_assoc)
    (number_no_comment k (n / 10) ((48 + n % 10) ∷ s) (ne_eqb (48 + n % 10) 37 (omega arith))))
    (lt_or_le n 10)

-- ---- the line of an entry: g and c small, and the reading v of the entry, which is 0 in a file of pairs
module _ (g c : ℕ) (hg : g ≤ 64) (hc : c ≤ 64) where
  abbrev pair : GaugeCase
  pair = record { gauge = gauge_of g; case = case_of c }

  integer_text : (vs : List ℤ) → entry_text Integer vs pair ≡ digits g ++ 32 ∷ (digits c ++ 32 ∷ reading_text (value_at vs pair))
  integer_text vs = simp append_assoc

  integer_fields : (v : ℤ) → nat_abs v ≤ 1000000 → entry_fields (digits g ++ 32 ∷ (digits c ++ 32 ∷ reading_text v)) ≡ fields_of g c v
  integer_fields v h =
      rw (
        number_then g (digits c ++ 32 ∷ reading_text v),
        number_then c (reading_text v),
        word_end (reading_text v) (reading_some v) (reading_over 32 (omega arith) v),
      )
      (rw (number_back g (omega arith), number_back c (omega arith), value_back v (omega arith)) refl)

  module _ (vs : List ℤ) (small : nat_abs (value_at vs pair) ≤ 1000000) where
    pub entry-over : (kind : Kind) → Over 13 (entry_text kind vs pair)
    entry-over Pattern = two_over g c
    entry-over Integer = over_append 13 (digits g ++ 32 ∷ digits c) (32 ∷ reading_text (value_at vs pair)) (two_over g c)
        (omega arith, reading_over 13 (omega arith) (value_at vs pair))

    entry_length : (kind : Kind) → length (entry_text kind vs pair) ≤ 1024
    entry_length Pattern = simp length-append (omega (arith, decimal-length 9 g, decimal-length 9 c))
    entry_length Integer =
        simp length-append (omega (arith, decimal-length 9 g, decimal-length 9 c, reading_short (value_at vs pair) small))

    entry-fields : (kind : Kind) → (kind ≡ Pattern → value_at vs pair ≡ pos 0) → fields_by kind (entry_text kind vs pair) ≡ fields_of g c (value_at vs pair)
    unfolding fields_by
    entry-fields Pattern z = rw (fields_two g c (omega arith) (omega arith)) (ap (fields_of g c) (sym (z refl)))
    entry-fields Integer z = ap entry_fields (integer_text vs) ∙ integer_fields (value_at vs pair) small

    pub entry-back : (kind : Kind) → (kind ≡ Pattern → value_at vs pair ≡ pos 0) → (gs cs : ℕ) → 1 ≤ g → g ≤ gs → 1 ≤ c → c ≤ cs
        → entry_line kind (gauge_of gs) (case_of cs) (entry_text kind vs pair) ≡ Entry (gauge_of g) (case_of c) (value_at vs pair)
    unfolding entry_line entry_of
    entry-back kind z gs cs lg ug lc uc =
        rw (
          le-ltb 1024 (length (entry_text kind vs pair)) (entry_length kind),
          entry-fields kind z,
          le-leb 1 g lg,
          le-leb g gs ug,
          le-leb 1 c lc,
          le-leb c cs uc,
          le-leb (nat_abs (value_at vs pair)) 1000000 small,
        )
