-- The words of a line, as the code finds them: blanks passed over, and a run of bytes that are not blank.
-- Pins, which nothing else cites: `line_entry`.
use Prim.Native.Nat.{ℕ, suc, ◌+◌, ◌-◌, ◌≤◌, ◌<◌}
use mathlib.Core.Path.{◌≡◌, sym, ap, ◌∙◌}
use mathlib.Core.Bool.{Bool, true, false}
use mathlib.Core.List.{List, [], ◌∷◌, ◌++◌}
use native.Mathlib.Omega.{arith}
use native.Mathlib.Numerals.{add-one}
use lib.ListN.{length, get_or, take, drop, drop_of_length-le, take-append-drop, length-drop}
use lib.Seq.{drop-cons, take-suc, get_or-drop, drop-drop, length-take-le}
use Rattle.std.specs.Prelude.{None}
use Rattle.file_text.specs.Fields.{is_blank}
use Rattle.file_entries.specs.Values.{number_of, value_of}
use Rattle.file_entries.specs.Words.{at_break, grow, words, entry, entry_of, entry_fields}
use Rattle.file_entries.specs.private.WordSteps.{WordAt, Skipped, Ended, cut_of}
use Rattle.file_entries.specs.declared.Cut.{Cut}
use Rattle.file_entries.specs.declared.EntryFields.{EntryFields}

pub words_blank : (b : ℕ) (s : List ℕ) → is_blank b ≡ true → words (b ∷ s) ≡ words s
unfolding words
words_blank b s h = rw (h, words)

pub words_solid : (b : ℕ) (s : List ℕ) → is_blank b ≡ false → words (b ∷ s) ≡ grow b (at_break s) (words s)
unfolding words
words_solid b s h = rw (h, words)

-- ---- blanks passed over
pub record Skipping (l : List ℕ) (at i : ℕ) : Type 0 where
  pub most : i ≤ length l
  pub same : words (drop at l) ≡ words (drop i l)

pub skip_more : (l : List ℕ) (at i : ℕ) (t : Bool) → Skipping l at i → i < length l → t ≡ is_blank (get_or l i 0) → t ≡ true → Skipping l at (i + 1)
skip_more l at i t s h e p =
    record {
      most = omega arith;
      same =
          s.same ∙ ap words (drop-cons l i 0 h) ∙ words_blank (get_or l i 0) (drop (suc i) l) (sym e ∙ p)
          ∙ ap (λ (n : ℕ). words (drop n l)) (sym (add-one i));
    }

-- ---- a run of bytes that are not blank
abbrev Solid : List ℕ → Type 0
Solid [] = Unit {0}
Solid (b ∷ p) = (is_blank b ≡ false) × Solid p

solid_snoc : (p : List ℕ) (b : ℕ) → Solid p → is_blank b ≡ false → Solid (p ++ b ∷ [])
solid_snoc [] b h e = (e, tt)
solid_snoc (a ∷ p) b h e = (h.0, solid_snoc p b h.1 e)

words_run : (a : ℕ) (p s : List ℕ) → Solid (a ∷ p) → at_break s ≡ true → words ((a ∷ p) ++ s) ≡ (a ∷ p) ∷ words s
words_run a [] s h e = words_solid a s h.0 ∙ ap (λ (b : Bool). grow a b (words s)) e
words_run a (b ∷ p) s h e =
    words_solid a ((b ∷ p) ++ s) h.0 ∙ ap (λ (x : Bool). grow a x (words ((b ∷ p) ++ s))) h.1.0 ∙ ap (grow a false) (words_run b p s h.1 e)

run_words : (p s : List ℕ) → 0 < length p → Solid p → at_break s ≡ true → words (p ++ s) ≡ p ∷ words s
run_words [] s h k e = absurd (omega arith)
run_words (a ∷ p) s h k e = words_run a p s k e

-- the bytes from at up to i are not blank
pub record Running (l : List ℕ) (at i : ℕ) : Type 0 where
  pub some : at < i
  pub most : i ≤ length l
  pub solid : Solid (take (i - at) (drop at l))

part_more : (l : List ℕ) (at i : ℕ) → at ≤ i → i < length l → take (suc (i - at)) (drop at l) ≡ take (i - at) (drop at l) ++ get_or l i 0 ∷ []
part_more l at i h k =
    let e : at + (i - at) ≡ i = omega arith in
    take-suc (drop at l) (i - at) 0 (omega (arith, length-drop at l))
    ∙ ap (λ (x : ℕ). take (i - at) (drop at l) ++ x ∷ []) (get_or-drop at l (i - at) 0 ∙ ap (λ (n : ℕ). get_or l n 0) e)

pub run_more : (l : List ℕ) (at i : ℕ) (t : Bool) → Running l at i → i < length l → t ≡ is_blank (get_or l i 0) → t ≡ false → Running l at (i + 1)
run_more l at i t r h e p =
    let d : i + 1 - at ≡ suc (i - at) = omega (arith, r.some) in
    record {
      some = omega (arith, r.some);
      most = omega arith;
      solid = rw (d, part_more l at i (omega (arith, r.some)) h) (solid_snoc (take (i - at) (drop at l)) (get_or l i 0) r.solid (sym e ∙ p));
    }

-- the run ends before a blank, or at the end of the line
run_end : (l : List ℕ) (at i : ℕ) → Running l at i → at_break (drop i l) ≡ true → Ended l at i
run_end l at i r e =
    let k : at + (i - at) ≡ i = omega (arith, r.some) in
    let n : length (take (i - at) (drop at l)) ≡ i - at = length-take-le (i - at) (drop at l) (omega (arith, r.some, r.most, length-drop at l)) in
    let s : drop (i - at) (drop at l) ≡ drop i l = drop-drop (i - at) at l ∙ ap (λ (n : ℕ). drop n l) k in
    record {
      order = omega (arith, r.some);
      inside = r.most;
      equation =
          ap words (sym (take-append-drop (i - at) (drop at l)))
          ∙ run_words (take (i - at) (drop at l)) (drop (i - at) (drop at l)) (omega (arith, r.some, n)) r.solid (ap at_break s ∙ e)
          ∙ ap (λ (x : List ℕ). take (i - at) (drop at l) ∷ words x) s;
    }

pub run_blank : (l : List ℕ) (at i : ℕ) (t : Bool) → Running l at i → i < length l → t ≡ is_blank (get_or l i 0) → t ≡ true → Ended l at i
run_blank l at i t r h e p = run_end l at i r (ap at_break (drop-cons l i 0 h) ∙ sym e ∙ p)

pub run_line : (l : List ℕ) (at i : ℕ) → Running l at i → length l ≤ i → Ended l at i
run_line l at i r h = run_end l at i r (ap at_break (drop_of_length-le l h))

-- ---- the first word
pub word_none : (l : List ℕ) (at s : ℕ) → Skipped l at s → length l ≤ s → WordAt l at None
unfolding words
word_none l at s k h = record { says = k.same ∙ ap words (drop_of_length-le l h) }

-- ---- the whole line, by its words
pub line_entry : (l : List ℕ) (a b c : Cut) {r : EntryFields} → words l ≡ cut_of l a ∷ cut_of l b ∷ cut_of l c ∷ []
    → r ≡ entry (number_of (cut_of l a)) (number_of (cut_of l b)) (value_of (cut_of l c)) → r ≡ entry_fields l
line_entry l a b c h e = e ∙ sym (ap entry_of h)
