-- The numbers of a line's words are the fields of the line (`fields_are_words`): the words g and c of an entry line are read as the fields of
-- every other line are. The scan of crate `file_text` goes byte by byte; here it meets the words, of which the first may be half read.
use Prim.Native.Nat.{ℕ, suc, ◌+◌, ◌-◌, ◌*◌}
use mathlib.Core.Path.{◌≡◌, refl, ap, ◌∙◌}
use mathlib.Core.List.{List, [], ◌∷◌}
use mathlib.Core.Option.{Option, some, none}
use mathlib.Core.Bool.{Bool, true, false, ◌&&◌}
use lib.Dec.{ltb}
use Rattle.file_text.specs.Fields.{is_blank, is_digit, close, scan}
use Rattle.file_entries.specs.Values.{number_from, number_of}
use Rattle.file_entries.specs.Words.{at_break, grow, words}
use Rattle.file_entries.proofs.Words.{words_blank, words_solid}

-- a field ahead of the others; none where one of them is malformed
abbrev ahead : Option ℕ → Option (List ℕ) → Option (List ℕ)
ahead none fs = none
ahead (some v) none = none
ahead (some v) (some fs) = some (v ∷ fs)

-- the numbers of words
abbrev pub numbers_of : List (List ℕ) → Option (List ℕ)
numbers_of [] = some []
numbers_of (w ∷ ws) = ahead (number_of w) (numbers_of ws)

-- the same after k digits of the first word, whose number so far is v
abbrev numbers_from : ℕ → ℕ → List (List ℕ) → Option (List ℕ)
numbers_from k v [] = ahead (number_from k v []) (some [])
numbers_from k v (w ∷ ws) = ahead (number_from k v w) (numbers_of ws)

-- what is left of a line after k digits of a word
abbrev left : ℕ → ℕ → Bool → List (List ℕ) → Option (List ℕ)
left k v true ws = ahead (some v) (numbers_of ws)
left k v false ws = numbers_from k v ws

close-ahead : (k v : ℕ) (fs : Option (List ℕ)) → close (suc k) v fs ≡ ahead (some v) fs
close-ahead k v none = refl
close-ahead k v (some fs) = refl

-- a byte that is not blank, in the scan and in the words
module _ (k v b : ℕ) (s : List ℕ) (h : is_blank b ≡ false) where
  solid_digit : (d : (is_digit b && ltb k 9) ≡ true) (t : Bool) (ws : List (List ℕ))
      → left (suc k) (v * 10 + (b - 48)) t ws ≡ numbers_from k v (grow b t ws)
  unfolding number_from
  solid_digit d true ws = rw (d, number_from)
  solid_digit d false [] = rw (d, number_from)
  solid_digit d false (w ∷ ws) = rw (d, number_from)

  solid_bad : (d : (is_digit b && ltb k 9) ≡ false) (t : Bool) (ws : List (List ℕ)) → none ≡ numbers_from k v (grow b t ws)
  unfolding number_from
  solid_bad d true ws = rw (d, number_from)
  solid_bad d false [] = rw (d, number_from)
  solid_bad d false (w ∷ ws) = rw (d, number_from)

  solid : scan (suc k) (v * 10 + (b - 48)) s ≡ left (suc k) (v * 10 + (b - 48)) (at_break s) (words s) → scan k v (b ∷ s) ≡ numbers_from k v (words (b ∷ s))
  unfolding scan
  solid ih = rw (words_solid b s h) (go (is_digit b && ltb k 9) refl)
    where
      go : (t : Bool) → (is_digit b && ltb k 9) ≡ t → scan k v (b ∷ s) ≡ numbers_from k v (grow b (at_break s) (words s))
      go true d = rw (h, d, scan) (ih ∙ solid_digit d (at_break s) (words s))
      go false d = rw (h, d, scan) (solid_bad d (at_break s) (words s))

-- words of a line that starts with a byte that is not blank: there is a first one
first_of_lem : (b : ℕ) (t : Bool) (ws : List (List ℕ)) → numbers_from 0 0 (grow b t ws) ≡ numbers_of (grow b t ws)
first_of_lem b true ws = refl
first_of_lem b false [] = refl
first_of_lem b false (w ∷ ws) = refl

-- the scan after some digits of a word, by induction on what is left of the line
scan-left : (s : List ℕ) → ((k v : ℕ) → scan (suc k) v s ≡ left (suc k) v (at_break s) (words s)) × (scan 0 0 s ≡ numbers_of (words s))
unfolding scan words
scan-left [] = (λ k v. refl, refl)
scan-left (b ∷ s) = go (is_blank b) refl (scan-left s)
  where
    go : (t : Bool) → is_blank b ≡ t → ((k v : ℕ) → scan (suc k) v s ≡ left (suc k) v (at_break s) (words s)) × (scan 0 0 s ≡ numbers_of (words s))
        → ((k v : ℕ) → scan (suc k) v (b ∷ s) ≡ left (suc k) v (at_break (b ∷ s)) (words (b ∷ s))) × (scan 0 0 (b ∷ s) ≡ numbers_of (words (b ∷ s)))
    go true h ih = (
      λ k v. rw (h, words_blank b s h, scan) (close-ahead k v (scan 0 0 s) ∙ ap (ahead (some v)) ih.1),
      rw (h, words_blank b s h, scan) ih.1,
    )
    go false h ih = (
      λ k v. rw h (solid (suc k) v b s h (ih.0 (suc k) (v * 10 + (b - 48)))),
      solid 0 0 b s h (ih.0 0 (0 * 10 + (b - 48))) ∙ rw (words_solid b s h) (first_of_lem b (at_break s) (words s)),
    )

pub fields_are_words : (l : List ℕ) → scan 0 0 l ≡ numbers_of (words l)
fields_are_words l = (scan-left l).1
