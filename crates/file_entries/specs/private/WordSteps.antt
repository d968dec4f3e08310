-- What the private steps promise of a line's words: the first word from a place on, and the words of a line as parts of it.
use Rattle.std.specs.Prelude.{ℕ, ◌-◌, ◌≤◌, ◌<◌, ◌≡◌, List, [], ◌∷◌, false, length, get_or, take, drop, Option, Some, None}
use Rattle.file_text.specs.Fields.{is_blank}
use Rattle.file_entries.specs.Values.{number_of, value_of}
use Rattle.file_entries.specs.Words.{words, entry}
use Rattle.file_entries.specs.declared.Cut.{Cut}
use Rattle.file_entries.specs.declared.EntryFields.{EntryFields}

-- from at on comes the word from start to end, and the rest of the line from end on
pub record WordFound (l : List ℕ) (at start end : ℕ) : Type 0 where
  pub order : start ≤ end
  pub inside : end ≤ length l
  pub equation : words (drop at l) ≡ take (end - start) (drop start l) ∷ words (drop end l)

abbrev pub WordSays : List ℕ → ℕ → Option Cut → Type 0
WordSays l at (Some c) = WordFound l at c.start c.end
WordSays l at None = words (drop at l) ≡ []

pub record WordAt (l : List ℕ) (at : ℕ) (x : Option Cut) : Type 0 where
  pub says : WordSays l at x

-- r is the first place from at on that is not blank, or the end of the line
pub record Skipped (l : List ℕ) (at r : ℕ) : Type 0 where
  pub inside : r ≤ length l
  pub same : words (drop at l) ≡ words (drop r l)
  pub solid : r < length l → is_blank (get_or l r 0) ≡ false

-- r is the end of the word that starts at at
pub record Ended (l : List ℕ) (at r : ℕ) : Type 0 where
  pub order : at ≤ r
  pub inside : r ≤ length l
  pub equation : words (drop at l) ≡ take (r - at) (drop at l) ∷ words (drop r l)

-- a part of a line, and parts that lie in it
abbrev pub cut_of : List ℕ → Cut → List ℕ
cut_of l c = take (c.end - c.start) (drop c.start l)

-- the entry of three parts of a line
abbrev pub entry_at : List ℕ → Cut → Cut → Cut → EntryFields
entry_at l a b c = entry (number_of (cut_of l a)) (number_of (cut_of l b)) (value_of (cut_of l c))

pub record CutIn (l : List ℕ) (c : Cut) : Type 0 where
  pub order : c.start ≤ c.end
  pub inside : c.end ≤ length l

pub record Cuts (l : List ℕ) (a b c : Cut) : Type 0 where
  pub first : CutIn l a
  pub second : CutIn l b
  pub third : CutIn l c
