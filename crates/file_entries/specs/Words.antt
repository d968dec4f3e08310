-- The fields of an entry line (02, R-5): "lines `g c v`". A line falls into words at its blanks (01: "Blanks are
-- space and tab, one or more between fields, any number before and after"); the words g and c are numbers, the word v
-- is a reading, so a sign on g or c makes the line malformed, and so does a sign alone. The words' values are in
-- Values.antt.
use Rattle.std.specs.Prelude.{ℕ, List, [], ◌∷◌, Bool, true, false, ℤ, pos}
use Rattle.std.proofs.Math.Option.{Option, some, none}
use Rattle.file_text.specs.Fields.{is_blank}
use Rattle.file_entries.specs.Values.{number_of, value_of}
use Rattle.file_entries.specs.declared.EntryFields.{EntryFields}
use Rattle.file_entries.specs.declared.EntryFields.TheVariants.{Blank, Entry, Other}

-- no word goes on here
abbrev pub at_break : List ℕ → Bool
at_break [] = true
at_break (b ∷ s) = is_blank b

-- the byte b in front of the words ws: a word of its own ahead of a break, else a part of the first
abbrev pub grow : ℕ → Bool → List (List ℕ) → List (List ℕ)
grow b true ws = (b ∷ []) ∷ ws
grow b false [] = (b ∷ []) ∷ []
grow b false (w ∷ ws) = (b ∷ w) ∷ ws

-- the words of a line: its runs of bytes that are not blank
unfoldable pub words : List ℕ → List (List ℕ)
words [] = []
words (b ∷ s) = elim (is_blank b) [ true ↦ words s | false ↦ grow b (at_break s) (words s) ]

-- two numbers and a reading
abbrev pub entry : Option ℕ → Option ℕ → Option ℤ → EntryFields
entry none c v = Other
entry (some g) none v = Other
entry (some g) (some c) none = Other
entry (some g) (some c) (some v) = Entry g c v

-- no word, or three; anything else is malformed
abbrev pub entry_of : List (List ℕ) → EntryFields
entry_of [] = Blank
entry_of (a ∷ []) = Other
entry_of (a ∷ b ∷ []) = Other
entry_of (a ∷ b ∷ c ∷ []) = entry (number_of a) (number_of b) (value_of c)
entry_of (a ∷ b ∷ c ∷ d ∷ ws) = Other

-- the fields of an entry line
abbrev pub entry_fields : List ℕ → EntryFields
entry_fields l = entry_of (words l)

-- how the code's answer reads: the values are the line's fields, gauge, case and reading, none on a blank line. A
-- malformed line has no values; its number, 6, is in crate `file_kinds`.
abbrev pub entry_fields_say : EntryFields → Option (List ℤ)
entry_fields_say Blank = some []
entry_fields_say (Entry g c v) = some (pos g ∷ pos c ∷ v ∷ [])
entry_fields_say Other = none
