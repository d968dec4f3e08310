-- The fields of a line (01, "The file"): "Blanks are space and tab, one or more between fields, any number before and
-- after", "A line of blanks only is blank", "A field is 1 to 9 digits, leading zeros allowed."
use Rattle.std.specs.Prelude.{ℕ, zero, suc, ◌+◌, ◌-◌, ◌*◌, List, [], ◌∷◌, Bool, true, false, cond, ◌&&◌, ◌||◌, ltb, leb, eqb}
use Rattle.std.proofs.Math.Option.{Option, some, none}
use Rattle.file_text.specs.declared.Fields.{Fields}
use Rattle.file_text.specs.declared.Fields.TheVariants.{Blank, Two, Three, Other}

-- space and tab
abbrev pub is_blank : ℕ → Bool
is_blank b = eqb b 32 || eqb b 9

-- 0 to 9
abbrev pub is_digit : ℕ → Bool
is_digit b = leb 48 b && leb b 57

-- the value of a digit, 10 for any other byte
abbrev pub digit_of : ℕ → ℕ
digit_of b = cond (is_digit b) (b - 48) 10

-- a field of k digits and the number v ends in front of the fields fs; there is no field where k is 0
abbrev pub close : ℕ → ℕ → Option (List ℕ) → Option (List ℕ)
close zero v fs = fs
close (suc k) v none = none
close (suc k) v (some fs) = some (v ∷ fs)

-- the fields of what is left of a line, after k digits of a field whose number so far is v; `none` where a byte does
-- not belong, which is a byte that is neither blank nor a digit, and a tenth digit
unfoldable pub scan : ℕ → ℕ → List ℕ → Option (List ℕ)
scan k v [] = close k v (some [])
scan k v (b ∷ s) =
    elim (is_blank b) [
      | true ↦ close k v (scan 0 0 s)
      | false ↦ elim (is_digit b && ltb k 9) [ true ↦ scan (suc k) (v * 10 + (b - 48)) s | false ↦ none ]
    ]

-- no field, two or three; anything else is malformed
abbrev pub shape : Option (List ℕ) → Fields
shape none = Other
shape (some []) = Blank
shape (some (a ∷ [])) = Other
shape (some (a ∷ b ∷ [])) = Two a b
shape (some (a ∷ b ∷ c ∷ [])) = Three a b c
shape (some (a ∷ b ∷ c ∷ d ∷ fs)) = Other

-- the fields of a line
abbrev pub fields : List ℕ → Fields
fields l = shape (scan 0 0 l)

-- how the code's answer reads (01: "For an answer that is an enum, a definition gives this paper's number and values
-- for each case of the enum"): the values are the line's fields, none on a blank line. A malformed line has no
-- values, and 01's number for it goes by its place, 4 for a size line and 6 for a pair line, so it is in crate
-- `file_kinds`.
abbrev pub fields_say : Fields → Option (List ℕ)
fields_say Blank = some []
fields_say (Two a b) = some (a ∷ b ∷ [])
fields_say (Three a b c) = some (a ∷ b ∷ c ∷ [])
fields_say Other = none
