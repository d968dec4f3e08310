-- The value of a word, a run of bytes without blanks. A number is 01's field: "A field is 1 to 9 digits, leading
-- zeros allowed." A reading (02, R-5): "v has an optional sign, + or -, and 1 to 9 digits"; the sign + is byte 43, -
-- is byte 45, and it comes right before the first digit. How a line falls into words is in Words.antt. That the
-- fields of a line without signs are the numbers of its words is `fields_are_words` in proofs/OldFields.antt.
use Rattle.std.specs.Prelude.{ℕ, zero, suc, ◌+◌, ◌-◌, ◌*◌, List, [], ◌∷◌, Bool, true, false, ◌&&◌, ◌||◌, cond, ltb, eqb, ℤ, pos, neg_ℤ}
use Rattle.std.proofs.Math.Option.{Option, some, none}
use Rattle.file_text.specs.Fields.{is_digit}

-- a word that ends after k digits whose number is v: "1 to 9 digits"
abbrev pub ended : ℕ → ℕ → Option ℕ
ended zero v = none
ended (suc k) v = some v

-- the number of what is left of a word, after k digits whose number so far is v; `none` where a byte does not belong
unfoldable pub number_from : ℕ → ℕ → List ℕ → Option ℕ
number_from k v [] = ended k v
number_from k v (b ∷ s) = elim (is_digit b && ltb k 9) [ true ↦ number_from (suc k) (v * 10 + (b - 48)) s | false ↦ none ]

-- the number of a word without a sign
abbrev pub number_of : List ℕ → Option ℕ
number_of w = number_from 0 0 w

-- the word starts with -, and the word behind its sign, if it has one
unfoldable pub is_minus : List ℕ → Bool
is_minus [] = false
is_minus (b ∷ s) = eqb b 45

unfoldable pub unsigned : List ℕ → List ℕ
unsigned [] = []
unsigned (b ∷ s) = cond (eqb b 43 || eqb b 45) s (b ∷ s)

-- a number with the sign - or without one
abbrev pub with_sign : Bool → ℕ → ℤ
with_sign true n = neg_ℤ (pos n)
with_sign false n = pos n

abbrev pub signed : Bool → Option ℕ → Option ℤ
signed minus none = none
signed minus (some n) = some (with_sign minus n)

-- the reading of a word
abbrev pub value_of : List ℕ → Option ℤ
value_of w = signed (is_minus w) (number_of (unsigned w))
