-- The cutoff that a word is (02, R-5: "The caller gives a cutoff from 1 to 1,000,000"): the word is a decimal number of any length, "leading zeros
-- allowed" as in 01's fields. Every other word is 0, which is no cutoff: the reader refuses it with 21.
--
-- Elsewhere: that zeros ahead change nothing, and words at the bound, proofs/Words.antt.
use Rattle.std.specs.Prelude.{true, false, cond, List, [], ◌∷◌, ℕ, ◌+◌, ◌-◌, ◌*◌, leb}
use Rattle.std.proofs.Math.Option.{Option, some, none}
use Rattle.file_text.specs.Fields.{is_digit}

-- the number of what is left of a word, after digits whose number is v; `none` where a byte is no digit
unfoldable pub number_from : ℕ → List ℕ → Option ℕ
number_from v [] = some v
number_from v (b ∷ s) = elim (is_digit b) [ true ↦ number_from (v * 10 + (b - 48)) s | false ↦ none ]

-- a number up to the greatest cutoff, and 0 for any other and for none
abbrev pub up_to : Option ℕ → ℕ
up_to none = 0
up_to (some n) = cond (leb n 1000000) n 0

abbrev pub cutoff_of : List ℕ → ℕ
cutoff_of w = up_to (number_from 0 w)
