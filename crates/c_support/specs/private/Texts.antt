-- The words of the later numbers, and a text as the private steps hand it on.
use Rattle.std.specs.Prelude.{List, ℕ, length, drop}
use Rattle.c_support.specs.Words.{bytes_of, text_in, texts, other_text}
use Rattle.c_support.specs.Serving.{lent}
use Rattle.c_support.specs.declared.Text.{Text}

-- the words of a number by the list from 15 on
unfoldable pub later_words : ℕ → List ℕ
later_words n = bytes_of (text_in (drop 15 texts) other_text n)

abbrev pub text_of : List ℕ → Text
text_of t = record { bytes = lent t; length = length t }
