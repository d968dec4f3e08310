-- The lines of a file (01, "The file"): "A line ends with LF, or CR LF, or the file's end." A file is the list of its
-- bytes; LF is 10 and CR is 13. A CR that no LF follows is a byte of the line like any other. Texts.antt says the
-- same of the file and its lines as a whole, without going through its bytes.
use Rattle.std.specs.Prelude.{ℕ, suc, ◌+◌, List, [], ◌∷◌, Bool, true, false, ◌&&◌, length, drop, eqb}
use Rattle.file_text.specs.declared.Span.{Span}

-- a line: its bytes without its end, and how many bytes of the file it takes with its end
pub record Line : Type 0 where
  pub text : List ℕ
  pub size : ℕ

-- the next byte is LF
abbrev pub at_lf : List ℕ → Bool
at_lf [] = false
at_lf (b ∷ s) = eqb b 10

-- the byte b, in front of s, is a CR before an LF
abbrev pub at_crlf : ℕ → List ℕ → Bool
at_crlf b s = eqb b 13 && at_lf s

-- the byte b in front of the first of the lines: a part of its end, or one more byte of its text
abbrev pub extend : Bool → ℕ → List Line → List Line
extend endpart b [] = record { text = b ∷ []; size = 1 } ∷ []
extend true b (l ∷ ls) = record { text = l.text; size = suc l.size } ∷ ls
extend false b (l ∷ ls) = record { text = b ∷ l.text; size = suc l.size } ∷ ls

-- the lines of a file; an empty file has none
unfoldable pub lines : List ℕ → List Line
lines [] = []
lines (b ∷ s) = elim (eqb b 10) [ true ↦ record { text = []; size = 1 } ∷ lines s | false ↦ extend (at_crlf b s) b (lines s) ]

-- the first of the lines ls, the first byte of which is at the place at
abbrev pub first_span : ℕ → List Line → Span
first_span at [] = record { end = at; next = at }
first_span at (l ∷ ls) = record { end = at + length l.text; next = at + l.size }

-- the line at a place of a file: where its text ends, and where the next line starts
unfoldable pub span_at : List ℕ → ℕ → Span
span_at file at = first_span at (lines (drop at file))
