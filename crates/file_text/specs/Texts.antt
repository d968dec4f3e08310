-- The lines of a file in 01's words ("The file"): "A line ends with LF, or CR LF, or the file's end." LF is 10 and CR is 13; a CR that no LF follows is a
-- byte of its line. `LinesAre f ts` says that the file f is the lines ts, each with its end.
--
-- Every file has its lines, and they are these only (`lines_are`, `lines_only` in proofs/LinesLaw.antt); `lines` of Lines.antt, by which `line_at` finds a
-- line, gives the same.
use Rattle.std.specs.Prelude.{ℕ, ◌≡◌}
use mathlib.Core.List.{List, [], ◌∷◌, ◌++◌, Memᴰ}

-- a line without its end
abbrev pub Text : Type 0
Text = List ℕ

abbrev pub NoLF : Text → Type 0
NoLF t = ¬ Memᴰ 10 t

abbrev pub NoCRLast : Text → Type 0
NoCRLast t = (a : Text) → ¬ (t ≡ a ++ 13 ∷ [])

pub data LinesAre : List ℕ → List Text → Type 0 where
  -- an empty file has no line
  no_lines : LinesAre [] []
  -- "or the file's end": the last line, where no LF ends it
  last_line : (t : Text) → NoLF t → ¬ (t ≡ []) → LinesAre t (t ∷ [])
  -- "LF": a line, its LF, and the file behind it
  by_lf : (t f : List ℕ) {ts : List Text} → NoLF t → NoCRLast t → LinesAre f ts → LinesAre (t ++ 10 ∷ f) (t ∷ ts)
  -- "or CR LF"
  by_crlf : (t f : List ℕ) {ts : List Text} → NoLF t → LinesAre f ts → LinesAre (t ++ 13 ∷ 10 ∷ f) (t ∷ ts)
