-- The first line of a file (01, "The file"): "Banner, lower case, single spaces: %%MatrixMarket matrix coordinate
-- pattern general". It is the fourteen bytes `%%MatrixMarket` and then the words of a kind of file, each with a space
-- ahead of it. What is read (`IsBanner`) may have capitals in the words (02, R-1: "accept any mix of capitals in the
-- four words after `%%MatrixMarket`, which itself keeps its spelling. The writer goes on in lower case"); what is
-- written (`banner`) has none. That the first line is read exactly when it is a banner in this sense is `first_only`
-- and `first_mixed` in proofs/Opening.antt. 02, R-5: "Accept the banner `coordinate integer general`, with case as in
-- R-1"; "the old one, and pattern files, go on as before". A further kind of file is a further text of words.
use Rattle.std.specs.Prelude.{ℕ, ◌≡◌, List, [], ◌∷◌, ◌++◌, map, Bool, true, cond, ◌&&◌, take, drop}
use Rattle.std.proofs.Math.Option.{Option, some, none}
use Rattle.file_text.specs.Bytes.{same_bytes, small}
use Rattle.refusals.specs.Answers.{Answer, refused}
use Rattle.refusals.specs.declared.Refusal.TheVariants.{NotTheBanner}
use Rattle.recorded.specs.declared.Kind.{Kind}
use Rattle.recorded.specs.declared.Kind.TheVariants.{Pattern, Integer}
use Rattle.std.specs.Prelude.{Option as Optional, Some as Banner, None as Other}

-- `%%MatrixMarket`
abbrev pub opening : List ℕ
opening = 37 ∷ 37 ∷ 77 ∷ 97 ∷ 116 ∷ 114 ∷ 105 ∷ 120 ∷ 77 ∷ 97 ∷ 114 ∷ 107 ∷ 101 ∷ 116 ∷ []

-- the words of a file of pairs: ` matrix coordinate pattern general`
abbrev pub pattern : List ℕ
pattern =
    32 ∷ 109 ∷ 97 ∷ 116 ∷ 114 ∷ 105 ∷ 120 ∷
    32 ∷ 99 ∷ 111 ∷ 111 ∷ 114 ∷ 100 ∷ 105 ∷ 110 ∷ 97 ∷ 116 ∷ 101 ∷
    32 ∷ 112 ∷ 97 ∷ 116 ∷ 116 ∷ 101 ∷ 114 ∷ 110 ∷
    32 ∷ 103 ∷ 101 ∷ 110 ∷ 101 ∷ 114 ∷ 97 ∷ 108 ∷ []

-- the words of a file of readings: ` matrix coordinate integer general`
abbrev pub integer : List ℕ
integer =
    32 ∷ 109 ∷ 97 ∷ 116 ∷ 114 ∷ 105 ∷ 120 ∷
    32 ∷ 99 ∷ 111 ∷ 111 ∷ 114 ∷ 100 ∷ 105 ∷ 110 ∷ 97 ∷ 116 ∷ 101 ∷
    32 ∷ 105 ∷ 110 ∷ 116 ∷ 101 ∷ 103 ∷ 101 ∷ 114 ∷
    32 ∷ 103 ∷ 101 ∷ 110 ∷ 101 ∷ 114 ∷ 97 ∷ 108 ∷ []

-- the words of a kind of file
abbrev pub words_of : Kind → List ℕ
words_of Pattern = pattern
words_of Integer = integer

-- the kinds of file that a reader takes: files of pairs always, integer files where it is asked for them ("The entry
-- with a cutoff takes either banner ..; the old one .. go on as before")
abbrev pub takes : Bool → Kind → Bool
takes integers Pattern = true
takes integers Integer = integers

-- a first line that is the banner of a kind that the reader takes, in words: `%%MatrixMarket`, which "keeps its
-- spelling", and behind it a text that is the words of the kind in small letters
pub record IsBanner (integers : Bool) (kind : Kind) (l : List ℕ) : Type 0 where
  pub taken : takes integers kind ≡ true
  pub rest : List ℕ
  pub whole : l ≡ opening ++ rest
  pub letters : map small rest ≡ words_of kind

-- a line of a kind with these words: its first fourteen bytes are the opening, and what comes after them is, in small
-- letters, the words
abbrev pub is_of_kind : List ℕ → List ℕ → Bool
is_of_kind words l = same_bytes (take 14 l) opening && same_bytes (map small (drop 14 l)) words

-- what a first line is: the banner of a kind of file, or another line
abbrev pub FirstLine : Type 0
FirstLine = Optional Kind

-- a first line: the banner of a file of pairs, or, where integer files are taken, of a file of readings; any other is
-- refused with 2
abbrev pub first_line : Bool → List ℕ → FirstLine
first_line integers l = cond (is_of_kind pattern l) (Banner Pattern) (cond (integers && is_of_kind integer l) (Banner Integer) Other)

-- how the code's answer reads (01: "For an answer that is an enum, a definition gives this paper's number and values
-- for each case of the enum"): no number and the kind of file, or 2
abbrev pub first_line_says : FirstLine → Answer (Option Kind)
first_line_says (Banner kind) = record { refusal = 0; value = some kind }
first_line_says Other = refused NotTheBanner none

-- the banner of a kind that is written
abbrev pub banner_of : Kind → List ℕ
banner_of kind = opening ++ words_of kind

abbrev pub banner : List ℕ
banner = banner_of Pattern
