-- One line behind the first, in 01's words ("The file", and its table of refusals; 02, R-5). A line falls into words
-- at its blanks, space and tab (`words` of crate `file_entries`): "one or more between fields, any number before and
-- after". A word is a field where it is "1 to 9 digits" (`number_of`), and a reading may have a sign (`value_of`).
--
-- In order: the lines that are taken, ahead of the size line, the size line, behind it; the lines that fail, row by
-- row of 01's table. That `head_line` and `entry_line` of Kinds.antt, which the functions promise, say just this is
-- proved in proofs/LineWords.antt: `passed_line`, `size_line`, `blank_line`, `entry_line_lem`, `bad_head_lem`, `bad_entry_lem`.
-- What is said of a whole file is in crate `file_reader`.
use Rattle.std.specs.Prelude.{ℕ, ◌≤◌, ◌<◌, ◌≡◌, ◌⊎◌, List, [], ◌∷◌, true, false, length, ℤ, pos, nat_abs}
use Rattle.std.proofs.Math.Option.{some}
use Rattle.file_text.specs.Texts.{Text}
use Rattle.recorded.specs.declared.Kind.{Kind}
use Rattle.recorded.specs.declared.Kind.TheVariants.{Pattern, Integer}
use Rattle.refusals.specs.declared.Refusal.{Refusal}
use Rattle.refusals.specs.declared.Refusal.TheVariants.{LineTooLong, SizeFields, SizeRange, PairFields, PairRange, ReadingRange}
use Rattle.file_entries.specs.Values.{number_of, value_of}
use Rattle.file_entries.specs.Words.{words}
use Rattle.file_kinds.specs.Kinds.{is_comment}

-- x is in 1..n
abbrev pub UpTo : ℕ → ℕ → Type 0
UpTo n x = (1 ≤ x) × (x ≤ n)

-- "A line has at most 1,024 bytes without its end"
abbrev pub Short : Text → Type 0
Short t = length t ≤ 1024

-- "A line of blanks only is blank"
abbrev pub Blank : Text → Type 0
Blank t = words t ≡ []

-- ---- lines that are taken
-- ahead of the size line: a comment line ("first byte `%`") or a blank one
pub record PassedLine (t : Text) : Type 0 where
  pub short : Short t
  pub passes : (is_comment t ≡ true) ⊎ Blank t

-- three words that are the fields g, l and n
pub record ThreeFields (ws : List (List ℕ)) (g l n : ℕ) : Type 0 where
  pub a : List ℕ
  pub b : List ℕ
  pub c : List ℕ
  pub are : ws ≡ a ∷ b ∷ c ∷ []
  pub first : number_of a ≡ some g
  pub second : number_of b ≡ some l
  pub third : number_of c ≡ some n

-- "the size line `G L N`": three fields, "G or L .. in 1..64"
pub record SizeLine (t : Text) (g l n : ℕ) : Type 0 where
  pub short : Short t
  pub no_comment : is_comment t ≡ false
  pub fields_are : ThreeFields (words t) g l n
  pub gauges : UpTo 64 g
  pub cases : UpTo 64 l

-- a blank line behind the size line
pub record BlankLine (t : Text) : Type 0 where
  pub short : Short t
  pub blank : Blank t

-- the fields of an entry line by the kind of file: "lines `g c`", without a reading, which is 0 here; "lines `g c v`"
pub data EntryWords (ws : List (List ℕ)) (g c : ℕ) : Kind → ℤ → Type 0 where
  pair : (a b : List ℕ) → ws ≡ a ∷ b ∷ [] → number_of a ≡ some g → number_of b ≡ some c → EntryWords ws g c Pattern (pos 0)
  reading : (a b d : List ℕ) {v : ℤ} → ws ≡ a ∷ b ∷ d ∷ [] → number_of a ≡ some g → number_of b ≡ some c → value_of d ≡ some v → EntryWords ws g c Integer v

-- an entry line of gauge g, case c and reading v, in a file of G gauges and L cases; v is "in -1,000,000..1,000,000"
pub record EntryIs (kind : Kind) (gauges cases : ℕ) (t : Text) (g c : ℕ) (v : ℤ) : Type 0 where
  pub short : Short t
  pub fields_are : EntryWords (words t) g c kind v
  pub gauge : UpTo gauges g
  pub case : UpTo cases c
  pub reach : nat_abs v ≤ 1000000

-- ---- lines that fail, in the order of 01's table
-- "Each later line: 3 longer than 1,024"; "Size line: 4 absent or not three fields; then 5 G or L not in 1..64"
pub data BadHead (t : Text) : Refusal → Type 0 where
  head_long : 1024 < length t → BadHead t LineTooLong
  head_fields : Short t → is_comment t ≡ false → ¬ Blank t → ((g l n : ℕ) → ¬ ThreeFields (words t) g l n) → BadHead t SizeFields
  head_range : {g l n : ℕ} → Short t → is_comment t ≡ false → ThreeFields (words t) g l n → ¬ (UpTo 64 g × UpTo 64 l) → BadHead t SizeRange

-- "3"; "Pair line: 6 not two fields; then 7 g or c outside 1..G, 1..L"; "20: v out of range, after 7"; "A `%` line
-- after the size line is a malformed pair line"
pub data BadEntry (kind : Kind) (gauges cases : ℕ) (t : Text) : Refusal → Type 0 where
  entry_long : 1024 < length t → BadEntry kind gauges cases t LineTooLong
  entry_malformed : Short t → ¬ Blank t → ((g c : ℕ) (v : ℤ) → ¬ EntryWords (words t) g c kind v) → BadEntry kind gauges cases t PairFields
  entry_range : {g c : ℕ} {v : ℤ} → Short t → EntryWords (words t) g c kind v → ¬ (UpTo gauges g × UpTo cases c) → BadEntry kind gauges cases t PairRange
  entry_reach : {g c : ℕ} {v : ℤ} → Short t → EntryWords (words t) g c kind v → UpTo gauges g → UpTo cases c → 1000000 < nat_abs v
      → BadEntry kind gauges cases t ReadingRange
