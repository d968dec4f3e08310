-- What the reader's functions promise of a file, by its lines (Files.antt), a field for each sentence: 01's reader (`TableOfFile`), the reader with a cutoff
-- (`TestOfFile`), the line that decides (`LineOfFile`), comment lookup (`CommentOfFile`). No definition here reads a file.
--
-- Each of them can be met for every file and leaves one answer: `table_of_file`, `table_of_file_unique` and so on in proofs/Promising.antt, where a law
-- for each field reads it out; examples of every refusal are in proofs/Examples.antt. How the code's answers read: `made` in table/specs/Tables, `recording`
-- here, `found` in Comments.antt.
use Rattle.std.specs.Prelude.{ℕ, ◌-◌, ◌≤◌, ◌≡◌, ◌↔◌, Bool, true, false, ℤ, nat_abs, length, get_or, take, drop, Result, Ok, Err}
use mathlib.Core.List.{List, [], ◌∷◌, Memᴰ}
use Rattle.std.specs.Borrow.{Bor}
use Rattle.table.specs.Pairs.{Has}
use Rattle.table.specs.Tables.{Legal, blank_table}
use Rattle.table.specs.declared.Table.{Table}
use Rattle.recorded.specs.Tests.{LegalTest, blank_test}
use Rattle.recorded.specs.declared.Kind.TheVariants.{Integer}
use Rattle.recorded.specs.declared.Test.{Test}
use Rattle.refusals.specs.Answers.{Answer, refused}
use Rattle.refusals.specs.declared.Refusal.{Refusal}
use Rattle.refusals.specs.declared.Refusal.TheVariants.{CutoffRange}
use Rattle.file_text.specs.Texts.{Text}
use Rattle.file_text.specs.Lines.{lines}
use Rattle.file_kinds.specs.Kinds.{is_comment}
use Rattle.file_kinds.specs.OneLine.{UpTo}
use Rattle.file_reader.specs.Comments.{Part, Shows, no_part, no_comment, comment_lines}
use Rattle.file_reader.specs.Files.{Heading, Named, name, Names, LegalFile, IsLegal, Holds, Fault, Judged}
use Rattle.file_reader.specs.declared.Recording.{Recording}

-- ---- 01's reader: a is its answer to the file f
pub record TableOfFile (f : List ℕ) (a : Answer Table) : Type 0 where
  -- "Each legal file yields its table, each other file its refusal": accepted exactly when legal
  pub accepted : (a.refusal ≡ 0) ↔ IsLegal false f
  -- G and L are the size line's
  pub shape : (h : Heading) (es : List Named) → LegalFile false f h es → (a.value.gauges ≡ h.gauges.0) × (a.value.cases ≡ h.cases.0)
  -- "N lines `g c`, one pair each": a pair exactly where one of the N entry lines names it
  pub pairs : (h : Heading) (es : List Named) → LegalFile false f h es → (g c : ℕ) → Has a.value.rows g c ↔ Names es g c
  -- what is given is a table
  pub table : a.refusal ≡ 0 → Legal a.value
  -- "The first failing line of a file decides. A refusal yields its number and nothing else"
  pub refusing : (line : ℕ) (why : Refusal) → Fault false f line why → a ≡ refused why blank_table
  -- every file is legal or has a first failing line
  pub every : Judged false f

-- ---- the reader with a cutoff
pub record TestAndTable : Type 0 where
  pub test : Test
  pub table : Table

abbrev pub blank_both : TestAndTable
blank_both = record { test = blank_test; table = blank_table }

-- the answer of a refusal, and how the code's answer reads
abbrev pub refused_both : Refusal → Answer TestAndTable
refused_both why = refused why blank_both

abbrev pub recording : Result Recording Refusal → Answer TestAndTable
recording (Ok r) = record { refusal = 0; value = record { test = r.test; table = r.table } }
recording (Err why) = refused_both why

-- "a cutoff from 1 to 1,000,000"
abbrev pub IsCutoff : ℕ → Type 0
IsCutoff cutoff = UpTo 1000000 cutoff

-- among the entries is one of gauge g and case c that is a pair at the cutoff: in an integer file "a pair exists when the magnitude of v reaches it"
abbrev pub NamesPair : Heading → List Named → ℕ → ℕ → ℕ → Type 0
NamesPair h es cutoff g c = (v : ℤ) × Memᴰ (name g c v) es × (h.kind ≡ Integer → cutoff ≤ nat_abs v)

-- a is its answer to the file f and the cutoff
pub record TestOfFile (f : List ℕ) (cutoff : ℕ) (a : Answer TestAndTable) : Type 0 where
  -- "21: cutoff out of range, before all else"
  pub cutoff_refused : ¬ IsCutoff cutoff → a ≡ refused_both CutoffRange
  -- "The entry with a cutoff takes either banner": accepted exactly when legal
  pub accepted : IsCutoff cutoff → (a.refusal ≡ 0) ↔ IsLegal true f
  -- "and gives the test": kind, shape, entries and readings as the lines have them
  pub test : IsCutoff cutoff → (h : Heading) (es : List Named) → LegalFile true f h es → Holds h es a.value.test
  pub test_legal : a.refusal ≡ 0 → LegalTest a.value.test
  -- "and its table": the same shape, and a pair exactly where an entry line names one whose reading reaches the cutoff
  pub shape : IsCutoff cutoff → (h : Heading) (es : List Named) → LegalFile true f h es
      → (a.value.table.gauges ≡ h.gauges.0) × (a.value.table.cases ≡ h.cases.0)
  pub pairs : IsCutoff cutoff → (h : Heading) (es : List Named) → LegalFile true f h es → (g c : ℕ)
      → Has a.value.table.rows g c ↔ NamesPair h es cutoff g c
  pub table : a.refusal ≡ 0 → Legal a.value.table
  -- "The first failing line of a file decides. A refusal yields its number and nothing else"
  pub refusing : IsCutoff cutoff → (line : ℕ) (why : Refusal) → Fault true f line why → a ≡ refused_both why
  pub every : Judged true f

-- ---- the line that decides: n is its number, from 1; one past the last line's where the end of the file decides; 0 where the file is accepted, and where it
-- fails as a whole
pub record LineOfFile (integers : Bool) (f : List ℕ) (n : ℕ) : Type 0 where
  pub none : IsLegal integers f → n ≡ 0
  pub first : (line : ℕ) (why : Refusal) → Fault integers f line why → n ≡ line
  pub every : Judged integers f

-- ---- comment lookup
-- the comment lines among lines: "comment lines (first byte `%`)"
unfoldable pub comments_in : List Text → List Text
comments_in [] = []
comments_in (t ∷ ts) = elim (is_comment t) [ true ↦ t ∷ comments_in ts | false ↦ comments_in ts ]

-- the answer a shows comment k (from 1) of the comment lines cs of the file f: its bytes, "without its end"; "17 k is 0 or above the number of comments"
pub record ShowsLine (f : List ℕ) (k : ℕ) (cs : List Text) (a : Answer Part) : Type 0 where
  pub shown : UpTo (length cs) k → (a.refusal ≡ 0) × (take a.value.len (drop a.value.start f) ≡ get_or cs (k - 1) [])
  pub none : ¬ UpTo (length cs) k → a ≡ no_comment

-- a is the answer to the file f and the number k. "Comment lookup takes either kind"
pub record CommentOfFile (f : List ℕ) (k : ℕ) (a : Answer Part) : Type 0 where
  -- "Comment line k (from 1) is shown .., for a file that the reader accepts": the k-th of the `%` lines ahead of the size line
  pub shown : (h : Heading) (es : List Named) (l : LegalFile true f h es) → ShowsLine f k (comments_in l.passed) a
  -- "as a part of the caller's file": where it starts, and its length
  pub placed : IsLegal true f → a ≡ comment_lines k (lines f)
  -- "any other file gets the reader's refusal"
  pub refusing : (line : ℕ) (why : Refusal) → Fault true f line why → a ≡ refused why no_part
  pub every : Judged true f

-- the slice r is comment k of the lent file, the empty part where there is none to show
pub record ShownComment (file : Bor (List ℕ)) (k : ℕ) (r : Bor (List ℕ)) : Type 0 where
  pub answer : Answer Part
  pub finds : CommentOfFile file.now k answer
  pub shows : Shows file r answer.value
