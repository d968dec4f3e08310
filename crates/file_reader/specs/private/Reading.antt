-- What reading a file gives, told as the code tells it: line by line from the top, with what is gathered, until a
-- line fails or the file ends (01, "The file" and the refusals 1 to 9, in the order of its table; 02, R-5). One
-- definition, `read_recorded`, reads either kind of file to a test: entries, and in an integer file their readings.
-- 01's reader, `read_file`, the one with a cutoff, `read_test`, and comment lookup, `comment_at`, rest on it.
--
-- No public promise mentions it: what the readers promise, by the lines of the file alone, is in Promises.antt, and
-- what is read here is the one answer that meets it (`table_of_file`, `test_of_file`, `comment_of_file` and their
-- `-unique` in proofs/Promising.antt). What one line says is in crate `file_kinds`.
use Rattle.std.specs.Prelude.{ℕ, ◌+◌, ◌-◌, ◌*◌, ◌^◌, List, [], ◌∷◌, Bool, true, false, cond, ℤ, length, set, ltb, eqb}
use Rattle.sets.specs.Sets.{bit, join}
use Rattle.table.specs.Pairs.{row}
use Rattle.table.specs.Tables.{no_rows}
use Rattle.refusals.specs.Answers.{Answer, answer, refused}
use Rattle.table.specs.declared.Gauge.{Gauge}
use Rattle.table.specs.declared.Case.{Case}
use Rattle.table.specs.declared.Table.{Table}
use Rattle.recorded.specs.Tests.{listed, no_readings, blank_test, table_of, cutoff_first}
use Rattle.recorded.specs.declared.Kind.{Kind}
use Rattle.recorded.specs.declared.Test.{Test}
use Rattle.refusals.specs.declared.Refusal.{Refusal}
use Rattle.refusals.specs.declared.Refusal.TheVariants.{FileTooLong, NotTheBanner, SizeFields, PairRepeated, PairCount}
use Rattle.file_text.specs.Lines.{Line, lines}
use Rattle.file_kinds.specs.Banner.{first_line}
use Rattle.file_kinds.specs.Kinds.{head_line, entry_line}
use Rattle.std.specs.Prelude.{Some as Banner, None as Other}
use Rattle.file_kinds.specs.declared.HeadLine.TheVariants.{Size, Skip as skip_head, Bad as bad_head}
use Rattle.file_kinds.specs.declared.EntryLine.TheVariants.{Entry, Skip as skip_entry, Bad as bad_entry}
use Rattle.file_reader.specs.Promises.{TestAndTable, blank_both}
use Rattle.file_reader.specs.Comments.{Part, no_part, comment_lines}

-- ---- a file of either kind
-- a test that is accepted, and a refusal with its blank test
abbrev pub accepted : Test → Answer Test
accepted t = record { refusal = 0; value = t }

abbrev pub refused_file : Refusal → Answer Test
refused_file why = refused why blank_test

-- gauge g has an entry under case c in the rows
abbrev pub has_pair : List ℕ → Gauge → Case → Bool
has_pair rows g c = bit (row rows (g.0 - 1)) (c.0 - 1)

-- a row with case c, the rows with the entry, and the readings with the entry's
abbrev pub with_case : ℕ → Case → ℕ
with_case r c = join r (2 ^ (c.0 - 1))

abbrev pub add_pair : List ℕ → Gauge → Case → List ℕ
add_pair rows g c = set rows (g.0 - 1) (with_case (row rows (g.0 - 1)) c)

abbrev pub add_reading : List ℤ → Gauge → Case → ℤ → List ℤ
add_reading vs g c v = set vs ((g.0 - 1) * 64 + (c.0 - 1)) v

-- the entry lines up to the gauge gs and the case cs, of which left are still to come: "6 .. 7 .. then 8 pair
-- repeated; then 9 more than N pairs", and at the end of the file "9 fewer than N pairs"; 20 comes after 7, and "N, 8
-- and 9 speak of entries"
unfoldable pub read_entries : Kind → Gauge → Case → ℕ → List ℕ → List ℤ → List Line → Answer Test
read_entries kind gs cs left rows vs [] =
    cond (eqb left 0) (accepted (record { kind = kind; gauges = gs.0; cases = cs.0; entries = rows; readings = vs })) (refused_file PairCount)
read_entries kind gs cs left rows vs (l ∷ ls) =
    elim (entry_line kind gs cs l.text) [
      | skip_entry ↦ read_entries kind gs cs left rows vs ls
      | Entry g c v ↦
          elim (has_pair rows g c) [
            | true ↦ refused_file PairRepeated
            | false ↦
                elim (eqb left 0) [
                  | true ↦ refused_file PairCount
                  | false ↦ read_entries kind gs cs (left - 1) (add_pair rows g c) (add_reading vs g c v) ls
                ]
          ]
      | bad_entry why ↦ refused_file why
    ]

-- the lines behind the first, up to the size line: "4 absent"
unfoldable pub read_head : Kind → List Line → Answer Test
read_head kind [] = refused_file SizeFields
read_head kind (l ∷ ls) =
    elim (head_line l.text) [
      | skip_head ↦ read_head kind ls
      | Size g c n ↦ read_entries kind g c n no_rows no_readings ls
      | bad_head why ↦ refused_file why
    ]

-- "First line: 2 not the banner (an empty file too)"; integers says whether the banner of an integer file is taken
unfoldable pub read_lines : Bool → List Line → Answer Test
read_lines integers [] = refused_file NotTheBanner
read_lines integers (l ∷ ls) = elim (first_line integers l.text) [ Banner kind ↦ read_head kind ls | Other ↦ refused_file NotTheBanner ]

-- "File as a whole: 1 longer than 65,536"
unfoldable pub read_recorded : Bool → List ℕ → Answer Test
read_recorded integers file = elim (ltb 65536 (length file)) [ true ↦ refused_file FileTooLong | false ↦ read_lines integers (lines file) ]

-- ---- the two readers
-- 01's reader: the table whose pairs are the entries of a file of pairs; an integer file's first line is "not the
-- banner" (2)
abbrev pub pairs_of : Answer Test → Answer Table
pairs_of a = record { refusal = a.refusal; value = listed a.value }

unfoldable pub read_file : List ℕ → Answer Table
read_file file = pairs_of (read_recorded false file)

-- the reader with a cutoff: "21: cutoff out of range, before all else", then the refusals of the file
unfoldable pub read_test : List ℕ → ℕ → Answer TestAndTable
read_test file cutoff =
    answer (cutoff_first cutoff (read_recorded true file).refusal)
    (record { test = (read_recorded true file).value; table = table_of (read_recorded true file).value cutoff })
    blank_both

-- ---- comment lookup, after the file
unfoldable pub comment_at : List ℕ → ℕ → Answer Part
comment_at file k =
    cond (eqb (read_recorded true file).refusal 0) (comment_lines k (lines file)) (record { refusal = (read_recorded true file).refusal; value = no_part })
