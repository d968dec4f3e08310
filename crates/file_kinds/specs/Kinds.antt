-- The kinds of line behind the first (01, "The file"; 02, R-5): comment lines, the lines ahead of the entries, the
-- entry lines. The first failing test of a line decides, in the order of 01's table of refusals; a refusal is here by
-- its name, and `number` of the crate `refusals` gives 01's number. The first line is in Banner.antt. What an entry
-- line has by the kind of file is in `fields_by` alone. The same lines in 01's words, each kind by itself, are in
-- OneLine.antt.
use Rattle.std.specs.Prelude.{ℕ, List, [], ◌∷◌, Bool, false, cond, ◌&&◌, length, ltb, leb, eqb, ℤ, pos, nat_abs}
use Rattle.table.specs.Tables.{in_range}
use Rattle.table.specs.declared.Gauge.{Gauge}
use Rattle.table.specs.declared.Case.{Case}
use Rattle.refusals.specs.Answers.{Answer, refused}
use Rattle.refusals.specs.declared.Refusal.TheVariants.{LineTooLong, SizeFields, SizeRange, PairFields, PairRange, ReadingRange}
use Rattle.file_text.specs.Fields.{fields}
use Rattle.file_text.specs.declared.Fields.{Fields}
use Rattle.file_text.specs.declared.Fields.TheVariants.{Blank, Two, Three, Other}
use Rattle.file_entries.specs.Words.{entry_fields}
use Rattle.file_entries.specs.declared.EntryFields.{EntryFields}
use Rattle.file_entries.specs.declared.EntryFields.TheVariants.{Blank as no_fields, Entry as fields_of, Other as other_fields}
use Rattle.recorded.specs.declared.Kind.{Kind}
use Rattle.recorded.specs.declared.Kind.TheVariants.{Pattern, Integer}
use Rattle.file_kinds.specs.declared.HeadLine.{HeadLine}
use Rattle.file_kinds.specs.declared.HeadLine.TheVariants.{Size, Skip as skip_head, Bad as bad_head}
use Rattle.file_kinds.specs.declared.EntryLine.{EntryLine}
use Rattle.file_kinds.specs.declared.EntryLine.TheVariants.{Entry, Skip as skip_entry, Bad as bad_entry}

-- "comment lines (first byte `%`)"
abbrev pub is_comment : List ℕ → Bool
is_comment [] = false
is_comment (b ∷ s) = eqb b 37

-- "A line has at most 1,024 bytes without its end"
abbrev pub too_long : List ℕ → Bool
too_long l = ltb 1024 (length l)

-- "Size line: 4 absent or not three fields; then 5 G or L not in 1..64": G is the last gauge, L the last case; a
-- blank line is skipped
abbrev pub size_of : Fields → HeadLine
size_of Blank = skip_head
size_of (Two a b) = bad_head SizeFields
size_of (Three g l n) = cond (in_range 64 g && in_range 64 l) (Size (record { 0 = g }) (record { 0 = l }) n) (bad_head SizeRange)
size_of Other = bad_head SizeFields

-- a line ahead of the entries: a comment, blank, or the size line `G L N`
abbrev pub head_line : List ℕ → HeadLine
head_line l = cond (too_long l) (bad_head LineTooLong) (cond (is_comment l) skip_head (size_of (fields l)))

-- how the code's answer reads: no number, and the size line's G, L and N, no values for a line that is passed over;
-- or the number of the refusal
abbrev pub head_line_says : HeadLine → Answer (List ℕ)
head_line_says skip_head = record { refusal = 0; value = [] }
head_line_says (Size g c n) = record { refusal = 0; value = g.0 ∷ c.0 ∷ n ∷ [] }
head_line_says (bad_head why) = refused why []

-- a line of a file of pairs: two fields `g c`, and no reading, which is 0 here
abbrev pub pair_of : Fields → EntryFields
pair_of Blank = no_fields
pair_of (Two g c) = fields_of g c (pos 0)
pair_of (Three a b c) = other_fields
pair_of Other = other_fields

abbrev pub pair_fields : List ℕ → EntryFields
pair_fields l = pair_of (fields l)

-- the fields of an entry line by the kind of file: `g c`, and "lines `g c v`"
unfoldable pub fields_by : Kind → List ℕ → EntryFields
fields_by Pattern l = pair_fields l
fields_by Integer l = entry_fields l

-- v "in -1,000,000..1,000,000"
abbrev pub in_reach : ℤ → Bool
in_reach v = leb (nat_abs v) 1000000

-- "Pair line: 6 not two fields; then 7 g or c outside 1..G, 1..L"; "In such a file 6 means not three fields"; "20: v
-- out of range, after 7 and before 8"; a blank line is skipped
unfoldable pub entry_of : Gauge → Case → EntryFields → EntryLine
entry_of gs cs no_fields = skip_entry
entry_of gs cs (fields_of g c v) =
    cond (in_range gs.0 g && in_range cs.0 c)
    (cond (in_reach v) (Entry (record { 0 = g }) (record { 0 = c }) v) (bad_entry ReadingRange))
    (bad_entry PairRange)
entry_of gs cs other_fields = bad_entry PairFields

-- a line behind the size line, where gs is the last gauge and cs the last case: blank, or an entry; "A `%` line after
-- the size line is a malformed pair line"
unfoldable pub entry_line : Kind → Gauge → Case → List ℕ → EntryLine
entry_line kind gs cs l = cond (too_long l) (bad_entry LineTooLong) (entry_of gs cs (fields_by kind l))

-- how the code's answer reads: no number, and the entry's gauge, case and reading, no values for a line that is
-- passed over; or the number of the refusal
abbrev pub entry_line_says : EntryLine → Answer (List ℤ)
entry_line_says skip_entry = record { refusal = 0; value = [] }
entry_line_says (Entry g c v) = record { refusal = 0; value = pos g.0 ∷ pos c.0 ∷ v ∷ [] }
entry_line_says (bad_entry why) = refused why []
