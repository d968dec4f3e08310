-- The two readers side by side (02, R-5: "the old one, and pattern files, go on as before"). On a file whose first line is not the banner of
-- an integer file they agree, at every cutoff in range: the same refusal and the same table (`readers-agree`), and the test is a pattern
-- test (`pattern_read`). On an integer file 01's reader answers 2 (`integer_old`), unless the file is too long.
use Prim.Native.Nat.{ℕ, ◌≤◌}
use mathlib.Core.Path.{◌≡◌, refl, sym, ap, ◌∙◌}
use mathlib.Core.List.{List, [], ◌∷◌}
use mathlib.Core.Bool.{Bool, true, false, cond}
use lib.ListN.{length}
use lib.Dec.{eqb, ltb}
use borrow.Author.Tests.{eqb-true, eqb-false, le-ltb}
use Rattle.basics.proofs.Clash.{clash}
use Rattle.table.specs.Tables.{in_range, blank_table}
use Rattle.table.specs.declared.Table.{Table}
use Rattle.refusals.specs.Answers.{Answer, answer, refused}
use Rattle.refusals.specs.declared.Refusal.TheVariants.{FileTooLong, NotTheBanner}
use Rattle.recorded.specs.Tests.{listed, table_of}
use Rattle.recorded.specs.declared.Kind.{Kind}
use Rattle.recorded.specs.declared.Kind.TheVariants.{Pattern, Integer}
use Rattle.recorded.specs.declared.Test.{Test}
use Rattle.recorded.proofs.Reaching.{pattern_table}
use Rattle.file_text.specs.Lines.{Line, lines}
use Rattle.file_kinds.specs.Banner.{pattern, integer, takes, is_of_kind}
use Rattle.file_kinds.specs.Banner.{FirstLine}
use Rattle.std.specs.Prelude.{Some as Banner, None as Other}
use Rattle.file_kinds.proofs.Opening.{kinds_apart, integer_refused, first_same}
use Rattle.file_reader.specs.private.Reading.{refused_file, read_head, read_lines, read_recorded, pairs_of, read_file, read_test}
use Rattle.file_reader.specs.Promises.{TestAndTable, blank_both}
use Rattle.file_reader.proofs.Yielded.{recorded_sound}
use Rattle.file_reader.proofs.Answered.{both}

-- the text of a file's first line, empty where there is none
abbrev pub first_of : List Line → List ℕ
first_of [] = []
first_of (l ∷ ls) = l.text

abbrev pub first_text : List ℕ → List ℕ
first_text f = first_of (lines f)

-- the same refusal, the same table, and a pattern test
pub record Agree (a : Answer TestAndTable) (b : Answer Table) : Type 0 where
  pub refusal : a.refusal ≡ b.refusal
  pub table : a.value.table ≡ b.value
  pub kind : a.value.test.kind ≡ Pattern

-- ---- a file that is no integer file is read alike by both
same_lines : (ls : List Line) → is_of_kind integer (first_of ls) ≡ false → read_lines true ls ≡ read_lines false ls
unfolding read_lines
same_lines [] e = refl
same_lines (l ∷ ls) e =
    ap (λ (b : FirstLine). elim b [ Banner kind ↦ read_head kind ls | Other ↦ refused_file NotTheBanner ]) (first_same l.text e)

same_read : (f : List ℕ) → is_of_kind integer (first_text f) ≡ false → read_recorded true f ≡ read_recorded false f
unfolding read_recorded
same_read f e =
    ap (λ (a : Answer Test). elim (ltb 65536 (length f)) [ true ↦ refused_file FileTooLong | false ↦ a ]) (same_lines (lines f) e)

-- what 01's reader accepts is a pattern test
only_pattern : (kind : Kind) → takes false kind ≡ true → kind ≡ Pattern
only_pattern Pattern e = refl
only_pattern Integer e = clash cc

pattern_read : (f : List ℕ) → (read_recorded false f).refusal ≡ 0 → (read_recorded false f).value.kind ≡ Pattern
pattern_read f e = only_pattern (read_recorded false f).value.kind ((recorded_sound false f).given e).1

module _ (f : List ℕ) (cutoff : ℕ) where
  -- the answer at a cutoff in range, by whether the file is refused
  abbrev given : Bool → TestAndTable
  given t = cond t (both (read_recorded false f).value (table_of (read_recorded false f).value cutoff)) blank_both

  given-table : (t : Bool) → eqb (read_recorded false f).refusal 0 ≡ t → (given t).table ≡ listed (read_recorded false f).value
  given-table true e = pattern_table (read_recorded false f).value (pattern_read f (eqb-true (read_recorded false f).refusal 0 e)) cutoff
  given-table false e = sym (ap listed ((recorded_sound false f).blank (eqb-false (read_recorded false f).refusal 0 e)))

  given-kind : (t : Bool) → eqb (read_recorded false f).refusal 0 ≡ t → (given t).test.kind ≡ Pattern
  given-kind true e = pattern_read f (eqb-true (read_recorded false f).refusal 0 e)
  given-kind false e = refl

  agree_by : (a : Answer Test) → a ≡ read_recorded false f
      → Agree (answer a.refusal (both a.value (table_of a.value cutoff)) blank_both) (pairs_of (read_recorded false f))
  agree_by a e =
      rw e
      (record {
        refusal = refl;
        table = given-table (eqb (read_recorded false f).refusal 0) refl;
        kind = given-kind (eqb (read_recorded false f).refusal 0) refl;
      })

  module _ (c : in_range 1000000 cutoff ≡ true) where
    pub readers-agree : is_of_kind integer (first_text f) ≡ false → Agree (read_test f cutoff) (read_file f)
    unfolding read_test read_file
    readers-agree e = rw c (agree_by (read_recorded true f) (same_read f e))

    pub patterns-agree : is_of_kind pattern (first_text f) ≡ true → Agree (read_test f cutoff) (read_file f)
    patterns-agree p = readers-agree (go (is_of_kind integer (first_text f)) refl)
      where
        go : (t : Bool) → is_of_kind integer (first_text f) ≡ t → t ≡ false
        go false e = refl
        go true e = sym p ∙ kinds_apart (first_text f) e

-- ---- an integer file
integer_lines : (ls : List Line) → is_of_kind integer (first_of ls) ≡ true → read_lines false ls ≡ refused_file NotTheBanner
unfolding read_lines
integer_lines [] e = refl
integer_lines (l ∷ ls) e =
    ap (λ (b : FirstLine). elim b [ Banner kind ↦ read_head kind ls | Other ↦ refused_file NotTheBanner ]) (integer_refused l.text e)

pub integer_old : (f : List ℕ) → length f ≤ 65536 → is_of_kind integer (first_text f) ≡ true → read_file f ≡ refused NotTheBanner blank_table
unfolding read_file read_recorded
integer_old f h e = rw (le-ltb 65536 (length f) h, read_recorded) (ap pairs_of (integer_lines (lines f) e))
