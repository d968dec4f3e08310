-- The comment lines of an accepted file are all before its size line (`late_comment`): behind it a `%` line is a
-- malformed pair line. So `comment_from`, which looks at every line behind the first, counts the lines that 01 calls
-- comment lines and no other.
use Prim.Native.Nat.{ℕ, ◌-◌}
use mathlib.Core.Path.{◌≡◌, refl, ap, sym, ◌∙◌}
use mathlib.Core.List.{List, [], ◌∷◌}
use mathlib.Core.Bool.{Bool, true, false, cond}
use native.Mathlib.Omega.{arith}
use mathlib.Core.Option.{none as no_number}
use lib.IntN.{ℤ}
use lib.Dec.{eqb}
use borrow.Author.Tests.{eqb-true}
use Rattle.basics.proofs.Clash.{clash}
use Rattle.refusals.specs.Answers.{Answer, number}
use Rattle.refusals.specs.declared.Refusal.{Refusal}
use Rattle.refusals.specs.declared.Refusal.TheVariants.{LineTooLong, PairFields, PairRepeated, PairCount}
use Rattle.table.specs.declared.Gauge.{Gauge}
use Rattle.table.specs.declared.Case.{Case}
use Rattle.recorded.specs.declared.Kind.{Kind}
use Rattle.recorded.specs.declared.Kind.TheVariants.{Pattern, Integer}
use Rattle.recorded.specs.declared.Test.{Test}
use Rattle.refusals.proofs.Answering.{number_pos}
use Rattle.file_text.specs.Lines.{Line}
use Rattle.file_text.specs.Fields.{scan}
use Rattle.file_entries.specs.Values.{number_from, number_of}
use Rattle.file_entries.specs.Words.{at_break, grow, words, entry_of, entry_fields}
use Rattle.file_entries.specs.declared.EntryFields.TheVariants.{Other as other_fields}
use Rattle.file_kinds.specs.Kinds.{is_comment, too_long, pair_fields, fields_by, entry_of as line_of, entry_line}
use Rattle.file_reader.specs.private.Reading.{refused_file, has_pair, add_pair, add_reading, read_entries}
use Rattle.file_kinds.specs.declared.EntryLine.{EntryLine}
use Rattle.file_kinds.specs.declared.EntryLine.TheVariants.{Entry, Skip as skip_entry, Bad as bad_entry}

-- none of the lines is a comment line
pub data NoComments : List Line → Type 0 where
  none : NoComments []
  more : {l : Line} {ls : List Line} → is_comment l.text ≡ false → NoComments ls → NoComments (l ∷ ls)

-- a `%` line has no fields, whatever the kind of file
comment_pair : (l : List ℕ) → is_comment l ≡ true → pair_fields l ≡ other_fields
unfolding scan
comment_pair [] e = clash cc
comment_pair (b ∷ s) e = rw (eqb-true b 37 e)

-- a first word that is no number makes an entry line malformed
no_gauge : (w : List ℕ) (ws : List (List ℕ)) → number_of w ≡ no_number → entry_of (w ∷ ws) ≡ other_fields
no_gauge w [] e = refl
no_gauge w (a ∷ []) e = refl
no_gauge w (a ∷ b ∷ []) e = rw e
no_gauge w (a ∷ b ∷ c ∷ ws) e = refl

percent_word : (s : List ℕ) (t : Bool) (ws : List (List ℕ)) → entry_of (grow 37 t ws) ≡ other_fields
unfolding number_from
percent_word s true ws = no_gauge (37 ∷ []) ws refl
percent_word s false [] = refl
percent_word s false (w ∷ ws) = no_gauge (37 ∷ w) ws refl

comment_entry : (l : List ℕ) → is_comment l ≡ true → entry_fields l ≡ other_fields
unfolding words
comment_entry [] e = clash cc
comment_entry (b ∷ s) e = rw (eqb-true b 37 e) (percent_word s (at_break s) (words s))

comment_fields : (kind : Kind) (l : List ℕ) → is_comment l ≡ true → fields_by kind l ≡ other_fields
unfolding fields_by
comment_fields Pattern l e = comment_pair l e
comment_fields Integer l e = comment_entry l e

-- it is an entry line that is refused
comment_bad : (kind : Kind) (gs : Gauge) (cs : Case) (l : List ℕ) → is_comment l ≡ true → (x : Refusal) × (entry_line kind gs cs l ≡ bad_entry x)
unfolding entry_line line_of
comment_bad kind gs cs l e = go (too_long l)
  where
    go : (t : Bool) → (x : Refusal) × (cond t (bad_entry LineTooLong) (line_of gs cs (fields_by kind l)) ≡ bad_entry x)
    go true = (LineTooLong, refl)
    go false = (PairFields, ap (line_of gs cs) (comment_fields kind l e))

-- a line that is an entry or blank is no comment
pub not_comment : (kind : Kind) (gs : Gauge) (cs : Case) (l : List ℕ) (k : EntryLine) → entry_line kind gs cs l ≡ k → ((x : Refusal) → k ≡ bad_entry x → ⊥)
    → is_comment l ≡ false
not_comment kind gs cs l k p n = go (is_comment l) refl
  where
    go : (t : Bool) → is_comment l ≡ t → t ≡ false
    go false e = refl
    go true e = let (x, q) = comment_bad kind gs cs l e in absurd (n x (sym p ∙ q))

-- an answer that refuses nothing was read from such lines
abbrev Quiet : List Line → Answer Test → Type 0
Quiet ls a = a.refusal ≡ 0 → NoComments ls

pub late_comment : (kind : Kind) (gs : Gauge) (cs : Case) (left : ℕ) (rows : List ℕ) (vs : List ℤ) (ls : List Line)
    → (read_entries kind gs cs left rows vs ls).refusal ≡ 0 → NoComments ls
unfolding read_entries
late_comment kind gs cs left rows vs [] e = none
late_comment kind gs cs left rows vs (l ∷ ls) e =
    go (entry_line kind gs cs l.text) refl (late_comment kind gs cs left rows vs ls) (λ w x. late_comment kind gs cs (left - 1) w x ls) e
  where
    go : (k : EntryLine) → entry_line kind gs cs l.text ≡ k → ((read_entries kind gs cs left rows vs ls).refusal ≡ 0 → NoComments ls)
        → ((w : List ℕ) (x : List ℤ) → (read_entries kind gs cs (left - 1) w x ls).refusal ≡ 0 → NoComments ls)
        → (read_entries kind gs cs left rows vs (l ∷ ls)).refusal ≡ 0 → NoComments (l ∷ ls)
    go skip_entry p skip next e =
        more (not_comment kind gs cs l.text skip_entry p (λ x q. clash cc)) (skip (rw (p, read_entries) at e))
    go (bad_entry x) p skip next e = let z : number x ≡ 0 = rw (p, read_entries) at e in absurd (omega (arith, number_pos x))
    go (Entry g c v) p skip next e =
        more (not_comment kind gs cs l.text (Entry g c v) p (λ x q. clash cc))
        (take (has_pair rows g c) (eqb left 0) (rw (p, read_entries) at e))
      where
        take : (t u : Bool)
            → Quiet ls (elim t [
              | true ↦ refused_file PairRepeated
              | false ↦ elim u [ true ↦ refused_file PairCount | false ↦ read_entries kind gs cs (left - 1) (add_pair rows g c) (add_reading vs g c v) ls ]
            ])
        take true u e = absurd (omega arith)
        take false true e = absurd (omega arith)
        take false false e = next (add_pair rows g c) (add_reading vs g c v) e
