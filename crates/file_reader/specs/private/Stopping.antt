-- The number of the line at which reading stops, told as the code tells it: line k is the next. 0 where no line fails. That it is the number of
-- the first failing line, `Fault`, is `fault_read` in proofs/FileLaws.antt.
use Rattle.std.specs.Prelude.{ℕ, suc, ◌-◌, List, [], ◌∷◌, Bool, true, false, cond, length, ltb, eqb}
use Rattle.table.specs.Tables.{no_rows}
use Rattle.table.specs.declared.Gauge.{Gauge}
use Rattle.table.specs.declared.Case.{Case}
use Rattle.recorded.specs.declared.Kind.{Kind}
use Rattle.file_text.specs.Lines.{Line, lines}
use Rattle.file_kinds.specs.Banner.{first_line}
use Rattle.file_kinds.specs.Kinds.{head_line, entry_line}
use Rattle.std.specs.Prelude.{Some as Banner, None as Other}
use Rattle.file_kinds.specs.declared.HeadLine.TheVariants.{Size, Skip as skip_head, Bad as bad_head}
use Rattle.file_kinds.specs.declared.EntryLine.TheVariants.{Entry, Skip as skip_entry, Bad as bad_entry}
use Rattle.file_reader.specs.private.Reading.{has_pair, add_pair}

unfoldable pub stop_entries : Kind → Gauge → Case → ℕ → List ℕ → ℕ → List Line → ℕ
stop_entries kind gs cs left rows k [] = cond (eqb left 0) 0 k
stop_entries kind gs cs left rows k (l ∷ ls) =
    elim (entry_line kind gs cs l.text) [
      | skip_entry ↦ stop_entries kind gs cs left rows (suc k) ls
      | Entry g c v ↦
          elim (has_pair rows g c) [
            | true ↦ k
            | false ↦ elim (eqb left 0) [ true ↦ k | false ↦ stop_entries kind gs cs (left - 1) (add_pair rows g c) (suc k) ls ]
          ]
      | bad_entry why ↦ k
    ]

unfoldable pub stop_head : Kind → ℕ → List Line → ℕ
stop_head kind k [] = k
stop_head kind k (l ∷ ls) =
    elim (head_line l.text) [
      | skip_head ↦ stop_head kind (suc k) ls
      | Size g c n ↦ stop_entries kind g c n no_rows (suc k) ls
      | bad_head why ↦ k
    ]

unfoldable pub stop_lines : Bool → List Line → ℕ
stop_lines integers [] = 1
stop_lines integers (l ∷ ls) = elim (first_line integers l.text) [ Banner kind ↦ stop_head kind 2 ls | Other ↦ 1 ]

unfoldable pub stop_line : Bool → List ℕ → ℕ
stop_line integers f = elim (ltb 65536 (length f)) [ true ↦ 0 | false ↦ stop_lines integers (lines f) ]
