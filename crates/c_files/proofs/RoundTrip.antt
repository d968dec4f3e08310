-- What writing left is read back, in words: of the bytes that the writer left, as many as it says, the reader's answer is the table (`write_back`), so
-- reading returns 0 and leaves the same table (`write_reads`). From what crate `round_trip` says of a written file.
use mathlib.Core.Path.{◌≡◌, refl, sym, ap, ◌∙◌, subst}
use mathlib.Core.Logic.{◌⊎◌, inr}
use mathlib.Core.List.{List}
use Prim.Native.Nat.{ℕ, ◌≤◌, ◌<◌}
use native.Mathlib.Omega.{arith}
use lib.ListN.{length, take}
use lib.Seq.{get_or-set_same}
use Rattle.table.specs.declared.Table.{Table}
use Rattle.file_reader.proofs.Promising.{table_of_file_unique}
use Rattle.file_writer.specs.Writing.{write_answer}
use Rattle.round_trip.specs.Back.{TableBack}
use Rattle.round_trip.proofs.Written.{table_back_read}
use Rattle.words.specs.Layouts.{word_at, table_at}
use Rattle.words.proofs.Serving.{long}
use Rattle.words.proofs.Answers.{gives_is}
use Rattle.c_files.specs.Serving.{Reads, WrittenTable, WritesTable}
use Rattle.c_files.proofs.Answers.{reads-table}

module _ (t bytes len bytes' len' : List ℕ) (h : WritesTable t bytes len bytes' len' 0) where
  abbrev made : Table
  made = table_at 0 t

  not_short : ¬ ((length t < 66) ⊎ (length len < 1))
  not_short s = omega (arith, (h.short s).0)

  written : WrittenTable made bytes len bytes' len' 0
  written = h.served not_short

  size_is : word_at len' 0 ≡ (write_answer made (length bytes)).value
  size_is = ap (λ (x : List ℕ). word_at x 0) written.size ∙ get_or-set_same len 0 (write_answer made (length bytes)).value 0 some
    where
      some : 0 < length len
      some = let k : ¬ (length len < 1) = λ l. not_short (inr l) in omega arith

  -- "A written table reads back as itself"
  pub write_back : TableBack made (take (word_at len' 0) bytes')
  write_back = subst (λ (n : ℕ). TableBack made (take n bytes')) (sym size_is) (written.back refl)

  pub write_reads : (out out' : List ℕ) (r : ℕ) → 66 ≤ length out → Reads (take (word_at len' 0) bytes') out out' r → (r ≡ 0) × (table_at 0 out' ≡ table_at 0 t)
  write_reads out out' r l g = (zero, (table_back_read write_back _ (reads-table (take (word_at len' 0) bytes') out out' r zero g)).1)
    where
      zero : r ≡ 0
      zero = (gives_is out (table_of_file_unique (take (word_at len' 0) bytes')) (long l) (record { refusal = 0; value = made }) write_back.reads out' r g).0
