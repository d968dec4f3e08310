-- What a caller reads off the promise of writing, sentence by sentence (specs/Serving; 01, "The file": "It fills the front of the lent buffer, reports the
-- length, and touches no byte behind"; "A refusal yields its number and nothing else").
--
-- In order: what a writer leaves, of any file and behind any checks (`room_number`, `room_filled`, `room_sized`, `room_kept`); of a table's file the number
-- (`writes_100`, `written_number`), the bytes and the length where it is 0 (`written_file`, `written_size`), which read back (`written_back`), and all as
-- it was where it is not (`written_kept`).
--
-- Elsewhere: reading and comments, which leave one slice, words/proofs/Sentences; that what was written reads back, RoundTrip.antt.
use mathlib.Core.Path.{◌≡◌, ap, ◌∙◌, sym}
use mathlib.Core.Bool.{Bool, cond}
use mathlib.Core.Logic.{◌⊎◌}
use mathlib.Core.List.{List, [], ◌∷◌, ◌++◌}
use Prim.Native.Nat.{ℕ, ◌≤◌, ◌<◌}
use lib.ListN.{length, take, drop}
use lib.Seq.{sets as stored}
use borrow.Author.Tests.{eq-eqb, ne_eqb}
use Rattle.table.specs.declared.Table.{Table}
use Rattle.table.specs.Tables.{table_refusal}
use Rattle.file_writer.specs.Writing.{write_file, write_answer, room_refusal, room_answer, room_buffer}
use Rattle.file_writer.proofs.Files.{too_short, long_enough}
use Rattle.round_trip.specs.Back.{TableBack}
use Rattle.words.specs.Serving.{words_after}
use Rattle.words.proofs.Serving.{left_refused}
use Rattle.words.proofs.Answers.{left_zero}
use Rattle.c_files.specs.Serving.{WrittenTable, WritesTable}

-- ---- any file, where k is the number of the checks ahead
-- the number r: theirs, then "16 buffer shorter than the file"
abbrev pub Numbers : ℕ → List ℕ → List ℕ → ℕ → Type 0
Numbers k file bytes r =
    (¬ (k ≡ 0) → r ≡ k) × (k ≡ 0 → length bytes < length file → r ≡ 16) × (k ≡ 0 → length file ≤ length bytes → r ≡ 0)

checks_first : (k : ℕ) (file : List ℕ) (n : ℕ) → ¬ (k ≡ 0) → room_refusal k file n ≡ k
unfolding room_refusal
checks_first k file n z = rw (ne_eqb k 0 z)

module _ (k : ℕ) (file bytes : List ℕ) (r : ℕ) (n : r ≡ room_refusal k file (length bytes)) where
  pub room_number : Numbers k file bytes r
  room_number = (
    λ z. n ∙ checks_first k file (length bytes) z,
    λ z l. n ∙ too_short k file (length bytes) z l,
    λ z l. n ∙ long_enough k file (length bytes) z l,
  )

  pub room_filled : (bytes' : List ℕ) → bytes' ≡ room_buffer k file bytes → r ≡ 0 → bytes' ≡ file ++ drop (length file) bytes
  room_filled bytes' e z =
      e ∙ ap (λ (b : Bool). cond b (file ++ drop (length file) bytes) bytes) (eq-eqb (room_refusal k file (length bytes)) 0 (sym n ∙ z))

  pub room_sized : (len len' : List ℕ) → len' ≡ words_after r ((room_answer k file (length bytes)).value ∷ []) len → r ≡ 0 → len' ≡ stored len 0 (length file ∷ [])
  room_sized len len' e z =
      e ∙ left_zero r ((room_answer k file (length bytes)).value ∷ []) len z
      ∙ ap (λ (b : Bool). stored len 0 (cond b (length file) 0 ∷ [])) (eq-eqb (room_refusal k file (length bytes)) 0 (sym n ∙ z))

  pub room_kept : (bytes' : List ℕ) → bytes' ≡ room_buffer k file bytes → ¬ (r ≡ 0) → bytes' ≡ bytes
  room_kept bytes' e z =
      e ∙ ap (λ (b : Bool). cond b (file ++ drop (length file) bytes) bytes) (ne_eqb (room_refusal k file (length bytes)) 0 (λ y. z (n ∙ y)))

-- ---- a table's file
pub writes_100 : {t bytes len bytes' len' : List ℕ} {r : ℕ} → WritesTable t bytes len bytes' len' r → (length t < 66) ⊎ (length len < 1)
    → (r ≡ 100) × (bytes' ≡ bytes) × (len' ≡ len)
writes_100 w h = w.short h

module _ (t : Table) (bytes len bytes' len' : List ℕ) (r : ℕ) where
  pub written_number : WrittenTable t bytes len bytes' len' r → Numbers (table_refusal t) (write_file t) bytes r
  written_number w = room_number (table_refusal t) (write_file t) bytes r w.number

  pub written_file : WrittenTable t bytes len bytes' len' r → r ≡ 0 → bytes' ≡ write_file t ++ drop (length (write_file t)) bytes
  written_file w z = room_filled (table_refusal t) (write_file t) bytes r w.number bytes' w.file z

  pub written_size : WrittenTable t bytes len bytes' len' r → r ≡ 0 → len' ≡ stored len 0 (length (write_file t) ∷ [])
  written_size w z = room_sized (table_refusal t) (write_file t) bytes r w.number len len' w.size z

  -- "A written table reads back as itself"
  pub written_back : WrittenTable t bytes len bytes' len' r → r ≡ 0 → TableBack t (take (write_answer t (length bytes)).value bytes')
  written_back w z = w.back z

  pub written_kept : WrittenTable t bytes len bytes' len' r → ¬ (r ≡ 0) → (bytes' ≡ bytes) × (len' ≡ len)
  written_kept w z = (
    room_kept (table_refusal t) (write_file t) bytes r w.number bytes' w.file z,
    w.size ∙ left_refused r ((room_answer (table_refusal t) (write_file t) (length bytes)).value ∷ []) len z,
  )
