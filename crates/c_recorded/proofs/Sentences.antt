-- What a caller reads off the promises, sentence by sentence (specs/Serving; 02, R-5: "The entry with a cutoff takes either banner and gives the test and its
-- table"; "Write such files too"; 01: "A refusal yields its number and nothing else").
--
-- In order: reading, with slices too short (`reads_100`) or not (`reads_served`): the number (`leaves_number`), the test, its readings and its table over the
-- front of the slices where it is 0 (`leaves_front`), and every slice as it was where it is not (`leaves_kept`); writing (`writes_100`, `writes_served`): the
-- number (`written_number`), the bytes and the length where it is 0 (`written_file`, `written_size`), which reads back (`written_back`), and all as it
-- was where it is not (`written_kept`).
--
-- Elsewhere: what the slices read as after reading, Joined.antt; comparing, which leaves one slice, words/proofs/Sentences; what a writer leaves, of any file,
-- c_files/proofs/Sentences.
use mathlib.Core.Path.{◌≡◌, ◌∙◌}
use mathlib.Core.Logic.{◌⊎◌}
use mathlib.Core.List.{List, [], ◌∷◌, ◌++◌}
use Prim.Native.Nat.{ℕ, ◌≤◌, ◌<◌}
use lib.IntN.{ℤ}
use lib.ListN.{length, take, drop}
use lib.Seq.{sets as stored}
use Rattle.refusals.specs.Answers.{Answer}
use Rattle.recorded.specs.Tests.{test_refusal}
use Rattle.recorded.specs.declared.Test.{Test}
use Rattle.file_reader.specs.Promises.{TestAndTable, TestOfFile}
use Rattle.file_writer.specs.Writing.{room_answer}
use Rattle.file_writer.specs.TestFiles.{test_file, test_answer}
use Rattle.round_trip.specs.Back.{TestBack}
use Rattle.words.specs.Layouts.{table_words}
use Rattle.words.proofs.Serving.{left_refused, long, long_two}
use Rattle.words.proofs.Answers.{left_zero}
use Rattle.c_files.proofs.Sentences.{Numbers, room_number, room_filled, room_sized, room_kept}
use Rattle.c_recorded.specs.Layouts.{test_at, test_words}
use Rattle.c_recorded.specs.Serving.{ShortTest, left_readings, LeavesTest, ReadsTest, WrittenTest, WritesTest}
use Rattle.c_recorded.proofs.Serving.{readings_refused, neither}

-- ---- reading
pub reads_100 : {file : List ℕ} {cutoff : ℕ} {w : List ℕ} {v : List ℤ} {t w' : List ℕ} {v' : List ℤ} {t' : List ℕ} {r : ℕ}
    → ReadsTest file cutoff w v t w' v' t' r → ShortTest w v ⊎ (length t < 66) → (r ≡ 100) × (w' ≡ w) × (v' ≡ v) × (t' ≡ t)
reads_100 g h = g.short h

-- 67 words, 4,096 readings and 66 words are enough
pub reads_served : {file : List ℕ} {cutoff : ℕ} {w : List ℕ} {v : List ℤ} {t w' : List ℕ} {v' : List ℤ} {t' : List ℕ} {r : ℕ}
    → ReadsTest file cutoff w v t w' v' t' r → 67 ≤ length w → 4096 ≤ length v → 66 ≤ length t
    → (a : Answer TestAndTable) × TestOfFile file cutoff a × LeavesTest a w v t w' v' t' r
reads_served g lw lv lt = let s = g.served (neither (long_two lw lv) (long lt)) in (s.answer, s.promised, s.leaves)

readings_zero : (r : ℕ) (vs v : List ℤ) → r ≡ 0 → left_readings r vs v ≡ stored v 0 vs
readings_zero r vs v z = rw z

module _ (a : Answer TestAndTable) (w : List ℕ) (v : List ℤ) (t w' : List ℕ) (v' : List ℤ) (t' : List ℕ) (r : ℕ) where
  pub leaves_number : LeavesTest a w v t w' v' t' r → r ≡ a.refusal
  leaves_number l = l.number

  pub leaves_front : LeavesTest a w v t w' v' t' r → r ≡ 0
      → (w' ≡ stored w 0 (test_words a.value.test)) × (v' ≡ stored v 0 a.value.test.readings) × (t' ≡ stored t 0 (table_words a.value.table))
  leaves_front l z = (
    l.test ∙ left_zero r (test_words a.value.test) w z,
    l.readings ∙ readings_zero r a.value.test.readings v z,
    l.table ∙ left_zero r (table_words a.value.table) t z,
  )

  pub leaves_kept : LeavesTest a w v t w' v' t' r → ¬ (r ≡ 0) → (w' ≡ w) × (v' ≡ v) × (t' ≡ t)
  leaves_kept l z = (
    l.test ∙ left_refused r (test_words a.value.test) w z,
    l.readings ∙ readings_refused r a.value.test.readings v z,
    l.table ∙ left_refused r (table_words a.value.table) t z,
  )

-- ---- writing
pub writes_100 : {w : List ℕ} {v : List ℤ} {bytes len bytes' len' : List ℕ} {r : ℕ} → WritesTest w v bytes len bytes' len' r
    → ShortTest w v ⊎ (length len < 1) → (r ≡ 100) × (bytes' ≡ bytes) × (len' ≡ len)
writes_100 g h = g.short h

-- 67 words, 4,096 readings and 1 word are enough
pub writes_served : {w : List ℕ} {v : List ℤ} {bytes len bytes' len' : List ℕ} {r : ℕ} → WritesTest w v bytes len bytes' len' r
    → 67 ≤ length w → 4096 ≤ length v → 1 ≤ length len → WrittenTest (test_at w v) bytes len bytes' len' r
writes_served g lw lv ll = g.served (neither (long_two lw lv) (long ll))

module _ (t : Test) (bytes len bytes' len' : List ℕ) (r : ℕ) where
  pub written_number : WrittenTest t bytes len bytes' len' r → Numbers (test_refusal t) (test_file t) bytes r
  written_number w = room_number (test_refusal t) (test_file t) bytes r w.number

  pub written_file : WrittenTest t bytes len bytes' len' r → r ≡ 0 → bytes' ≡ test_file t ++ drop (length (test_file t)) bytes
  written_file w z = room_filled (test_refusal t) (test_file t) bytes r w.number bytes' w.file z

  pub written_size : WrittenTest t bytes len bytes' len' r → r ≡ 0 → len' ≡ stored len 0 (length (test_file t) ∷ [])
  written_size w z = room_sized (test_refusal t) (test_file t) bytes r w.number len len' w.size z

  -- "what is written reads back with the same kind, shape, entries and readings"
  pub written_back : WrittenTest t bytes len bytes' len' r → r ≡ 0 → TestBack t (take (test_answer t (length bytes)).value bytes')
  written_back w z = w.back z

  pub written_kept : WrittenTest t bytes len bytes' len' r → ¬ (r ≡ 0) → (bytes' ≡ bytes) × (len' ≡ len)
  written_kept w z = (
    room_kept (test_refusal t) (test_file t) bytes r w.number bytes' w.file z,
    w.size ∙ left_refused r ((room_answer (test_refusal t) (test_file t) (length bytes)).value ∷ []) len z,
  )
