-- What the entries on recorded tests give: on lent slices, what the library's own function promises of the file, and of the test that the slices read
-- as.
--
-- Elsewhere: the layouts, specs/Layouts and words/specs/Layouts; the number returned and what a slice of words is left with, words/specs/Serving.
use Rattle.std.specs.Prelude.{◌≡◌, cond, ◌⊎◌, List, [], ◌∷◌, ℕ, ◌<◌, eqb, ℤ, length, take, Bool, false, Result}
use Rattle.std.proofs.lemmas.List.Edits.{sets as stored}
use Rattle.refusals.specs.Answers.{Answer, verdict, given}
use Rattle.recorded.specs.Equality.{ComparedAs}
use Rattle.recorded.specs.declared.Test.{Test}
use Rattle.refusals.specs.declared.Refusal.{Refusal}
use Rattle.file_reader.specs.Promises.{TestAndTable, TestOfFile}
use Rattle.file_writer.specs.TestFiles.{test_answer, test_buffer}
use Rattle.round_trip.specs.Back.{TestBack}
use Rattle.words.specs.Layouts.{table_words}
use Rattle.words.specs.Serving.{words_after, Gives}
use Rattle.c_recorded.specs.Layouts.{test_at, test_words}

-- the slices of a test are shorter than their layouts
abbrev pub ShortTest : List ℕ → List ℤ → Type 0
ShortTest w v = (length w < 67) ⊎ (length v < 4096)

-- the readings vs over the front of the slice v where the number n is 0, else v
abbrev pub left_readings : ℕ → List ℤ → List ℤ → List ℤ
left_readings n vs v = cond (eqb n 0) (stored v 0 vs) v

-- ---- the answer a of the reader with a cutoff: its number, and the test and its table left in the slices
pub record LeavesTest (a : Answer TestAndTable) (w : List ℕ) (v : List ℤ) (t w' : List ℕ) (v' : List ℤ) (t' : List ℕ) (r : ℕ) : Type 0 where
  pub number : r ≡ a.refusal
  pub test : w' ≡ words_after r (test_words a.value.test) w
  pub readings : v' ≡ left_readings r a.value.test.readings v
  pub table : t' ≡ words_after r (table_words a.value.table) t

-- an answer that the reader's promise allows, left so
pub record ServesTest (file : List ℕ) (cutoff : ℕ) (w : List ℕ) (v : List ℤ) (t w' : List ℕ) (v' : List ℤ) (t' : List ℕ) (r : ℕ) : Type 0 where
  pub answer : Answer TestAndTable
  pub promised : TestOfFile file cutoff answer
  pub leaves : LeavesTest answer w v t w' v' t' r

pub record ReadsTest (file : List ℕ) (cutoff : ℕ) (w : List ℕ) (v : List ℤ) (t w' : List ℕ) (v' : List ℤ) (t' : List ℕ) (r : ℕ) : Type 0 where
  pub short : ShortTest w v ⊎ (length t < 66) → (r ≡ 100) × (w' ≡ w) × (v' ≡ v) × (t' ≡ t)
  pub served : ¬ (ShortTest w v ⊎ (length t < 66)) → ServesTest file cutoff w v t w' v' t' r

-- ---- the file of a test at the front of the bytes, and its length; 16 where they are too few. The bytes are left as the writer leaves them, as they
-- were where it refuses; what is written reads back with the same kind, shape, entries and readings
pub record WrittenTest (t : Test) (bytes len bytes' len' : List ℕ) (r : ℕ) : Type 0 where
  pub number : r ≡ (test_answer t (length bytes)).refusal
  pub file : bytes' ≡ test_buffer t bytes
  pub size : len' ≡ words_after r ((test_answer t (length bytes)).value ∷ []) len
  pub back : r ≡ 0 → TestBack t (take (test_answer t (length bytes)).value bytes')

pub record WritesTest (w : List ℕ) (v : List ℤ) (bytes len bytes' len' : List ℕ) (r : ℕ) : Type 0 where
  pub short : ShortTest w v ⊎ (length len < 1) → (r ≡ 100) × (bytes' ≡ bytes) × (len' ≡ len)
  pub served : ¬ (ShortTest w v ⊎ (length len < 1)) → WrittenTest (test_at w v) bytes len bytes' len' r

-- ---- whether two tests are equal: 1 for yes and 0 for no
abbrev pub Equals : List ℕ → List ℤ → List ℕ → List ℤ → List ℕ → List ℕ → ℕ → Type 0
Equals wa va wb vb out out' r =
    Gives (ShortTest wa va ⊎ (ShortTest wb vb ⊎ (length out < 1)))
    (ComparedAs (test_at wa va) (test_at wb vb))
    (λ (x : Result Bool Refusal). verdict x)
    (λ (x : Result Bool Refusal). cond (given false x) 1 0 ∷ [])
    out
    out'
    r
