-- The returns of the entries.
use mathlib.Core.Path.{◌≡◌, ap, sym, ◌∙◌, subst}
use mathlib.Core.Bool.{Bool, true, false, cond}
use mathlib.Core.Logic.{◌⊎◌, inl, inr, ◌↔◌}
use mathlib.Core.List.{List, [], ◌∷◌}
use Prim.Native.Nat.{ℕ, ◌<◌}
use lib.IntN.{ℤ}
use lib.ListN.{length, take}
use lib.Seq.{sets as stored}
use borrow.Author.Tests.{ne_eqb}
use Rattle.basics.proofs.Clash.{clash}
use Rattle.refusals.specs.Answers.{Answer}
use Rattle.recorded.specs.declared.Test.{Test}
use Rattle.file_reader.specs.Promises.{TestAndTable, TestOfFile}
use Rattle.file_reader.specs.private.Reading.{read_test}
use Rattle.file_reader.proofs.Promising.{test_is_read}
use Rattle.file_writer.specs.TestFiles.{test_answer, test_buffer}
use Rattle.words.specs.Layouts.{table_words, Put}
use Rattle.words.proofs.Serving.{left_refused}
use Rattle.words.proofs.Back.{rows_size}
use Rattle.words.specs.Layouts.{word_at}
use Rattle.round_trip.specs.Back.{TestBack}
use Rattle.round_trip.proofs.Written.{test_back}
use Rattle.c_recorded.proofs.Readings.{beside_length}
use Rattle.c_recorded.specs.Layouts.{test_at, test_words}
use Rattle.c_recorded.specs.private.Putting.{PutReadings}
use Rattle.c_recorded.specs.Serving.{ShortTest, left_readings, LeavesTest, ServesTest, ReadsTest, WritesTest}

pub readings_refused : (n : ℕ) (vs v : List ℤ) → ¬ (n ≡ 0) → left_readings n vs v ≡ v
readings_refused n vs v h = rw (ne_eqb n 0 h)

-- ---- the reader: it answered a, and n is the answer's number
module _ (file : List ℕ) (cutoff : ℕ) (w : List ℕ) (v : List ℤ) (t : List ℕ) where
  -- what is left is what the file reads as
  pub leaves_read : {w' : List ℕ} {v' : List ℤ} {t' : List ℕ} {r : ℕ} → ServesTest file cutoff w v t w' v' t' r
      → LeavesTest (read_test file cutoff) w v t w' v' t' r
  leaves_read {w'} {v'} {t'} {r} s =
      subst (λ (x : Answer TestAndTable). LeavesTest x w v t w' v' t' r) (test_is_read file cutoff s.answer s.promised) s.leaves

  module _ (long : ¬ (ShortTest w v ⊎ (length t < 66))) (a : Answer TestAndTable) (d : TestOfFile file cutoff a) (n : ℕ) (f : n ≡ a.refusal) where
    reads : (w' : List ℕ) (v' : List ℤ) (t' : List ℕ) (r : ℕ) → LeavesTest a w v t w' v' t' r → ReadsTest file cutoff w v t w' v' t' r
    reads w' v' t' r l = record {
      short = λ s. absurd (long s);
      served = λ _. record { answer = a; promised = d; leaves = l };
    }

    pub reads-refused : ¬ (n ≡ 0) → ReadsTest file cutoff w v t w v t n
    reads-refused h =
        reads w v t n
        (record {
          number = f;
          test = sym (left_refused n (test_words a.value.test) w h);
          readings = sym (readings_refused n a.value.test.readings v h);
          table = sym (left_refused n (table_words a.value.table) t h);
        })

    pub reads-done : (w' : List ℕ) (v' : List ℤ) (t' : List ℕ) → n ≡ 0 → Put w 0 (test_words a.value.test) w' → PutReadings v a.value.test.readings v'
        → Put t 0 (table_words a.value.table) t' → ReadsTest file cutoff w v t w' v' t' 0
    reads-done w' v' t' h p q s =
        reads w' v' t' 0 (record { number = sym h ∙ f; test = p.words; readings = q.values; table = s.words })

module _ (w : List ℕ) (v : List ℤ) (t : Test) (e : t ≡ test_at w v) (bytes bytes' len : List ℕ) (long : ¬ (ShortTest w v ⊎ (length len < 1))) (a : Answer ℕ)
    (d : a ≡ test_answer t (length bytes)) (b : bytes' ≡ test_buffer t bytes) (n : ℕ) (f : n ≡ a.refusal) where
  answer_is : a ≡ test_answer (test_at w v) (length bytes)
  answer_is = d ∙ ap (λ (x : Test). test_answer x (length bytes)) e

  file_is : bytes' ≡ test_buffer (test_at w v) bytes
  file_is = b ∙ ap (λ (x : Test). test_buffer x bytes) e

  number_is : n ≡ (test_answer (test_at w v) (length bytes)).refusal
  number_is = f ∙ ap (λ (x : Answer ℕ). x.refusal) answer_is

  reads_back : n ≡ 0 → TestBack (test_at w v) (take (test_answer (test_at w v) (length bytes)).value bytes')
  reads_back z = test_back (test_at w v) bytes bytes' (rows_size 3 w) (beside_length (word_at w 0) v) (sym number_is ∙ z) file_is

  pub writes_done : (len' : List ℕ) (x : ℕ) → n ≡ 0 → x ≡ a.value → Put len 0 (x ∷ []) len' → WritesTest w v bytes len bytes' len' 0
  writes_done len' x h g p = record {
    short = λ s. absurd (long s);
    served = λ _. record {
      number = sym h ∙ number_is;
      file = file_is;
      size = p.words ∙ ap (λ (y : ℕ). stored len 0 (y ∷ [])) (g ∙ ap (λ (z : Answer ℕ). z.value) answer_is);
      back = λ _. reads_back h;
    };
  }

-- ---- slices that are long enough: the code's test t of S said no
pub told_not : {S : Type 0} (t : Bool) → (t ≡ true) ↔ S → t ≡ false → ¬ S
told_not t e n s = clash (ap (λ (b : Bool). cond b 1 0) (sym n ∙ e.1 s))

pub neither : {A B : Type 0} → ¬ A → ¬ B → ¬ (A ⊎ B)
neither f g (inl a) = f a
neither f g (inr b) = g b
