-- The entries one after another: what a call of the reader leaves in the slices is what the writer and the comparison
-- take, the test that the file holds (`read_back`, `read_passes`), and its table at the cutoff is beside it
-- (`read_table`); what the writer left reads back as the test (`write_test_back`); and both refuse a word that is no
-- kind with 10, or else 11 (`no_kind_written`, `no_kind_compared`).
--
-- Pins, which nothing else cites: `read_table`, `no_kind_written`, `no_kind_compared`.
use mathlib.Core.Path.{◌≡◌, refl, ap, sym, ◌∙◌, subst}
use mathlib.Core.Bool.{true, false}
use mathlib.Core.Logic.{◌⊎◌, inl, inr}
use mathlib.Core.List.{List}
use Prim.Native.Nat.{ℕ, ◌<◌, ◌≤◌}
use native.Mathlib.Omega.{arith}
use lib.IntN.{ℤ}
use lib.ListN.{length, take}
use lib.Seq.{get_or-set_same}
use borrow.Author.Tests.{eq-eqb, ne_eqb}
use Rattle.refusals.specs.Answers.{verdict}
use Rattle.recorded.specs.Tests.{LegalTest, test_refusal, table_of, cutoff_first}
use Rattle.recorded.specs.Equality.{two_refusal, ComparedAs}
use Rattle.recorded.specs.declared.Test.{Test}
use Rattle.std.specs.Prelude.{Result, Bool}
use Rattle.refusals.specs.declared.Refusal.{Refusal}
use Rattle.recorded.proofs.Legality.{legal-test}
use Rattle.file_reader.specs.private.Reading.{read_recorded, read_test}
use Rattle.file_reader.proofs.Answered.{read_test_legal}
use Rattle.file_writer.specs.Writing.{room_refusal}
use Rattle.file_writer.specs.TestFiles.{test_answer}
use Rattle.round_trip.specs.Back.{TestBack}
use Rattle.words.specs.Layouts.{word_at, table_at, table_words}
use Rattle.words.specs.Serving.{words_after}
use Rattle.words.proofs.Answers.{left_zero}
use Rattle.words.proofs.Back.{table_back}
use Rattle.c_recorded.specs.Layouts.{is_kind, test_at, test_words}
use Rattle.c_recorded.specs.Serving.{ShortTest, left_readings, LeavesTest, ReadsTest, WrittenTest, WritesTest}
use Rattle.c_recorded.proofs.Reading.{test_back, no_kind_refused}
use Rattle.c_recorded.proofs.Serving.{leaves_read}

not_short : {n m : ℕ} → ¬ (m < n) → n ≤ m
not_short {n} {m} h = omega arith

its_table : (file : List ℕ) (cutoff : ℕ) → (read_test file cutoff).refusal ≡ 0
    → (read_test file cutoff).value.table ≡ table_of (read_test file cutoff).value.test cutoff
unfolding read_test
its_table file cutoff e = rw (eq-eqb (cutoff_first cutoff (read_recorded true file).refusal) 0 e)

-- ---- a call of the reader that returned 0
module _ (file : List ℕ) (cutoff : ℕ) (w : List ℕ) (v : List ℤ) (t w' : List ℕ) (v' : List ℤ) (t' : List ℕ) (r : ℕ)
    (given : ReadsTest file cutoff w v t w' v' t' r) (e : r ≡ 0) where
  long : ¬ (ShortTest w v ⊎ (length t < 66))
  long s = omega (arith, (given.short s).0)

  leaves : LeavesTest (read_test file cutoff) w v t w' v' t' r
  leaves = leaves_read file cutoff w v t (given.served long)

  legal : LegalTest (read_test file cutoff).value.test
  legal = (read_test_legal file cutoff (sym leaves.number ∙ e)).0

  pub read_back : test_at w' v' ≡ (read_test file cutoff).value.test
  read_back =
      let x = (read_test file cutoff).value.test in
      ap (λ (y : List ℕ). test_at y v') (leaves.test ∙ ap (λ (n : ℕ). words_after n (test_words x) w) e)
      ∙ ap (λ (y : List ℤ). test_at (words_after 0 (test_words x) w) y) (leaves.readings ∙ ap (λ (n : ℕ). left_readings n x.readings v) e)
      ∙ test_back x legal.entries_legal.rows_length legal.readings_length w v
      (not_short (λ s. long (inl (inl s)))) (not_short (λ s. long (inl (inr s))))

  -- "and gives the test and its table": at that cutoff
  pub read_table : table_at 0 t' ≡ table_of (test_at w' v') cutoff
  read_table =
      let y = (read_test file cutoff).value.table in
      ap (table_at 0) (leaves.table ∙ left_zero r (table_words y) t e)
      ∙ table_back t y (read_test_legal file cutoff (sym leaves.number ∙ e)).1.rows_length (not_short (λ s. long (inr s)))
      ∙ its_table file cutoff (sym leaves.number ∙ e) ∙ ap (λ (x : Test). table_of x cutoff) (sym read_back)

  pub read_passes : test_refusal (test_at w' v') ≡ 0
  read_passes = ap test_refusal read_back ∙ legal-test (read_test file cutoff).value.test legal

-- ---- a call of the writer that returned 0: "what is written reads back with the same kind, shape, entries and readings"
module _ (w : List ℕ) (v : List ℤ) (bytes len bytes' len' : List ℕ) (h : WritesTest w v bytes len bytes' len' 0) where
  write_long : ¬ (ShortTest w v ⊎ (length len < 1))
  write_long s = omega (arith, (h.short s).0)

  written : WrittenTest (test_at w v) bytes len bytes' len' 0
  written = h.served write_long

  size_is : word_at len' 0 ≡ (test_answer (test_at w v) (length bytes)).value
  size_is = ap (λ (x : List ℕ). word_at x 0) written.size ∙ get_or-set_same len 0 (test_answer (test_at w v) (length bytes)).value 0 some
    where
      some : 0 < length len
      some = let k : ¬ (length len < 1) = λ l. write_long (inr l) in omega arith

  pub write_test_back : TestBack (test_at w v) (take (word_at len' 0) bytes')
  write_test_back = subst (λ (n : ℕ). TestBack (test_at w v) (take n bytes')) (sym size_is) (written.back refl)

-- ---- a word that is no kind: where the checks of its test refuse, theirs is the number
ten_or_eleven : (n r : ℕ) → (n ≡ 10) ⊎ (n ≡ 11) → (¬ (n ≡ 0) → r ≡ n) → (r ≡ 10) ⊎ (r ≡ 11)
ten_or_eleven n r (inl e) f = inl (f (λ z. omega arith) ∙ e)
ten_or_eleven n r (inr e) f = inr (f (λ z. omega arith) ∙ e)

module _ (w : List ℕ) (v : List ℤ) (h : is_kind (word_at w 0) ≡ false) where
  pub no_kind_written : (bytes len bytes' len' : List ℕ) (r : ℕ) → WrittenTest (test_at w v) bytes len bytes' len' r → (r ≡ 10) ⊎ (r ≡ 11)
  unfolding room_refusal
  no_kind_written bytes len bytes' len' r x =
      ten_or_eleven (test_refusal (test_at w v)) r (no_kind_refused w v h) (λ n. x.number ∙ rw (ne_eqb (test_refusal (test_at w v)) 0 n))

  -- of the first of two tests
  pub no_kind_compared : (b : Test) (x : Result Bool Refusal) → ComparedAs (test_at w v) b x → (verdict x ≡ 10) ⊎ (verdict x ≡ 11)
  unfolding two_refusal
  no_kind_compared b x y =
      ten_or_eleven (test_refusal (test_at w v)) (verdict x) (no_kind_refused w v h)
      (λ n. y.refusal ∙ rw (ne_eqb (test_refusal (test_at w v)) 0 n))
