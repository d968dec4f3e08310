-- The two readers' answers by that of the reader of either kind: one law for each return of `read_test`; that a test which it yields is
-- legal, and its table too (`read_test_legal`); and how its answer reads (`recording_injective`: no two answers read alike).
use Rattle.std.specs.Prelude.{Err, Ok, Result, IsOk}
use Prim.Native.Nat.{ℕ}
use mathlib.Core.Path.{◌≡◌, refl, sym, ap, ◌∙◌}
use mathlib.Core.List.{List}
use mathlib.Core.Bool.{Bool, true, false, cond}
use native.Mathlib.Omega.{arith}
use Rattle.table.specs.Tables.{Legal, in_range, blank_table, made}
use Rattle.table.specs.declared.Table.{Table}
use Rattle.refusals.specs.Answers.{Answer, refused}
use Rattle.refusals.specs.declared.Refusal.{Refusal}
use Rattle.refusals.specs.declared.Refusal.TheVariants.{CutoffRange}
use Rattle.refusals.proofs.Answering.{number_pos, number_injective, answer-refused, answer_given, ok_of}
use Rattle.recorded.specs.Tests.{LegalTest, listed, test_refusal, table_of, cutoff_first, cutoff_refusal, table_at}
use Rattle.recorded.specs.declared.Test.{Test}
use Rattle.recorded.proofs.Legality.{legal-test}
use Rattle.recorded.proofs.Reaching.{table_legal}
use Rattle.file_reader.specs.private.Reading.{pairs_of, read_recorded, read_file, read_test}
use Rattle.file_reader.specs.Promises.{TestAndTable, blank_both, recording, refused_both}
use Rattle.file_reader.specs.declared.Failed.{Failed}
use Rattle.file_reader.specs.declared.Recording.{Recording}
use Rattle.file_reader.specs.private.Gathering.{gathered}
use Rattle.file_reader.proofs.Yielded.{recorded_sound}

-- the test and its table
abbrev pub both : Test → Table → TestAndTable
both t u = record { test = t; table = u }

-- ---- the reader of files of pairs
module _ (f : List ℕ) (a : Result Test Failed) (p : gathered a ≡ read_recorded false f) where
  pub pairs-refused : {y : Failed} → a ≡ Err y → refused y.why blank_table ≡ read_file f
  unfolding read_file
  pairs-refused d = ap pairs_of (ap gathered (sym d) ∙ p)

  pub pairs-given : {t : Test} → a ≡ Ok t → record { refusal = 0; value = listed t } ≡ read_file f
  unfolding read_file
  pairs-given d = ap pairs_of (ap gathered (sym d) ∙ p)

-- ---- the reader of files of either kind: "21: cutoff out of range, before all else"
pub cutoff_refused : (f : List ℕ) (cutoff : ℕ) (t : Bool) → t ≡ in_range 1000000 cutoff → t ≡ false → refused_both CutoffRange ≡ read_test f cutoff
unfolding read_test
cutoff_refused f cutoff t e x = rw (sym e ∙ x)

module _ (f : List ℕ) (cutoff : ℕ) (ranged : Bool) (e : ranged ≡ in_range 1000000 cutoff) (x : ranged ≡ true) where
  -- a cutoff in range leaves the refusal of the file
  file_first : cutoff_first cutoff (read_recorded true f).refusal ≡ (read_recorded true f).refusal
  file_first = rw (sym e ∙ x)

  module _ (a : Result Test Failed) (p : gathered a ≡ read_recorded true f) where
    pub file-refused : {y : Failed} → a ≡ Err y → refused_both y.why ≡ read_test f cutoff
    unfolding read_test
    file-refused {y} d =
        answer-refused y.why (cutoff_first cutoff (read_recorded true f).refusal) _ blank_both
        (ap (λ (b : Answer Test). b.refusal) (ap gathered (sym d) ∙ p) ∙ sym file_first)

    module _ {t : Test} (d : a ≡ Ok t) where
      given : record { refusal = 0; value = t } ≡ read_recorded true f
      given = ap gathered (sym d) ∙ p

      no-refusal : (read_recorded true f).refusal ≡ 0
      no-refusal = ap (λ (b : Answer Test). b.refusal) (sym given)

      test-is : t ≡ (read_recorded true f).value
      test-is = ap (λ (b : Answer Test). b.value) given

      test-passes : cutoff_refusal t cutoff ≡ 0
      unfolding cutoff_refusal
      test-passes = rw (sym e ∙ x) (ap test_refusal test-is ∙ legal-test (read_recorded true f).value ((recorded_sound true f).given no-refusal).0)

      table_there : (m : Result Table Refusal) → made m ≡ table_at t cutoff → made m ≡ record { refusal = 0; value = table_of t cutoff }
      table_there m q = q ∙ sym (answer_given (cutoff_refusal t cutoff) (table_of t cutoff) blank_table test-passes)

      pub table_given : (m : Result Table Refusal) → made m ≡ table_at t cutoff → IsOk m
      table_given m q = ok_of m (ap (λ (b : Answer Table). b.refusal) (table_there m q))

      pub file-given : (m : Result Table Refusal) (u : Table) → made m ≡ table_at t cutoff → m ≡ Ok u
          → record { refusal = 0; value = both t u } ≡ read_test f cutoff
      unfolding read_test
      file-given m u q w =
          ap (λ (b : TestAndTable). record { refusal = 0; value = b })
          (ap (both t) (ap (λ (b : Answer Table). b.value) (ap made (sym w) ∙ table_there m q)) ∙ ap (λ (b : Test). both b (table_of b cutoff)) test-is)
          ∙ answer_given (cutoff_first cutoff (read_recorded true f).refusal) _ blank_both (file_first ∙ no-refusal)

-- ---- what the reader with a cutoff yields: the test and its table, both legal
module _ (f : List ℕ) (cutoff : ℕ) (e : (read_test f cutoff).refusal ≡ 0) where
  accepted_both : (in_range 1000000 cutoff ≡ true) × ((read_recorded true f).refusal ≡ 0)
  unfolding read_test
  accepted_both = go (in_range 1000000 cutoff) refl e
    where
      go : (t : Bool) → in_range 1000000 cutoff ≡ t → cond t (read_recorded true f).refusal 21 ≡ 0 → (t ≡ true) × ((read_recorded true f).refusal ≡ 0)
      go true p d = (refl, d)
      go false p d = absurd (omega arith)

  yielded : (read_test f cutoff).value ≡ both (read_recorded true f).value (table_of (read_recorded true f).value cutoff)
  unfolding read_test
  yielded = rw (accepted_both.0, accepted_both.1)

  pub read_test_legal : LegalTest (read_test f cutoff).value.test × Legal (read_test f cutoff).value.table
  read_test_legal =
      let l : LegalTest (read_recorded true f).value = ((recorded_sound true f).given accepted_both.1).0 in
      rw yielded (l, table_legal (read_recorded true f).value cutoff l.entries_legal)

-- ---- no two answers of the reader with a cutoff read alike
pub recording_injective : (r s : Result Recording Refusal) → recording r ≡ recording s → r ≡ s
recording_injective (Ok r) (Ok s) e =
    let t : r.test ≡ s.test = ap (λ (a : Answer TestAndTable). a.value.test) e in
    let u : r.table ≡ s.table = ap (λ (a : Answer TestAndTable). a.value.table) e in
    λ i. Ok (record { test = t i; table = u i })
recording_injective (Ok r) (Err y) e = absurd (omega (arith, ap (λ (a : Answer TestAndTable). a.refusal) e, number_pos y))
recording_injective (Err x) (Ok s) e = absurd (omega (arith, ap (λ (a : Answer TestAndTable). a.refusal) e, number_pos x))
recording_injective (Err x) (Err y) e = ap Err (number_injective x y (ap (λ (a : Answer TestAndTable). a.refusal) e))
