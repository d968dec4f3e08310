-- What the writers leave at the front of a buffer reads back (`table_back`, `test_back`), as that and nothing else (`table_back_read`, `test_back_read`); and
-- it is a legal file (`table_file_legal`, `test_file_legal`).
use Prim.Native.Nat.{ℕ}
use mathlib.Core.Path.{◌≡◌, refl, sym, ap, ap₂, ◌∙◌}
use mathlib.Core.List.{List, ◌++◌}
use mathlib.Core.Bool.{Bool, true, false, cond}
use lib.ListN.{length, take, drop}
use lib.Seq.{take_at}
use borrow.Author.Tests.{eq-eqb}
use Rattle.refusals.specs.Answers.{Answer}
use Rattle.table.specs.Tables.{table_refusal}
use Rattle.table.specs.declared.Table.{Table}
use Rattle.recorded.specs.Tests.{LegalTest, test_refusal, table_of}
use Rattle.recorded.specs.declared.Test.{Test}
use Rattle.recorded.proofs.Legality.{test_legal}
use Rattle.file_reader.specs.Files.{IsLegal}
use Rattle.file_reader.specs.Promises.{TableOfFile, TestAndTable, IsCutoff, TestOfFile}
use Rattle.file_reader.specs.private.Reading.{read_file, read_test}
use Rattle.file_reader.proofs.Promising.{table_of_file, table_of_file_unique, test_of_file, test_of_file_unique}
use Rattle.file_writer.specs.Writing.{write_file, room_refusal, room_answer, room_buffer, write_answer, buffer_after}
use Rattle.file_writer.specs.TestFiles.{test_file, test_answer, test_buffer}
use Rattle.file_reader.proofs.FileLaws.{accepted_legal}
use Rattle.table.specs.Tables.{Legal}
use Rattle.round_trip.specs.Back.{TableBack, TestBack}
use Rattle.round_trip.proofs.RoundTrip.{checks_passed, test_reads, test_round_trip, round_trip, written_reads}

-- the front of the buffer is the file
front : (r : ℕ) (file bytes bytes' : List ℕ) → room_refusal r file (length bytes) ≡ 0 → bytes' ≡ room_buffer r file bytes
    → take (room_answer r file (length bytes)).value bytes' ≡ file
front r file bytes bytes' z e =
    ap₂ take
    (ap (λ (b : Bool). cond b (length file) 0) (eq-eqb (room_refusal r file (length bytes)) 0 z))
    (e ∙ ap (λ (b : Bool). cond b (file ++ drop (length file) bytes) bytes) (eq-eqb (room_refusal r file (length bytes)) 0 z))
    ∙ take_at file (drop (length file) bytes) (length file) refl

pub table_back : (t : Table) (bytes bytes' : List ℕ) → length t.rows ≡ 64 → (write_answer t (length bytes)).refusal ≡ 0 → bytes' ≡ buffer_after t bytes
    → TableBack t (take (write_answer t (length bytes)).value bytes')
table_back t bytes bytes' l z e = record {
  reads = table_of_file _ _ (sym (ap read_file (front (table_refusal t) (write_file t) bytes bytes' z e) ∙ written_reads t (length bytes) l z));
}

-- a test that is written passed its checks
passed : (t : Test) (n : ℕ) → room_refusal (test_refusal t) (test_file t) n ≡ 0 → test_refusal t ≡ 0
unfolding room_refusal
passed t n e = checks_passed (test_refusal t) n (length (test_file t)) e

pub test_back : (t : Test) (bytes bytes' : List ℕ) → length t.entries ≡ 64 → length t.readings ≡ 4096 → (test_answer t (length bytes)).refusal ≡ 0
    → bytes' ≡ test_buffer t bytes → TestBack t (take (test_answer t (length bytes)).value bytes')
test_back t bytes bytes' l m z e =
    let f = front (test_refusal t) (test_file t) bytes bytes' z e in
    record {
      reads = λ cutoff k.
          test_of_file _ cutoff _
          (sym (ap (λ (x : List ℕ). read_test x cutoff) f ∙ test_reads t (test_legal t l m (passed t (length bytes) z)) cutoff k.0 k.1));
    }

-- ---- whatever the reader answers to such a file is that table, or that test
pub table_back_read : {t : Table} {file : List ℕ} → TableBack t file → (a : Answer Table) → TableOfFile file a → (a.refusal ≡ 0) × (a.value ≡ t)
table_back_read {t} {file} b a x =
    let e = table_of_file_unique file a (record { refusal = 0; value = t }) x b.reads in
    (ap (λ (y : Answer Table). y.refusal) e, ap (λ (y : Answer Table). y.value) e)

-- "the same kind, shape, entries and readings"
pub record SameTest (t u : Test) : Type 0 where
  pub kind : t.kind ≡ u.kind
  pub gauges : t.gauges ≡ u.gauges
  pub cases : t.cases ≡ u.cases
  pub entries : t.entries ≡ u.entries
  pub readings : t.readings ≡ u.readings

same_test : (t u : Test) → t ≡ u → SameTest t u
same_test t u e = record {
  kind = ap (λ (y : Test). y.kind) e;
  gauges = ap (λ (y : Test). y.gauges) e;
  cases = ap (λ (y : Test). y.cases) e;
  entries = ap (λ (y : Test). y.entries) e;
  readings = ap (λ (y : Test). y.readings) e;
}

pub test_back_read : {t : Test} {file : List ℕ} → TestBack t file → (cutoff : ℕ) → IsCutoff cutoff → (a : Answer TestAndTable) → TestOfFile file cutoff a
    → (a.refusal ≡ 0) × SameTest a.value.test t × (a.value.table ≡ table_of t cutoff)
test_back_read {t} {file} b cutoff k a x =
    let e = test_of_file_unique file cutoff a (record { refusal = 0; value = record { test = t; table = table_of t cutoff } }) x (b.reads cutoff k) in (
      ap (λ (y : Answer TestAndTable). y.refusal) e,
      same_test a.value.test t (ap (λ (y : Answer TestAndTable). y.value.test) e),
      ap (λ (y : Answer TestAndTable). y.value.table) e,
    )

-- ---- what is written is a legal file, by its lines: the definition of a legal file is met by the file of every legal table and of every legal test
pub table_file_legal : (t : Table) → Legal t → IsLegal false (write_file t)
unfolding read_file
table_file_legal t ok = accepted_legal false (write_file t) (ap (λ (a : Answer Table). a.refusal) (round_trip t ok))

pub test_file_legal : (t : Test) → LegalTest t → IsLegal true (test_file t)
test_file_legal t ok = accepted_legal true (test_file t) (ap (λ (a : Answer Test). a.refusal) (test_round_trip t ok))
