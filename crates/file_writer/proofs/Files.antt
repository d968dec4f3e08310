-- The file as the code writes it, part by part, and the answers of `write`: one law for each of its returns; and that no two answers
-- read alike.
use Prim.Native.Nat.{ℕ, ◌+◌, ◌^◌, ◌≤◌, ◌<◌}
use mathlib.Core.Path.{◌≡◌, refl, ap, sym, ◌∙◌, subst}
use mathlib.Core.List.{List, [], ◌∷◌, ◌++◌, append_assoc}
use native.Mathlib.Omega.{arith}
use lib.IntN.{ℤ}
use lib.ListN.{length, drop}
use lib.Seq.{sets-eq}
use borrow.Author.Tests.{ne_eqb, lt-ltb, le-ltb}
use Rattle.basics.proofs.Clash.{clash}
use Rattle.table.specs.Tables.{Legal, table_rows}
use Rattle.table.proofs.Legality.{row-table_rows}
use Rattle.std.specs.Prelude.{Result}
use Rattle.refusals.specs.Answers.{number, Answer, refused}
use Rattle.refusals.specs.declared.Refusal.{Refusal}
use Rattle.refusals.specs.declared.Refusal.TheVariants.{BufferTooShort}
use Rattle.table.specs.declared.Table.{Table}
use Rattle.refusals.proofs.Answering.{number_pos, answered_injective, answer-refused, answer_given}
use Rattle.recorded.specs.Tests.{listed}
use Rattle.recorded.specs.declared.Kind.{Kind}
use Rattle.recorded.specs.declared.Kind.TheVariants.{Pattern, Integer}
use Rattle.recorded.specs.declared.Test.{Test}
use Rattle.file_kinds.specs.Banner.{banner_of}
use Rattle.file_writer.specs.Writing.{written, digits, gauge_of, GaugeCase, pairs, lines_of, write_file, room_refusal, room_answer, room_buffer}
use Rattle.file_writer.specs.TestFiles.{entry_text, file_of, test_file}
use Rattle.file_writer.specs.private.StoreSteps.{Wrote, pairs_at, file_bytes, IsTotals, Suits}
use Rattle.file_writer.specs.declared.Totals.{Totals}
use Rattle.file_writer.proofs.PairLines.{rows_wide}
use Rattle.file_writer.proofs.Sizes.{file_parts}
use Rattle.file_writer.proofs.Counting.{Small, counting_small}

-- ---- the parts of the file
layout : (b x y z l : List ℕ) → (b ++ 10 ∷ []) ++ (((x ++ 32 ∷ []) ++ ((y ++ 32 ∷ []) ++ (z ++ 10 ∷ []))) ++ l)
    ≡ b ++ 10 ∷ ((x ++ 32 ∷ (y ++ 32 ∷ z)) ++ 10 ∷ l)
layout b x y z l = simp append_assoc

module _ (kind : Kind) (vs : List ℤ) (f : Suits kind vs) (t : Table) (ok : Legal t) where
  -- the pairs of its rows over all 64 cases are its pairs
  pairs_all : pairs_at (gauge_of t.gauges) t.rows 0 ≡ pairs t
  pairs_all =
      rows_wide t.cases 1 (table_rows t) ok.cases_high (λ i. subst (λ (r : ℕ). r < 2 ^ t.cases) (sym (row-table_rows t ok i)) (ok.rows_bits i))

  module _ (s : Totals) (h : IsTotals (entry_text kind vs) (pairs_at (gauge_of t.gauges) t.rows 0) s) where
    pub file-is : file_bytes kind vs t s.count ≡ file_of kind vs t
    file-is =
        rw (h.pairs, pairs_all)
        (layout (banner_of kind) (digits t.gauges) (digits t.cases) (digits (length (pairs t))) (lines_of (entry_text kind vs) (pairs t)))

    pub totals-small : Small s.count s.size
    totals-small =
        counting_small kind vs f (gauge_of t.gauges) t.rows {ps = []} (record { pairs = omega (arith, h.pairs); bytes = omega (arith, h.bytes) })
        ok.gauges_high

    pub size_is : (a b d : ℕ) → a ≡ length (digits t.gauges) → b ≡ length (digits t.cases) → d ≡ length (digits s.count)
        → 52 + a + b + d + s.size ≡ length (file_of kind vs t)
    size_is a b d p q r =
        omega (
          arith,
          file_parts kind vs t,
          h.bytes,
          ap (λ (l : List GaugeCase). length (lines_of (entry_text kind vs) l)) pairs_all,
          ap (λ (n : ℕ). length (digits n)) (h.pairs ∙ ap length pairs_all),
          p,
          q,
          r,
        )

    pub wrote-is : {l m : List ℕ} {r : ℕ} → Wrote l 0 (file_bytes kind vs t s.count) m r → Wrote l 0 (file_of kind vs t) m r
    wrote-is {l} {m} {r} w = subst (λ (v : List ℕ). Wrote l 0 v m r) file-is w

-- a pattern file asks for no readings
pub no_readings_lem : (vs : List ℤ) → Suits Pattern vs
no_readings_lem vs = record { size = λ e. absurd (other e); small = λ e. absurd (other e) }
  where
    place : Kind → ℕ
    place Pattern = 0
    place Integer = 1

    other : Pattern ≡ Integer → ⊥
    other e = clash (ap place e)

-- ---- the answers: r is the number of the checks ahead
module _ (r : ℕ) (file : List ℕ) (n : ℕ) where
  checks_refused : (x : Refusal) → number x ≡ r → room_refusal r file n ≡ number x
  unfolding room_refusal
  checks_refused x e = rw (← e, ne_eqb (number x) 0 (λ z. omega (arith, number_pos x)))

  pub too_short : r ≡ 0 → n < length file → room_refusal r file n ≡ number BufferTooShort
  unfolding room_refusal
  too_short e h = rw (e, lt-ltb n (length file) h)

  pub long_enough : r ≡ 0 → length file ≤ n → room_refusal r file n ≡ 0
  unfolding room_refusal
  long_enough e h = rw (e, le-ltb n (length file) h)

-- the answer and the buffer
abbrev pub Answers : ℕ → List ℕ → List ℕ → Answer ℕ → List ℕ → Type 0
Answers r file out a m = (a ≡ room_answer r file (length out)) × (m ≡ room_buffer r file out)

-- a refusal leaves the buffer as it was
pub room_refused : (r : ℕ) (file out : List ℕ) (x : Refusal) → room_refusal r file (length out) ≡ number x → Answers r file out (refused x 0) out
room_refused r file out x e = (
  answer-refused x (room_refusal r file (length out)) (length file) 0 (sym e),
  sym (rw (e, ne_eqb (number x) 0 (λ z. omega (arith, number_pos x)))),
)

pub check_refused : (r : ℕ) (file out : List ℕ) (x : Refusal) → number x ≡ r → Answers r file out (refused x 0) out
check_refused r file out x e = room_refused r file out x (checks_refused r file (length out) x e)

-- the file, and behind it what was there
pub room_done : (file out m : List ℕ) (r : ℕ) → length file ≤ length out → Wrote out 0 file m r → Answers 0 file out (record { refusal = 0; value = r }) m
room_done file out m r h w =
    let e : room_refusal 0 file (length out) ≡ 0 = long_enough 0 file (length out) refl h in
    let n : r ≡ length file = omega (arith, w.place) in
    let z : 0 + length file ≡ length file = omega arith in (
      rw n (answer_given (room_refusal 0 file (length out)) (length file) 0 e),
      w.bytes ∙ sets-eq file out 0 (omega arith) ∙ ap (λ (k : ℕ). file ++ drop k out) z ∙ sym (rw e),
    )

-- after checks that passed, of a file that is the one written
pub after_checks : (file other out : List ℕ) (a : Answer ℕ) (m : List ℕ) (r : ℕ) → r ≡ 0 → file ≡ other
    → Answers 0 file out a m → Answers r other out a m
after_checks file other out a m r e d x =
    subst (λ (k : ℕ). Answers k other out a m) (sym e) (subst (λ (f : List ℕ). Answers 0 f out a m) d x)

-- a table's file is a pattern file, and so is a pattern test's: byte for byte the file of its entries' table
pub table_file : (vs : List ℤ) (t : Table) → file_of Pattern vs t ≡ write_file t
unfolding write_file
table_file vs t = refl

pub test_file_lem : (t : Test) → file_of t.kind t.readings (listed t) ≡ test_file t
unfolding test_file
test_file_lem t = refl

pub pattern_file : (t : Test) → t.kind ≡ Pattern → test_file t ≡ write_file (listed t)
unfolding test_file
pattern_file t e = ap (λ (k : Kind). file_of k t.readings (listed t)) e ∙ table_file t.readings (listed t)

-- no two answers read alike
pub written_injective : (r q : Result ℕ Refusal) → written r ≡ written q → r ≡ q
written_injective = answered_injective 0
