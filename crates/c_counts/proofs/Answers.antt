-- What the entries give that count ladders and make sample tables is there for every input, and is one thing only. And the table that a sample left in a
-- slice is the one of its numbers, a legal one, so that every entry takes it.
--
-- In order: counting (`counts_unique`, `counts_exists`), with slices no longer than their layouts (`counts_served`); samples (`samples_unique`,
-- `samples_exists`, `samples_served`, `samples-table`, `samples-legal`).
--
-- Elsewhere: what holds of every entry, words/proofs/Answers and Back; counts of known tables, by budgets that are just enough and one too few,
-- count/proofs/KnownCounts.
use mathlib.Core.Path.{◌≡◌, refl, sym, ap, ◌∙◌, subst}
use mathlib.Core.Logic.{◌⊎◌}
use mathlib.Core.List.{List, [], ◌∷◌}
use Prim.Native.Nat.{ℕ, ◌≤◌, ◌<◌}
use native.Mathlib.Omega.{arith}
use borrow.Author.Tests.{eq-eqb}
use lib.ListN.{length}
use Rattle.refusals.specs.Answers.{Answer}
use Rattle.table.specs.declared.Table.{Table}
use Rattle.table.specs.Tables.{Legal}
use Rattle.count.specs.Counting.{CountAnswer, Counts}
use Rattle.count.proofs.Answers.{answer_for, counts_some}
use Rattle.count.proofs.Laws.{counts_only}
use Rattle.samples.specs.Samples.{sample_refusal, sample_table}
use Rattle.samples.proofs.Refusing.{sample_legal}
use Rattle.words.specs.Layouts.{table_at, numbers_at, table_words}
use Rattle.words.specs.Serving.{words_after}
use Rattle.words.proofs.Serving.{long, long_two, long_more}
use Rattle.words.proofs.Answers.{short_dec, or_dec, gives_is, gives_exists, gives_unique}
use Rattle.words.proofs.Back.{rows_size, numbers_size, table_left}
use Rattle.c_counts.specs.Serving.{count_number, count_kind, count_ladders, count_calls, CountsWords, Samples}

-- ---- counting
module _ (t o : List ℕ) (b : ℕ) (out : List ℕ) where
  count_dec : Dec ((length t < 66) ⊎ ((length o < 64) ⊎ (length out < 3)))
  count_dec = or_dec (short_dec t 66) (or_dec (short_dec o 64) (short_dec out 3))

  pub counts_unique : (x y : List ℕ) (r q : ℕ) → CountsWords t o b out x r → CountsWords t o b out y q → (x ≡ y) × (r ≡ q)
  counts_unique = gives_unique out count_dec (counts_only (table_at 0 t) (numbers_at 0 o) b)

  pub counts_exists : (out' : List ℕ) × (r : ℕ) × CountsWords t o b out out' r
  counts_exists =
      gives_exists out count_dec (answer_for (table_at 0 t) (numbers_at 0 o) b)
      (counts_some (table_at 0 t) (numbers_at 0 o) b (rows_size 2 t) (numbers_size 0 o))

  -- 66, 64 and 3 words are enough: it is the number and the three words of the library's answer
  pub counts_served : 66 ≤ length t → 64 ≤ length o → 3 ≤ length out → (a : CountAnswer) → Counts (table_at 0 t) (numbers_at 0 o) b a
      → (out' : List ℕ) (r : ℕ) → CountsWords t o b out out' r
      → (r ≡ count_number a) × (out' ≡ words_after (count_number a) (count_kind a ∷ (count_ladders a ∷ (count_calls a ∷ []))) out)
  counts_served lt lo lw = gives_is out (counts_only (table_at 0 t) (numbers_at 0 o) b) (long_more lt (long_two lo lw))

-- ---- samples
-- a sample that is not refused is legal
sample_answer : (g l start density : ℕ) → (sample_table g l start density).refusal ≡ 0 → Legal (sample_table g l start density).value
sample_answer g l start density e = rw (eq-eqb (sample_refusal g l start density) 0 e) (sample_legal g l start density e)

module _ (g l start density : ℕ) (out : List ℕ) where
  pub samples_unique : (a b : List ℕ) (r q : ℕ) → Samples g l start density out a r → Samples g l start density out b q → (a ≡ b) × (r ≡ q)
  samples_unique = gives_unique out (short_dec out 66) (λ x y p q. p ∙ sym q)

  pub samples_exists : (out' : List ℕ) × (r : ℕ) × Samples g l start density out out' r
  samples_exists = gives_exists out (short_dec out 66) (sample_table g l start density) refl

  pub samples_served : 66 ≤ length out → (out' : List ℕ) (r : ℕ) → Samples g l start density out out' r
      → (r ≡ (sample_table g l start density).refusal)
      × (out' ≡ words_after (sample_table g l start density).refusal (table_words (sample_table g l start density).value) out)
  samples_served k = gives_is out (λ x y p q. p ∙ sym q) (long k) (sample_table g l start density) refl

  module _ (out' : List ℕ) (r : ℕ) (z : r ≡ 0) (h : Samples g l start density out out' r) where
    legal-of-answer : (a : Answer Table) → a ≡ sample_table g l start density → a.refusal ≡ 0 → Legal a.value
    legal-of-answer a p e =
        subst (λ (x : Answer Table). Legal x.value) (sym p) (sample_answer g l start density (ap (λ (x : Answer Table). x.refusal) (sym p) ∙ e))

    pub samples-table : record { refusal = 0; value = table_at 0 out' } ≡ sample_table g l start density
    samples-table = table_left out out' r z h (λ n. omega arith) (λ a p e. (legal-of-answer a p e).rows_length)

    pub samples-legal : Legal (table_at 0 out')
    samples-legal = legal-of-answer (record { refusal = 0; value = table_at 0 out' }) samples-table refl
