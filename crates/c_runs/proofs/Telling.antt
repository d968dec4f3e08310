-- What is seen of one call reads as the answer of the library (`step_back`), and the words that it leaves as the value that the next call gets
-- (`kept_back`), of either side and whatever the words are: what a call puts is what the next one reads.
--
-- Elsewhere: that words that were put read back, run_words/proofs/ReadingBack.antt; that what is put can be held in words, Returned.antt.
use mathlib.Core.Path.{◌≡◌, refl, sym, ap, ◌∙◌}
use mathlib.Core.Logic.{◌⊎◌, inl, inr}
use mathlib.Core.Bool.{Bool, true, false, cond}
use mathlib.Core.List.{List}
use Prim.Native.Nat.{ℕ, ◌≤◌}
use lib.Dec.{eqb}
use lib.ListN.{length}
use lib.Seq.{sets as stored, length-sets}
use borrow.Author.Tests.{eq-eqb, ne_eqb}
use Rattle.table.specs.declared.Table.{Table}
use Rattle.table.specs.declared.Chain.{Chain}
use Rattle.table.specs.Tables.{chain_rows}
use Rattle.rules.specs.Calls.{Reply, refused, spent, handed, end}
use Rattle.lists.specs.Lists.{Side}
use Rattle.runs.specs.Paused.{Value}
use Rattle.runs.specs.Calling.{Step, refusal_step, kept_value}
use Rattle.runs.specs.private.Either.{CalledOf}
use Rattle.words.specs.Layouts.{word_at, numbers_at, chain_at}
use Rattle.words.specs.Serving.{words_after as left_in}
use Rattle.words.proofs.Serving.{left_refused}
use Rattle.run_words.specs.Values.{value_at, value_words, outcome_number, refusal_number, step_words}
use Rattle.words.proofs.Back.{rows_size}
use Rattle.run_words.proofs.ReadingBack.{numbers_read, value-back, outcome_back, moves_back, chain_back, picks_back}
use Rattle.c_runs.specs.Calls.{Seen, reply_read, step_read}
use Rattle.c_runs.proofs.Sides.{Startable}
use Rattle.c_runs.proofs.Returned.{Readable, called-held, called-read}

-- ---- what a call leaves
pub left_accepted : (n : ℕ) (vs w : List ℕ) → n ≡ 0 → left_in n vs w ≡ stored w 0 vs
left_accepted n vs w e = rw (eq-eqb n 0 e)

pub left_length : (n : ℕ) (vs w : List ℕ) → length (left_in n vs w) ≡ length w
left_length n vs w = go (eqb n 0)
  where
    go : (b : Bool) → length (cond b (stored w 0 vs) w) ≡ length w
    go true = length-sets w 0 vs
    go false = refl

-- x tells the answer s of the library, of a call on the words w
pub record Tells (n : ℕ) (w : List ℕ) (s : Step) (x : Seen) : Type 0 where
  pub number : x.number ≡ refusal_number s.answer
  pub run : x.run ≡ left_in x.number (value_words n s.next) w
  pub step : x.step ≡ left_in x.number (step_words s) x.lent

step_same : (a b : Reply) (k l : ℕ) (c d : Chain) (p q : List ℕ) (v w : Value) → a ≡ b → k ≡ l → c ≡ d → p ≡ q → v ≡ w
    → ◌≡◌ {A = Step} (record { answer = a; moves = k; chain = c; picks = p; next = v }) (record { answer = b; moves = l; chain = d; picks = q; next = w })
step_same a b k l c d p q v w x y z o u = rw (x, y, z, o, u)

-- an answer that is no refusal, by its number and its rows
reply_back : (a : Reply) (o : ℕ) (rows : List ℕ) → ((n : ℕ) → ¬ (a ≡ refused n)) → o ≡ outcome_number a → ((y : List ℕ) → a ≡ handed y → rows ≡ y)
    → cond (eqb o 1) (handed rows) (cond (eqb o 2) spent end) ≡ a
reply_back (refused n) o rows h e f = absurd (h n refl)
reply_back spent o rows h e f = rw e
reply_back (handed y) o rows h e f = rw e (ap handed (f y refl))
reply_back end o rows h e f = rw e

accepted_number : (a : Reply) → ((n : ℕ) → ¬ (a ≡ refused n)) → refusal_number a ≡ 0
accepted_number (refused n) h = absurd (h n refl)
accepted_number spent h = refl
accepted_number (handed y) h = refl
accepted_number end h = refl

module _ (side : Table → Side) (all : Startable side) (n : ℕ) where
  -- what is seen of a call reads as its answer, and the words that it leaves as the value that the next call gets
  module _ (w : List ℕ) (l : 199 ≤ length w) (b : ℕ) (s : Step) (x : Seen) (m : 131 ≤ length x.lent) (c : CalledOf side (value_at n w) b s)
      (h : Tells n w s x) where
    next-back : x.number ≡ 0 → value_at n x.run ≡ s.next
    next-back e =
        ap (value_at n) (h.run ∙ left_accepted x.number (value_words n s.next) w e)
        ∙ value-back n s.next (called-held side all (value_at n w) (rows_size 3 w) (numbers_read 67 w) b s c) w l

    abbrev Cases : Type 0
    Cases = ((k : ℕ) × ¬ (k ≡ 0) × (s ≡ refusal_step k)) ⊎ (((k : ℕ) → ¬ (s.answer ≡ refused k)) × Readable s)

    cases : Cases
    cases = called-read side all (value_at n w) (rows_size 3 w) (numbers_read 67 w) b s c

    refused-is : (k : ℕ) → s ≡ refusal_step k → x.number ≡ k
    refused-is k e = h.number ∙ ap (λ (y : Step). refusal_number y.answer) e

    read_back : Cases → step_read n x ≡ s
    read_back (inl (k, z, e)) =
        let d : x.number ≡ k = refused-is k e in
        rw (ne_eqb x.number 0 (λ q. z (sym d ∙ q))) (ap refusal_step d ∙ sym e)
    read_back (inr (a, r)) =
        let z : x.number ≡ 0 = h.number ∙ accepted_number s.answer a in
        let o : ℕ = outcome_number s.answer in
        let q : x.step ≡ stored x.lent 0 (step_words s) = h.step ∙ left_accepted x.number (step_words s) x.lent z in
        let chain : chain_at 2 x.step ≡ s.chain = ap (chain_at 2) q ∙ chain_back o s.moves s.chain s.picks r.rows r.picks x.lent m in
        rw (eq-eqb x.number 0 z)
        (step_same (reply_read x) s.answer (word_at x.step 1) s.moves (chain_at 2 x.step) s.chain (numbers_at 67 x.step) s.picks
        (value_at n x.run) s.next
        (reply_back s.answer (word_at x.step 0) (chain_rows (chain_at 2 x.step)) a
        (ap (λ (y : List ℕ). word_at y 0) q ∙ outcome_back o s.moves s.chain s.picks r.rows r.picks x.lent m)
        (λ y e. ap chain_rows chain ∙ r.set y e))
        (ap (λ (y : List ℕ). word_at y 1) q ∙ moves_back o s.moves s.chain s.picks r.rows r.picks x.lent m)
        chain
        (ap (numbers_at 67) q ∙ picks_back o s.moves s.chain s.picks r.rows r.picks x.lent m)
        (next-back z))

    stays-back : Cases → value_at n x.run ≡ kept_value s.answer (value_at n w) s.next
    stays-back (inl (k, z, e)) =
        let d : x.number ≡ k = refused-is k e in
        ap (value_at n) (h.run ∙ left_refused x.number (value_words n s.next) w (λ q. z (sym d ∙ q)))
        ∙ ap (λ (y : Step). kept_value y.answer (value_at n w) s.next) (sym e)
    stays-back (inr (a, r)) = next-back (h.number ∙ accepted_number s.answer a) ∙ kept-accepted s.answer a
      where
        kept-accepted : (y : Reply) → ((k : ℕ) → ¬ (y ≡ refused k)) → s.next ≡ kept_value y (value_at n w) s.next
        kept-accepted (refused k) f = absurd (f k refl)
        kept-accepted spent f = refl
        kept-accepted (handed z) f = refl
        kept-accepted end f = refl

    pub step_back : step_read n x ≡ s
    step_back = read_back cases

    pub kept_back : value_at n x.run ≡ kept_value s.answer (value_at n w) s.next
    kept_back = stays-back cases
