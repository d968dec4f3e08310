-- What the entries on batches give. A batch of the run in one slice, which then holds the next paused value, puts into the other: word 0 how it stopped
-- (1 as many ladders as have room, 2 the budget is spent, 3 the run ended), 1 how many ladders it handed out, 2 the moves made, and from 3 on the ladders,
-- G words each, by gauge rows, one behind the other. There is room for as many as its words from 3 on have times G, and the words behind the ladders
-- stay. In words it is what the library's own batch promises of the value that the words read as (`gives`); and what it leaves reads as that batch
-- (`reads`), so that run calls and batches on one slice may follow one another in any turn.
--
-- In order: the words of a batch; how they read; the entry.
--
-- Elsewhere: batches and their calls, runs/specs/Batches; paused values in words, run_words/specs/Values; the number returned and what a slice is left
-- with, words/specs/Serving.
use Rattle.std.specs.Prelude.{◌≡◌, ◌⊎◌, cond, List, ◌∷◌, ℕ, ◌<◌, eqb, length, drop}
use Rattle.table.specs.declared.Table.{Table}
use Rattle.lists.specs.Lists.{Side}
use Rattle.runs.specs.Paused.{Value}
use Rattle.runs.specs.Batches.{Ending, denied, full, used, over, Batch, Batched, CarriesBatch}
use Rattle.words.specs.Layouts.{word_at}
use Rattle.words.specs.Serving.{GivesTwo}
use Rattle.run_words.specs.Values.{value_at, value_words}

-- ---- the words of a batch
-- its answer, and the words from 3 on after it
pub record Answered : Type 0 where
  pub batch : Batch
  pub words : List ℕ

-- the number of its refusal, else 0; and that of how it stopped
abbrev pub refusal_of : Ending → ℕ
refusal_of (denied n) = n
refusal_of full = 0
refusal_of used = 0
refusal_of over = 0

abbrev pub stop_of : Ending → ℕ
stop_of (denied n) = 0
stop_of full = 1
stop_of used = 2
stop_of over = 3

abbrev pub batch_words : Answered → List ℕ
batch_words x = stop_of x.batch.ending ∷ (x.batch.ladders ∷ (x.batch.moves ∷ x.words))

-- ---- how the words read that a batch leaves, in the slice of the run and in that of the batch
abbrev pub ending_read : ℕ → Ending
ending_read k = cond (eqb k 1) full (cond (eqb k 2) used over)

abbrev pub batch_read : ℕ → List ℕ → List ℕ → Batch
batch_read n run batch =
    record { ending = ending_read (word_at batch 0); ladders = word_at batch 1; moves = word_at batch 2; next = value_at n run }

-- ---- the entry
-- what the library promises of a batch from the value v with the budget b, whose buffer was `before`: as many words as it was lent are left
pub record BatchCall (side : Table → Side) (v : Value) (b : ℕ) (before : List ℕ) (x : Answered) : Type 0 where
  pub batched : Batched side v b before x.batch x.words
  pub calls : CarriesBatch side v (length before) b
  pub long : length x.words ≡ length before

-- a batch of the run in the words w of the side with number n, with the budget b: the next value in their place, and the answer with the ladders
pub record Lists (side : Table → Side) (n : ℕ) (w : List ℕ) (b : ℕ) (out w' out' : List ℕ) (r : ℕ) : Type 0 where
  pub gives :
      GivesTwo ((length w < 199) ⊎ (length out < 3))
      (BatchCall side (value_at n w) b (drop 3 out))
      (λ (x : Answered). refusal_of x.batch.ending)
      (λ (x : Answered). value_words n x.batch.next)
      batch_words
      w
      out
      w'
      out'
      r
  pub reads : r ≡ 0 → Batched side (value_at n w) b (drop 3 out) (batch_read n w' out') (drop 3 out')
