-- What a reader finds in the promise of a batch on words, sentence by sentence. Each law reads a field of a record behind the contract: with the field
-- weakened it has no proof, whatever else is changed.
--
-- Elsewhere: batches by value, runs/proofs/Sentences.antt.
use mathlib.Core.Path.{◌≡◌}
use mathlib.Core.Logic.{◌⊎◌}
use mathlib.Core.List.{List}
use Prim.Native.Nat.{ℕ, ◌<◌}
use lib.ListN.{length, drop}
use Rattle.table.specs.declared.Table.{Table}
use Rattle.lists.specs.Lists.{Side}
use Rattle.runs.specs.Paused.{Value}
use Rattle.runs.specs.Batches.{Batched, CarriesBatch}
use Rattle.run_words.specs.Values.{value_at}
use Rattle.c_batches.specs.Serving.{Answered, batch_read, BatchCall, Lists}

-- "100 where a lent slice is shorter than its layout", and both slices are as they were
pub batch_short : (side : Table → Side) (n : ℕ) (w : List ℕ) (b : ℕ) (out w' out' : List ℕ) (r : ℕ) → Lists side n w b out w' out' r
    → (length w < 199) ⊎ (length out < 3) → (r ≡ 100) × (w' ≡ w) × (out' ≡ out)
batch_short side n w b out w' out' r h s = h.gives.short s

-- what is left, after a 0, is the batch of the value that the words read as
pub batch_reads : (side : Table → Side) (n : ℕ) (w : List ℕ) (b : ℕ) (out w' out' : List ℕ) (r : ℕ) → Lists side n w b out w' out' r → r ≡ 0
    → Batched side (value_at n w) b (drop 3 out) (batch_read n w' out') (drop 3 out')
batch_reads side n w b out w' out' r h e = h.reads e

module _ (side : Table → Side) (v : Value) (b : ℕ) (before : List ℕ) (x : Answered) where
  -- it is the library's batch, its calls are run calls, and it leaves as many words as it was lent
  pub batch_promised : BatchCall side v b before x → Batched side v b before x.batch x.words
  batch_promised p = p.batched

  pub batch_carries : BatchCall side v b before x → CarriesBatch side v (length before) b
  batch_carries p = p.calls

  pub batch_long : BatchCall side v b before x → length x.words ≡ length before
  batch_long p = p.long
