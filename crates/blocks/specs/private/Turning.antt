-- What the private steps promise: the check of a value, files written at a place, the words lent to a batch, and one
-- turn, which is a batch of calls and the files of what they hand out.
use Rattle.std.specs.Prelude.{◌≡◌, Bool, true, false, List, [], ◌∷◌, ◌++◌, ℕ, zero, suc, ◌+◌, ◌-◌, ◌*◌, ◌/◌, ◌≤◌, ◌<◌, length, take, drop}
use Rattle.table.specs.declared.Table.{Table}
use Rattle.table.specs.Tables.{table_refusal, no_rows}
use Rattle.rules.specs.Machine.{State}
use Rattle.rules.specs.Sequences.{All}
use Rattle.lists.specs.Lists.{gauge_side}
use Rattle.runs.specs.Paused.{Value, paused}
use Rattle.runs.specs.Calling.{value_refusal, PausedAt}
use Rattle.runs.specs.Batches.{Ending, denied, full, used, over}
use Rattle.file_writer.specs.Writing.{write_file}
use Rattle.blocks.specs.Filling.{pair_table, files, longest, calls, after, text, is_end, is_none, has, Stops, Filling, Fills}

-- n is 01's number for the paused value v, or 0
pub record Checked (v : Value) (n : ℕ) : Type 0 where
  pub table : 0 < value_refusal gauge_side v → n ≡ value_refusal gauge_side v
  pub value : value_refusal gauge_side v ≡ 0 → ((s : State) → PausedAt gauge_side v s → ⊥) → n ≡ 15
  pub legal : value_refusal gauge_side v ≡ 0 → (s : State) → PausedAt gauge_side v s → n ≡ 0

-- the buffer with the bytes vs at the place at
abbrev pub placed : List ℕ → ℕ → List ℕ → List ℕ
placed l at vs = take at l ++ (vs ++ drop (at + length vs) l)

-- the file of t, where it passes its check and has room, is at the place at, and next is the place behind it
pub record Put (t : Table) (before : List ℕ) (at : ℕ) (next : ℕ) (now : List ℕ) : Type 0 where
  pub inside : next ≤ length before
  pub file : table_refusal t ≡ 0 → at + length (write_file t) ≤ length before → (next ≡ at + length (write_file t)) × (now ≡ placed before at (write_file t))

-- ---- ladders as words
-- a table of G gauges and L cases: what the files of its ladders take from it
abbrev pub shape : ℕ → ℕ → Table
shape g l = record { gauges = g; cases = l; rows = no_rows }

-- the first n ladders of words, g words each
abbrev pub ladders : ℕ → ℕ → List ℕ → List (List ℕ)
ladders g zero words = []
ladders g (suc n) words = take g words ∷ ladders g n (drop g words)

-- the files of the sets xs, where each has a legal table and all have room, are at the place at, and next is the
-- place behind them
pub record PutAll (t : Table) (xs : List (List ℕ)) (before : List ℕ) (at next : ℕ) (now : List ℕ) : Type 0 where
  pub inside : next ≤ length before
  pub are : All (λ (x : List ℕ). table_refusal (pair_table t x) ≡ 0) xs → at + length (files t xs) ≤ length before
      → (next ≡ at + length (files t xs)) × (now ≡ placed before at (files t xs))

-- no file of a set of pairs of g gauges and l cases is longer
abbrev pub most_bytes : ℕ → ℕ → ℕ
most_bytes g l = 60 + g * (6 * l)

-- the words lent to a batch where so many bytes are free: for one ladder of a run that omits, and else for no more
-- than are called for
pub record Lent (g l : ℕ) (omit : Bool) (room words : ℕ) : Type 0 where
  pub few : words ≤ 1024
  pub one : 1 ≤ g → g ≤ 64 → l ≤ 64 → omit ≡ true → words / g ≡ 1
  pub some : 1 ≤ g → g ≤ 64 → l ≤ 64 → (1 ≤ words / g) × (words / g ≤ 1024)
  pub called : 1 ≤ g → g ≤ 64 → l ≤ 64 → (words / g - 1) * most_bytes g l + longest ≤ room

-- ---- a turn
-- calls made from the state s on, on t under the preference in the numbers of order, as many as some: none is made
-- where no call follows. The files of what they hand out are at the place at, and w and next are what they leave;
-- stop says that one handed nothing out, and over that one answered end
pub record Added (t : Table) (order : List ℕ) (omit : Bool) (s : State) (before : List ℕ) (at : ℕ) (w : Value) (next : ℕ) (stop over : Bool)
    (now : List ℕ) : Type 0 where
  pub many : ℕ
  pub sooner : (k : ℕ) → k < many → ¬ Stops t order omit s (length before - at) k
  pub place : next ≡ at + length (text t order omit many s)
  pub bytes : now ≡ placed before at (text t order omit many s)
  pub value : w ≡ paused t order omit (after t order omit many s)
  pub stops : stop ≡ has is_none (calls t order omit many s)
  pub ends : over ≡ has is_end (calls t order omit many s)
  pub some : stop ≡ false → at < next

-- how a batch that stopped so says that a call handed nothing out, and that one answered end
abbrev pub stopped : Ending → Bool
stopped (denied n) = true
stopped full = false
stopped used = true
stopped over = true

abbrev pub ended : Ending → Bool
ended (denied n) = true
ended full = false
ended used = false
ended over = true

-- one turn
pub record Turned (v : Value) (before : List ℕ) (at : ℕ) (w : Value) (next : ℕ) (stop over : Bool) (now : List ℕ) : Type 0 where
  pub inside : next ≤ length before
  pub adds : value_refusal gauge_side v ≡ 0 → (s : State) → PausedAt gauge_side v s → at + longest ≤ length before
      → Added v.table v.order v.omit s before at w next stop over now

-- the turns of a block, where the value is legal and the buffer is long enough
abbrev pub FillsOn : Value → List ℕ → Filling → List ℕ → Type 0
FillsOn v before f now =
    value_refusal gauge_side v ≡ 0 → (s : State) → PausedAt gauge_side v s → longest ≤ length before → Fills v.table v.order v.omit s before f now
