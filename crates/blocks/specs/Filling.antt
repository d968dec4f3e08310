-- A lent buffer filled with the files of successive hand-outs of the gauge run, and the blocks so made, one after
-- another. A ladder's file is that of the table of its pairs, with the table's G and L.
--
-- In order: files; one block (`Filled`: which calls are made and what the buffer then holds, for every value and
-- every buffer); blocks one after another (`Listed`: from a fresh start on they are the files of the gauge list under
-- the run's preference, each member's in turn).
--
-- Elsewhere: that `Filled` can be met for every input and leaves one answer, `filled_exists` and `filled_unique` in
-- proofs/Deciding.antt; that the longest file is attained, `longest_attained` there; that lists of blocks exist and
-- reach the list's end, proofs/Existence.antt; that in plain order the list is the gauge list, `plain_list` in
-- proofs/PlainBlocks.antt.
use Rattle.std.specs.Prelude.{Result, Ok, Err, ◌≡◌, ◌⊎◌, Bool, true, false, ◌||◌, List, [], ◌∷◌, ◌++◌, ℕ, ◌+◌, ◌≤◌, ◌<◌, min, length, take, drop, replicate}
use Rattle.table.specs.declared.Table.{Table}
use Rattle.table.specs.Tables.{padded}
use Rattle.refusals.specs.declared.Refusal.{Refusal}
use Rattle.refusals.specs.Answers.{number}
use Rattle.rules.specs.Sequences.{factorial}
use Rattle.rules.specs.Machine.{State, fresh}
use Rattle.rules.specs.Calls.{Reply, refused, spent, handed, end, Call, most_budget, calls_by, state_by, handouts}
use Rattle.lists.specs.Lists.{gauge_side, PreferredList}
use Rattle.lists.specs.OnTable.{hand_out}
use Rattle.runs.specs.Paused.{Value, paused, blank_value, gauge_value}
use Rattle.runs.specs.Calling.{arrangement, value_refusal, PausedAt}
use Rattle.runs.specs.Omitting.{moves_of}
use Rattle.file_writer.specs.Writing.{write_file}
use Rattle.blocks.specs.declared.Block.{Block}

-- ---- files
-- the table of the pairs of x, with the G and L of t
abbrev pub pair_table : Table → List ℕ → Table
pair_table t x = record { gauges = t.gauges; cases = t.cases; rows = padded x }

-- the files of sets of pairs of t, one after another
abbrev pub files : Table → List (List ℕ) → List ℕ
files t [] = []
files t (x ∷ xs) = write_file (pair_table t x) ++ files t xs

-- the longest file of a table, that of the full one of 64 gauges and 64 cases
abbrev pub longest : ℕ
longest = 23484

-- ---- a block
-- 01's number, 0 where nothing is refused; the value after the calls made; how many bytes were filled; and whether a
-- call answered end
pub record Filling : Type 0 where
  pub refusal : ℕ
  pub value : Value
  pub used : ℕ
  pub over : Bool

-- how the code's answer reads
abbrev pub block : Result Block Refusal → Filling
block (Ok b) = record { refusal = 0; value = gauge_value b.run; used = b.used; over = b.over }
block (Err why) = record { refusal = number why; value = blank_value; used = 0; over = false }

-- the first n calls of the gauge run on t with the preference in the 64 numbers of order (02, R-12), one that omits
-- or does not, from the state s on, each with the greatest budget, and the state after them
abbrev pub calls : Table → List ℕ → Bool → ℕ → State → List Call
calls t order omit n s = calls_by (moves_of t (gauge_side t) (arrangement (gauge_side t) order) omit) (hand_out (gauge_side t)) (replicate n most_budget) s

abbrev pub after : Table → List ℕ → Bool → ℕ → State → State
after t order omit n s = state_by (moves_of t (gauge_side t) (arrangement (gauge_side t) order) omit) (hand_out (gauge_side t)) (replicate n most_budget) s

-- the files of what they hand out
abbrev pub text : Table → List ℕ → Bool → ℕ → State → List ℕ
text t order omit n s = files t (handouts (calls t order omit n s))

-- an answer of end; and one that hands nothing out, which a run that omits nothing gives to the greatest budget at
-- the end alone
abbrev pub is_end : Reply → Bool
is_end (refused n) = false
is_end spent = false
is_end (handed x) = false
is_end end = true

abbrev pub is_none : Reply → Bool
is_none (refused n) = true
is_none spent = true
is_none (handed x) = false
is_none end = true

-- one of the calls answered so
abbrev pub has : (Reply → Bool) → List Call → Bool
has q [] = false
has q (c ∷ cs) = q c.answer || has q cs

-- "A refusal yields its number and nothing else": the buffer is as it was
pub record Untouched (n : ℕ) (before : List ℕ) (f : Filling) (now : List ℕ) : Type 0 where
  pub says : f ≡ record { refusal = n; value = blank_value; used = 0; over = false }
  pub buffer : now ≡ before

-- no call follows the first n: one of them handed nothing out, or behind their files the longest file has no room
abbrev pub Stops : Table → List ℕ → Bool → State → ℕ → ℕ → Type 0
Stops t order omit s room n = (has is_none (calls t order omit n s) ≡ true) ⊎ (room < length (text t order omit n s) + longest)

-- the block from the state s on, of a run with the preference in order, one that omits or does not: calls are made
-- until they stop, no sooner and no later. The buffer's front is the files of what they handed out, in turn, and
-- behind it is what was there; the value is that after the calls, and keeps the preference; over says whether one of
-- them answered end.
pub record Fills (t : Table) (order : List ℕ) (omit : Bool) (s : State) (before : List ℕ) (f : Filling) (now : List ℕ) : Type 0 where
  pub accepted : f.refusal ≡ 0
  pub count : ℕ
  pub stops : Stops t order omit s (length before) count
  pub sooner : (k : ℕ) → k < count → ¬ Stops t order omit s (length before) k
  pub used : f.used ≡ length (text t order omit count s)
  pub bytes : now ≡ text t order omit count s ++ drop f.used before
  pub value : f.value ≡ paused t order omit (after t order omit count s)
  pub over : f.over ≡ has is_end (calls t order omit count s)

-- f is the answer for the value v and the buffer before, and now is the buffer after: 10, 11, 27 and 15 as a run call
-- has them, then 16 for a buffer shorter than the longest file
pub record Filled (v : Value) (before : List ℕ) (f : Filling) (now : List ℕ) : Type 0 where
  pub table : 0 < value_refusal gauge_side v → Untouched (value_refusal gauge_side v) before f now
  pub value : value_refusal gauge_side v ≡ 0 → ((s : State) → PausedAt gauge_side v s → ⊥) → Untouched 15 before f now
  pub short : value_refusal gauge_side v ≡ 0 → (s : State) → PausedAt gauge_side v s → length before < longest → Untouched 16 before f now
  pub fills : value_refusal gauge_side v ≡ 0 → (s : State) → PausedAt gauge_side v s → longest ≤ length before
      → Fills v.table v.order v.omit s before f now

-- ---- blocks one after another
-- one call of fill: the buffers, any, before and after it, and its answer
pub record Item : Type 0 where
  pub before : List ℕ
  pub answer : Filling
  pub now : List ℕ

-- each block is filled from the value that the one before it gave, and none is refused
abbrev pub Blocks : Value → List Item → Type 0
Blocks v [] = Unit {0}
Blocks v (i ∷ is) = Filled v i.before i.answer i.now × (i.answer.refusal ≡ 0) × Blocks i.answer.value is

-- the value that they leave
abbrev pub leaves : Value → List Item → Value
leaves v [] = v
leaves v (i ∷ is) = leaves i.answer.value is

-- the used fronts, one after another
abbrev pub output : List Item → List ℕ
output [] = []
output (i ∷ is) = take i.answer.used i.now ++ output is

-- one of them is over
abbrev pub is_over : List Item → Bool
is_over [] = false
is_over (i ∷ is) = i.answer.over || is_over is

-- the list of the gauge run on t with the preference in the numbers of order
abbrev pub ListOf : Table → List ℕ → List (List ℕ) → Type 0
ListOf t order xs = PreferredList t (gauge_side t) (arrangement (gauge_side t) order) xs

-- what blocks from a fresh start on t with that preference, of a run that omits nothing, put out: the files of a
-- front of the list, and of all of it once a block is over, which one of any (min G L)! + 1 blocks is
pub record Listed (t : Table) (order : List ℕ) (is : List Item) : Type 0 where
  pub front : (xs : List (List ℕ)) → ListOf t order xs → (rest : List (List ℕ)) × (output is ++ files t rest ≡ files t xs)
  pub complete : (xs : List (List ℕ)) → ListOf t order xs → is_over is ≡ true → output is ≡ files t xs
  pub ends : factorial (min t.gauges t.cases) < length is → is_over is ≡ true

-- every list of blocks from a fresh start that leaves v, with this block added
abbrev pub CarriesList : Value → Item → Type 0
CarriesList v i =
    value_refusal gauge_side v ≡ 0 → i.answer.refusal ≡ 0
    → (is : List Item) → Blocks (paused v.table v.order false fresh) is → leaves (paused v.table v.order false fresh) is ≡ v
    → Listed v.table v.order (is ++ (i ∷ []))
