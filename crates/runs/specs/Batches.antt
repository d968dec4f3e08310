-- Batches: many hand-outs of a run in one call, with a budget of moves for all of them. A batch is a list of run
-- calls, as Calling.antt has them: the first gets the budget, each next what is left of it, until as many ladders are
-- handed out as have room, or a call hands none out. The value is the one that the last of them returns, so that run
-- calls and batches of a run may follow one another in any turn.
--
-- In order: an answer and how the struct reads; the calls of a batch, by any rule for moves (`batch_by`, and
-- their budgets, `budgets_by`); what a batch answers for every value, every budget and every buffer (`Batched`); its
-- promise (`CarriesBatch`).
use Rattle.std.specs.Prelude.{◌≡◌, Bool, true, false, List, [], ◌∷◌, ◌++◌, map, ℕ, zero, suc, ◌+◌, ◌-◌, ◌/◌, ◌≤◌, ◌<◌, length, drop, Result, Ok, Err}
use Rattle.refusals.specs.Answers.{number}
use Rattle.table.specs.declared.Table.{Table}
use Rattle.rules.specs.Machine.{State, Move, fresh}
use Rattle.rules.specs.Calls.{Reply, refused, spent, handed, end, most_budget, call_by, calls_by}
use Rattle.lists.specs.Lists.{Side}
use Rattle.lists.specs.OnTable.{hand_out}
use Rattle.runs.specs.Paused.{Value, paused, blank_value, value_of}
use Rattle.runs.specs.Calling.{Step, told, held, value_refusal, PausedAt, Calls, last_value}
use Rattle.runs.specs.Demand.{handed_sets, RunDemand}
use Rattle.runs.specs.Omitting.{moves_of, CallsEither, RunOmits}
use Rattle.refusals.specs.declared.Refusal.{Refusal}
use Rattle.runs.specs.declared.batches.Close.{Close}
use Rattle.runs.specs.declared.batches.Close.TheVariants.{Full, Spent, End}
use Rattle.runs.specs.declared.batches.Batch.{Batch as CallBatch}

-- ---- an answer
-- how a batch stopped: it was refused, by the number; as many ladders as have room were handed out; the budget was
-- spent; or the run ended
pub data Ending : Type 0 where
  denied : ℕ → Ending
  full : Ending
  used : Ending
  over : Ending

-- how it stopped, how many ladders it handed out, the moves made, and the next paused value
pub record Batch : Type 0 where
  pub ending : Ending
  pub ladders : ℕ
  pub moves : ℕ
  pub next : Value

-- "A refusal yields its number and nothing else"
abbrev pub denial : ℕ → Batch
denial n = record { ending = denied n; ladders = 0; moves = 0; next = blank_value }

-- how the struct reads, by the numbers of its side
abbrev pub closing : Close → Ending
closing Full = full
closing Spent = used
closing End = over

abbrev pub batch_of : {S : Type 0} → (S → ℕ) → Result (CallBatch S) Refusal → Batch
batch_of n (Ok r) = record { ending = closing r.close; ladders = r.ladders; moves = r.moves; next = value_of n r.next }
batch_of n (Err why) = denial (number why)

-- ---- the calls of a batch
-- what they give: how the batch stopped, the sets handed out, in turn, the moves of all calls, and the state after
-- the last
pub record Tale : Type 0 where
  pub ending : Ending
  pub sets : List (List ℕ)
  pub moves : ℕ
  pub next : State

abbrev pub tale : Ending → List (List ℕ) → ℕ → State → Tale
tale e l m s = record { ending = e; sets = l; moves = m; next = s }

-- after calls that handed out the sets l in m moves
abbrev pub behind : List (List ℕ) → ℕ → Tale → Tale
behind l m t = tale t.ending (l ++ t.sets) (m + t.moves) t.next

module _ (mv : State → Move) (out : List ℕ → List ℕ) where
  -- a call that answered a in m moves and led to s, and after a hand-out the rest of the batch, with what is left of b
  abbrev pub onward : (ℕ → State → Tale) → ℕ → Reply → ℕ → State → Tale
  onward more b (refused n) m s = tale (denied n) [] m s
  onward more b spent m s = tale used [] m s
  onward more b (handed x) m s = behind (x ∷ []) m (more (b - m) s)
  onward more b end m s = tale over [] m s

  -- the batch from the state s, with room for k ladders and b moves
  abbrev pub batch_by : ℕ → ℕ → State → Tale
  batch_by zero b s = tale full [] 0 s
  batch_by (suc k) b s = onward (batch_by k) b (call_by mv out b s).answer (call_by mv out b s).moves (call_by mv out b s).next

  -- the budgets of its calls
  abbrev pub budgets_after : (ℕ → State → List ℕ) → ℕ → Reply → ℕ → State → List ℕ
  budgets_after more b (refused n) m s = []
  budgets_after more b spent m s = []
  budgets_after more b (handed x) m s = more (b - m) s
  budgets_after more b end m s = []

  abbrev pub budgets_by : ℕ → ℕ → State → List ℕ
  budgets_by zero b s = []
  budgets_by (suc k) b s = b ∷ budgets_after (budgets_by k) b (call_by mv out b s).answer (call_by mv out b s).moves (call_by mv out b s).next

-- ---- what a batch answers
-- the words of sets by gauge rows, one after another
abbrev pub joined : List (List ℕ) → List ℕ
joined [] = []
joined (x ∷ xs) = x ++ joined xs

-- a refusal, and the buffer is as it was
pub record Denied (n : ℕ) (before : List ℕ) (r : Batch) (now : List ℕ) : Type 0 where
  pub says : r ≡ denial n
  pub buffer : now ≡ before

-- r is the batch that gives u, of a run on the table t with the preference in order, one that omits or does not: the
-- words of its ladders, in turn, are over the front of the buffer, and behind them is what was there
abbrev pub given : Table → List ℕ → Bool → Tale → Batch
given t order omit u = record { ending = u.ending; ladders = length u.sets; moves = u.moves; next = paused t order omit u.next }

pub record Comes (t : Table) (order : List ℕ) (omit : Bool) (u : Tale) (before : List ℕ) (r : Batch) (now : List ℕ) : Type 0 where
  pub says : r ≡ given t order omit u
  pub buffer : now ≡ joined u.sets ++ drop (length (joined u.sets)) before

-- the batch on the side of the value v from the state s: G words a ladder, and room for as many as the buffer's
-- length has times G
abbrev pub batch_on : (Table → Side) → Value → ℕ → ℕ → State → Tale
batch_on side v words b s =
    batch_by (moves_of v.table (side v.table) (held side v) v.omit) (hand_out (side v.table)) (words / v.table.gauges) b s

abbrev pub budgets_on : (Table → Side) → Value → ℕ → ℕ → State → List ℕ
budgets_on side v words b s =
    budgets_by (moves_of v.table (side v.table) (held side v) v.omit) (hand_out (side v.table)) (words / v.table.gauges) b s

-- r is the answer of a batch on the side of v's table with the budget b, and now is the buffer after it: 10, 11, 27
-- and 15 as a run call has them, then 18, whether there is room or not; else what its calls give
pub record Batched (side : Table → Side) (v : Value) (b : ℕ) (before : List ℕ) (r : Batch) (now : List ℕ) : Type 0 where
  pub table : 0 < value_refusal side v → Denied (value_refusal side v) before r now
  pub value : value_refusal side v ≡ 0 → ((s : State) → PausedAt side v s → ⊥) → Denied 15 before r now
  pub large : value_refusal side v ≡ 0 → (s : State) → PausedAt side v s → most_budget < b → Denied 18 before r now
  pub rules : value_refusal side v ≡ 0 → (s : State) → PausedAt side v s → b ≤ most_budget
      → Comes v.table v.order v.omit (batch_on side v (length before) b s) before r now

-- ---- its promise
-- the answers of its calls, as run calls answer
abbrev pub steps_on : (Table → Side) → Value → ℕ → ℕ → State → List Step
steps_on side v words b s =
    map (told v.table (side v.table) v.order v.omit)
    (calls_by (moves_of v.table (side v.table) (held side v) v.omit) (hand_out (side v.table)) (budgets_on side v words b s) s)

-- the moves of some answers together
abbrev pub total : List Step → ℕ
total [] = 0
total (r ∷ rs) = r.moves + total rs

-- the budget b, and after each of some answers what is left of it
abbrev pub left_over : ℕ → List Step → List ℕ
left_over b [] = []
left_over b (r ∷ rs) = b ∷ left_over (b - r.moves) rs

-- the calls of a batch are run calls from v on, the first with the budget b, each next with what is left of it: they
-- hand out the batch's sets in its moves, and leave its value; and every list of calls from a fresh start that leaves
-- v, with these calls added, keeps demand 3, or what is promised of a run that omits
pub record AddsCalls (side : Table → Side) (v : Value) (words b : ℕ) (s : State) : Type 0 where
  pub calls : CallsEither side v (budgets_on side v words b s) (steps_on side v words b s)
  pub budgets : budgets_on side v words b s ≡ left_over b (steps_on side v words b s)
  pub handed : handed_sets (steps_on side v words b s) ≡ (batch_on side v words b s).sets
  pub spends : total (steps_on side v words b s) ≡ (batch_on side v words b s).moves
  pub last : last_value v (steps_on side v words b s) ≡ paused v.table v.order v.omit (batch_on side v words b s).next
  pub demand : (bs : List ℕ) (rs : List Step) → Calls side (paused v.table v.order false fresh) bs rs
      → last_value (paused v.table v.order false fresh) rs ≡ v
      → RunDemand side v.table v.order (paused v.table v.order false fresh) (bs ++ budgets_on side v words b s) (rs ++ steps_on side v words b s)
  pub omits : (bs : List ℕ) (rs : List Step) → CallsEither side (paused v.table v.order true fresh) bs rs
      → last_value (paused v.table v.order true fresh) rs ≡ v
      → RunOmits side v.table v.order (paused v.table v.order true fresh) (bs ++ budgets_on side v words b s) (rs ++ steps_on side v words b s)

abbrev pub CarriesBatch : (Table → Side) → Value → ℕ → ℕ → Type 0
CarriesBatch side v words b = value_refusal side v ≡ 0 → (s : State) → PausedAt side v s → b ≤ most_budget → AddsCalls side v words b s
