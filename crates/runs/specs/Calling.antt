-- Run calls (01, "A run call has a budget ..", refusals 10, 11, 27, 15 and 18). A call's answer, of either side,
-- reads as a `Step`; `Called` says what it is for every paused value and budget, under the value's preference (02,
-- R-12), where the value is not of a run that omits; `Calls` says it of a list of calls, each from the value that the
-- last unrefused call returned, and `last_value` is the value that such a list leaves.
--
-- Elsewhere: demand 3, Demand.antt; the runs that omit (R-2), Omitting.antt.
use Rattle.std.specs.Prelude.{◌≡◌, Bool, false, List, [], ◌∷◌, map, ℕ, suc, ◌<◌, Result, Ok, Err}
use Rattle.table.specs.Tables.{blank_chain, chain_rows, padded}
use Rattle.refusals.specs.Answers.{number}
use Rattle.table.specs.declared.Table.{Table}
use Rattle.table.specs.declared.Chain.{Chain}
use Rattle.rules.specs.Machine.{State}
use Rattle.rules.specs.Calls.{Reply, refused, spent, handed, end, Call}
use Rattle.lists.specs.Preferred.{pick_seq_by}
use Rattle.lists.specs.Lists.{Side}
use Rattle.lists.specs.OnTable.{ReachedOn, call_on}
use Rattle.preference.specs.Preferences.{preferred_refusal, order_of}
use Rattle.refusals.specs.declared.Refusal.{Refusal}
use Rattle.runs.specs.Paused.{Value, paused, blank_value, value_of, no_numbers}
use Rattle.runs.specs.declared.paused.Outcome.{Outcome}
use Rattle.runs.specs.declared.paused.Outcome.TheVariants.{HandedOut, Spent, End}
use Rattle.runs.specs.declared.paused.Step.{Step as CallStep}

-- the answer of a call: 01's answer, the moves, the chain by gauge rows, its pick sequence (02, R-6: "Each handed-out
-- ladder now carries its pick sequence, in the case run that of the cases"), by number in 64 places as a paused value
-- has its picks, and the next paused value
pub record Step : Type 0 where
  pub answer : Reply
  pub moves : ℕ
  pub chain : Chain
  pub picks : List ℕ
  pub next : Value

-- "A refusal yields its number and nothing else"
abbrev pub refusal_step : ℕ → Step
refusal_step n = record { answer = refused n; moves = 0; chain = blank_chain; picks = no_numbers; next = blank_value }

-- ---- how the struct reads, by the numbers of its side
-- 01's answer for each outcome, and what is handed out with it
abbrev pub outcome : {S : Type 0} → Outcome S → Reply
outcome (HandedOut l) = handed (chain_rows l.chain)
outcome Spent = spent
outcome End = end

abbrev pub chain_out : {S : Type 0} → Outcome S → Chain
chain_out (HandedOut l) = l.chain
chain_out Spent = blank_chain
chain_out End = blank_chain

abbrev pub picks_out : {S : Type 0} → Outcome S → List ℕ
picks_out (HandedOut l) = l.picks.numbers
picks_out Spent = no_numbers
picks_out End = no_numbers

abbrev pub step_of : {S : Type 0} → (S → ℕ) → Result (CallStep S) Refusal → Step
step_of n (Ok r) = record {
  answer = outcome r.outcome;
  moves = r.moves;
  chain = chain_out r.outcome;
  picks = picks_out r.outcome;
  next = value_of n r.next;
}
step_of n (Err why) = refusal_step (number why)

-- ---- what a call answers
-- the pick sequence of the set x on the side s under the preference o, "from the ladder alone" (01), by number,
-- padded with zeros
abbrev pub sequence : Side → List ℕ → List ℕ → List ℕ
sequence s o x = padded (map suc (pick_seq_by o (s.view x)))

-- the preference of a side that the 64 numbers k hold, by row index
abbrev pub arrangement : Side → List ℕ → List ℕ
arrangement s k = order_of s.count k

-- what the rules give for a call on the side s of the table t, with the preference in k: the chain is by gauge rows
-- where one is handed out, with its pick sequence, and both are blank elsewhere; the next value keeps the preference,
-- and omits where the last one did
abbrev pub by_rules : Table → Side → List ℕ → Bool → Reply → ℕ → State → Step
by_rules t s k omit (refused n) m y = refusal_step n
by_rules t s k omit spent m y = record { answer = spent; moves = m; chain = blank_chain; picks = no_numbers; next = paused t k omit y }
by_rules t s k omit (handed x) m y =
    record {
      answer = handed x;
      moves = m;
      chain = record { gauges = t.gauges; rows = padded x };
      picks = sequence s (arrangement s k) x;
      next = paused t k omit y;
    }
by_rules t s k omit end m y = record { answer = end; moves = m; chain = blank_chain; picks = no_numbers; next = paused t k omit y }

abbrev pub told : Table → Side → List ℕ → Bool → Call → Step
told t s k omit c = by_rules t s k omit c.answer c.moves c.next

-- the preference that the value v keeps
abbrev pub held : (Table → Side) → Value → List ℕ
held side v = arrangement (side v.table) v.order

-- the number for its table and then its preference: 10, 11, 27
abbrev pub value_refusal : (Table → Side) → Value → ℕ
value_refusal side v = preferred_refusal v.table (side v.table).count v.order

-- v is the paused value of the state s, and some number of moves from a fresh start with its preference leads to s;
-- nothing is asked of whether it omits
pub record PausedAt (side : Table → Side) (v : Value) (s : State) : Type 0 where
  pub reached : ReachedOn (side v.table) (held side v) s
  pub stands : v ≡ paused v.table v.order v.omit s

-- r is the answer of a call on the side of v's table, with the budget b: 10 and 11 for the table, and "right after
-- the table's checks, before all others" 27 for the preference (02, R-12); then 15 for "a value that no number of
-- moves, 0 included, from a fresh start on its table leads to"; then, with 18 in it, what rules 1 to 5 give, where
-- the value's run omits nothing
pub record Called (side : Table → Side) (v : Value) (b : ℕ) (r : Step) : Type 0 where
  pub table : 0 < value_refusal side v → r ≡ refusal_step (value_refusal side v)
  pub value : value_refusal side v ≡ 0 → ((s : State) → PausedAt side v s → ⊥) → r ≡ refusal_step 15
  pub rules : v.omit ≡ false → value_refusal side v ≡ 0 → (s : State) → PausedAt side v s
      → r ≡ told v.table (side v.table) v.order false (call_on (side v.table) (held side v) b s)

-- ---- a list of calls
-- the value that the next call gets: a refused call changes nothing
abbrev pub kept_value : Reply → Value → Value → Value
kept_value (refused n) v next = v
kept_value spent v next = next
kept_value (handed x) v next = next
kept_value end v next = next

-- rs are the answers of calls with the budgets bs, the first from the value v, where P says what the answer of a call
-- is
abbrev pub CallsBy : (Value → ℕ → Step → Type 0) → Value → List ℕ → List Step → Type 0
CallsBy P v [] [] = Unit {0}
CallsBy P v [] (r ∷ rs) = ⊥
CallsBy P v (b ∷ bs) [] = ⊥
CallsBy P v (b ∷ bs) (r ∷ rs) = P v b r × CallsBy P (kept_value r.answer v r.next) bs rs

abbrev pub Calls : (Table → Side) → Value → List ℕ → List Step → Type 0
Calls side v bs rs = CallsBy (Called side) v bs rs

-- the value that a list of calls leaves: the one last returned, or v where every call was refused
abbrev pub last_value : Value → List Step → Value
last_value v [] = v
last_value v (r ∷ rs) = last_value (kept_value r.answer v r.next) rs
