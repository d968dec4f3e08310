-- Run calls of either kind at once, omitting or not: the two promises `Called` and `CalledEither` in one record. The core works so, and the laws
-- go by it; `called_both` and `called_of_both` in proofs/Answered.antt say that it is the same.
use Rattle.std.specs.Prelude.{◌≡◌, Bool, List, ℕ, ◌<◌}
use Rattle.table.specs.declared.Table.{Table}
use Rattle.rules.specs.Machine.{State}
use Rattle.rules.specs.Calls.{Call, call_by}
use Rattle.lists.specs.Lists.{Side}
use Rattle.lists.specs.OnTable.{hand_out}
use Rattle.runs.specs.Paused.{Value}
use Rattle.runs.specs.Omitting.{moves_of}
use Rattle.runs.specs.Calling.{Step, refusal_step, told, held, value_refusal, PausedAt}

-- one call of the run with the budget b from the state x: `call_on` of a run that omits nothing, else `call_keeping`
abbrev pub call_of : Table → Side → List ℕ → Bool → ℕ → State → Call
call_of t s o omit b x = call_by (moves_of t s o omit) (hand_out s) b x

pub record CalledOf (side : Table → Side) (v : Value) (b : ℕ) (r : Step) : Type 0 where
  pub table : 0 < value_refusal side v → r ≡ refusal_step (value_refusal side v)
  pub value : value_refusal side v ≡ 0 → ((s : State) → PausedAt side v s → ⊥) → r ≡ refusal_step 15
  pub rules : value_refusal side v ≡ 0 → (s : State) → PausedAt side v s
      → r ≡ told v.table (side v.table) v.order v.omit (call_of v.table (side v.table) (held side v) v.omit b s)
