-- Runs that omit, on a side of a table under a preference (02, R-2, R-12): rules 1 to 5 on the side, handing over the sets that `keep` keeps. What
-- holds of a whole list of calls, of the answers, is `RunOmits` of crate `runs`.
use Rattle.std.specs.Prelude.{Bool, List, ℕ}
use Rattle.rules.specs.Machine.{State, fresh, Move}
use Rattle.rules.specs.Calls.{Call, call_by, calls_by, state_by}
use Rattle.rules.specs.Keeping.{move_keeping}
use Rattle.lists.specs.Lists.{Side}
use Rattle.lists.specs.OnTable.{hand_out, move_on}

-- a move of the side's run, one call with the budget b from the state x, a list of calls from the fresh start, and the state that they leave
abbrev pub keeping_on : Side → List ℕ → (List ℕ → Bool) → State → Move
keeping_on s o keep x = move_keeping (move_on s o) (hand_out s) keep x

abbrev pub call_keeping : Side → List ℕ → (List ℕ → Bool) → ℕ → State → Call
call_keeping s o keep b x = call_by (keeping_on s o keep) (hand_out s) b x

abbrev pub calls_keeping : Side → List ℕ → (List ℕ → Bool) → List ℕ → List Call
calls_keeping s o keep bs = calls_by (keeping_on s o keep) (hand_out s) bs fresh

abbrev pub left_keeping : Side → List ℕ → (List ℕ → Bool) → List ℕ → State
left_keeping s o keep bs = state_by (keeping_on s o keep) (hand_out s) bs fresh
