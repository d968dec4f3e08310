-- Rules 1 to 5 where "lowest" and "above" go by the number itself, as in 01: the machine of Machine.antt and the calls of Calls.antt at that place. The
-- laws are proved of these, and hold by place for the machine on arranged rows. The inner crate `replay`
-- promises by them, on arranged rows; no promise of a user's entry mentions them.
use Rattle.std.specs.Prelude.{List, ℕ}
use Rattle.rules.specs.Machine.{Phase, State, fresh, Given, Move, above_in, step_in, after_by, ReachedBy}
use Rattle.rules.specs.Calls.{Call, proceed_by, carry_by, call_by, calls_by, state_by}

-- ---- moves
abbrev pub above : ℕ → List ℕ → List ℕ
above g l = above_in (λ i. i) g l

module _ (kids : List ℕ → List ℕ) where
  abbrev pub step : List ℕ → Phase → Move
  step p f = step_in (λ i. i) kids p f

  abbrev pub move : State → Move
  move s = step s.picks s.phase

  -- the state after k moves
  abbrev pub after : ℕ → State → State
  after k s = after_by move k s

  abbrev pub Reached : State → Type 0
  Reached s = ReachedBy move s

-- ---- calls
module _ (kids : List ℕ → List ℕ) (out : List ℕ → List ℕ) where
  abbrev pub proceed : (State → Call) → Given → State → Call
  proceed more g s = proceed_by (move kids) out more g s

  abbrev pub carry : ℕ → State → Call
  carry b s = carry_by (move kids) out b s

  abbrev pub call : ℕ → State → Call
  call b s = call_by (move kids) out b s

  abbrev pub calls_from : List ℕ → State → List Call
  calls_from bs s = calls_by (move kids) out bs s

  abbrev pub calls : List ℕ → List Call
  calls bs = calls_from bs fresh

  abbrev pub state_after : List ℕ → State → State
  state_after bs s = state_by (move kids) out bs s
