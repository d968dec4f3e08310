-- Calls of a run with a budget, and lists of them (01, "A run call has a budget .." and the paragraph on demand 3): `mv` is the rule for a
-- move, `move_in place kids` of Machine.antt for rules 1 to 5, and `out p` is the set that is handed out for the picks p. A call's record has its
-- answer, its moves, and the state that the next call gets.
--
-- In order: an answer and a call; one call and a list of calls by any rule for moves; what is read off a list: its
-- hand-outs, and the moves up to a hand-out or an end.
--
-- Elsewhere: what a call says of its moves, private/Reports.antt; the run that hands over the kept sets alone, Keeping.antt; the calls of a table's
-- run, crate `lists`.
use Rattle.std.specs.Prelude.{Bool, true, false, cond, List, [], ◌∷◌, ℕ, zero, suc, ◌+◌, ltb}
use Rattle.rules.specs.Machine.{State, Given, nothing, hands, ends, Move}

pub data Reply : Type 0 where
  refused : ℕ → Reply
  spent : Reply
  handed : List ℕ → Reply
  end : Reply

pub record Call : Type 0 where
  pub answer : Reply
  pub moves : ℕ
  pub next : State

abbrev pub result : Reply → ℕ → State → Call
result a k s = record { answer = a; moves = k; next = s }

-- "A run call has a budget from 0 to 1,000,000 moves"
abbrev pub most_budget : ℕ
most_budget = 1000000

module _ (mv : State → Move) (out : List ℕ → List ℕ) where
  -- a first move that gave g and led to s, and after it, where nothing was given, what `more` answers
  abbrev pub proceed_by : (State → Call) → Given → State → Call
  proceed_by more nothing s = result (more s).answer (suc (more s).moves) (more s).next
  proceed_by more (hands p) s = result (handed (out p)) 1 s
  proceed_by more ends s = result end 1 s

  -- up to b moves: "It stops after the first hand-out or end, and reports the moves made and the next paused value"
  abbrev pub carry_by : ℕ → State → Call
  carry_by zero s = result spent 0 s
  carry_by (suc b) s = proceed_by (carry_by b) (mv s).given (mv s).next

  -- one call; "18 above 1,000,000", which makes no move and leaves the state as it is
  unfoldable pub call_by : ℕ → State → Call
  call_by b s = cond (ltb most_budget b) (result (refused 18) 0 s) (carry_by b s)

  -- "Each call gets the paused value that the last unrefused call returned, or the fresh one where there is none": calls from s on
  abbrev pub calls_by : List ℕ → State → List Call
  calls_by [] s = []
  calls_by (b ∷ bs) s = call_by b s ∷ calls_by bs (call_by b s).next

  -- the state after calls from s on
  abbrev pub state_by : List ℕ → State → State
  state_by [] s = s
  state_by (b ∷ bs) s = state_by bs (call_by b s).next

-- ---- what is read off a list of calls
-- what the answers hand out, in turn
abbrev pub answered : Reply → List (List ℕ) → List (List ℕ)
answered (refused k) l = l
answered spent l = l
answered (handed x) l = x ∷ l
answered end l = l

abbrev pub handouts : List Call → List (List ℕ)
handouts [] = []
handouts (c ∷ cs) = answered c.answer (handouts cs)

-- the moves of these calls up to and with the first whose answer `stops`; all of them where none does
abbrev pub moves_until : (Reply → Bool) → List Call → ℕ
moves_until stops [] = 0
moves_until stops (c ∷ cs) = c.moves + cond (stops c.answer) 0 (moves_until stops cs)

abbrev pub is_hand_out : Reply → Bool
is_hand_out (refused k) = false
is_hand_out spent = false
is_hand_out (handed x) = true
is_hand_out end = false

abbrev pub is_hand_out_or_end : Reply → Bool
is_hand_out_or_end (refused k) = false
is_hand_out_or_end spent = false
is_hand_out_or_end (handed x) = true
is_hand_out_or_end end = true
