-- Rules 1 to 5 on a side of a table, under a preference (01, "Moves of a run"; 02, R-12): the machine of crate `rules`, which has the rules, the
-- state and the calls, with the table's candidates by place, handing out the chain of the picks by gauge rows. A state has its picks by row
-- index, whatever the preference. At "the arrangement 1, 2, 3 and on" these are the moves by number: `moves_plain` in proofs/Plain.antt.
use Rattle.std.specs.Prelude.{cond, List, [], ◌∷◌, ◌++◌, ℕ, eqb, length}
use Rattle.sets.specs.Lists.{tabulate}
use Rattle.table.specs.Pairs.{row}
use Rattle.rules.specs.Machine.{State, fresh, Move, move_in, ReachedBy}
use Rattle.rules.specs.Calls.{Call, call_by, calls_by, state_by}
use Rattle.lists.specs.Arrangements.{place_of}
use Rattle.lists.specs.Picks.{common}
use Rattle.lists.specs.Preferred.{candidates_by}
use Rattle.lists.specs.Lists.{Side}

-- row i of the chain of the picks q and then p, where it is not one of q
unfoldable pub chain_row : List ℕ → List ℕ → List ℕ → ℕ → ℕ
chain_row r q [] i = 0
chain_row r q (g ∷ p) i = cond (eqb i g) (common r q (row r g)) (chain_row r (q ++ (g ∷ [])) p i)

-- rule 2: "The i-th picked gauge has the cases common to its own table row and those of all earlier picks; unpicked gauges have none."
unfoldable pub chain_of : List ℕ → List ℕ → List ℕ
chain_of r p = tabulate (chain_row r [] p) (length r)

-- the set that a side's run hands out for the picks p, by gauge rows
abbrev pub hand_out : Side → List ℕ → List ℕ
hand_out s p = s.by_gauges (chain_of s.rows p)

-- a move of the side's run under the preference o: rules 1 to 5, "lowest" and "above" by place (02, R-12)
abbrev pub move_on : Side → List ℕ → State → Move
move_on s o x = move_in (place_of o) (candidates_by o s.rows) x

-- the values that 15 does not refuse: "15 a value that no number of moves, 0 included, from a fresh start on its table leads to"
abbrev pub ReachedOn : Side → List ℕ → State → Type 0
ReachedOn s o x = ReachedBy (move_on s o) x

-- one call of a side's run with the budget b, from the state x
abbrev pub call_on : Side → List ℕ → ℕ → State → Call
call_on s o b x = call_by (move_on s o) (hand_out s) b x

-- "a list of run calls of one side. It starts from the value of a fresh start"
abbrev pub calls_on : Side → List ℕ → List ℕ → List Call
calls_on s o bs = calls_by (move_on s o) (hand_out s) bs fresh

-- the state that these calls leave
abbrev pub left_on : Side → List ℕ → List ℕ → State
left_on s o bs = state_by (move_on s o) (hand_out s) bs fresh
