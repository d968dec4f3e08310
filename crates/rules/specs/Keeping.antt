-- Runs that omit (02, R-2: "let a run, by its end, hand out exactly the ladders that hold a deciding pair, in the same order .. At an omitted
-- ladder this run makes its hand-out move, which counts, but does not stop, hands nothing over and is no hand-out for "spent""): `keep` tells
-- which sets are handed over. The moves are those of rules 1 to 5, and lead to the same states; of a hand-out that is omitted nothing is
-- given. Calls of such a run are `call_by`, `calls_by` of Calls.antt at these moves. No move limit is promised.
use Rattle.std.specs.Prelude.{Bool, cond, List, [], ◌∷◌, ℕ}
use Rattle.rules.specs.Machine.{State, Given, nothing, hands, ends, Move, gives}

-- what this run gives of what a move of the rules gives
abbrev pub taken : (List ℕ → List ℕ) → (List ℕ → Bool) → Given → Given
taken out keep nothing = nothing
taken out keep (hands p) = cond (keep (out p)) (hands p) nothing
taken out keep ends = ends

-- its moves, where those of the rules are mv
abbrev pub move_keeping : (State → Move) → (List ℕ → List ℕ) → (List ℕ → Bool) → State → Move
move_keeping mv out keep s = gives (taken out keep (mv s).given) (mv s).next

-- the sets of a list that are kept, in the same order
abbrev pub kept_sets : (List ℕ → Bool) → List (List ℕ) → List (List ℕ)
kept_sets keep [] = []
kept_sets keep (x ∷ xs) = cond (keep x) (x ∷ kept_sets keep xs) (kept_sets keep xs)
