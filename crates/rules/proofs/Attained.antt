-- One small tree: one pick, 0 or 1, and then a leaf, so n is 1. It pins the counts of moves: its calls attain the limits n + 1 and 2 n + 1 of demand
-- 3 (`start_attained`, `gap_attained`), whatever the budgets, a refused one among them, so the moves that are counted are all the moves; an end
-- closes the window after a hand-out and not that of the start (`end_closes`, `end_counts`); each call goes on from the last (`all_handed`). And 3!
-- is 6 (`factorial_3`).
--
-- Elsewhere: the limits attained by tables, `limits_attained` in crate `known`.
use mathlib.Core.Path.{◌≡◌, refl}
use mathlib.Core.List.{List, [], ◌∷◌}
use Prim.Native.Nat.{ℕ}
use Rattle.rules.specs.Sequences.{factorial}
use Rattle.rules.specs.Machine.{fresh}
use Rattle.rules.specs.Calls.{Call, result, handed, end, moves_until, is_hand_out, is_hand_out_or_end, handouts, call_by}
use Rattle.rules.specs.ByNumber.{calls}

abbrev kids : List ℕ → List ℕ
kids [] = 0 ∷ 1 ∷ []
kids (x ∷ p) = []

abbrev made : List ℕ → List Call
made bs = calls kids (λ p. p) bs

start_attained : moves_until is_hand_out (made (1 ∷ 2000000 ∷ 0 ∷ 1 ∷ 1 ∷ [])) ≡ 2
unfolding call_by
start_attained = refl

-- a call that hands out, and those after it
record After (cs : List Call) (y : List ℕ) (k : ℕ) : Type 0 where
  first : Call
  later : List Call
  parts : cs ≡ first ∷ later
  out : first.answer ≡ handed y
  moves : moves_until is_hand_out_or_end later ≡ k

gap_attained : After (made (2 ∷ 1 ∷ 2000000 ∷ 0 ∷ 1 ∷ 5 ∷ 1 ∷ [])) (0 ∷ []) 3
unfolding call_by
gap_attained = record { first = _; later = _; parts = refl; out = refl; moves = refl }

-- an end closes the window after a hand-out, and not the window of the start
end_closes : moves_until is_hand_out_or_end (result end 2 fresh ∷ result end 1 fresh ∷ []) ≡ 2
end_closes = refl

end_counts : moves_until is_hand_out (result end 2 fresh ∷ result end 1 fresh ∷ []) ≡ 3
end_counts = refl

all_handed : handouts (made (2 ∷ 3 ∷ 2 ∷ 1 ∷ [])) ≡ (0 ∷ []) ∷ (1 ∷ []) ∷ []
unfolding call_by
all_handed = refl

factorial_3 : factorial 3 ≡ 6
factorial_3 = refl
