-- States and rules 1 to 5 (01, "Moves of a run"), over any rule for candidates: `kids p` are the numbers that may be
-- picked after the picks p, the lowest first. "Lowest" and "above" go by `place` (02, R-12: they "go by place" in a
-- preference); in 01 by the number itself. Words of 01: "a paused run is a value" is `State`, whose first pick comes
-- first, the table beside it; "take back" is `take_back`.
--
-- In order: a state; one move of each rule; the rules together (`step_in`, `move_in`); the states that moves lead to
-- (`after_by`, `ReachedBy`).
--
-- Elsewhere: calls with a budget, Calls.antt; the candidates of a table, which are `kids` here, crate `lists`.
use Rattle.std.specs.Prelude.{◌≡◌, cond, ℕ, zero, suc, ltb}
use Rattle.std.proofs.Math.Option.{Option, none, some}
use mathlib.Core.List.{List, [], ◌∷◌, ◌++◌, head?}

-- "a phase that is Down, Handed, Back from gauge g, or Ended"
pub data Phase : Type 0 where
  Down : Phase
  Handed : Phase
  Back : ℕ → Phase
  Ended : Phase

pub record State : Type 0 where
  pub picks : List ℕ
  pub phase : Phase

abbrev pub at : List ℕ → Phase → State
at p f = record { picks = p; phase = f }

-- "It starts Down with no picks"
abbrev pub fresh : State
fresh = at [] Down

-- ---- one move: what it gives, and the state after it
pub data Given : Type 0 where
  nothing : Given
  hands : List ℕ → Given
  ends : Given

pub record Move : Type 0 where
  pub given : Given
  pub next : State

abbrev pub gives : Given → State → Move
gives g s = record { given = g; next = s }

-- pick g and stay Down, or become Down
abbrev pub pick : List ℕ → ℕ → Move
pick p g = gives nothing (at (p ++ (g ∷ [])) Down)

-- a list without its last element, and that element
pub data Cut : Type 0 where
  empty : Cut
  cut : List ℕ → ℕ → Cut

abbrev pub cut_cons : ℕ → Cut → Cut
cut_cons x empty = cut [] x
cut_cons x (cut i l) = cut (x ∷ i) l

abbrev pub cut_last : List ℕ → Cut
cut_last [] = empty
cut_last (x ∷ xs) = cut_cons x (cut_last xs)

-- "take back the last pick g, become Back from g; without picks, end"
abbrev pub take_back : Cut → Move
take_back (cut p g) = gives nothing (at p (Back g))
take_back empty = gives ends (at [] Ended)

-- "1. Down, a candidate exists: pick the lowest; stay Down. 2. Down, none exists: hand out, become Handed."
abbrev pub down : List ℕ → Option ℕ → Move
down p (some g) = pick p g
down p none = gives (hands p) (at p Handed)

-- "4. Back from g: pick the lowest candidate above g and become Down; if there is none, take back the last pick h and
-- become Back from h"
abbrev pub back : List ℕ → Option ℕ → Move
back p (some g) = pick p g
back p none = take_back (cut_last p)

-- the elements of l whose place is above that of g, in their order
abbrev pub above_in : (ℕ → ℕ) → ℕ → List ℕ → List ℕ
above_in place g [] = []
above_in place g (x ∷ xs) = cond (ltb (place g) (place x)) (x ∷ above_in place g xs) (above_in place g xs)

module _ (place : ℕ → ℕ) (kids : List ℕ → List ℕ) where
  -- rules 1 to 5; "3. Handed: take back the last pick"; "5. Ended: end again"
  abbrev pub step_in : List ℕ → Phase → Move
  step_in p Down = down p (head? (kids p))
  step_in p Handed = take_back (cut_last p)
  step_in p (Back g) = back p (head? (above_in place g (kids p)))
  step_in p Ended = gives ends (at p Ended)

  abbrev pub move_in : State → Move
  move_in s = step_in s.picks s.phase

-- the state after k moves, each as mv says
abbrev pub after_by : (State → Move) → ℕ → State → State
after_by mv zero s = s
after_by mv (suc k) s = after_by mv k (mv s).next

-- some number of moves, 0 included, leads from a fresh start to s
pub record ReachedBy (mv : State → Move) (s : State) : Type 0 where
  pub count : ℕ
  pub leads : after_by mv count fresh ≡ s
