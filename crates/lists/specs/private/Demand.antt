-- Demand 3 inside: what holds of the list bs of budgets, any numbers, and the list cs of calls by the rules made with them from the fresh start, on
-- the side s of the table t under the preference o. It is proved in proofs/Demand.antt for the calls that the rules make, for both sides of every
-- legal table and every arrangement of what they pick. No promise mentions it: what a user reads, of the answers, is `Demand3` of crate `runs`,
-- which is had from this.
use Rattle.std.specs.Prelude.{◌≡◌, Bool, ℕ, ◌≤◌, length}
use mathlib.Core.List.{List, ◌∷◌, ◌++◌, Memᴰ}
use Rattle.table.specs.declared.Table.{Table}
use Rattle.rules.specs.Machine.{State, Move, fresh}
use Rattle.rules.specs.Calls.{handed, end, Call, most_budget, calls_by, handouts, moves_until, is_hand_out, is_hand_out_or_end}
use Rattle.rules.specs.Keeping.{kept_sets}
use Rattle.rules.specs.private.Reports.{EachCall, Only18, WholeBy, SpentBy}
use Rattle.lists.specs.Lists.{Side, PreferredList}
use Rattle.lists.specs.OnTable.{hand_out, move_on}
use Rattle.lists.specs.Keeping.{keeping_on}
use Rattle.lists.specs.Demand.{start_limit, gap_limit, most_sets}

-- by any rule mv for moves; `of` has what a run by it hands out of the side's list
pub record HandsBy (mv : State → Move) (of : List (List ℕ) → List (List ℕ)) (t : Table) (s : Side) (o : List ℕ) (bs : List ℕ) (cs : List Call)
    : Type 0 where
  -- a call is refused exactly when its budget is above 1,000,000, and then with 18; it changes nothing
  pub only18 : EachCall Only18 bs fresh cs
  -- any other call makes its whole budget of moves unless a hand-out or an end stops it first; an omitted set does not stop it
  pub whole : EachCall (λ b x c. b ≤ most_budget → WholeBy mv (hand_out s) b x c) bs fresh cs
  -- "It answers "spent" exactly when as many moves as the budget were made and none was a hand-out or an end."
  pub spent : EachCall (λ b x c. b ≤ most_budget → SpentBy mv b x c) bs fresh cs
  -- "Rules 1 to 5, carried on from the fresh start for the same budgets alone, also give each call's answer, its moves and its ladder"
  pub rules : cs ≡ calls_by mv (hand_out s) bs fresh
  -- the side's list; what is handed out is a front of what the run hands out of it, in its order, and all of that once a call has answered end
  pub list : List (List ℕ)
  pub listed : PreferredList t s o list
  pub front : (rest : List (List ℕ)) × (handouts cs ++ rest ≡ of list)
  pub complete : (c : Call) → Memᴰ c cs → c.answer ≡ end → handouts cs ≡ of list

-- of runs that hand out the whole list, which is not long, and soon
pub record Demand (t : Table) (s : Side) (o : List ℕ) (bs : List ℕ) (cs : List Call) : Type 0 where
  pub hands : HandsBy (move_on s o) (λ l. l) t s o bs cs
  pub few : length hands.list ≤ most_sets t
  -- the moves from the start up to and with the first hand-out, or so far
  pub start : moves_until is_hand_out cs ≤ start_limit s.count
  -- the moves after a hand-out up to and with the next hand-out or the first end, or so far
  pub gap : (sooner later : List Call) (c : Call) (y : List ℕ) → cs ≡ sooner ++ (c ∷ later) → c.answer ≡ handed y
      → moves_until is_hand_out_or_end later ≤ gap_limit s.count

-- of runs that omit (02, R-2)
abbrev pub DemandKeeping : Table → Side → List ℕ → (List ℕ → Bool) → List ℕ → List Call → Type 0
DemandKeeping t s o keep bs cs = HandsBy (keeping_on s o keep) (kept_sets keep) t s o bs cs
