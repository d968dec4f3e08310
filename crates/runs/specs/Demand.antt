-- Demand 3, of the runs that omit nothing. `Demand3` is its sentences, in turn, of the answers alone: no state and no rule
-- is mentioned, and of moves only the numbers that calls report. `FromRules` is the one sentence of 01 on rules 1 to 5.
-- Every list of calls from a fresh start keeps both (`KeepsDemand`), and each run call carries them on
-- (`CarriesDemand`); all runs of a table share one set (`SharesAll`).
--
-- What a list of calls is, `Calls`, is said with `Called`, word for word the promise of the run calls: of what a caller gets from them `Calls` holds,
-- whatever a reader makes of `Called`.
use Rattle.std.specs.Prelude.{◌≡◌, ◌≢◌, Bool, false, cond, ℕ, ◌+◌, ◌≤◌, ◌<◌, length}
use mathlib.Core.List.{List, [], ◌∷◌, ◌++◌, map, Memᴰ}
use Rattle.table.specs.declared.Table.{Table}
use Rattle.rules.specs.Machine.{fresh}
use Rattle.rules.specs.Calls.{Reply, refused, spent, handed, end, most_budget, answered, is_hand_out, is_hand_out_or_end}
use Rattle.lists.specs.Lists.{Side, gauge_side, case_side, PreferredList, BaseList}
use Rattle.lists.specs.OnTable.{calls_on, left_on}
use Rattle.lists.specs.Demand.{start_limit, gap_limit, most_sets, OneSet}
use Rattle.preference.specs.Preferences.{preferred_refusal, plain_numbers}
use Rattle.runs.specs.Paused.{Value, paused}
use Rattle.runs.specs.Calling.{Step, refusal_step, arrangement, told, value_refusal, Calls, last_value}

-- ---- what is read off a list of answers
-- the sets that they hand out, in turn
abbrev pub handed_sets : List Step → List (List ℕ)
handed_sets [] = []
handed_sets (r ∷ rs) = answered r.answer (handed_sets rs)

-- a call has answered end
abbrev pub Ends : List Step → Type 0
Ends rs = (r : Step) × Memᴰ r rs × (r.answer ≡ end)

-- the moves reported, up to and with the first answer that stops; all of them where none does
abbrev pub reported : (Reply → Bool) → List Step → ℕ
reported stops [] = 0
reported stops (r ∷ rs) = r.moves + cond (stops r.answer) 0 (reported stops rs)

-- P holds of each budget with its answer, and there are as many of the one as of the other
abbrev pub Each : (ℕ → Step → Type 0) → List ℕ → List Step → Type 0
Each P [] [] = Unit {0}
Each P [] (r ∷ rs) = ⊥
Each P (b ∷ bs) [] = ⊥
Each P (b ∷ bs) (r ∷ rs) = P b r × Each P bs rs

-- ---- the demand
-- The answers rs of calls with the budgets bs hand out this list: "For every list of calls of one run, whatever their budgets, refused calls
-- included, each resumed from the value last returned,
pub record HandsOut (list : List (List ℕ)) (bs : List ℕ) (rs : List Step) : Type 0 where
  -- "the ladders handed out are, in turn, the front of that run's list"
  pub front : (rest : List (List ℕ)) × (handed_sets rs ++ rest ≡ list)
  -- "Once a call has answered "end", they are the whole list."
  pub whole : Ends rs → handed_sets rs ≡ list
  -- "Only 18 refuses such a call;
  pub only18 : Each (λ b r. most_budget < b → r ≡ refusal_step 18) bs rs
  pub no_other : Each (λ b r. b ≤ most_budget → (n : ℕ) → r.answer ≢ refused n) bs rs
  -- any other makes its whole budget of moves, unless a hand-out or an end stops it first."
  pub budget : Each (λ b r. r.answer ≡ spent → r.moves ≡ b) bs rs
  pub within : Each (λ b r. r.moves ≤ b) bs rs

-- on the side s of the table t, under the preference o
pub record Demand3 (t : Table) (s : Side) (o bs : List ℕ) (rs : List Step) : Type 0 where
  -- "that run's list in 01: every maximal chain of the table, each once, and nothing else, in the order of 01"
  pub list : List (List ℕ)
  pub listed : PreferredList t s o list
  pub hands : HandsOut list bs rs
  -- "Their common number is at most the factorial of the smaller of G and L."
  pub few : length list ≤ most_sets t
  -- "The moves reported after a hand-out, up to and with the next one or the first end, or so far while neither has come, add up to at most 2G + 1 in
  -- the gauge run and 2L + 1 in the case run;
  pub gap : (sooner later : List Step) (r : Step) (x : List ℕ) → rs ≡ sooner ++ (r ∷ later) → r.answer ≡ handed x
      → reported is_hand_out_or_end later ≤ gap_limit s.count
  -- those from the start up to and with the first hand-out, or so far, to at most G + 1 and L + 1."
  pub start : reported is_hand_out rs ≤ start_limit s.count

-- "Rules 1 to 5, carried on from the fresh start for the same budgets alone, also give each call's answer, its moves and its ladder, and after the
-- list the value last returned": of calls on the side of the table t with the preference in k, the first from the value v
pub record FromRules (side : Table → Side) (t : Table) (k : List ℕ) (v : Value) (bs : List ℕ) (rs : List Step) : Type 0 where
  pub each : rs ≡ map (told t (side t) k false) (calls_on (side t) (arrangement (side t) k) bs)
  pub last : last_value v rs ≡ paused t k false (left_on (side t) (arrangement (side t) k) bs)

-- both; and of a run with "the arrangement 1, 2, 3 and on", which `GaugeOrder::plain` and `CaseOrder::plain` give, the list is 01's own: `GaugeList t` of
-- the gauge run, `CaseList t` of the case run
pub record RunDemand (side : Table → Side) (t : Table) (k : List ℕ) (v : Value) (bs : List ℕ) (rs : List Step) : Type 0 where
  pub demand : Demand3 t (side t) (arrangement (side t) k) bs rs
  pub rules : FromRules side t k v bs rs
  pub base : k ≡ plain_numbers (side t).count → BaseList t (side t) demand.list

-- every list of calls from v, the value of a fresh start on the table t, which 10 and 11 do not refuse, with the preference in k: "Demand 3 speaks
-- of fresh starts that 27 does not refuse either" (02, R-12)
abbrev pub KeepsDemand : (Table → Side) → Table → List ℕ → Value → Type 0
KeepsDemand side t k v =
    preferred_refusal t (side t).count k ≡ 0 → (bs : List ℕ) (rs : List Step) → Calls side v bs rs → RunDemand side t k v bs rs

-- every list of calls from a fresh start that leaves v, with the call added that has the budget b and the answer r
abbrev pub CarriesDemand : (Table → Side) → Value → ℕ → Step → Type 0
CarriesDemand side v b r =
    value_refusal side v ≡ 0 → (bs : List ℕ) (rs : List Step) → Calls side (paused v.table v.order false fresh) bs rs
    → last_value (paused v.table v.order false fresh) rs ≡ v
    → RunDemand side v.table v.order (paused v.table v.order false fresh) (bs ++ (b ∷ [])) (rs ++ (r ∷ []))

-- ---- two runs
-- the run of one side from v, with the preference in k, and that of a side from w, with the one in j, each called on to its end, share one set
abbrev pub SharesSet : (Table → Side) → (Table → Side) → Table → List ℕ → List ℕ → Value → Value → Type 0
SharesSet side other t k j v w =
    preferred_refusal t (side t).count k ≡ 0 → preferred_refusal t (other t).count j ≡ 0
    → (bs cs : List ℕ) (rs qs : List Step) → Calls side v bs rs → Calls other w cs qs → Ends rs → Ends qs
    → OneSet t (handed_sets rs) (handed_sets qs)

-- "The set of ladders is the same under every preference": the run from v shares it with every run of the table, of either side and with any
-- preference, 64 numbers as it is
pub record SharesAll (side : Table → Side) (t : Table) (k : List ℕ) (v : Value) : Type 0 where
  pub gauges : (j : List ℕ) → length j ≡ 64 → SharesSet side gauge_side t k j v (paused t j false fresh)
  pub cases : (j : List ℕ) → length j ≡ 64 → SharesSet side case_side t k j v (paused t j false fresh)
