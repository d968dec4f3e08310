-- What the private steps promise: the ladders by the gauge run in plain order (02, R-12: "R-7 stays in plain order"), one call at a time, and the search
-- on their boards.
use Rattle.std.specs.Prelude.{◌≡◌, false, List, ◌++◌, map, ℕ, ◌-◌, ◌≤◌, ◌<◌, length, take, replicate}
use Rattle.table.specs.declared.Table.{Table}
use Rattle.table.specs.Tables.{Legal, padded, blank_chain}
use Rattle.rules.specs.Machine.{State}
use Rattle.rules.specs.Calls.{handed, end, Call, most_budget}
use Rattle.lists.specs.Lists.{gauge_side, GaugeList}
use Rattle.lists.specs.OnTable.{call_on}
use Rattle.runs.specs.Paused.{Value, paused}
use Rattle.preference.specs.Preferences.{plain_numbers}
use Rattle.runs.specs.Calling.{held, PausedAt}
use Rattle.boards.specs.Boards.{board, board_rows, corner}
use Rattle.mechanisms.specs.Covering.{Reading, covered, most_ladders, Searched}

-- a table that none of 10, 11 and 23 refuses
pub record SmallTable (t : Table) : Type 0 where
  pub legal : Legal t
  pub gauges : t.gauges ≤ 8
  pub cases : t.cases ≤ 8

-- the call c of the run on t in plain order handed a ladder out, b is its board, and w the value after it
abbrev pub Handed : Table → Call → ℕ → Value → Type 0
Handed t c b w = (x : List ℕ) × (c.answer ≡ handed x) × (b ≡ board (corner (padded x))) × (w ≡ paused t (plain_numbers t.gauges) false c.next)

-- P holds of one call from the value v of a run in plain order that omits nothing
abbrev pub OneCall : (Table → Call → Type 0) → Value → Type 0
OneCall P v =
    Legal v.table → v.order ≡ plain_numbers v.table.gauges → v.omit ≡ false → (s : State) → PausedAt gauge_side v s
    → P v.table (call_on (gauge_side v.table) (held gauge_side v) most_budget s)

-- the call finds the run at its end
abbrev pub Ends : Value → Type 0
Ends = OneCall (λ t c. c.answer ≡ end)

abbrev pub Hands : Value → ℕ → Value → Type 0
Hands v b w = OneCall (λ t c. Handed t c b w) v

-- n is the number of the ladders of t, and the first n of 1,024 places hold their boards; or there are more than 1,024
pub record Lists (t : Table) (n : ℕ) (boards : List ℕ) : Type 0 where
  pub size : length boards ≡ most_ladders
  pub whole : n ≤ most_ladders → (xs : List (List ℕ)) → GaugeList t xs → take n boards ≡ map board xs
  pub more : most_ladders < n → (xs : List (List ℕ)) → GaugeList t xs → most_ladders < length xs

-- the boards are those of the ladders of t
pub record Ready (t : Table) (boards : List ℕ) : Type 0 where
  pub small : SmallTable t
  pub listed : (xs : List (List ℕ)) → GaugeList t xs → boards ≡ map board xs

-- the search's answer
abbrev pub Answers : Table → ℕ → Reading → Type 0
Answers t b r = (xs : List (List ℕ)) → GaugeList t xs → Searched t b xs r

-- a cover by boards
abbrev pub shown : ℕ → List ℕ → ℕ → ℕ → Reading
shown gauges found count tried =
    record {
      reply = covered;
      number = count;
      tried = tried;
      cover = map (λ b. record { gauges = gauges; rows = padded (board_rows 8 b) }) found ++ replicate (8 - count) blank_chain;
    }
