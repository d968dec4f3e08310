-- Paused values (01: "A paused run is a value: the table, the gauges picked so far, and a phase"; 02, R-2: "Whether a
-- run omits is fixed at its fresh start and kept in its paused value"; R-12: "A paused run keeps its preference"),
-- read from the struct of either side alike, and the value of a state of rules 1 to 5 on a table. Picks are given by number
-- from 1, in 64 places padded with zeros, as the preference is; a state of the theory has them by row index from 0. A
-- value is legal exactly when it is the paused value of a state that some number of moves reaches.
use Rattle.std.specs.Prelude.{Bool, false, List, map, ℕ, suc, length, replicate, Result, Ok, Err}
use Rattle.table.specs.Tables.{padded, blank_table}
use Rattle.refusals.specs.Answers.{Answer, refused}
use Rattle.refusals.specs.declared.Refusal.{Refusal}
use Rattle.table.specs.declared.Table.{Table}
use Rattle.rules.specs.Machine.{Phase, Down, Handed, Back, Ended, State}
use Rattle.table.specs.declared.Gauge.{Gauge}
use Rattle.table.specs.declared.Case.{Case}
use Rattle.runs.specs.declared.Phase.{Phase as Stage}
use Rattle.runs.specs.declared.Phase.TheVariants.{Down as down, Handed as handed, Back as back, Ended as ended}
use Rattle.runs.specs.declared.paused.Run.{Run}

-- a paused value of either side
pub record Value : Type 0 where
  pub table : Table
  pub order : List ℕ
  pub picks : List ℕ
  pub count : ℕ
  pub phase : Phase
  pub omit : Bool

-- the number of an index
abbrev pub numbered : Phase → Phase
numbered Down = Down
numbered Handed = Handed
numbered (Back i) = Back (suc i)
numbered Ended = Ended

-- the paused value of a table, the 64 numbers k of a preference and a state, of a run that omits or does not
abbrev pub paused : Table → List ℕ → Bool → State → Value
paused t k omit s =
    record { table = t; order = k; picks = padded (map suc s.picks); count = length s.picks; phase = numbered s.phase; omit = omit }

-- no number in any of the 64 places: no picks, and beside a refusal no preference
abbrev pub no_numbers : List ℕ
no_numbers = replicate 64 0

-- what is given beside a refusal
abbrev pub blank_value : Value
blank_value = record { table = blank_table; order = no_numbers; picks = no_numbers; count = 0; phase = Down; omit = false }

-- ---- how the struct reads, by the numbers of its side
abbrev pub phase_of : {N : Type 0} → (N → ℕ) → Stage N → Phase
phase_of n down = Down
phase_of n handed = Handed
phase_of n (back x) = Back (n x)
phase_of n ended = Ended

-- of either side, by number
abbrev pub mode_phase : Stage ℕ → Phase
mode_phase f = phase_of (λ k. k) f

abbrev pub value_of : {S : Type 0} → (S → ℕ) → Run S → Value
value_of n r =
    record { table = r.table; order = r.order.numbers; picks = r.picks.numbers; count = r.count; phase = phase_of n r.phase; omit = r.omit }

-- of each side
abbrev pub gauge_value : Run Gauge → Value
gauge_value r = value_of (λ g. g.0) r

abbrev pub case_value : Run Case → Value
case_value r = value_of (λ c. c.0) r

-- how a fresh start reads: 01's number, 0 where nothing is refused, and the value
abbrev pub start_of : {S : Type 0} → (S → ℕ) → Result (Run S) Refusal → Answer Value
start_of n (Ok r) = record { refusal = 0; value = value_of n r }
start_of n (Err why) = refused why blank_value
