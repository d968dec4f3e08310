-- What the calls of either side say of one another: the side of a table that a mark names, the pairs that a run which
-- omits looks for, and what the core comes to on them. No public promise mentions these.
use Rattle.std.specs.Prelude.{◌≡◌, Bool, true, false, List, ℕ, ◌/◌, ◌<◌, length, Result, Err, Option, Some, None}
use Rattle.refusals.specs.Answers.{number}
use Rattle.refusals.specs.declared.Refusal.{Refusal}
use Rattle.table.specs.Tables.{table_refusal}
use Rattle.table.specs.declared.Table.{Table}
use Rattle.rules.specs.Machine.{Phase}
use Rattle.lists.specs.Lists.{Side}
use Rattle.lists.specs.OnTable.{chain_of, hand_out}
use Rattle.conflicts.specs.Omitting.{keeps_of}
use Rattle.runs.specs.Paused.{Value, mode_phase}
use Rattle.runs.specs.Batches.{Batch}
use Rattle.runs.specs.Omitting.{moves_of}
use Rattle.runs.specs.Sides.{side_of}
use Rattle.runs.specs.private.Working.{hands_over, InOrder}
use Rattle.runs.specs.private.Listing.{stop_ending, ListsIn}
use Rattle.runs.specs.declared.engine.Report.{Report}
use Rattle.runs.specs.declared.listing.Tally.{Tally}

-- a table from its parts
abbrev pub table_of : ℕ → ℕ → List ℕ → Table
table_of gs cs rows = record { gauges = gs; cases = cs; rows = rows }

-- the pairs w are those that a run on this side of t looks for where it omits: the set of the picks has one of them
-- exactly where it is kept
abbrev pub Wants : Table → Side → List ℕ → Type 0
Wants t s w = (p : List ℕ) → hands_over true (length s.rows) w (chain_of s.rows p) ≡ keeps_of t (hand_out s p)

-- the same where the run omits, else none
abbrev pub WantsWhere : Bool → Table → Side → Option (List ℕ) → Type 0
WantsWhere omit t s None = omit ≡ false
WantsWhere omit t s (Some w) = (omit ≡ true) × Wants t s w

-- what the core gives on the side of t that the mark m names, by the moves of a run that omits or does not
abbrev pub CallsSide : Bool → Table → Bool → List ℕ → List ℕ → ℕ → Phase → ℕ → List ℕ → List ℕ → Result Report Refusal → Type 0
CallsSide m t omit order k count f b c' k' o =
    InOrder (λ q. moves_of t (side_of m t) q omit) (side_of m t).count (side_of m t).rows order k count f b c' k' o

abbrev pub ListsSide : Bool → Table → Bool → List ℕ → List ℕ → ℕ → Phase → ℕ → List ℕ → List ℕ → List ℕ → Result Tally Refusal → Type 0
ListsSide m t omit order k count f b before k' now o =
    ListsIn (λ q. moves_of t (side_of m t) q omit) (hand_out (side_of m t)) (length before / t.gauges) (side_of m t).count (side_of m t).rows
    order k count f b before k' now o

-- a batch on the value v that is not refused, where the core left the picks k
abbrev pub batch_from : Value → List ℕ → Tally → Batch
batch_from v k o = record {
  ending = stop_ending o.outcome;
  ladders = o.ladders;
  moves = o.moves;
  next = record { table = v.table; order = v.order; picks = k; count = o.spot.count; phase = mode_phase o.spot.mode; omit = v.omit };
}

-- what a run call on the value v is told: the refusal of its table, or what the core gives
pub record Reports (side : Table → Side) (v : Value) (b : ℕ) (c' k' : List ℕ) (o : Result Report Refusal) : Type 0 where
  pub table : 0 < table_refusal v.table → (why : Refusal) × ((o ≡ Err why) × (number why ≡ table_refusal v.table))
  pub rules : table_refusal v.table ≡ 0 → InOrder (λ q. moves_of v.table (side v.table) q v.omit) (side v.table).count (side v.table).rows
      v.order v.picks v.count v.phase b c' k' o
