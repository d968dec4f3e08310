-- What the contracts of the core say of the side that they work on (`Work`), in the words of Working.antt and Listing.antt.
use Rattle.std.specs.Prelude.{Bool, true, false, List, [], ℕ, take, Option, Some, None}
use Rattle.std.specs.Borrow.{Bor}
use Rattle.rules.specs.Machine.{State, Move}
use Rattle.runs.specs.private.Working.{Holds, move_by, placed_move, omits, wanted_in}
use Rattle.runs.specs.private.Listing.{ladder_for}
use Rattle.runs.specs.declared.engine.Spot.{Spot}
use Rattle.runs.specs.declared.work.Work.{Work}
use Rattle.runs.specs.declared.work.Walk.{Walk}

abbrev pub rows_of : Work → List ℕ
rows_of w = take w.n w.rows.now

-- the rule for its moves: by number, and under the order o
abbrev pub rule_of : Work → State → Move
rule_of w = move_by (rows_of w) (omits w.wanted) (wanted_in w.wanted)

abbrev pub rule_under : Work → List ℕ → State → Move
rule_under w o = placed_move (rows_of w) o (omits w.wanted) (wanted_in w.wanted)

-- the places by which the rows went: none where they went by number
abbrev pub is_plain : Option (Bor (List ℕ)) → Bool
is_plain None = true
is_plain (Some pl) = false

abbrev pub places_in : Option (Bor (List ℕ)) → List ℕ
places_in None = []
places_in (Some pl) = pl.now

-- the ladder of some picks, by number again where the rows went by the places pl
abbrev pub ladder_by : Work → Option (Bor (List ℕ)) → List ℕ → List ℕ
ladder_by w pl = ladder_for w.turned (is_plain pl) (places_in pl) w.n w.gauges (rows_of w)

-- the chain, the picks and the spot represent a state of the side
abbrev pub HoldsOn : Work → Walk → Spot → Type 0
HoldsOn w k at = Holds w.n w.rows.now k.chain k.picks at
