-- What the core's private steps say of one another: how a spot and its arrays represent a state of rules 1 to 5. No
-- public promise mentions these.
use Rattle.std.specs.Prelude.{◌≡◌, List, [], map, Bool, true, false, not, cond, ℕ, zero, suc, ◌+◌, ◌-◌, ◌^◌, ◌≤◌, ◌<◌, eqb, length, take, get_or, Result, Ok, Err, Option, Some, None}
use Rattle.std.specs.Borrow.{Bor}
use Rattle.std.specs.Int.Bits.{bit_and}
use Rattle.table.specs.Tables.{padded, blank_chain}
use Rattle.sets.specs.Sets.{◌⊆◌, lowest}
use Rattle.sets.specs.Lists.{all_below}
use Rattle.table.specs.Pairs.{row}
use Rattle.rules.specs.Machine.{Phase, Down, Handed, Back, Ended, State, Move, gives, nothing, hands, ends, move_in, ReachedBy}
use Rattle.rules.specs.ByNumber.{move}
use Rattle.rules.specs.Calls.{Reply, spent, handed, end, Call, result, carry_by, most_budget}
use Rattle.rules.specs.Keeping.{move_keeping}
use Rattle.rules.specs.private.Fitting.{Valid, Fits}
use Rattle.lists.specs.Lists.{Side}
use Rattle.lists.specs.Arrangements.{place_of}
use Rattle.lists.specs.ByNumber.{candidates}
use Rattle.lists.specs.Preferred.{candidates_by}
use Rattle.lists.specs.OnTable.{chain_of}
use Rattle.search.specs.Finding.{candidate_in, within}
use Rattle.search.proofs.AfterPicks.{After}
use Rattle.refusals.specs.declared.Refusal.{Refusal}
use Rattle.refusals.specs.declared.Refusal.TheVariants.{NotReached, BudgetTooLarge, NotAnArrangement}
use Rattle.preference.specs.Preferences.{is_preference, order_of}
use Rattle.preference.specs.Placing.{renumber, gathered}
use Rattle.table.specs.declared.Table.{Table}
use Rattle.table.specs.declared.Chain.{Chain}
use Rattle.runs.specs.Paused.{Value, numbered, mode_phase, no_numbers}
use Rattle.runs.specs.Calling.{Step}
use Rattle.runs.specs.declared.engine.Stop.{Stop}
use Rattle.runs.specs.declared.engine.Stop.TheVariants.{HandedOut, Spent, End}
use Rattle.runs.specs.declared.Phase.TheVariants.{Down as mode_down}
use Rattle.runs.specs.declared.engine.Spot.{Spot}
use Rattle.runs.specs.declared.engine.Report.{Report}
use Rattle.runs.specs.declared.engine.Moved.{Moved}
use Rattle.runs.specs.declared.engine.Moved.TheVariants.{On, Out, Over}

-- 01's answer for each way to stop: a hand-out by its rows
abbrev pub stop_reply : Stop → List ℕ → Reply
stop_reply HandedOut rows = handed rows
stop_reply Spent rows = spent
stop_reply End rows = end

-- the rows of a side: at most 64 of them count, in an array of 64, each within the 64 cases
pub record Sized (n : ℕ) (rows : List ℕ) : Type 0 where
  pub few : n ≤ 64
  pub size : length rows ≡ 64
  pub inside : (i : ℕ) → row rows i ⊆ lowest 64
  pub rest : (i : ℕ) → n ≤ i → row rows i ≡ 0

-- a side as the core has it: the first n of the rows in the array R
pub record Works (s : Side) (n : ℕ) (R : List ℕ) : Type 0 where
  pub sized : Sized n R
  pub rows_are : take n R ≡ s.rows

-- by place
abbrev pub placed : Phase → Phase
placed Down = Down
placed Handed = Handed
placed (Back k) = Back (k - 1)
placed Ended = Ended

-- the first `count` numbers in k, by place
abbrev pub places_of : List ℕ → ℕ → List ℕ
places_of k count = map (λ x. x - 1) (take count k)

-- the state that a spot represents: its picks by place, of the numbers in k, and its phase
abbrev pub state_of : List ℕ → Spot → State
state_of k at = record { picks = places_of k at.count; phase = placed (mode_phase at.mode) }

-- the rows u of the unpicked gauges, the arrays c and k and the spot represent the state x of the rows r: the chain,
-- and the picks
pub record HoldsAt (r u c k : List ℕ) (at : Spot) (x : State) : Type 0 where
  pub after : After r x.picks u at.left
  pub size : length u ≡ 64
  pub chained : c ≡ padded (chain_of r x.picks)
  pub picked : k ≡ padded (map suc x.picks)
  pub counted : at.count ≡ length x.picks
  pub phased : mode_phase at.mode ≡ numbered x.phase
  pub fits : Fits (candidates r) x.picks x.phase

abbrev pub Holds : ℕ → List ℕ → List ℕ → List ℕ → Spot → Type 0
Holds n rows c k at = HoldsAt (take n rows) (within at.unpicked rows) c k at (state_of k at)

-- a spot that represents the state after the move m
abbrev pub spot_down : ℕ → ℕ → ℕ → Spot
spot_down count unpicked left = record { count = count; unpicked = unpicked; left = left; mode = mode_down }

-- the move by rules 1 to 5 from the state that a spot represents
abbrev pub moved_from : ℕ → List ℕ → List ℕ → Spot → Move
moved_from n rows k at = move (candidates (take n rows)) (state_of k at)

abbrev pub SteppedBy : ℕ → List ℕ → List ℕ → List ℕ → Move → Moved → Type 0
SteppedBy n rows c k m (On s) = (m ≡ gives nothing (state_of k s)) × Holds n rows c k s
SteppedBy n rows c k m (Out s) = (m ≡ gives (hands (state_of k s).picks) (state_of k s)) × Holds n rows c k s
SteppedBy n rows c k m (Over s) = (m ≡ gives ends (state_of k s)) × Holds n rows c k s

pub record Stepped (n : ℕ) (rows c k : List ℕ) (m : Move) (r : Moved) : Type 0 where
  pub says : SteppedBy n rows c k m r

-- the phases in which a pick can be taken back
abbrev pub TakesBack : Phase → Type 0
TakesBack Down = ⊥
TakesBack Handed = Unit {0}
TakesBack (Back k) = Unit {0}
TakesBack Ended = ⊥

-- the last of the first `count` picks, where there is one, is a number from 1 to 64
abbrev pub NumberAt : List ℕ → ℕ → Type 0
NumberAt k count = (count ≤ 64) × (0 < count → (1 ≤ get_or k (count - 1) 0) × (get_or k (count - 1) 0 ≤ 64))

-- the left cases after the first `count` picks: what the last of them has in the chain, or all
unfoldable pub left_after : List ℕ → List ℕ → ℕ → ℕ
left_after c k count = cond (eqb count 0) (2 ^ 64 - 1) (get_or c (get_or k (count - 1) 0 - 1) 0)

-- ---- what a run that omits hands over
-- the pairs that are wanted: none of a run that omits nothing
abbrev pub omits : Option (Bor (List ℕ)) → Bool
omits None = false
omits (Some w) = true

abbrev pub wanted_in : Option (Bor (List ℕ)) → List ℕ
wanted_in None = padded []
wanted_in (Some w) = w.now

-- those pairs as the order o has the n rows
abbrev pub gathered_wanted : Option (Bor (List ℕ)) → ℕ → List ℕ → Option (List ℕ)
gathered_wanted None n o = None
gathered_wanted (Some w) n o = Some (padded (gathered n w.now o))

-- none of the first n rows of c has a case of the same row of w
unfoldable pub apart : ℕ → List ℕ → List ℕ → Bool
apart n w c = all_below (λ i. eqb (bit_and (get_or c i 0) (get_or w i 0)) 0) n

-- whether the set c is handed over: by a run that omits, where it has a pair of w
unfoldable pub hands_over : Bool → ℕ → List ℕ → List ℕ → Bool
hands_over omit n w c = cond omit (not (apart n w c)) true

-- the moves of the core on the rows r: rules 1 to 5, and where it omits, nothing is given of a set that has no pair
-- of w
unfoldable pub move_by : List ℕ → Bool → List ℕ → State → Move
move_by r false w x = move (candidates r) x
move_by r true w x = move_keeping (move (candidates r)) (chain_of r) (hands_over true (length r) w) x

-- ---- a call's moves, by the rule mv
-- b moves from the state x come out as o, in k moves, at the state y, whatever is handed out for the picks there
abbrev pub ComesOut : (State → Move) → ℕ → State → Stop → ℕ → State → Type 0
ComesOut mv b x o k y = (out : List ℕ → List ℕ) → carry_by mv out b x ≡ result (stop_reply o (out y.picks)) k y

pub record Advanced (mv : State → Move) (n : ℕ) (rows c k : List ℕ) (b : ℕ) (x : State) (r : Report) : Type 0 where
  pub comes : ComesOut mv b x r.outcome r.moves (state_of k r.spot)
  pub holds : Holds n rows c k r.spot

-- a call that made m moves before
abbrev pub later : ℕ → Call → Call
later m c = result c.answer (m + c.moves) c.next

-- the first m of b moves from x led to y, and gave nothing
pub record Ahead (mv : State → Move) (b m : ℕ) (x y : State) : Type 0 where
  pub most : m ≤ b
  pub onward : (out : List ℕ → List ℕ) → carry_by mv out b x ≡ later m (carry_by mv out (b - m) y)

-- ---- checking a value handed in
-- b decides P
pub record DecidedBy (P : Type 0) (b : Bool) : Type 0 where
  pub yes : b ≡ true → P
  pub no : b ≡ false → ¬ P

-- how many of the first n places of k are not zero
unfoldable pub filled : List ℕ → ℕ → ℕ
filled k zero = 0
filled k (suc n) = filled k n + cond (eqb (get_or k n 0) 0) 0 1

-- the first `count` numbers in k are those of picks that can have been made: what is asked where their chain is laid
pub record Laying (n : ℕ) (rows k : List ℕ) (count : ℕ) : Type 0 where
  pub picks : List ℕ
  pub numbers : take count k ≡ map suc picks
  pub counted : count ≡ length picks
  pub valid : Valid (candidates (take n rows)) picks

-- the phase goes with what the arrays say
abbrev pub PhaseIn : List ℕ → ℕ → ℕ → Phase → Type 0
PhaseIn u left count Down = Unit {0}
PhaseIn u left count Handed = (i : ℕ) → i < 64 → candidate_in u left 64 i ≡ false
PhaseIn u left count (Back k) = (1 ≤ k) × (candidate_in u left 64 (k - 1) ≡ true)
PhaseIn u left count Ended = count ≡ 0

-- k, a count and a phase by number are those of the paused value of the state s, which is a good one
pub record StandsBy (good : State → Type 0) (k : List ℕ) (count : ℕ) (f : Phase) (s : State) : Type 0 where
  pub picked : k ≡ padded (map suc s.picks)
  pub counted : count ≡ length s.picks
  pub phased : f ≡ numbered s.phase
  pub fits : good s

-- b moves from the state x: they come out as the report says, and the arrays and numbers are those of the state that
-- they lead to
pub record WentBy (mv : State → Move) (good : State → Type 0) (chain : List ℕ → List ℕ) (b : ℕ) (x : State) (c' k' : List ℕ) (o : Report) : Type 0 where
  pub to : State
  pub comes : ComesOut mv b x o.outcome o.moves to
  pub chained : c' ≡ padded (chain to.picks)
  pub stands : StandsBy good k' o.spot.count (mode_phase o.spot.mode) to

-- what a call on the value of k, `count` and f answers: no good state is its state; or it is the value of one, and the
-- budget is too large, or it makes its moves, by the rule mv; `chain` has the chain of some picks
pub record CarriesBy (mv : State → Move) (good : State → Type 0) (chain : List ℕ → List ℕ) (k : List ℕ) (count : ℕ) (f : Phase) (b : ℕ)
    (c' k' : List ℕ) (o : Result Report Refusal) : Type 0 where
  pub value : ((s : State) → StandsBy good k count f s → ⊥) → o ≡ Err NotReached
  pub large : (s : State) → StandsBy good k count f s → most_budget < b → o ≡ Err BudgetTooLarge
  pub moves : (s : State) → StandsBy good k count f s → b ≤ most_budget → (r : Report) × (o ≡ Ok r) × WentBy mv good chain b s c' k' r

-- ---- the same by number, on the rows r
abbrev pub FitsOn : List ℕ → State → Type 0
FitsOn r s = Fits (candidates r) s.picks s.phase

abbrev pub StandsFor : List ℕ → List ℕ → ℕ → Phase → State → Type 0
StandsFor r k count f s = StandsBy (FitsOn r) k count f s

abbrev pub CarriesOn : (State → Move) → List ℕ → List ℕ → ℕ → Phase → ℕ → List ℕ → List ℕ → Result Report Refusal → Type 0
CarriesOn mv r k count f b c' k' o = CarriesBy mv (FitsOn r) (chain_of r) k count f b c' k' o

-- what the checks of such a call give, before it moves: a refusal, or a spot that holds the value's state
pub record Opens (n : ℕ) (rows k : List ℕ) (count : ℕ) (f : Phase) (b : ℕ) (c' : List ℕ) (o : Result Spot Refusal) : Type 0 where
  pub value : ((s : State) → StandsFor (take n rows) k count f s → ⊥) → o ≡ Err NotReached
  pub large : (s : State) → StandsFor (take n rows) k count f s → most_budget < b → o ≡ Err BudgetTooLarge
  pub opens : (s : State) → StandsFor (take n rows) k count f s → b ≤ most_budget → (x : Spot) × (o ≡ Ok x) × (state_of k x ≡ s)
  pub holds : (x : Spot) → o ≡ Ok x → (b ≤ most_budget) × Holds n rows c' k x

-- ---- under a preference, on the rows r
-- the moves of the core: rules 1 to 5 by place, and where it omits, nothing is given of a set that has no pair of w
unfoldable pub placed_move : List ℕ → List ℕ → Bool → List ℕ → State → Move
placed_move r o false w x = move_in (place_of o) (candidates_by o r) x
placed_move r o true w x = move_keeping (move_in (place_of o) (candidates_by o r)) (chain_of r) (hands_over true (length r) w) x

abbrev pub ReachedIn : List ℕ → List ℕ → State → Type 0
ReachedIn r o s = ReachedBy (move_in (place_of o) (candidates_by o r)) s

-- a phase by number, its number as the array l has it
abbrev pub renumbered_phase : List ℕ → ℕ → Phase → Phase
renumbered_phase l n Down = Down
renumbered_phase l n Handed = Handed
renumbered_phase l n (Back g) = Back (renumber l n g)
renumbered_phase l n Ended = Ended

-- what a call under the preference in the n numbers of `order` gives: 27 where they are none, and else as above, by
-- the rule mv at each arrangement
pub record InOrder (mv : List ℕ → State → Move) (n : ℕ) (r order k : List ℕ) (count : ℕ) (f : Phase) (b : ℕ) (c' k' : List ℕ)
    (o : Result Report Refusal) : Type 0 where
  pub none : is_preference n order ≡ false → o ≡ Err NotAnArrangement
  pub carried : is_preference n order ≡ true → CarriesBy (mv (order_of n order)) (ReachedIn r (order_of n order)) (chain_of r) k count f b c' k' o

-- a chain from its parts
abbrev pub chain_with : ℕ → List ℕ → Chain
chain_with g rows = record { gauges = g; rows = rows }

-- ---- what the functions above the core make of its report, on the table t, with the picks k that it left and the chain by gauge rows
abbrev pub next_of : Table → List ℕ → Bool → Report → List ℕ → Value
next_of t order omit o k = record { table = t; order = order; picks = k; count = o.spot.count; phase = mode_phase o.spot.mode; omit = omit }

abbrev pub step_by : Table → List ℕ → Bool → Report → List ℕ → List ℕ → Stop → Step
step_by t order omit o k rows HandedOut =
    record {
      answer = handed (take t.gauges rows);
      moves = o.moves;
      chain = record { gauges = t.gauges; rows = rows };
      picks = k;
      next = next_of t order omit o k;
    }
step_by t order omit o k rows Spent = record { answer = spent; moves = o.moves; chain = blank_chain; picks = no_numbers; next = next_of t order omit o k }
step_by t order omit o k rows End = record { answer = end; moves = o.moves; chain = blank_chain; picks = no_numbers; next = next_of t order omit o k }
