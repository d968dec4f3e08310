-- What the private steps of a batch say of one another. No public promise mentions these.
use Rattle.std.specs.Prelude.{◌≡◌, Bool, true, false, List, ℕ, zero, suc, ◌+◌, ◌-◌, ◌≤◌, ◌<◌, min, length, take, Result, Ok, Err}
use Rattle.std.proofs.lemmas.List.Edits.{sets as stored}
use Rattle.table.specs.Tables.{padded}
use Rattle.transpose.specs.Transposing.{transpose}
use Rattle.transpose.specs.Places.{places}
use Rattle.preference.specs.Placing.{gathered}
use Rattle.refusals.specs.declared.Refusal.{Refusal}
use Rattle.refusals.specs.declared.Refusal.TheVariants.{NotReached, BudgetTooLarge, NotAnArrangement}
use Rattle.rules.specs.Machine.{Phase, State, Move}
use Rattle.rules.specs.Calls.{most_budget}
use Rattle.preference.specs.Preferences.{is_preference, order_of}
use Rattle.lists.specs.OnTable.{chain_of}
use Rattle.runs.specs.Batches.{tale, behind, batch_by, joined}
use Rattle.runs.specs.Batches.{Ending, full, used, over}
use Rattle.runs.specs.Paused.{mode_phase}
use Rattle.runs.specs.private.Working.{StandsBy, ReachedIn, Holds, ComesOut, state_of}
use Rattle.runs.specs.declared.engine.Stop.{Stop}
use Rattle.runs.specs.declared.engine.Stop.TheVariants.{HandedOut, Spent, End}
use Rattle.runs.specs.declared.listing.Tally.{Tally}

-- how a batch stopped
abbrev pub stop_ending : Stop → Ending
stop_ending HandedOut = full
stop_ending Spent = used
stop_ending End = over

-- ---- a ladder from the chain array c
-- by number, where the rows went by place
abbrev pub numbered_rows : Bool → List ℕ → ℕ → List ℕ → List ℕ
numbered_rows true pl n c = c
numbered_rows false pl n c = padded (gathered n c pl)

-- by gauge rows, where they went by cases
abbrev pub turned_rows : Bool → ℕ → ℕ → List ℕ → List ℕ
turned_rows false n g c = c
turned_rows true n g c = padded (transpose (min g 64) (places n c))

-- the g words of the ladder
unfoldable pub ladder_of : Bool → Bool → List ℕ → ℕ → ℕ → List ℕ → List ℕ
ladder_of turning plain pl n g c = take g (turned_rows turning n g (numbered_rows plain pl n c))

-- the ladder of the picks p of the rows r
abbrev pub ladder_for : Bool → Bool → List ℕ → ℕ → ℕ → List ℕ → List ℕ → List ℕ
ladder_for turning plain pl n g r p = ladder_of turning plain pl n g (padded (chain_of r p))

-- the words vs are at a place of the buffer
pub record Puts (before : List ℕ) (at : ℕ) (vs now : List ℕ) : Type 0 where
  pub words : now ≡ stored before at vs

-- the ladder of c is at a place of the buffer
pub record Hands (turning plain : Bool) (c pl : List ℕ) (n g : ℕ) (before : List ℕ) (at : ℕ) (now : List ℕ) : Type 0 where
  pub words : now ≡ stored before at (ladder_of turning plain pl n g c)
  pub size : length (ladder_of turning plain pl n g c) ≡ g

-- ---- the calls, from a held spot
-- the words of k ladders
unfoldable pub words_of : ℕ → ℕ → ℕ
words_of g zero = 0
words_of g (suc k) = g + words_of g k

-- the buffer with the words ws at its front, or as it was where nothing is written
abbrev pub written_in : Bool → List ℕ → List ℕ → List ℕ
written_in true before ws = stored before 0 ws
written_in false before ws = before

-- what calls for k ladders with b moves from the state x give, by the rule mv; for one ladder it is one call
pub record Lists (writing : Bool) (mv : State → Move) (out : List ℕ → List ℕ) (n : ℕ) (rows : List ℕ) (k b : ℕ) (x : State) (before c' k' now : List ℕ)
    (o : Tally) : Type 0 where
  pub sets : List (List ℕ)
  pub comes : batch_by mv out k b x ≡ tale (stop_ending o.outcome) sets o.moves (state_of k' o.spot)
  pub counted : o.ladders ≡ length sets
  pub buffer : now ≡ written_in writing before (joined sets)
  pub fits : writing ≡ true → length (joined sets) ≤ length before
  pub holds : Holds n rows c' k' o.spot
  pub one : k ≡ 1 → ComesOut mv b x o.outcome o.moves (state_of k' o.spot)

-- the calls so far: the sets handed out, with l of b moves and j of k ladders left, at the state y
pub record Sofar (writing : Bool) (mv : State → Move) (out : List ℕ → List ℕ) (g k b : ℕ) (x y : State) (before now : List ℕ) (l j place : ℕ) : Type 0 where
  pub sets : List (List ℕ)
  pub most : l ≤ b
  pub onward : batch_by mv out k b x ≡ behind sets (b - l) (batch_by mv out j l y)
  pub counted : length sets + j ≡ k
  pub placed : writing ≡ true → place ≡ length (joined sets)
  pub room : writing ≡ true → place + words_of g j ≤ length before
  pub buffer : now ≡ written_in writing before (joined sets)
  pub first : j ≡ k → (l ≡ b) × (y ≡ x)
  pub once : k ≡ 1 → j ≡ 0 → ComesOut mv b x HandedOut (b - l) y

-- ---- a batch on a value handed in
pub record WentOn (mv : State → Move) (good : State → Type 0) (out : List ℕ → List ℕ) (room b : ℕ) (x : State) (before k' now : List ℕ) (o : Tally)
    : Type 0 where
  pub to : State
  pub sets : List (List ℕ)
  pub comes : batch_by mv out room b x ≡ tale (stop_ending o.outcome) sets o.moves to
  pub counted : o.ladders ≡ length sets
  pub buffer : now ≡ stored before 0 (joined sets)
  pub fits : length (joined sets) ≤ length before
  pub stands : StandsBy good k' o.spot.count (mode_phase o.spot.mode) to

pub record ListsBy (mv : State → Move) (good : State → Type 0) (out : List ℕ → List ℕ) (room : ℕ) (k : List ℕ) (count : ℕ) (f : Phase) (b : ℕ)
    (before k' now : List ℕ) (o : Result Tally Refusal) : Type 0 where
  pub value : ((s : State) → StandsBy good k count f s → ⊥) → (o ≡ Err NotReached) × (now ≡ before)
  pub large : (s : State) → StandsBy good k count f s → most_budget < b → (o ≡ Err BudgetTooLarge) × (now ≡ before)
  pub moves : (s : State) → StandsBy good k count f s → b ≤ most_budget → (r : Tally) × (o ≡ Ok r) × WentOn mv good out room b s before k' now r

-- under the preference in the n numbers of order
pub record ListsIn (mv : List ℕ → State → Move) (out : List ℕ → List ℕ) (room n : ℕ) (r order k : List ℕ) (count : ℕ) (f : Phase) (b : ℕ)
    (before k' now : List ℕ) (o : Result Tally Refusal) : Type 0 where
  pub none : is_preference n order ≡ false → (o ≡ Err NotAnArrangement) × (now ≡ before)
  pub listed : is_preference n order ≡ true → ListsBy (mv (order_of n order)) (ReachedIn r (order_of n order)) out room k count f b before k' now o
