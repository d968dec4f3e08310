-- The whole claim about parts, said once: a list is split into parts, some of these into parts again, as often as one
-- likes; each part that is left is run until it closes; and what the runs hand out of their parts, one after the
-- other, is the list. It is said of the entries' own answers: the candidates that they name, the values that they
-- make, the answers of the run calls from these. It holds of any part, with the part's own list; from a fresh start's
-- value that is the whole list; and of runs that omit (02, R-2) it is what such a run hands over of the list.
--
-- In order: parts in place of a part (`Choice`); their runs, each to its close (`EachClosed`), and what they hand out
-- (`sets_of_all`); what is promised (`WholeRun`, `ListsWhole`).
--
-- Elsewhere: the entries, Entries.antt; the calls that list one part, and when it is closed, Listing.antt; that a
-- part with a candidate can be split, that every choice can be run to its close, and that all choices hand out the
-- same, proofs/Choices.antt; the same in words, c_parts/specs/Serving.
use Rattle.std.specs.Prelude.{◌≡◌, true, ◌≢◌, List, [], ◌∷◌, ◌++◌, ℕ, zero, suc}
use Rattle.table.specs.declared.Table.{Table}
use Rattle.rules.specs.Machine.{Down, at}
use Rattle.lists.specs.Lists.{Side, PreferredList}
use Rattle.parts.specs.Parts.{PartList}
use Rattle.runs.specs.Paused.{Value}
use Rattle.runs.specs.Calling.{Step, held, value_refusal, PausedAt}
use Rattle.runs.specs.Omitting.{CallsEither}
use Rattle.split.specs.Entries.{CandidatesAt, PartAt}
use Rattle.split.specs.Listing.{part_sets, is_closed, handed_over}

-- ---- parts in place of a part
-- the numbers of an answer's picks: those before the first 0
abbrev pub numbers_in : List ℕ → List ℕ
numbers_in [] = []
numbers_in (zero ∷ l) = []
numbers_in (suc i ∷ l) = suc i ∷ numbers_in l

-- ws are the parts of w for the numbers gs, in turn
abbrev pub PartsOf : (Table → Side) → Value → List ℕ → List Value → Type 0
PartsOf side w [] [] = Unit {0}
PartsOf side w [] (u ∷ ws) = ⊥
PartsOf side w (g ∷ gs) [] = ⊥
PartsOf side w (g ∷ gs) (u ∷ ws) = PartAt side w g (record { refusal = 0; value = u }) × PartsOf side w gs ws

-- ws are the parts of all the candidates of w, in turn, and there is one
pub record SplitInto (side : Table → Side) (w : Value) (ws : List Value) : Type 0 where
  pub picks : List ℕ
  pub found : CandidatesAt side w (record { refusal = 0; value = picks })
  pub parts : PartsOf side w (numbers_in picks) ws
  pub some : ws ≢ []

-- vs is a choice of parts that make up the part v: v alone, or one in which some part w has given its place to the
-- parts of its candidates
pub data Choice (side : Table → Side) (v : Value) : List Value → Type 0 where
  itself : Choice side v (v ∷ [])
  replaced : (b c ws : List Value) (w : Value) → Choice side v (b ++ (w ∷ c)) → SplitInto side w ws → Choice side v (b ++ (ws ++ c))

-- ---- their runs
-- rs are the answers of a list of run calls from w, with some budgets, that closes the part
pub record ClosedRun (side : Table → Side) (w : Value) (rs : List Step) : Type 0 where
  pub budgets : List ℕ
  pub calls : CallsEither side w budgets rs
  pub closed : is_closed w rs ≡ true

-- rss are such answers for each of the parts vs, in turn
abbrev pub EachClosed : (Table → Side) → List Value → List (List Step) → Type 0
EachClosed side [] [] = Unit {0}
EachClosed side [] (rs ∷ rss) = ⊥
EachClosed side (w ∷ vs) [] = ⊥
EachClosed side (w ∷ vs) (rs ∷ rss) = ClosedRun side w rs × EachClosed side vs rss

-- what they hand out of the parts, one after the other
abbrev pub sets_of_all : List Value → List (List Step) → List (List ℕ)
sets_of_all [] rss = []
sets_of_all (w ∷ vs) [] = []
sets_of_all (w ∷ vs) (rs ∷ rss) = part_sets w rs ++ sets_of_all vs rss

-- ---- what is promised
-- of the part v, with the picks p: what they hand out is what a run hands over of its list; a part with no picks is
-- the whole list
pub record WholeRun (side : Table → Side) (v : Value) (p : List ℕ) (vs : List Value) (rss : List (List Step)) : Type 0 where
  pub list : List (List ℕ)
  pub listed : PartList v.table (side v.table) (held side v) p list
  pub whole : p ≡ [] → PreferredList v.table (side v.table) (held side v) list
  pub handed : sets_of_all vs rss ≡ handed_over v.table v.omit list

-- every choice of parts that make up v, each run to its close
abbrev pub ListsWhole : (Table → Side) → Value → Type 0
ListsWhole side v =
    value_refusal side v ≡ 0 → (p : List ℕ) → PausedAt side v (at p Down)
    → (vs : List Value) → Choice side v vs → (rss : List (List Step)) → EachClosed side vs rss → WholeRun side v p vs rss
