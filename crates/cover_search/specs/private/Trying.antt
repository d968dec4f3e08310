-- What the two functions that call each other find, one for each uncovered set, one for each next ladder.
use Rattle.std.specs.Prelude.{List, ℕ, drop}
use Rattle.sets.specs.Sets.{bit}
use Rattle.boards.specs.Boards.{places}
use Rattle.covers.specs.Searching.{Outcome, try_each, search}

-- covers of the places `left` by at most k of the boards
abbrev pub covering : List ℕ → ℕ → ℕ → Outcome ℕ
covering ladders k left = search bit ladders k (places left)

-- each of the boards from place i on that holds the first uncovered place in turn, and under it at most k more
abbrev pub trying : List ℕ → ℕ → ℕ → ℕ → ℕ → Outcome ℕ
trying ladders i first left k = try_each bit (search bit ladders k) first (places left) (drop i ladders)
