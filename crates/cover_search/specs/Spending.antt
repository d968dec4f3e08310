-- The search of R-7 with a budget, on boards (02: "The budget is 0 to 1,000,000 ladders tried .. "spent" is answered
-- exactly when the rule needs more"): what a search that may try at most b ladders finds, from what it finds without
-- a budget.
--
-- In order: the budget; the search from k on; the cover in its places; how the code's answer reads.
--
-- Elsewhere: the search itself, covers/specs/Searching; boards and their places, boards/specs/Boards.
use Rattle.std.specs.Prelude.{◌≡◌, cond, List, [], ◌∷◌, ℕ, suc, ◌+◌, ◌-◌, ltb, length, set, replicate}
use Rattle.std.proofs.Math.Option.{Option, none, some}
use Rattle.sets.specs.Sets.{bit}
use Rattle.boards.specs.Boards.{places}
use Rattle.covers.specs.Searching.{Outcome, search_from}
use Rattle.cover_search.specs.declared.Search.{Search}
use Rattle.cover_search.specs.declared.Search.TheVariants.{Cover, Nothing, Spent}

-- ---- the budget
-- it needs more than the budget; or it finds none, or this cover, and so many ladders may still be tried
pub data Spending : Type 0 where
  spent : Spending
  nothing : ℕ → Spending
  found : ℕ → List ℕ → Spending

unfoldable pub ended : ℕ → Option (List ℕ) → Spending
ended rest none = nothing rest
ended rest (some c) = found rest c

unfoldable pub spend : ℕ → Outcome ℕ → Spending
spend b o = cond (ltb b o.tried) spent (ended (b - o.tried) o.cover)

-- ---- the search from k on, at most up to k + n
abbrev pub up_to : List ℕ → ℕ → ℕ → ℕ → Outcome ℕ
up_to ladders left k n = search_from bit ladders (places left) k n

-- ---- the cover in its places
-- the list with c put into it from place `at` on
unfoldable pub put : ℕ → List ℕ → List ℕ → List ℕ
put at [] l = l
put at (x ∷ c) l = set (put (suc at) c l) at x

abbrev pub laid : ℕ → Spending → List ℕ → List ℕ
laid at spent l = l
laid at (nothing rest) l = l
laid at (found rest c) l = put at c l

abbrev pub no_boards : List ℕ
no_boards = replicate 8 0

-- ---- how the code's answer reads, where the cover is put into l from place `at` on, and the list is m then
abbrev pub told_search : ℕ → Spending → Search
told_search at spent = Spent
told_search at (nothing rest) = Nothing rest
told_search at (found rest c) = Cover rest (at + length c)

pub record Finds (at : ℕ) (o : Spending) (l : List ℕ) (r : Search) (m : List ℕ) : Type 0 where
  pub says : r ≡ told_search at o
  pub cover : m ≡ laid at o l
