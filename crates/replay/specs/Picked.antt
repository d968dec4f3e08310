-- Picks handed in (01, "Moves of a run", and refusal 15): by number, in an array of which the first `count` places
-- are given, on the first n rows of another. They can have been made where Down with these picks is a state that some
-- number of moves from a fresh start leads to. Arrays are read by place, 64 of them, so each of these says what holds
-- for every n, every count and any numbers in the arrays; that they leave one answer is `replays_unique` in
-- proofs/Going.antt.
use Rattle.std.specs.Prelude.{◌≡◌, not, ◌&&◌, Option, Some, None, List, ℕ, suc, ◌<◌, min, ltb, length, get_or}
use Rattle.sets.specs.Sets.{bit, meet, lowest}
use Rattle.sets.specs.Lists.{tabulate}
use Rattle.table.specs.Pairs.{row}
use Rattle.rules.specs.Machine.{Down, at}
use Rattle.rules.specs.ByNumber.{Reached}
use Rattle.lists.specs.PickSequence.{is_in}
use Rattle.lists.specs.Picks.{common}
use Rattle.lists.specs.ByNumber.{candidates}
use Rattle.replay.specs.declared.Replayed.{Replayed}

-- the first n rows of an array, at most 64, each with its 64 cases
unfoldable pub array_rows : ℕ → List ℕ → List ℕ
array_rows n rows = tabulate (λ i. meet (row rows i) (lowest 64)) (min n 64)

-- the first `count` numbers in k are those of the picks p, which can have been made on the rows r
pub record Picked (r k : List ℕ) (count : ℕ) (p : List ℕ) : Type 0 where
  pub counted : length p ≡ count
  pub numbers : (i : ℕ) → i < count → get_or k i 0 ≡ suc (get_or p i 0)
  pub reached : Reached (candidates r) (at p Down)

-- what the picks given leave: the places of the rows that are unpicked, as a set, and the left cases
pub record Made (r k : List ℕ) (count : ℕ) (s : Replayed) : Type 0 where
  pub picks : List ℕ
  pub given : Picked r k count picks
  pub unpicked : (j : ℕ) → bit s.unpicked j ≡ (ltb j (length r) && not (is_in j picks))
  pub left : s.left ≡ common r picks (lowest 64)

-- r says whether the first `count` numbers in k are picks that can have been made on the first n rows, and what they
-- leave
pub record Replays (n : ℕ) (rows k : List ℕ) (count : ℕ) (r : Option Replayed) : Type 0 where
  pub yes : (s : Replayed) → r ≡ Some s → Made (array_rows n rows) k count s
  pub no : r ≡ None → (p : List ℕ) → Picked (array_rows n rows) k count p → ⊥
