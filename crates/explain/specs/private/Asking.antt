-- What the private steps of either side say of one another: the checks before the picks are looked at, and the search
-- on the rows and picks in their arrays.
use Rattle.std.specs.Prelude.{◌≡◌, Bool, true, false, cond, List, ℕ, ◌-◌, ◌≤◌, ◌<◌, eqb, length, get_or, take, Option, MatchOption}
use Rattle.sets.specs.Sets.{bit}
use Rattle.table.specs.Pairs.{row}
use Rattle.table.specs.declared.Table.{Table}
use Rattle.rules.specs.Machine.{Handed, at}
use Rattle.lists.specs.Lists.{Side}
use Rattle.runs.specs.Paused.{Value}
use Rattle.runs.specs.Calling.{value_refusal, PausedAt}
use Rattle.explain.specs.Reasons.{first_lacking, made_before}

-- the number of a pair that belongs to a side, by its mark
abbrev pub own_of : Bool → ℕ → ℕ → ℕ
own_of false g c = g
own_of true g c = c

-- n is the number for a question, or 0: that of the value, whose phase must be Handed, then 19 where the table does
-- not have the pair
pub record AsksAt (side : Table → Side) (v : Value) (present : Bool) (n : ℕ) : Type 0 where
  pub table : 0 < value_refusal side v → n ≡ value_refusal side v
  pub value : value_refusal side v ≡ 0 → ((p : List ℕ) → PausedAt side v (at p Handed) → ⊥) → n ≡ 15
  pub stands : value_refusal side v ≡ 0 → (p : List ℕ) → PausedAt side v (at p Handed) → n ≡ cond present 0 19

-- the array R has the rows of the side s
pub record RowsOf (s : Side) (R : List ℕ) : Type 0 where
  pub row_is : (j : ℕ) → j < length s.rows → row R j ≡ row s.rows j

-- the number for the pick x that was found, or 0: where none was, the pair is kept
abbrev pub kept_by : ℕ → ℕ
kept_by x = cond (eqb x 0) 22 0

-- the first `count` of the 64 numbers in k are from 1 to 64
pub record Numbered (k : List ℕ) (count : ℕ) : Type 0 where
  pub size : length k ≡ 64
  pub few : count ≤ 64
  pub low : (i : ℕ) → i < count → 1 ≤ get_or k i 0
  pub high : (i : ℕ) → i < count → get_or k i 0 ≤ 64

-- whether the row of the number x has place k
abbrev pub row_has : List ℕ → ℕ → ℕ → Bool
row_has rows k x = bit (row rows (x - 1)) k

-- the first of the first `count` numbers in the array whose row lacks place k, before `own` is reached; 0 where there
-- is none
abbrev pub found_in : List ℕ → ℕ → List ℕ → ℕ → ℕ → ℕ
found_in rows k picks count own = first_lacking (row_has rows k) (made_before own (take count picks))

-- r is the number x, or none where x is 0, which is no number
abbrev pub Tells : ℕ → Option ℕ → Type 0
Tells x r = MatchOption r (0 ≡ x) (λ y. (0 < y) × (y ≡ x))
