-- Preferences as they are handed in and kept (02, R-12: "a preference, an arrangement of 1..G, or of 1..L for the
-- case run"): 64 numbers, those of the arrangement, the most trusted first, padded with zeros, as a paused value has
-- its picks. What a preference is by row index, and the place in it, is in lists/specs/Arrangements.
--
-- In order: which numbers are a preference, and refusal 27; the arrangement that they hold, by row index; "the
-- arrangement 1, 2, 3 and on".
--
-- Elsewhere: that the test says what `IsArrangement` says, `preference_is` in proofs/Holding.antt.
use Rattle.std.specs.Prelude.{Bool, ◌&&◌, ◌||◌, cond, List, map, ℕ, suc, ◌-◌, min, eqb, ltb, take, get_or}
use Rattle.sets.specs.Lists.{all_below}
use Rattle.table.specs.declared.Table.{Table}
use Rattle.table.specs.Tables.{padded, table_refusal}
use Rattle.lists.specs.Arrangements.{times, plain}

-- each of 1..n is exactly once among the first n of the 64 numbers k, and the others are zeros
unfoldable pub is_preference : ℕ → List ℕ → Bool
is_preference n k = all_below (λ i. eqb (times (suc i) (take n k)) 1) n && all_below (λ i. ltb i n || eqb (get_or k i 0) 0) 64

-- 02's number for the preference k of n numbers, or 0: "27: not such an arrangement"
abbrev pub order_refusal : ℕ → List ℕ → ℕ
order_refusal n k = cond (is_preference n k) 0 27

-- the number for a table and then a preference of n of its numbers: 27 comes "right after the table's checks, before
-- all others"
unfoldable pub preferred_refusal : Table → ℕ → List ℕ → ℕ
preferred_refusal t n k = cond (eqb (table_refusal t) 0) (order_refusal n k) (table_refusal t)

-- the arrangement that the numbers k hold, by row index
abbrev pub order_of : ℕ → List ℕ → List ℕ
order_of n k = map (λ x. x - 1) (take n k)

-- the 64 numbers that hold an arrangement of row indices
abbrev pub numbers_of : List ℕ → List ℕ
numbers_of o = padded (map suc o)

-- "The arrangement 1, 2, 3 and on", of n numbers or of all 64
abbrev pub plain_numbers : ℕ → List ℕ
plain_numbers n = numbers_of (plain (min n 64))
