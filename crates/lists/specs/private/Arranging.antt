-- A set of pairs with its rows in the order of a preference: row i is that of the gauge at place i. On the arranged
-- rows places are indices, so that the order by place is the order by number there: the laws are proved by this, and
-- the code works so. No promise of a user's entry mentions it.
use Rattle.std.specs.Prelude.{List, map, ℕ, length, get_or}
use Rattle.sets.specs.Lists.{tabulate}
use Rattle.table.specs.Pairs.{row}
use Rattle.lists.specs.Arrangements.{place_of}
use Rattle.lists.specs.Lists.{Side}

-- the index at place i
abbrev pub index_at : List ℕ → ℕ → ℕ
index_at o i = get_or o i 0

-- the rows of the indices of o, in turn
unfoldable pub arrange : List ℕ → List ℕ → List ℕ
arrange o x = map (row x) o

-- and by index again: row i is at its place
unfoldable pub unarrange : List ℕ → List ℕ → List ℕ
unarrange o y = tabulate (λ i. row y (place_of o i)) (length o)

-- a side with its rows in the order of a preference
abbrev pub prefer : List ℕ → Side → Side
prefer o s =
    record { count = s.count; rows = arrange o s.rows; view = λ x. arrange o (s.view x); by_gauges = λ y. s.by_gauges (unarrange o y) }
