-- The union of rows that are next to each other: the cases that any of them has. Rows count from 0.
use Rattle.std.specs.Prelude.{List, ℕ, zero, suc, ◌+◌, ◌-◌, min}
use Rattle.sets.specs.Sets.{join}
use Rattle.table.specs.Pairs.{row}

-- the cases of the k rows from row i on
unfoldable pub union_from : List ℕ → ℕ → ℕ → ℕ
union_from s i zero = 0
union_from s i (suc k) = join (union_from s i k) (row s (i + k))

-- the cases of the rows from `from` up to, not with, `to`, at most 64
unfoldable pub union_of : List ℕ → ℕ → ℕ → ℕ
union_of s from to = union_from s from (min to 64 - from)
