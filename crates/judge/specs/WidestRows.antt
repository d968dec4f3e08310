-- How wide a row of a chain can be, so that it stays a chain: no wider than each row that strictly contains it. A maximal chain has each row as wide as it
-- can be within the table (proofs/WidestTest.antt). Rows count from 0.
use Rattle.std.specs.Prelude.{◌&&◌, cond, List, ℕ, zero, suc, leb, ltb}
use Rattle.sets.specs.Sets.{meet, is_proper_subset}
use Rattle.table.specs.Pairs.{row}

-- x narrowed to the set b where b strictly contains a
unfoldable pub narrowed : ℕ → ℕ → ℕ → ℕ
narrowed x a b = cond (is_proper_subset a b) (meet x b) x

-- the widest that row i of s can be within the set x: x, narrowed to each of the first n rows that strictly contain the row
unfoldable pub widest : List ℕ → ℕ → ℕ → ℕ → ℕ
widest s x i zero = x
widest s x i (suc n) = narrowed (widest s x i n) (row s i) (row s n)

-- the same of 64 rows, for any numbers: x itself where there is no row i, or not n rows
unfoldable pub widest_of : List ℕ → ℕ → ℕ → ℕ → ℕ
widest_of s x i n = cond (ltb i 64 && leb n 64) (widest s x i n) x
