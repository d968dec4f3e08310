-- A set of at most 8 gauges by 8 cases as one number of 64 bits, a *board*, for code that searches such tables: the pair g:c is place
-- 8 * (g - 1) + (c - 1), so that the places of a board ascend by gauge, then case.
--
-- In order: the board of rows, and the rows of a board; its places; the board of the 64 rows of a table or a chain.
--
-- Elsewhere: that the places are the pairs in order, `places-pairs`, and that the search over boards is the search over the sets, `board-from`, both in
-- proofs/Boards.antt; that the rows of a board are those it was made of, `rows_back` in proofs/Packing.antt.
use Rattle.std.specs.Prelude.{List, [], ◌∷◌, ℕ, ◌+◌, ◌-◌, ◌*◌, ◌/◌, ◌%◌, ◌^◌}
use Rattle.sets.specs.Sets.{bit}
use Rattle.sets.specs.Lists.{tabulate}
use Rattle.table.specs.Pairs.{row}
use Rattle.lists.specs.Picks.{select}
use Rattle.pairs.specs.PairOrder.{Pair}

unfoldable pub board : List ℕ → ℕ
board [] = 0
board (a ∷ x) = board x * 2 ^ 8 + a

-- the n rows of a board
unfoldable pub board_rows : ℕ → ℕ → List ℕ
board_rows n b = tabulate (λ i. b / 2 ^ (8 * i) % 2 ^ 8) n

-- the place of a pair
abbrev pub place : Pair → ℕ
place p = 8 * (p.0 - 1) + (p.1 - 1)

-- the places of a board, ascending
abbrev pub places : ℕ → List ℕ
places b = select (bit b) 64

-- the first 8 cases of the first 8 rows
abbrev pub corner : List ℕ → List ℕ
corner rows = tabulate (λ i. row rows i % 2 ^ 8) 8
