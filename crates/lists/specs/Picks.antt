-- Picks and candidates (01, "Moves of a run": "Left cases .. remainder .. candidate"), of the table whose rows are r.
-- A pick is a row index from 0: index i is gauge i + 1, and a lower index is a lower-numbered gauge. The first pick
-- comes first. The candidates themselves, under a preference, are in Preferred.antt.
use Rattle.std.specs.Prelude.{Bool, cond, List, [], ◌∷◌, ◌++◌, ℕ, zero, suc}
use Rattle.sets.specs.Sets.{meet}
use Rattle.table.specs.Pairs.{row}

-- the cases of the set x that are in the row of every gauge of p
unfoldable pub common : List ℕ → List ℕ → ℕ → ℕ
common r [] x = x
common r (g ∷ p) x = common r p (meet x (row r g))

-- "Left cases: those in the row of every picked gauge; all L before any pick. A gauge's remainder: its row restricted
-- to the left cases." A row has no case past L, so before any pick its remainder is the row. `remainder_left` in
-- proofs/Remainders.antt has the left cases as a set of their own, `common r p` of all L.
abbrev pub remainder : List ℕ → List ℕ → ℕ → ℕ
remainder r p g = common r p (row r g)

-- the numbers below n at which f holds, ascending
unfoldable pub select : (ℕ → Bool) → ℕ → List ℕ
select f zero = []
select f (suc n) = cond (f n) (select f n ++ (n ∷ [])) (select f n)
