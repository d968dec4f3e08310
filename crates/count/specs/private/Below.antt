-- What the recursive step counts, by the rows of the unpicked gauges and the left cases; `k` is how many gauges are still unpicked. That these
-- count the pick sequences and the leaves below the picks made is proved in proofs/Reached.antt.
use Rattle.std.specs.Prelude.{Bool, not, cond, Option, Some, None, List, ℕ, zero, suc, ◌+◌, leb, set}
use Rattle.sets.specs.Sets.{meet}
use Rattle.sets.specs.Lists.{all_below}
use Rattle.table.specs.Pairs.{row}
use Rattle.search.specs.Finding.{candidate_in}
use Rattle.count.specs.declared.Tally.{Tally}

-- the sum of f over the numbers below n at which c holds
unfoldable pub sum_below : (ℕ → Bool) → (ℕ → ℕ) → ℕ → ℕ
sum_below c f zero = 0
sum_below c f (suc n) = sum_below c f n + cond (c n) (f n) 0

-- the gauge at a place is a candidate
abbrev pub is_candidate : List ℕ → ℕ → ℕ → Bool
is_candidate u left = candidate_in u left 64

-- the calls: one, and those below each candidate
unfoldable pub calls_in : ℕ → List ℕ → ℕ → ℕ
calls_in zero u left = 1
calls_in (suc k) u left = suc (sum_below (is_candidate u left) (λ g. calls_in k (set u g 0) (meet (row u g) left)) 64)

-- the leaves: one where there is no candidate, else those below each candidate
unfoldable pub ladders_in : ℕ → List ℕ → ℕ → ℕ
ladders_in zero u left = 1
ladders_in (suc k) u left =
    cond (all_below (λ g. not (is_candidate u left g)) 64)
    1
    (sum_below (is_candidate u left) (λ g. ladders_in k (set u g 0) (meet (row u g) left)) 64)

-- what the step answers for a budget
unfoldable pub tallied : ℕ → ℕ → ℕ → Option Tally
tallied b ladders calls = cond (leb calls b) (Some (record { ladders = ladders; calls = calls })) None

-- the step begun with the rows u of k unpicked gauges
abbrev pub below_all : ℕ → List ℕ → ℕ → ℕ → Option Tally
below_all b u k left = tallied b (ladders_in k u left) (calls_in k u left)
