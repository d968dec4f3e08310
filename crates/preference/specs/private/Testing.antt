-- What the tests of an order look at, place by place: what comes after its numbers, and what is at a place of the
-- plain order 1, 2, 3, ..
use Rattle.std.specs.Prelude.{Bool, ◌||◌, cond, List, ℕ, suc, eqb, ltb, get_or}
use Rattle.sets.specs.Lists.{all_below}

-- zeros from place n on
unfoldable pub zeros_from : ℕ → List ℕ → Bool
zeros_from n k = all_below (λ i. ltb i n || eqb (get_or k i 0) 0) 64

-- what is at place i of the plain order 1, 2, 3, .. of n numbers
unfoldable pub plain_at : ℕ → ℕ → ℕ
plain_at n i = cond (ltb i n) (suc i) 0
