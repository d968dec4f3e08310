-- Known orders. Of the rows {1,2,3} and {3}, from {3} in the second: 1:1 and 1:2 cannot come before 1:3, since {1} or {2} is not nested with {3}
-- (`sample_order`). And 3:2 in K2, grown to 1:2, 1:3, 3:2 (K8), is followed by 1:2 and 1:3 (`k8_order`).
use mathlib.Core.Path.{◌≡◌, refl, subst}
use mathlib.Core.Bool.{true}
use mathlib.Core.List.{List, [], ◌∷◌}
use Prim.Native.Nat.{ℕ, zero, suc, ◌^◌, ◌<◌}
use native.Mathlib.Omega.{arith}
use lib.Count.{ones, ones_in}
use lib.ListN.{length}
use Rattle.sets.specs.Sets.{bit, meet, join, is_subset, is_proper_subset}
use Rattle.sets.specs.Lists.{all_below}
use Rattle.table.specs.Pairs.{row}
use Rattle.table.specs.Tables.{rows_within}
use Rattle.table.proofs.Places.{sub_within, small_cases}
use Rattle.table.proofs.Legality.{within_rows}
use Rattle.judge.specs.private.RowTests.{nested, nested_with, all_nested}
use Rattle.judge.proofs.NestedTest.{chain_of_test}
use Rattle.pairs.specs.PairOrder.{Pair}
use Rattle.pair_orders.specs.Adding.{with_pair, FirstOrder}
use Rattle.pair_orders.specs.private.Growing.{spares, allowed, takes, pairs_in}
use Rattle.pair_orders.proofs.Greedy.{lowest_of, next_row, next_pair, greedy, greedy_order, greedy-order}

-- two chains of three cases, by the computed tests
known : (x s : List ℕ) (ps : List Pair) → ((i : ℕ) → row x i < 2 ^ 3) → length s ≡ length x → all_nested x (length x) ≡ true → all_nested s (length s) ≡ true
    → rows_within x s ≡ true → greedy_order 3 x s ≡ ps → FirstOrder x s ps
known x s ps small size h c w e =
    subst (FirstOrder x s) e
    (greedy-order 3 x (small_cases 3 x small) (chain_of_test x h) s (sub_within x s size (within_rows x s w)) (chain_of_test s c))

pub sample_order : FirstOrder (7 ∷ 4 ∷ []) (0 ∷ 4 ∷ []) ((1, 3) ∷ (1, 1) ∷ (1, 2) ∷ [])
unfolding greedy_order greedy next_pair next_row lowest_of takes allowed spares pairs_in with_pair bit join meet is_subset is_proper_subset all_below ones ones_in
    all_nested nested_with nested rows_within
sample_order = known (7 ∷ 4 ∷ []) (0 ∷ 4 ∷ []) ((1, 3) ∷ (1, 1) ∷ (1, 2) ∷ []) small refl refl refl refl refl
  where
    small : (i : ℕ) → row (7 ∷ 4 ∷ []) i < 2 ^ 3
    small zero = omega arith
    small (suc zero) = omega arith
    small (suc (suc i)) = omega arith

pub k8_order : FirstOrder (6 ∷ 0 ∷ 2 ∷ []) (0 ∷ 0 ∷ 2 ∷ []) ((1, 2) ∷ (1, 3) ∷ [])
unfolding greedy_order greedy next_pair next_row lowest_of takes allowed spares pairs_in with_pair bit join meet is_subset is_proper_subset all_below ones ones_in
    all_nested nested_with nested rows_within
k8_order = known (6 ∷ 0 ∷ 2 ∷ []) (0 ∷ 0 ∷ 2 ∷ []) ((1, 2) ∷ (1, 3) ∷ []) small refl refl refl refl refl
  where
    small : (i : ℕ) → row (6 ∷ 0 ∷ 2 ∷ []) i < 2 ^ 3
    small zero = omega arith
    small (suc zero) = omega arith
    small (suc (suc zero)) = omega arith
    small (suc (suc (suc i))) = omega arith
