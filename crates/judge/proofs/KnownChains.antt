-- K6 and K7 of 01 for the definitions, decided by the judges' tests. Crate `known` gathers all known tables.
use mathlib.Core.Path.{◌≡◌, refl, sym}
use mathlib.Core.Bool.{true, false}
use mathlib.Core.List.{List, [], ◌∷◌}
use Prim.Native.Nat.{ℕ}
use Rattle.basics.proofs.Clash.{clash}
use Rattle.sets.specs.Sets.{meet, is_subset, is_proper_subset}
use Rattle.sets.specs.Lists.{all_below}
use Rattle.table.specs.Pairs.{Within}
use Rattle.table.specs.Chains.{IsChain, IsMaximal}
use Rattle.table.proofs.Legality.{within_rows}
use Rattle.table.proofs.Places.{sub_within}
use Rattle.table.specs.Tables.{rows_within}
use Rattle.judge.specs.WidestRows.{narrowed, widest}
use Rattle.judge.specs.private.RowTests.{nested, nested_with, all_nested, all_widest}
use Rattle.judge.proofs.NestedTest.{chain_of_test, test_of_chain}
use Rattle.judge.proofs.WidestTest.{test_of_maximal}

-- K2 {2,3} {1,3} {1,2}; K6 1:2, 2:3, 3:1 in it; K7 1:2, 1:3 in it
abbrev pub k2 : List ℕ
k2 = 6 ∷ 5 ∷ 3 ∷ []

abbrev k6 : List ℕ
k6 = 2 ∷ 4 ∷ 1 ∷ []

abbrev k7 : List ℕ
k7 = 6 ∷ 0 ∷ 0 ∷ []

-- "K6 .. not a chain", though a set of K2's pairs
pub k6_within : Within k2 k6
unfolding rows_within is_subset meet
k6_within = sub_within k2 k6 refl (within_rows k2 k6 refl)

pub k6_no_chain : ¬ IsChain k6
unfolding all_nested nested_with nested all_below is_subset meet
k6_no_chain c = let z : true ≡ false = sym (test_of_chain k6 c) in clash cc

-- "K7 .. a chain, no ladder"
pub k7_within : Within k2 k7
unfolding rows_within is_subset meet
k7_within = sub_within k2 k7 refl (within_rows k2 k7 refl)

pub k7_chain : IsChain k7
unfolding all_nested nested_with nested all_below is_subset meet
k7_chain = chain_of_test k7 refl

pub k7_not_maximal : ¬ IsMaximal k2 k7
unfolding all_widest widest narrowed all_below is_proper_subset is_subset meet
k7_not_maximal m = let z : true ≡ false = sym (test_of_maximal k2 k7 k7_within k7_chain m) in clash cc
