-- The smallest table of which a maximal chain holds no essential pair: {1} {1,2} {2,3}. Its three maximal chains are, in gauge order,
-- 1:1 2:1 2:2, then 2:1 2:2 3:2, then 2:2 3:2 3:3. The essential pairs are 1:1 and 3:3, so the second holds none, and belongs to no
-- irreducible cover: the other two hold all five pairs.
use mathlib.Core.Path.{◌≡◌, refl, subst}
use mathlib.Core.Bool.{true, false}
use mathlib.Core.List.{List, [], ◌∷◌, Memᴰ}
use Prim.Native.Nat.{ℕ, zero, suc, ◌^◌, ◌<◌}
use native.Mathlib.Omega.{arith}
use lib.Dec.{T}
use Rattle.sets.specs.Sets.{bit, meet, is_subset, is_proper_subset}
use Rattle.sets.specs.Lists.{tabulate, all_below}
use Rattle.table.specs.Pairs.{row, Within, Cases}
use Rattle.table.proofs.Places.{small_cases}
use Rattle.lists.specs.ByNumber.{pick_seq}
use Rattle.lists.specs.Lists.{SideList}
use Rattle.lists.specs.PickSequence.{is_in}
use Rattle.lists.specs.Picks.{common, select}
use Rattle.lists.specs.ByNumber.{rules_out, candidate, candidates}
use Rattle.lists.specs.OnTable.{chain_row, chain_of}
use Rattle.lists.proofs.Listed.{chains_in_order, gauge_list}
use Rattle.conflicts.specs.Conflicts.{HoldsEssential}
use Rattle.conflicts.specs.Covers.{InIrreducible}
use Rattle.conflicts.specs.Tests.{has_pair, is_conflict, all_pairs, is_including, is_essential, holds_essential}
use Rattle.conflicts.proofs.Testing.{holds_test}
use Rattle.conflicts.proofs.Covering.{irreducible_essential}

-- {1} {1,2} {2,3}, and its maximal chains
abbrev pub three : List ℕ
three = 1 ∷ 3 ∷ 6 ∷ []

abbrev pub first : List ℕ
first = 1 ∷ 3 ∷ 0 ∷ []

abbrev pub second : List ℕ
second = 0 ∷ 3 ∷ 2 ∷ []

abbrev pub third : List ℕ
third = 0 ∷ 2 ∷ 6 ∷ []

three_listed : chains_in_order three ≡ first ∷ second ∷ third ∷ []
unfolding candidates select candidate rules_out common is_in is_proper_subset is_subset meet all_below tabulate chain_row chain_of
three_listed = refl

first_holds : holds_essential 3 three first ≡ true
unfolding holds_essential is_essential is_including all_pairs is_conflict has_pair all_below bit
first_holds = refl

second_holds : holds_essential 3 three second ≡ false
unfolding holds_essential is_essential is_including all_pairs is_conflict has_pair all_below bit
second_holds = refl

third_holds : holds_essential 3 three third ≡ true
unfolding holds_essential is_essential is_including all_pairs is_conflict has_pair all_below bit
third_holds = refl

three_cases : Cases 3 three
three_cases = small_cases 3 three low
  where
    low : (i : ℕ) → row three i < 2 ^ 3
    low zero = omega arith
    low (suc zero) = omega arith
    low (suc (suc zero)) = omega arith
    low (suc (suc (suc i))) = omega arith

listed : SideList three pick_seq (first ∷ second ∷ third ∷ [])
listed = subst (SideList three pick_seq) three_listed (gauge_list three)

within : (m : List ℕ) → Memᴰ m (first ∷ second ∷ third ∷ []) → Within three m
within m k = ((listed.members m).0 k).within

second_none : HoldsEssential three second → ⊥
second_none h = subst T second_holds ((holds_test 3 three three_cases second (within second (Memᴰ.tail (Memᴰ.head refl)))).1 h)

-- what is said above, of the definitions
pub three_example : SideList three pick_seq (first ∷ second ∷ third ∷ []) × HoldsEssential three first × (HoldsEssential three second → ⊥)
    × HoldsEssential three third × (InIrreducible three second → ⊥)
three_example = (
  listed,
  (holds_test 3 three three_cases first (within first (Memᴰ.head refl))).0 (rw first_holds tt),
  second_none,
  (holds_test 3 three three_cases third (within third (Memᴰ.tail (Memᴰ.tail (Memᴰ.head refl))))).0 (rw third_holds tt),
  λ i. second_none (irreducible_essential three second i),
)
