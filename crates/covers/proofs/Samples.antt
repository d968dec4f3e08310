-- The search on known tables of 01, computed: K1 needs both ladders, and three are tried; K2's six pairs need two; K4 needs one; K5, without
-- pairs, none; K1 with its second gauge loose needs one (`known_covers`). So the least number of K1 is 2 (`least_both`), its min G L, the most that a
-- table of its shape can need (`least_few` in Sides.antt), and that of K1 with the gauge loose is 1 (`least_one`).
use mathlib.Core.Path.{◌≡◌, refl, ap}
use mathlib.Core.Option.{some}
use mathlib.Core.List.{List, [], ◌∷◌}
use Prim.Native.Nat.{ℕ, zero, suc, ◌^◌, ◌<◌}
use native.Mathlib.Omega.{arith}
use Rattle.sets.specs.Sets.{bit, meet, is_subset, is_proper_subset}
use Rattle.sets.specs.Lists.{tabulate, all_below}
use Rattle.table.specs.Pairs.{row}
use Rattle.table.proofs.Places.{small_cases}
use Rattle.lists.specs.PickSequence.{is_in}
use Rattle.lists.specs.Picks.{common, select}
use Rattle.lists.specs.ByNumber.{rules_out, candidate, candidates}
use Rattle.lists.specs.OnTable.{chain_row, chain_of}
use Rattle.lists.proofs.Listed.{chains_in_order}
use Rattle.pairs.specs.PairOrder.{holds, pairs_from}
use Rattle.covers.specs.Searching.{Outcome, under, uncovered, try_each, search, search_from, fewest}
use Rattle.covers.specs.Covers.{LeastNumber}
use Rattle.covers.specs.Fewest.{fewest_ladders}
use Rattle.covers.proofs.Fewest.{least_of}

-- ---- the ladders
two : List (List ℕ)
two = (1 ∷ 0 ∷ []) ∷ (0 ∷ 2 ∷ []) ∷ []

six : List (List ℕ)
six = (6 ∷ 4 ∷ 0 ∷ []) ∷ (6 ∷ 0 ∷ 2 ∷ []) ∷ (4 ∷ 5 ∷ 0 ∷ []) ∷ (0 ∷ 5 ∷ 1 ∷ []) ∷ (2 ∷ 0 ∷ 3 ∷ []) ∷ (0 ∷ 1 ∷ 3 ∷ []) ∷ []

record KnownLadders : Type 0 where
  k1 : chains_in_order (1 ∷ 2 ∷ []) ≡ two
  k2 : chains_in_order (6 ∷ 5 ∷ 3 ∷ []) ≡ six
  k4 : chains_in_order (3 ∷ 3 ∷ []) ≡ (3 ∷ 3 ∷ []) ∷ []
  k5 : chains_in_order (0 ∷ 0 ∷ []) ≡ (0 ∷ 0 ∷ []) ∷ []
  loose : chains_in_order (1 ∷ 0 ∷ []) ≡ (1 ∷ 0 ∷ []) ∷ []

known_ladders : KnownLadders
unfolding two six candidates select candidate rules_out common is_in is_proper_subset is_subset meet all_below chain_of chain_row tabulate
known_ladders = record { k1 = refl; k2 = refl; k4 = refl; k5 = refl; loose = refl }

-- ---- the search
abbrev on : ℕ → List ℕ → Outcome (List ℕ)
on w r = fewest_ladders w r (chains_in_order r)

pub record KnownCovers : Type 0 where
  pub k1 : on 2 (1 ∷ 2 ∷ []) ≡ record { tried = 3; cover = some ((1 ∷ 0 ∷ []) ∷ (0 ∷ 2 ∷ []) ∷ []) }
  pub k2 : on 3 (6 ∷ 5 ∷ 3 ∷ []) ≡ record { tried = 7; cover = some ((6 ∷ 4 ∷ 0 ∷ []) ∷ (0 ∷ 1 ∷ 3 ∷ []) ∷ []) }
  pub k4 : on 2 (3 ∷ 3 ∷ []) ≡ record { tried = 1; cover = some ((3 ∷ 3 ∷ []) ∷ []) }
  pub k5 : on 3 (0 ∷ 0 ∷ []) ≡ record { tried = 0; cover = some [] }
  pub loose : on 2 (1 ∷ 0 ∷ []) ≡ record { tried = 1; cover = some ((1 ∷ 0 ∷ []) ∷ []) }

pub known_covers : KnownCovers
unfolding two six fewest search_from search try_each under uncovered holds pairs_from select bit
known_covers = record {
  k1 = ap (fewest_ladders 2 (1 ∷ 2 ∷ [])) known_ladders.k1;
  k2 = ap (fewest_ladders 3 (6 ∷ 5 ∷ 3 ∷ [])) known_ladders.k2;
  k4 = ap (fewest_ladders 2 (3 ∷ 3 ∷ [])) known_ladders.k4;
  k5 = ap (fewest_ladders 3 (0 ∷ 0 ∷ [])) known_ladders.k5;
  loose = ap (fewest_ladders 2 (1 ∷ 0 ∷ [])) known_ladders.loose;
}

-- ---- least numbers
low : (a b : ℕ) → a < 4 → b < 4 → (i : ℕ) → row (a ∷ b ∷ []) i < 2 ^ 2
low a b h k zero = h
low a b h k (suc zero) = k
low a b h k (suc (suc i)) = omega arith

pub least_both : LeastNumber (1 ∷ 2 ∷ []) 2
least_both =
    least_of 2 (1 ∷ 2 ∷ []) (small_cases 2 (1 ∷ 2 ∷ []) (low 1 2 (omega arith) (omega arith))) 3 ((1 ∷ 0 ∷ []) ∷ (0 ∷ 2 ∷ []) ∷ []) known_covers.k1

pub least_one : LeastNumber (1 ∷ 0 ∷ []) 1
least_one = least_of 2 (1 ∷ 0 ∷ []) (small_cases 2 (1 ∷ 0 ∷ []) (low 1 0 (omega arith) (omega arith))) 1 ((1 ∷ 0 ∷ []) ∷ []) known_covers.loose
