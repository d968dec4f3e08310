-- The first ladder of K1, {1} {2}, and four places: each effect is had by some flip (`k1_out`, `k1_lesser`, `k1_still`), and the numbers of a place end
-- where the table does (`k1_places`).
use mathlib.Core.Path.{◌≡◌, refl, sym}
use mathlib.Core.Bool.{true, false}
use mathlib.Core.List.{[], ◌∷◌}
use Prim.Native.Nat.{ℕ, zero, suc, ◌^◌, ◌<◌, ◌≤◌}
use native.Mathlib.Omega.{arith}
use Rattle.basics.proofs.Clash.{clash}
use Rattle.sets.specs.Sets.{bit, meet, join, is_subset, is_proper_subset}
use Rattle.sets.specs.Lists.{all_below}
use Rattle.sets.proofs.OnePlace.{without_of, with_of}
use Rattle.table.specs.declared.Table.{Table}
use Rattle.table.specs.declared.Chain.{Chain}
use Rattle.table.specs.Pairs.{row, Within}
use Rattle.table.specs.Chains.{IsChain}
use Rattle.table.specs.Tables.{padded, rows_fit, table_refusal, rows_within}
use Rattle.table.proofs.Places.{within_sub, sub_within}
use Rattle.table.proofs.Legality.{legal_of, within_rows}
use Rattle.judge.specs.WidestRows.{narrowed, widest}
use Rattle.judge.specs.private.RowTests.{nested, nested_with, all_nested, all_widest}
use Rattle.judge.proofs.NestedTest.{chain_of_test}
use Rattle.judge.proofs.WidestTest.{test_of_maximal, maximal_of_test}
use Rattle.trials.specs.Trials.{place_refusal, Proposes}
use Rattle.trials.specs.private.Steps.{Placed, Toggled}
use Rattle.trials.specs.declared.Effect.{Effect}
use Rattle.trials.specs.declared.Effect.TheVariants.{StillMaximal, OnlyChain, NotWithin}
use Rattle.trials.specs.declared.Proposal.{Proposal}
use Rattle.trials.proofs.Flips.{toggle_out, toggle_in, flip_of}

-- K1, and its first ladder, 1:1
abbrev k1 : Table
k1 = record { gauges = 2; cases = 2; rows = padded (1 ∷ 2 ∷ []) }

abbrev first : Chain
first = record { gauges = 2; rows = padded (1 ∷ 0 ∷ []) }

abbrev proposal : ℕ → ℕ → Effect → Proposal
proposal g c e = record { table = k1; chain = first; gauge = record { 0 = g }; case = record { 0 = c }; effect = e }

placed : (g c : ℕ) → 1 ≤ g → g ≤ 2 → 1 ≤ c → c ≤ 2 → Placed k1 g c
unfolding table_refusal rows_fit
placed g c a b d e = record { legal = legal_of k1 refl refl; gauge_low = a; gauge_high = b; case_low = d; case_high = e }

first_chain : IsChain (1 ∷ 0 ∷ [])
unfolding all_nested nested_with nested all_below is_subset meet
first_chain = chain_of_test (1 ∷ 0 ∷ []) refl

-- 1:1, a pair of the ladder, flipped out
pub k1_out : Proposes k1 first 1 1 (proposal 1 1 NotWithin)
unfolding bit meet
k1_out =
    let e : Toggled 1 0 0 = toggle_out 1 0 0 refl (without_of 1 0 refl) in record {
      table = refl;
      chain = refl;
      gauge = refl;
      case = refl;
      new = record { gauges = 2; cases = 2; rows = padded (0 ∷ 2 ∷ []) };
      flips = flip_of k1 1 1 (placed 1 1 (omega arith) (omega arith) (omega arith) (omega arith)) 0 e;
      effect = λ w. clash (within_sub (0 ∷ 2 ∷ []) (1 ∷ 0 ∷ []) w 0);
    }

-- 2:1 flipped in: the new table's ladder has 2:1 and 2:2 too
pub k1_lesser : Proposes k1 first 2 1 (proposal 2 1 OnlyChain)
unfolding bit join meet is_subset is_proper_subset rows_within all_widest widest narrowed all_below
k1_lesser =
    let e : Toggled 2 0 3 = toggle_in 2 0 3 (omega arith) refl (with_of 2 0 (omega arith)) in
    let w : Within (1 ∷ 3 ∷ []) (1 ∷ 0 ∷ []) = sub_within (1 ∷ 3 ∷ []) (1 ∷ 0 ∷ []) refl (within_rows (1 ∷ 3 ∷ []) (1 ∷ 0 ∷ []) refl) in record {
      table = refl;
      chain = refl;
      gauge = refl;
      case = refl;
      new = record { gauges = 2; cases = 2; rows = padded (1 ∷ 3 ∷ []) };
      flips = flip_of k1 2 1 (placed 2 1 (omega arith) (omega arith) (omega arith) (omega arith)) 3 e;
      effect = (
        w,
        first_chain,
        λ m.
            let z : true ≡ false = sym (test_of_maximal (1 ∷ 3 ∷ []) (1 ∷ 0 ∷ []) w first_chain m) in clash cc,
      );
    }

-- 2:2, a pair outside the ladder, flipped out
pub k1_still : Proposes k1 first 2 2 (proposal 2 2 StillMaximal)
unfolding bit meet is_subset is_proper_subset rows_within all_widest widest narrowed all_below
k1_still =
    let e : Toggled 2 1 0 = toggle_out 2 1 0 refl (without_of 2 1 refl) in
    let w : Within (1 ∷ 0 ∷ []) (1 ∷ 0 ∷ []) = sub_within (1 ∷ 0 ∷ []) (1 ∷ 0 ∷ []) refl (within_rows (1 ∷ 0 ∷ []) (1 ∷ 0 ∷ []) refl) in record {
      table = refl;
      chain = refl;
      gauge = refl;
      case = refl;
      new = record { gauges = 2; cases = 2; rows = padded (1 ∷ 0 ∷ []) };
      flips = flip_of k1 2 2 (placed 2 2 (omega arith) (omega arith) (omega arith) (omega arith)) 0 e;
      effect = maximal_of_test (1 ∷ 0 ∷ []) (1 ∷ 0 ∷ []) w first_chain 2 small refl;
    }
  where
    small : (i : ℕ) → row (1 ∷ 0 ∷ []) i < 2 ^ 2
    small zero = omega arith
    small (suc zero) = omega arith
    small (suc (suc i)) = omega arith

-- the last place of the table passes; a gauge or a case before the first or past the last gets 7
pub k1_places : (place_refusal k1 2 2 ≡ 0) × (place_refusal k1 0 1 ≡ 7) × (place_refusal k1 3 1 ≡ 7) × (place_refusal k1 1 0 ≡ 7) × (place_refusal k1 1 3 ≡ 7)
unfolding place_refusal table_refusal rows_fit
k1_places = (refl, refl, refl, refl, refl)
