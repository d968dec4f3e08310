-- The known tables of 01, all in one theorem (`known_tables_lem`), and the limits that they attain (`limits_attained`).
--
-- A table's gauge list is had from the list theorem of crate `lists`: the chains of the leaves of the candidates, in
-- order, are the gauge list of any table, and for a table written out they are computed. Pick sequences, numbers of
-- pairs and moves are computed from their definitions. K6 and K7 are decided by the tests of crate `judge`, and K8 is
-- what the greedy choice of crate `lists` gives.
use mathlib.Core.Path.{◌≡◌, refl, sym, subst}
use mathlib.Core.Logic.{◌≢◌}
use mathlib.Core.Bool.{Bool, true, false}
use mathlib.Core.Option.{some}
use mathlib.Core.List.{List, [], ◌∷◌, map, Memᴰ}
use Prim.Native.Nat.{ℕ, zero, suc, ◌-◌, ◌≤◌, ◌<◌}
use native.Mathlib.Omega.{arith}
use lib.Dec.{T}
use lib.Count.{ones_in, ones}
use lib.ListN.{length, get_elem?}
use Rattle.basics.proofs.Clash.{clash}
use Rattle.sets.specs.Sets.{meet, is_subset, is_proper_subset}
use Rattle.sets.specs.Lists.{tabulate, all_below}
use Rattle.sets.proofs.Tabulated.{all_at}
use Rattle.table.specs.declared.Table.{Table}
use Rattle.table.specs.Pairs.{Within}
use Rattle.table.specs.Chains.{IsChain}
use Rattle.table.specs.Tables.{table_rows, rows_fit, table_refusal, rows_within}
use Rattle.table.proofs.Legality.{legal_of, within_rows}
use Rattle.table.proofs.Places.{sub_within}
use Rattle.judge.specs.private.RowTests.{nested, nested_with, all_nested}
use Rattle.judge.proofs.NestedTest.{chain_of_test}
use Rattle.judge.proofs.KnownChains.{k6_within, k6_no_chain, k7_within, k7_chain, k7_not_maximal}
use Rattle.rules.specs.Machine.{fresh, Given, nothing, hands, ends, Move, after_by}
use Rattle.rules.specs.Calls.{call_by}
use Rattle.rules.proofs.Sequences.{All_of}
use Rattle.lists.specs.Arrangements.{place_of, plain}
use Rattle.lists.specs.Preferred.{rules_out_by, candidate_by, chosen, candidates_by, best_from, best_in, take_by, pick_seq_by}
use Rattle.lists.specs.PickSequence.{is_in, score}
use Rattle.lists.specs.ByNumber.{best, take_from, pick_seq}
use Rattle.lists.specs.Lists.{gauge_side, GaugeList}
use Rattle.lists.specs.Picks.{common, select}
use Rattle.lists.specs.ByNumber.{rules_out, candidate, candidates}
use Rattle.lists.specs.OnTable.{chain_row, chain_of, move_on}
use Rattle.lists.proofs.Listed.{chains_in_order}
use Rattle.lists.proofs.Plain.{gauge_list_of, first_plain}
use Rattle.lists.proofs.Growing.{covers, fitting, grow_from, grow, grow_first}
use Rattle.known.specs.KnownTables.{pairs, count, Entry, Shape, Lists, move_of, k1, k2, k3, k4, k5, k10, Known, K1, K2, K3, K4, K5, K6, K7, K8, K9, K10}
use Rattle.known.specs.KnownTables.{Claim, known_tables, AllKnown, Attained}

-- ---- the gauge list of a table, from what is computed
module _ (t : Table) (g l : ℕ) where
  shape : length t.rows ≡ 64 → table_refusal t ≡ 0 → t.gauges ≡ g → t.cases ≡ l → Shape t g l
  shape n z a b = record { legal = legal_of t n z; gauges = a; cases = b }

  lists : (es : List Entry) → Shape t g l → chains_in_order (table_rows t) ≡ map (λ (e : Entry). e.set) es
      → map (λ (e : Entry). map suc (pick_seq_by (plain g) e.set)) es ≡ map (λ (e : Entry). e.picks) es
      → map (λ (e : Entry). count e.set) es ≡ map (λ (e : Entry). e.size) es → Lists t g l es
  lists es h e p c = record { shape = h; list = subst (GaugeList t) e (gauge_list_of t); picks = p; sizes = c }

-- ---- 3:2 is a chain of K2
unfoldable pub k8 : List ℕ
k8 = pairs ([] ∷ [] ∷ (2 ∷ []) ∷ [])

pub k8_within : Within (table_rows k2) k8
unfolding k8 rows_within is_subset meet
k8_within = sub_within (table_rows k2) k8 refl (within_rows (table_rows k2) k8 refl)

pub k8_chain : IsChain k8
unfolding k8 all_nested nested_with nested all_below is_subset meet
k8_chain = chain_of_test k8 refl

-- ---- moves that do not end
goes_on : Given → Bool
goes_on nothing = true
goes_on (hands p) = true
goes_on ends = false

no_end : (g : Given) → T (goes_on g) → g ≢ ends
unfolding goes_on
no_end nothing t e = clash cc
no_end (hands p) t e = clash cc
no_end ends t e = t

-- the move after i moves
abbrev after : Table → ℕ → Move
after t i = move_on (gauge_side t) (plain t.gauges) (after_by (move_on (gauge_side t) (plain t.gauges)) i fresh)

-- none of the first n moves ends, where a test of each of them says so
none_ends : (t : Table) (n : ℕ) → T (all_below (λ i. goes_on (after t i).given) n) → (k : ℕ) → 1 ≤ k → k < suc n → (move_of t k).given ≢ ends
none_ends t n h k l b = no_end (move_of t k).given (all_at (λ i. goes_on (after t i).given) n (k - 1) h (omega arith))

-- ---- all of them
holds : (k : Known) → Claim k
unfolding table_refusal rows_fit candidates_by chosen candidate_by rules_out_by place_of pick_seq_by take_by best_in best_from candidates select candidate
    rules_out common is_in is_proper_subset is_subset meet all_below chain_of chain_row tabulate pick_seq take_from best score ones ones_in grow grow_from fitting
    covers k8 goes_on
holds K1 = lists k1 _ _ _ (shape k1 _ _ refl refl refl refl) refl refl refl
holds K2 = lists k2 _ _ _ (shape k2 _ _ refl refl refl refl) refl refl refl
holds K3 = lists k3 _ _ _ (shape k3 _ _ refl refl refl refl) refl refl refl
holds K4 = lists k4 _ _ _ (shape k4 _ _ refl refl refl refl) refl refl refl
holds K5 = (lists k5 _ _ _ (shape k5 _ _ refl refl refl refl) refl refl refl, refl, refl)
holds K6 = record { within = k6_within; no_chain = k6_no_chain }
holds K7 = record { within = k7_within; chain = k7_chain; not_maximal = k7_not_maximal }
holds K8 = record { within = k8_within; chain = k8_chain; first = (first_plain 3 (table_rows k2) k8 _ refl).1 (grow_first (table_rows k2) k8 k8_within k8_chain) }
holds K9 = record { last = refl; sooner = none_ends k2 _ tt }
holds K10 = (shape k10 _ _ refl refl refl refl, refl, refl, refl, refl)

-- what is at a place of a list is in it
at_place : (l : List Known) (n : ℕ) {k : Known} → get_elem? l n ≡ some k → Memᴰ k l
at_place [] n e = clash cc
at_place (x ∷ l) zero {k} e = Memᴰ.head (let z : x ≡ k = cc in sym z)
at_place (x ∷ l) (suc n) e = Memᴰ.tail (at_place l n e)

listed : (k : Known) → Memᴰ k known_tables
listed K1 = at_place known_tables 0 refl
listed K2 = at_place known_tables 1 refl
listed K3 = at_place known_tables 2 refl
listed K4 = at_place known_tables 3 refl
listed K5 = at_place known_tables 4 refl
listed K6 = at_place known_tables 5 refl
listed K7 = at_place known_tables 6 refl
listed K8 = at_place known_tables 7 refl
listed K9 = at_place known_tables 8 refl
listed K10 = at_place known_tables 9 refl

pub known_tables_lem : AllKnown
known_tables_lem = record { complete = listed; holds = All_of Claim known_tables (λ k m. holds k) }

-- ---- the limits
pub limits_attained : Attained
unfolding candidates_by chosen candidate_by rules_out_by place_of candidates select candidate rules_out common is_in is_proper_subset is_subset meet all_below chain_of
    chain_row tabulate call_by
limits_attained = record {
  start = refl;
  first = _;
  later = _;
  parts = refl;
  handed_out = (_, refl);
  gap = refl;
  list = _;
  listed = gauge_list_of k2;
  many = refl;
}
