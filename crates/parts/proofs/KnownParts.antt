-- A known example: K2 of 01, whose six ladders have the picks (1,2) (1,3) (2,1) (2,3) (3,1) (3,2), is split at its first picks into three parts of two
-- ladders each, by indices 0, 1 and 2 (`k2_split`, `k2_parts`), and these lists, one after the other, are its gauge list (`k2-joined`). Split once more it
-- has six parts of one ladder (`k2_split_again`), and then splitting changes nothing (`k2_split_whole`). Calls that list the first part: two leave it open,
-- the third closes it (`k2_open`, `k2_closed`), and so does one that is spent two moves later (`k2_left`).
--
-- Pins, which nothing else cites: `k2_split_again`, `k2_split_whole`, `k2_closed`, `k2_open`, `k2_left`.
use mathlib.Core.Path.{◌≡◌, refl, subst}
use mathlib.Core.Bool.{Bool, true, false}
use mathlib.Core.List.{List, [], ◌∷◌, ◌++◌}
use Prim.Native.Nat.{ℕ}
use lib.Count.{ones_in, ones}
use Rattle.sets.specs.Sets.{meet, is_subset, is_proper_subset}
use Rattle.sets.specs.Lists.{tabulate, all_below}
use Rattle.table.specs.Tables.{Legal, rows_fit, table_refusal}
use Rattle.table.proofs.Legality.{legal_of}
use Rattle.rules.specs.Calls.{Call, call_by}
use Rattle.lists.specs.Arrangements.{place_of, plain}
use Rattle.lists.specs.PickSequence.{is_in, score}
use Rattle.lists.specs.Picks.{common, select}
use Rattle.lists.specs.ByNumber.{rules_out, candidate, candidates}
use Rattle.lists.specs.Preferred.{rules_out_by, candidate_by, chosen, candidates_by, best_from, best_in, take_by, pick_seq_by}
use Rattle.lists.specs.Lists.{gauge_side, PreferredList}
use Rattle.lists.specs.OnTable.{chain_row, chain_of}
use Rattle.lists.specs.private.Arranging.{arrange, unarrange}
use Rattle.lists.proofs.Standing.{plain_arrangement}
use Rattle.lists.proofs.BothSides.{gauge_fair}
use Rattle.lists.proofs.PreferredSides.{preferred_list}
use Rattle.known.specs.KnownTables.{pairs, k2}
use Rattle.parts.specs.Parts.{Splits, PartLists, joined, split_times}
use Rattle.parts.specs.Calls.{starts_with, is_of, of_part, is_over, calls_in}
use Rattle.parts.proofs.Joining.{part_lists, joined_list}
use Rattle.parts.proofs.Splitting.{splits_times}

-- the ladders of the parts, by rows as in 01
abbrev first : List (List ℕ)
first = pairs ((2 ∷ 3 ∷ []) ∷ (3 ∷ []) ∷ [] ∷ []) ∷ pairs ((2 ∷ 3 ∷ []) ∷ [] ∷ (2 ∷ []) ∷ []) ∷ []

abbrev second : List (List ℕ)
second = pairs ((3 ∷ []) ∷ (1 ∷ 3 ∷ []) ∷ [] ∷ []) ∷ pairs ([] ∷ (1 ∷ 3 ∷ []) ∷ (1 ∷ []) ∷ []) ∷ []

abbrev third : List (List ℕ)
third = pairs ((2 ∷ []) ∷ [] ∷ (1 ∷ 2 ∷ []) ∷ []) ∷ pairs ([] ∷ (1 ∷ []) ∷ (1 ∷ 2 ∷ []) ∷ []) ∷ []

abbrev first_picks : List (List ℕ)
first_picks = (0 ∷ []) ∷ (1 ∷ []) ∷ (2 ∷ []) ∷ []

legal : Legal k2
unfolding table_refusal rows_fit
legal = legal_of k2 refl refl

whole : PreferredList k2 (gauge_side k2) (plain 3) (first ++ (second ++ third))
unfolding candidates select candidate rules_out common is_in is_proper_subset is_subset meet all_below chain_of chain_row tabulate arrange unarrange place_of
whole = preferred_list k2 (gauge_side k2) (gauge_fair k2 legal) (plain 3) (plain_arrangement 3)

k2_split : split_times (gauge_side k2) (plain 3) 1 ≡ first_picks
unfolding candidates_by chosen candidate_by rules_out_by common is_in is_proper_subset is_subset meet all_below tabulate place_of
k2_split = refl

pub k2_split_again : split_times (gauge_side k2) (plain 3) 2
    ≡ (0 ∷ 1 ∷ []) ∷ (0 ∷ 2 ∷ []) ∷ (1 ∷ 0 ∷ []) ∷ (1 ∷ 2 ∷ []) ∷ (2 ∷ 0 ∷ []) ∷ (2 ∷ 1 ∷ []) ∷ []
unfolding candidates_by chosen candidate_by rules_out_by common is_in is_proper_subset is_subset meet all_below tabulate place_of
k2_split_again = refl

pub k2_split_whole : split_times (gauge_side k2) (plain 3) 3 ≡ split_times (gauge_side k2) (plain 3) 2
unfolding candidates_by chosen candidate_by rules_out_by common is_in is_proper_subset is_subset meet all_below tabulate place_of
k2_split_whole = refl

k2_parts : PartLists k2 (gauge_side k2) (plain 3) first_picks (first ∷ second ∷ third ∷ [])
unfolding starts_with pick_seq_by take_by best_in best_from score is_in ones ones_in tabulate
k2_parts = part_lists k2 (gauge_side k2) (plain 3) (first ++ (second ++ third)) whole first_picks

pub k2-joined : PreferredList k2 (gauge_side k2) (plain 3) (joined (first ∷ second ∷ third ∷ []))
k2-joined =
    joined_list k2 (gauge_side k2) (plain 3) first_picks (first ∷ second ∷ third ∷ [])
    (subst (Splits k2 (gauge_side k2) (plain 3) []) k2_split (splits_times k2 (gauge_side k2) (gauge_fair k2 legal) (plain 3) (plain_arrangement 3) 1)) k2_parts

-- calls from the first part's state on: the third hands out a ladder of the second part, which closes the first; two do not
abbrev made : List ℕ → List Call
made bs = calls_in (gauge_side k2) (plain 3) (0 ∷ []) bs

abbrev mine : List ℕ → Bool
mine = is_of (gauge_side k2) (plain 3) (0 ∷ [])

abbrev inside : List ℕ → Bool
inside = starts_with (0 ∷ [])

pub k2_closed : (is_over mine inside (made (7 ∷ 7 ∷ 7 ∷ [])) ≡ true) × (of_part mine (made (7 ∷ 7 ∷ 7 ∷ [])) ≡ first)
unfolding call_by candidates_by chosen candidate_by rules_out_by common is_in is_proper_subset is_subset meet all_below tabulate place_of chain_of chain_row starts_with
    pick_seq_by take_by best_in best_from score ones ones_in
k2_closed = (refl, refl)

pub k2_open : (is_over mine inside (made (7 ∷ 7 ∷ [])) ≡ false) × (of_part mine (made (1 ∷ 7 ∷ [])) ≡ pairs ((2 ∷ 3 ∷ []) ∷ (3 ∷ []) ∷ [] ∷ []) ∷ [])
unfolding call_by candidates_by chosen candidate_by rules_out_by common is_in is_proper_subset is_subset meet all_below tabulate place_of chain_of chain_row starts_with
    pick_seq_by take_by best_in best_from score ones ones_in
k2_open = (refl, refl)

-- two moves after its last hand-out the run has left the part, and a spent call closes it; one move does not
pub k2_left : (is_over mine inside (made (7 ∷ 7 ∷ 2 ∷ [])) ≡ true) × (is_over mine inside (made (7 ∷ 7 ∷ 1 ∷ [])) ≡ false)
unfolding call_by candidates_by chosen candidate_by rules_out_by common is_in is_proper_subset is_subset meet all_below tabulate place_of chain_of chain_row starts_with
    pick_seq_by take_by best_in best_from score ones ones_in
k2_left = (refl, refl)
