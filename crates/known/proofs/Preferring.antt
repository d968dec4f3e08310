-- The known lists and the known growth under another preference (`preferred_known`). A side's list under a preference is had from crate `lists`, on the rows
-- in the order of the preference; for a table written out it is computed, and so are the pick sequences.
use mathlib.Core.Path.{◌≡◌, refl, subst}
use mathlib.Core.List.{List, [], ◌∷◌, map}
use Prim.Native.Nat.{ℕ, suc}
use lib.Count.{ones_in, ones}
use lib.Dec.{T, eqb, eqb→eq}
use lib.ListN.{length}
use Rattle.sets.specs.Sets.{meet, is_subset, is_proper_subset}
use Rattle.sets.specs.Lists.{tabulate, all_below}
use Rattle.sets.proofs.Tabulated.{all_at}
use Rattle.table.specs.declared.Table.{Table}
use Rattle.table.specs.Tables.{Legal, table_rows, rows_fit, table_refusal}
use Rattle.table.proofs.Legality.{legal_of}
use Rattle.lists.specs.Arrangements.{times, IsArrangement, place_of}
use Rattle.lists.specs.PickSequence.{is_in, score}
use Rattle.lists.specs.Picks.{common, select}
use Rattle.lists.specs.Preferred.{best_from, best_in, take_by, pick_seq_by}
use Rattle.lists.specs.Lists.{gauge_side, PreferredList}
use Rattle.lists.specs.OnTable.{chain_row, chain_of}
use Rattle.lists.specs.ByNumber.{rules_out, candidate, candidates}
use Rattle.lists.specs.private.Arranging.{arrange, unarrange, prefer}
use Rattle.lists.proofs.BothSides.{gauge_fair, side_list}
use Rattle.lists.proofs.PreferredSides.{prefer_fair, preferred_list}
use Rattle.lists.proofs.PreferredGrowing.{grown_placed}
use Rattle.lists.proofs.Growing.{covers, fitting, grow_from, grow}
use Rattle.known.specs.KnownTables.{Entry, k2, k3}
use Rattle.known.specs.Preferring.{indices, ListsBy, PreferredKnown}
use Rattle.known.proofs.AllKnown.{k8, k8_within, k8_chain}

-- an arrangement, where a test of each index says so
arranges : (n : ℕ) (o : List ℕ) → length o ≡ n → T (all_below (λ i. eqb (times i o) 1) n) → IsArrangement n o
arranges n o e h = record { size = e; once = λ i l. eqb→eq (times i o) 1 (all_at (λ i. eqb (times i o) 1) n i h l) }

lists_by : (t : Table) (order : List ℕ) (es : List Entry) (l : Legal t) (a : IsArrangement t.gauges (indices order))
    → side_list t (prefer (indices order) (gauge_side t)) (prefer_fair t (gauge_side t) (gauge_fair t l) (indices order) a)
    ≡ map (λ (e : Entry). e.set) es
    → map (λ (e : Entry). map suc (pick_seq_by (indices order) e.set)) es ≡ map (λ (e : Entry). e.picks) es → ListsBy t order es
lists_by t order es l a e p = record {
  arranged = a;
  list = subst (PreferredList t (gauge_side t) (indices order)) e (preferred_list t (gauge_side t) (gauge_fair t l) (indices order) a);
  picks = p;
}

three : IsArrangement 3 (indices (3 ∷ 1 ∷ 2 ∷ []))
unfolding all_below times
three = arranges 3 (indices (3 ∷ 1 ∷ 2 ∷ [])) refl tt

pub preferred_known : PreferredKnown
unfolding table_refusal rows_fit times all_below arrange unarrange place_of candidates select candidate rules_out common is_in is_proper_subset is_subset meet
    chain_of chain_row tabulate pick_seq_by take_by best_in best_from score ones ones_in grow grow_from fitting covers k8
preferred_known = record {
  k2_by = lists_by k2 _ _ (legal_of k2 refl refl) three refl refl;
  k3_by = lists_by k3 _ _ (legal_of k3 refl refl) (arranges 3 (indices (2 ∷ 1 ∷ 3 ∷ [])) refl tt) refl refl;
  grown_by = grown_placed 3 (indices (3 ∷ 1 ∷ 2 ∷ [])) three (table_rows k2) k8 refl k8_within k8_chain;
}
