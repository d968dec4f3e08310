-- A side with its rows in the order of a preference is fair where the side is (`prefer_fair`): so all that BothSides.antt and Listed.antt have of a
-- fair side holds of it, by number on the arranged rows. Its list there is the side's list under the preference (`preferred_list`), since places
-- of a pick sequence are the sequence of the arranged set (`key_placed`).
use mathlib.Core.Path.{◌≡◌, sym, ap, ◌∙◌}
use mathlib.Core.List.{List}
use Prim.Native.Nat.{ℕ}
use Rattle.table.specs.declared.Table.{Table}
use Rattle.table.specs.Chains.{IsMaximal}
use Rattle.table.specs.Tables.{table_rows}
use Rattle.lists.specs.Arrangements.{IsArrangement}
use Rattle.lists.specs.Lists.{Side, list_key, PreferredList}
use Rattle.lists.specs.ByNumber.{sequence_of}
use Rattle.lists.specs.private.Arranging.{arrange, unarrange, prefer}
use Rattle.lists.proofs.Arranging.{length-arrange, arrange_maximal, unarrange_maximal, unarrange-arrange, arrange-unarrange}
use Rattle.lists.proofs.Listed.{list_keys}
use Rattle.lists.proofs.BothSides.{Fair, side_list, side_list_lem}
use Rattle.lists.proofs.PlacedSequences.{places_placed}

module _ (t : Table) (s : Side) (f : Fair t s) (o : List ℕ) (a : IsArrangement s.count o) where
  pub prefer_fair : Fair t (prefer o s)
  prefer_fair = record {
    counted = length-arrange s.count o a s.rows;
    over = λ x m.
        let v = f.over x m in (
          arrange_maximal s.count o a s.rows (s.view x) f.counted v.0,
          ap s.by_gauges (unarrange-arrange s.count o a (s.view x) (v.0.within.size ∙ f.counted)) ∙ v.1,
        );
    home = λ y m.
        let v = f.home (unarrange o y) (unarrange_maximal s.count o a s.rows y f.counted m) in (
          v.0,
          ap (arrange o) v.1 ∙ arrange-unarrange s.count o a y (m.within.size ∙ length-arrange s.count o a s.rows),
        );
  }

  key_placed : (x : List ℕ) → IsMaximal (table_rows t) x → list_key s o x ≡ sequence_of (prefer o s) x
  key_placed x m = places_placed s.count o a (s.view x) ((f.over x m).0.within.size ∙ f.counted)

  pub preferred_list : PreferredList t s o (side_list t (prefer o s) prefer_fair)
  preferred_list =
      list_keys (table_rows t) (sequence_of (prefer o s)) (list_key s o) (λ x m. sym (key_placed x m)) (side_list t (prefer o s) prefer_fair)
      (side_list_lem t (prefer o s) prefer_fair)
