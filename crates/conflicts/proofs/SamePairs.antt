-- Sets of pairs that hold the same pairs: conflicts and essential pairs are the same in both (`conflict_same`, `essential_same`). A table's 64 rows and
-- its first G hold the same pairs (`table_pairs`).
use mathlib.Core.Path.{sym, subst}
use mathlib.Core.Logic.{◌↔◌}
use mathlib.Core.List.{List}
use Prim.Native.Nat.{ℕ}
use lib.Dec.{T}
use Rattle.sets.specs.Sets.{bit}
use Rattle.table.specs.declared.Table.{Table}
use Rattle.table.specs.Pairs.{Has}
use Rattle.table.specs.Tables.{Legal, table_rows}
use Rattle.table.proofs.Places.{place_has, by_place_lem}
use Rattle.table.proofs.Legality.{row-table_rows}
use Rattle.conflicts.specs.Conflicts.{Conflict, Includes, StrictlyContains, Essential}

pub same_back : {r s : List ℕ} → ((g c : ℕ) → Has r g c ↔ Has s g c) → (g c : ℕ) → Has s g c ↔ Has r g c
same_back f g c = ((f g c).1, (f g c).0)

module _ {r s : List ℕ} (same : (g c : ℕ) → Has r g c ↔ Has s g c) where
  pub conflict_same : (g c h d : ℕ) → Conflict r g c h d → Conflict s g c h d
  conflict_same g c h d v = record {
    pair = (same h d).0 v.pair;
    gauges = v.gauges;
    cases = v.cases;
    missing = λ x. v.missing ((same g d).1 x);
    missing_back = λ x. v.missing_back ((same h c).1 x);
  }

includes_same : {r s : List ℕ} → ((g c : ℕ) → Has r g c ↔ Has s g c) → (g c h d : ℕ) → Includes r g c h d → Includes s g c h d
includes_same same g c h d f k e v = conflict_same same g c k e (f k e (conflict_same (same_back same) h d k e v))

strictly_same : {r s : List ℕ} → ((g c : ℕ) → Has r g c ↔ Has s g c) → (g c h d : ℕ) → StrictlyContains r g c h d → StrictlyContains s g c h d
strictly_same same g c h d v = record {
  include = includes_same same g c h d v.include;
  strict = λ f. v.strict (includes_same (same_back same) h d g c f);
}

pub essential_same : {r s : List ℕ} → ((g c : ℕ) → Has r g c ↔ Has s g c) → (g c : ℕ) → Essential r g c → Essential s g c
essential_same same g c v = record {
  pair = (same g c).0 v.pair;
  none = λ h d q x. v.none h d ((same h d).1 q) (strictly_same (same_back same) h d g c x);
}

-- ---- a table's rows
pub table_pairs : (t : Table) → Legal t → (g c : ℕ) → Has t.rows g c ↔ Has (table_rows t) g c
table_pairs t l g c = (
  by_place_lem t.rows (Has (table_rows t)) (λ i k u. place_has (table_rows t) i k (subst (λ (x : ℕ). T (bit x k)) (sym (row-table_rows t l i)) u)) g c,
  by_place_lem (table_rows t) (Has t.rows) (λ i k u. place_has t.rows i k (subst (λ (x : ℕ). T (bit x k)) (row-table_rows t l i) u)) g c,
)
