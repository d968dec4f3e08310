-- The run that omits, on both sides of every legal table and under every preference (`omits`):
-- one theorem over a whole list of calls. It leaves one list of calls (`omits_unique`), some list of calls reaches
-- the end (`omitting-ends`), "on a table without pairs it hands out nothing" (`nothing_handed`), and where every
-- maximal chain holds an essential pair the calls are those of demand 3 (`nothing-omitted`).
use mathlib.Core.Path.{◌≡◌, refl, ◌∙◌}
use mathlib.Core.Logic.{◌↔◌}
use mathlib.Core.Bool.{true}
use mathlib.Core.List.{List, [], ◌∷◌, ◌++◌, Memᴰ}
use Prim.Native.Nat.{ℕ}
use Rattle.basics.proofs.Clash.{clash}
use Rattle.sets.proofs.Tests.{is_true}
use Rattle.table.specs.declared.Table.{Table}
use Rattle.table.specs.Chains.{IsMaximal}
use Rattle.table.specs.Tables.{Legal, table_rows}
use Rattle.table.proofs.Legality.{legal_cases}
use Rattle.table.proofs.Nesting.{NoPairs}
use Rattle.rules.specs.Calls.{end, Call, handouts}
use Rattle.rules.specs.Keeping.{kept_sets}
use Rattle.rules.proofs.Kept.{mem_kept}
use Rattle.lists.specs.Arrangements.{IsArrangement}
use Rattle.lists.specs.Lists.{Side}
use Rattle.lists.specs.OnTable.{calls_on}
use Rattle.lists.proofs.BothSides.{Fair}
use Rattle.lists.proofs.Keeping.{demand_keeping, keeping_ends, keeping_all, keeping_unique}
use Rattle.conflicts.specs.Conflicts.{HoldsEssential}
use Rattle.conflicts.specs.Omitting.{keeps_of, omitting_calls}
use Rattle.conflicts.specs.private.Omits.{Omits}
use Rattle.conflicts.proofs.Testing.{holds_test}

module _ (t : Table) (l : Legal t) where
  -- the test, of a maximal chain
  keeps_yes : (x : List ℕ) → IsMaximal (table_rows t) x → HoldsEssential (table_rows t) x → keeps_of t x ≡ true
  keeps_yes x m h = is_true (keeps_of t x) ((holds_test t.cases (table_rows t) (legal_cases t l) x m.within).1 h)

  kept_members : (xs : List (List ℕ)) → ((x : List ℕ) → Memᴰ x xs ↔ IsMaximal (table_rows t) x)
      → (x : List ℕ) → Memᴰ x (kept_sets (keeps_of t) xs) ↔ (IsMaximal (table_rows t) x × HoldsEssential (table_rows t) x)
  kept_members xs f x = (
    λ m. let k = (mem_kept (keeps_of t) xs x).0 m in ((f x).0 k.0, (holds_test t.cases (table_rows t) (legal_cases t l) x ((f x).0 k.0).within).0 k.1),
    λ h. (mem_kept (keeps_of t) xs x).1 ((f x).1 h.0, (holds_test t.cases (table_rows t) (legal_cases t l) x h.0.within).1 h.1),
  )

  module _ (s : Side) (f : Fair t s) (o : List ℕ) (a : IsArrangement s.count o) where
    pub omits : (bs : List ℕ) → Omits t s o bs (omitting_calls t s o bs)
    omits bs = let d = demand_keeping t s f o a (keeps_of t) bs in record { keeping = d; members = kept_members d.list d.listed.members }

    pub nothing-omitted : ((x : List ℕ) → IsMaximal (table_rows t) x → HoldsEssential (table_rows t) x) → (bs : List ℕ)
        → omitting_calls t s o bs ≡ calls_on s o bs
    nothing-omitted h bs =
        let d = demand_keeping t s f o a (keeps_of t) bs in
        keeping_all t s f o a (keeps_of t) d.list d.listed (λ x m. let k = (d.listed.members x).0 m in keeps_yes x k (h x k)) bs

    pub omitting-ends : (bs : List ℕ) × (c : Call) × Memᴰ c (omitting_calls t s o bs) × (c.answer ≡ end)
    omitting-ends = keeping_ends t s f o a (keeps_of t)

pub omits_unique : (t : Table) (s : Side) (o bs : List ℕ) (cs ds : List Call) → Omits t s o bs cs → Omits t s o bs ds → cs ≡ ds
omits_unique t s o bs cs ds a b = keeping_unique t s o (keeps_of t) bs cs ds a.keeping b.keeping

pub nothing_handed : (t : Table) (s : Side) (p bs : List ℕ) (cs : List Call) → NoPairs (table_rows t) → Omits t s p bs cs → handouts cs ≡ []
nothing_handed t s p bs cs n o = front (handouts cs) o.keeping.front.0 (o.keeping.front.1 ∙ none (kept_sets (keeps_of t) o.keeping.list) refl)
  where
    none : (xs : List (List ℕ)) → kept_sets (keeps_of t) o.keeping.list ≡ xs → xs ≡ []
    none [] e = refl
    none (x ∷ xs) e =
        let m : Memᴰ x (kept_sets (keeps_of t) o.keeping.list) = rw e (mathlib.Core.List.Memᴰ.head refl) in
        let h = ((o.members x).0 m).1 in absurd (n h.gauge h.case h.essential.pair)

    front : (a b : List (List ℕ)) → a ++ b ≡ [] → a ≡ []
    front [] b e = refl
    front (x ∷ a) b e = clash cc
