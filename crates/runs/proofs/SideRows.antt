-- Both sides by the mark of a run, for the core's calls: how many rows the side has, what they are, which pairs are
-- wanted on it and what is handed out; and that what the core gives at a mark it gives at an equal one (`calls_at_lem`).
--
-- Pins, which nothing else cites: `calls_at_lem`.
use mathlib.Core.Path.{◌≡◌, refl, sym}
use mathlib.Core.Bool.{Bool, true, false}
use mathlib.Core.List.{List, []}
use Prim.Native.Nat.{ℕ, min}
use Rattle.refusals.specs.Answers.{Answer}
use Rattle.table.specs.Tables.{Legal, padded}
use Rattle.table.specs.declared.Table.{Table}
use Rattle.transpose.specs.Transposing.{transpose}
use Rattle.transpose.specs.Places.{places}
use Rattle.essentials.specs.Answers.{GivesEssentials}
use Rattle.lists.specs.Lists.{Side}
use Rattle.lists.specs.OnTable.{hand_out}
use Rattle.runs.specs.Sides.{side_of}
use Rattle.runs.specs.private.Working.{Sized, Works, omits, wanted_in}
use Rattle.runs.specs.private.Listing.{ladder_for}
use Rattle.runs.specs.private.Sided.{table_of, Wants, WantsWhere, CallsSide}
use Rattle.runs.specs.declared.engine.Report.{Report}
use Rattle.refusals.specs.declared.Refusal.{Refusal}
use Rattle.rules.specs.Machine.{Phase}
use Rattle.std.specs.Prelude.{Result, Option, Some, None}
use Rattle.std.specs.Borrow.{Bor}
use Rattle.std.specs.Option.{option_copied}
use Rattle.basics.proofs.Clash.{clash}
use Rattle.runs.proofs.Sides.{gauge_works, case_works}
use Rattle.runs.proofs.Wanting.{gauge_wants, case-wants}
use Rattle.runs.proofs.BatchSides.{gauge_out, case_out}

pub cases_counted : (m : Bool) (g c : ℕ) → m ≡ true → (rows : List ℕ) → c ≡ (side_of m (table_of g c rows)).count
cases_counted m g c e rows = rw e refl

module _ (m : Bool) (t : Table) (l : Legal t) where
  pub turned_works : m ≡ true → (R : List ℕ) → R ≡ padded (transpose (min t.cases 64) (places t.gauges t.rows))
      → Works (side_of m t) (side_of m t).count R
  turned_works e R d = rw e (case_works t l R d)

  pub given_works : m ≡ false → Works (side_of m t) (side_of m t).count t.rows
  given_works e = rw e (gauge_works t l)

  pub turned_wants : m ≡ true → (a : Answer (List ℕ)) → GivesEssentials t a → (w : List ℕ)
      → w ≡ padded (transpose (min t.cases 64) (places t.gauges a.value)) → Wants t (side_of m t) w
  turned_wants e a g w d = rw e (case-wants t l a g w d)

  pub given_wants : m ≡ false → (a : Answer (List ℕ)) → GivesEssentials t a → Wants t (side_of m t) a.value
  given_wants e a g = rw e (gauge_wants t l a g)

-- the pairs that are wanted, where the run omits
pub wants_where : (omit : Bool) (t : Table) (s : Side) (r : Option (Bor (List ℕ))) → WantsWhere omit t s (option_copied r)
    → (omits r ≡ omit) × (omits r ≡ true → Wants t s (wanted_in r))
wants_where omit t s None h = (sym h, λ z. clash cc)
wants_where omit t s (Some w) h = (sym h.0, λ z. h.1)

pub side_out : (m : Bool) (t : Table) → Legal t → (p : List ℕ)
    → ladder_for m true [] (side_of m t).count t.gauges (side_of m t).rows p ≡ hand_out (side_of m t) p
side_out false t l p = gauge_out t l p
side_out true t l p = case_out t l p

-- the rows of the side, for as many as there are
pub sized_as : {n : ℕ} (m : Bool) (t : Table) (R : List ℕ) → n ≡ (side_of m t).count → Works (side_of m t) (side_of m t).count R → Sized n R
sized_as m t R e w = rw e w.sized

-- what the core gives at a mark it gives at an equal one
pub calls_at_lem : {m x : Bool} → m ≡ x → (t : Table) (omit : Bool) {order k : List ℕ} {count : ℕ} {f : Phase} {b : ℕ} {c k' : List ℕ}
    {o : Result Report Refusal} → CallsSide x t omit order k count f b c k' o → CallsSide m t omit order k count f b c k' o
calls_at_lem e t omit d = rw e d
