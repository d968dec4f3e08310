-- What a table and an order of 64 numbers come with that 10, 11 and 27 do not refuse, on either side (`gauge_started`, `case_started`), and the
-- promises of a fresh start for the value that it returns (`promised`).
use mathlib.Core.Path.{◌≡◌, ap, ◌∙◌}
use mathlib.Core.Bool.{Bool, true, false}
use mathlib.Core.List.{List}
use Prim.Native.Nat.{ℕ, ◌≤◌}
use lib.ListN.{length}
use Rattle.table.specs.Tables.{Legal}
use Rattle.table.specs.declared.Table.{Table}
use Rattle.table.proofs.Legality.{legal_of}
use Rattle.rules.specs.Machine.{fresh}
use Rattle.lists.specs.Lists.{Side, gauge_side, case_side}
use Rattle.lists.proofs.BothSides.{Fair, gauge_fair, case_fair}
use Rattle.preference.specs.Preferences.{preferred_refusal}
use Rattle.preference.proofs.Holding.{preference_of}
use Rattle.preference.proofs.Placing.{passes_both}
use Rattle.runs.specs.Paused.{Value, paused}
use Rattle.runs.specs.Demand.{KeepsDemand, SharesAll}
use Rattle.runs.specs.Omitting.{KeepsOmits}
use Rattle.runs.proofs.Demands.{StartsAll, run_demand, run_omits, shares_all}

-- a side that is fair and has at most 64 rows
started : (side : Table → Side) (t : Table) → (Legal t → Fair t (side t)) → (Legal t → (side t).count ≤ 64) → length t.rows ≡ 64 → StartsAll side t
started side t f h n k long ok =
    let b = passes_both t (side t).count k ok in
    let l = legal_of t n b.0 in record {
      legal = l;
      fair = f l;
      arranged = (preference_of (side t).count k (h l) long (rw b.1 tt)).arranged;
      passed = ok;
    }

pub gauge_started : (t : Table) → length t.rows ≡ 64 → StartsAll gauge_side t
gauge_started t n = started gauge_side t (gauge_fair t) (λ l. l.gauges_high) n

pub case_started : (t : Table) → length t.rows ≡ 64 → StartsAll case_side t
case_started t n = started case_side t (case_fair t) (λ l. l.cases_high) n

-- the value v that a start returns, where nothing is refused
module _ (side : Table → Side) (t : Table) (k : List ℕ) (omit : Bool) (n : length t.rows ≡ 64) (all : StartsAll side t) (long : length k ≡ 64) where
  pub promised : (v : Value) → (preferred_refusal t (side t).count k ≡ 0 → v ≡ paused t k omit fresh)
      → (omit ≡ false → KeepsDemand side t k v) × ((omit ≡ false → SharesAll side t k v) × (omit ≡ true → KeepsOmits side t k v))
  promised v h = (
    λ e ok. run_demand side t k (all k long ok) v (fresh-as e (h ok)),
    (
      λ e. shares_all side t k (all k long) (gauge_started t n) (case_started t n) v (λ ok. fresh-as e (h ok)),
      λ e ok. run_omits side t k (all k long ok) v (fresh-as e (h ok)),
    ),
  )
    where
      fresh-as : {b : Bool} → omit ≡ b → v ≡ paused t k omit fresh → v ≡ paused t k b fresh
      fresh-as e d = d ∙ ap (λ (x : Bool). paused t k x fresh) e
