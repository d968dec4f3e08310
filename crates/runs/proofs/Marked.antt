-- Both sides by the mark of a paused run: what holds at equal marks and values (`at_side`, `step_at_side`); what `gauge_started` and `case_started` say of
-- either (`side_started`, `side_few`); the promises of a fresh start (`side_promised`); and the answers of a run call, with their promises, from what the
-- core's call was told (`side_refused`, `side_handed`, `side_spent`, `side_over`).
use mathlib.Core.Path.{◌≡◌, refl, sym, ◌∙◌, subst}
use mathlib.Core.Bool.{Bool, true, false}
use mathlib.Core.List.{List}
use Prim.Native.Nat.{ℕ, ◌≤◌}
use lib.ListN.{length}
use Rattle.basics.proofs.Clash.{clash}
use Rattle.table.specs.Tables.{Legal, blank_chain, chain_rows, padded}
use Rattle.table.specs.declared.Table.{Table}
use Rattle.table.specs.declared.Chain.{Chain}
use Rattle.refusals.specs.Answers.{number}
use Rattle.std.specs.Prelude.{Result, Ok, Err}
use Rattle.refusals.specs.declared.Refusal.{Refusal}
use Rattle.rules.specs.Machine.{Phase, fresh}
use Rattle.rules.specs.Calls.{spent, handed, end}
use Rattle.lists.specs.Lists.{Side}
use Rattle.lists.specs.OnTable.{chain_of}
use Rattle.lists.proofs.BothSides.{Fair, gauge_fair, case_fair}
use Rattle.preference.specs.Preferences.{preferred_refusal}
use Rattle.runs.specs.Paused.{Value, paused, mode_phase, no_numbers}
use Rattle.runs.specs.Calling.{Step, value_refusal, refusal_step, Called}
use Rattle.runs.specs.Demand.{KeepsDemand, CarriesDemand, SharesAll}
use Rattle.runs.specs.Omitting.{KeepsOmits, CalledEither, CarriesOmits}
use Rattle.runs.specs.Sides.{side_of}
use Rattle.runs.specs.private.Either.{CalledOf}
use Rattle.runs.specs.private.Working.{stop_reply, chain_with}
use Rattle.runs.specs.private.Listing.{turned_rows}
use Rattle.runs.specs.private.Sided.{Reports}
use Rattle.runs.specs.declared.engine.Stop.{Stop}
use Rattle.runs.specs.declared.engine.Stop.TheVariants.{HandedOut, Spent, End}
use Rattle.runs.specs.declared.engine.Report.{Report}
use Rattle.runs.proofs.SideCalls.{Told, told_refused, told-handed, told-other, promise}
use Rattle.runs.proofs.Sides.{Ladder, gauge_chain, case_chain}
use Rattle.runs.proofs.Demands.{Starts, StartsAll}
use Rattle.runs.proofs.Starting.{gauge_started, case_started, promised}

-- ---- what holds of a side and a value, and of a step, holds at equal ones
pub at_side : (P : (Table → Side) → Value → Type 0) {a b : Bool} {u v : Value} → a ≡ b → u ≡ v → P (side_of a) u → P (side_of b) v
at_side P d e h = rw (← d, ← e) h

pub step_at_side : (P : (Table → Side) → Value → Step → Type 0) {a b : Bool} {u v : Value} {r s : Step} → a ≡ b → u ≡ v → r ≡ s
    → P (side_of a) u r → P (side_of b) v s
step_at_side P d e f h = rw (← d, ← e, ← f) h

side_all : (b : Bool) (t : Table) → length t.rows ≡ 64 → StartsAll (side_of b) t
side_all false t n = gauge_started t n
side_all true t n = case_started t n

pub side_started : (b : Bool) (v : Value) → length v.table.rows ≡ 64 → length v.order ≡ 64 → Starts (side_of b) v
side_started b v n l = side_all b v.table n v.order l

pub side_few : (b : Bool) (v : Value) → Starts (side_of b) v → value_refusal (side_of b) v ≡ 0 → (side_of b v.table).count ≤ 64
side_few false v s z = (s z).legal.gauges_high
side_few true v s z = (s z).legal.cases_high

-- ---- a fresh start
-- what is promised of the value v that it returns
abbrev pub Promised : (Table → Side) → Table → List ℕ → Bool → Value → Type 0
Promised side t k omit v = (omit ≡ false → KeepsDemand side t k v) × ((omit ≡ false → SharesAll side t k v) × (omit ≡ true → KeepsOmits side t k v))

pub side_promised : (b : Bool) (t : Table) (k : List ℕ) (omit : Bool) → length t.rows ≡ 64 → length k ≡ 64 → (v : Value)
    → (preferred_refusal t (side_of b t).count k ≡ 0 → v ≡ paused t k omit fresh) → Promised (side_of b) t k omit v
side_promised b t k omit n l v h = promised (side_of b) t k omit n (side_all b t n) l v h

-- ---- a call
pub record Promises (b : Bool) (v : Value) (budget : ℕ) (r : Step) : Type 0 where
  pub called : Called (side_of b) v budget r
  pub demand : CarriesDemand (side_of b) v budget r
  pub either : CalledEither (side_of b) v budget r
  pub omits : CarriesOmits (side_of b) v budget r

side_fair : (b : Bool) (t : Table) → Legal t → Fair t (side_of b t)
side_fair false t l = gauge_fair t l
side_fair true t l = case_fair t l

side_low : (b : Bool) (t : Table) → Legal t → (side_of b t).count ≤ 64
side_low false t l = l.gauges_high
side_low true t l = l.cases_high

side_ladder : (b : Bool) (t : Table) → Legal t → (p chain : List ℕ) → chain ≡ padded (chain_of (side_of b t).rows p)
    → Ladder t (side_of b t) p (turned_rows b t.cases t.gauges chain)
side_ladder false t l p chain e = gauge_chain t l p chain e
side_ladder true t l p chain e = case_chain t l p chain _ e refl

-- what the core's call was told, as the answer of the run
module _ (b : Bool) (v : Value) (budget : ℕ) (chain picks : List ℕ) (size : length v.table.rows ≡ 64) (long : length v.order ≡ 64) where
  told_side : (o : Result Report Refusal) → Reports (side_of b) v budget chain picks o → Told (side_of b) v budget chain picks o
  told_side o h = record { size = size; long = long; fair = side_fair b v.table; few = side_low b v.table; reports = h }

  promises : (r : Step) → CalledOf (side_of b) v budget r → Promises b v budget r
  promises r c =
      let p = promise (side_of b) v budget r (side_started b v size long) c in
      record { called = p.0; demand = p.1.0; either = p.1.1.0; omits = p.1.1.1 }

  pub side_refused : (why : Refusal) → Reports (side_of b) v budget chain picks (Err why) → Promises b v budget (refusal_step (number why))
  side_refused why h = promises _ (told_refused (side_of b) v budget chain picks why (told_side (Err why) h))

  module _ (o : Report) (h : Reports (side_of b) v budget chain picks (Ok o)) (f : Phase) (ef : f ≡ mode_phase o.spot.mode) (k : List ℕ) (ek : k ≡ picks) where
    told_ok : Told (side_of b) v budget chain picks (Ok o)
    told_ok = told_side (Ok o) h

    abbrev goes_on : Value
    goes_on = record { table = v.table; order = v.order; picks = k; count = o.spot.count; phase = f; omit = v.omit }

    pub side_handed : (c : Chain) → c ≡ chain_with v.table.gauges (turned_rows b v.table.cases v.table.gauges chain) → (p : List ℕ) → p ≡ picks
        → o.outcome ≡ HandedOut → Promises b v budget (record { answer = handed (chain_rows c); moves = o.moves; chain = c; picks = p; next = goes_on })
    side_handed c d p ep e =
        rw (ek, ep)
        (promises _ (told-handed (side_of b) v budget chain picks o told_ok f ef c _ d e (λ l q w. side_ladder b v.table l q chain w)))

    other : (c : Chain) → c ≡ blank_chain → (x : Stop) → o.outcome ≡ x → (x ≡ HandedOut → ⊥)
        → Promises b v budget (record { answer = stop_reply x (chain_rows c); moves = o.moves; chain = c; picks = no_numbers; next = goes_on })
    other c d x e out =
        rw ek
        (subst (λ (y : Stop). Promises b v budget (record {
          answer = stop_reply y (chain_rows c);
          moves = o.moves;
          chain = c;
          picks = no_numbers;
          next = record { table = v.table; order = v.order; picks = picks; count = o.spot.count; phase = f; omit = v.omit };
        })) e
        (promises _ (told-other (side_of b) v budget chain picks o told_ok f ef c d (λ w. out (sym e ∙ w)))))

    pub side_spent : o.outcome ≡ Spent
        → Promises b v budget (record { answer = spent; moves = o.moves; chain = blank_chain; picks = no_numbers; next = goes_on })
    side_spent e = other blank_chain refl Spent e (λ w. clash cc)

    pub side_over : o.outcome ≡ End → Promises b v budget (record { answer = end; moves = o.moves; chain = blank_chain; picks = no_numbers; next = goes_on })
    side_over e = other blank_chain refl End e (λ w. clash cc)
