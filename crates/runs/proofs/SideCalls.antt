-- A run call of either side, put together from what the core reports under the value's preference: which refusal, or
-- the moves with the chain by gauge rows and the next value (`call_answer`), and the three answers of the functions
-- above the core. Each promises demand 3, or what is promised of the runs that omit, beside (`promise`).
use mathlib.Core.Path.{◌≡◌, refl, sym, ap, ◌∙◌, subst}
use mathlib.Core.Bool.{Bool, true, false}
use mathlib.Core.List.{List, [], map}
use Prim.Native.Nat.{ℕ, suc, ◌≤◌, ◌<◌}
use native.Mathlib.Decide.{dec_le, dec_lt}
use native.Mathlib.Omega.{arith}
use lib.ListN.{length, take}
use Rattle.basics.proofs.Clash.{clash}
use Rattle.refusals.specs.Answers.{number}
use Rattle.std.specs.Prelude.{Result, Ok, Err}
use Rattle.table.specs.Tables.{Legal, chain_rows, blank_chain, table_refusal, padded}
use Rattle.table.proofs.Legality.{legal_of}
use Rattle.refusals.proofs.Answering.{number_pos}
use Rattle.table.specs.declared.Table.{Table}
use Rattle.table.specs.declared.Chain.{Chain}
use Rattle.refusals.specs.declared.Refusal.{Refusal}
use Rattle.rules.specs.Machine.{Phase, State, Move}
use Rattle.rules.specs.Calls.{handed, most_budget}
use Rattle.rules.proofs.Calls.{above_by, within_by}
use Rattle.lists.specs.Arrangements.{IsArrangement}
use Rattle.lists.specs.Lists.{Side}
use Rattle.lists.specs.OnTable.{chain_of, hand_out, ReachedOn}
use Rattle.lists.proofs.BothSides.{Fair}
use Rattle.runs.specs.Paused.{Value, numbered, paused, mode_phase, no_numbers}
use Rattle.preference.specs.Preferences.{is_preference}
use Rattle.preference.proofs.Holding.{preference_of}
use Rattle.preference.proofs.Placing.{both_pass, preference_refused, table_first_lem}
use Rattle.runs.specs.Calling.{Step, refusal_step, sequence, arrangement, by_rules, told, held, Called}
use Rattle.runs.specs.private.Working.{stop_reply}
use Rattle.runs.specs.Demand.{CarriesDemand}
use Rattle.runs.specs.private.Either.{call_of, CalledOf}
use Rattle.runs.specs.Omitting.{moves_of}
use Rattle.runs.specs.Omitting.{CalledEither, CarriesOmits}
use Rattle.runs.specs.private.Sided.{Reports}
use Rattle.runs.specs.private.Working.{StandsBy, WentBy, CarriesBy, InOrder, next_of, step_by}
use Rattle.runs.specs.declared.engine.Stop.{Stop}
use Rattle.runs.specs.declared.engine.Stop.TheVariants.{HandedOut, Spent, End}
use Rattle.runs.specs.declared.engine.Report.{Report}
use Rattle.runs.proofs.Opening.{value_of}
use Rattle.runs.proofs.Padding.{take-padded}
use Rattle.runs.proofs.Answered.{called_both, stands_paused, paused_stands, called_refused}
use Rattle.runs.proofs.Sides.{Ladder}
use Rattle.runs.proofs.HandOuts.{sequence_of_lem, handed_out}
use Rattle.runs.proofs.Demands.{Starts, carries_demand, carries_omits}

-- an outcome that is no hand-out
abbrev pub NotHanded : Stop → Type 0
NotHanded o = o ≡ HandedOut → ⊥

-- the report of moves as the public answer
abbrev handed_with : Table → List ℕ → Bool → Report → List ℕ → List ℕ → List ℕ → Step
handed_with t order omit o k rows picks = record {
  answer = handed (take t.gauges rows);
  moves = o.moves;
  chain = record { gauges = t.gauges; rows = rows };
  picks = picks;
  next = next_of t order omit o k;
}

by_moves : (t : Table) (s : Side) (order : List ℕ) (omit : Bool) (o : Report) (k rows x : List ℕ) (y : State) (oc : Stop)
    → (oc ≡ HandedOut → (rows ≡ padded x) × (length x ≡ t.gauges) × (k ≡ sequence s (arrangement s order) x))
    → next_of t order omit o k ≡ paused t order omit y
    → step_by t order omit o k rows oc ≡ by_rules t s order omit (stop_reply oc x) o.moves y
by_moves t s order omit o k rows x y HandedOut e w =
    let (a, n, q) = e refl in ap (handed_with t order omit o k rows) q ∙ rw (a, w, take-padded x t.gauges (sym n))
by_moves t s order omit o k rows x y Spent e w = rw w
by_moves t s order omit o k rows x y End e w = rw w

-- a call on the value v of a legal table, where the core left the chain c' and the picks k'
record Worked (side : Table → Side) (v : Value) (b : ℕ) (c' k' : List ℕ) (o : Result Report Refusal) : Type 0 where
  pub passed : table_refusal v.table ≡ 0
  pub fair : Fair v.table (side v.table)
  pub few : (side v.table).count ≤ 64
  pub long : length v.order ≡ 64
  pub ordered : InOrder (λ q. moves_of v.table (side v.table) q v.omit) (side v.table).count (side v.table).rows v.order v.picks
      v.count v.phase b c' k' o

-- the step that the answer o gives, with the chain by gauge rows
abbrev step_of : Value → List ℕ → List ℕ → Result Report Refusal → Step
step_of v k rows (Ok r) = step_by v.table v.order v.omit r k rows r.outcome
step_of v k rows (Err why) = refusal_step (number why)

-- where it hands out, the rows are those of the ladder
abbrev Shows : (Table → Side) → Value → List ℕ → List ℕ → Result Report Refusal → Type 0
Shows side v c' rows o = (r : Report) → o ≡ Ok r → r.outcome ≡ HandedOut → (p : List ℕ) → c' ≡ padded (chain_of (side v.table).rows p)
    → Ladder v.table (side v.table) p rows

module _ (side : Table → Side) (v : Value) (b : ℕ) (c' k' : List ℕ) (o : Result Report Refusal) (h : Worked side v b c' k' o) where
  abbrev t : Table
  t = v.table

  abbrev n : ℕ
  n = (side t).count

  abbrev q : List ℕ
  q = held side v

  abbrev mv : State → Move
  mv = moves_of t (side t) q v.omit

  abbrev step : List ℕ → Result Report Refusal → Step
  step rows = step_of v k' rows

  -- ---- the preference is none
  order_answer : is_preference n v.order ≡ false → (rows : List ℕ) (r : Step) → r ≡ step rows o → CalledOf side v b r
  order_answer z rows r e =
      called_refused side v b 27 (sym (preference_refused t n v.order h.passed z)) (omega arith) r (e ∙ ap (step rows) (h.ordered.none z))

  -- ---- it is one
  module _ (z : is_preference n v.order ≡ true) where
    arranged : IsArrangement n q
    arranged = (preference_of n v.order h.few h.long (rw z tt)).arranged

    carries : CarriesBy mv (ReachedOn (side t) q) (chain_of (side t).rows) v.picks v.count v.phase b c' k' o
    carries = h.ordered.carried z

    value-answer : (rows : List ℕ) → Shows side v c' rows o → (r : Step) → r ≡ step rows o → CalledOf side v b r
    value-answer rows chain r e = record {
      table = λ l. absurd (omega (arith, both_pass t n v.order h.passed z));
      value = λ y none. e ∙ ap (step rows) (carries.value (λ s l. none s (stands_paused side v s l)));
      rules = λ y s p. by-rules s (paused_stands side v s p) (dec_le b most_budget);
    }
      where
        by-rules : (s : State) → StandsBy (ReachedOn (side t) q) v.picks v.count v.phase s → Dec (b ≤ most_budget)
            → r ≡ told t (side t) v.order v.omit (call_of t (side t) q v.omit b s)
        by-rules s l (no y) =
            e ∙ ap (step rows) (carries.large s l (omega arith))
            ∙ sym (ap (told t (side t) v.order v.omit) (above_by mv (hand_out (side t)) b s (omega arith)))
        by-rules s l (yes y) =
            let (m, is, w) = carries.moves s l y in
            e
            ∙ ap (step rows) is
            ∙ by_moves t (side t) v.order v.omit m k' rows (hand_out (side t) w.to.picks) w.to m.outcome
            (λ d. let a = chain m is d w.to.picks w.chained in (a.rows_are, a.size, sequence-is m d w))
            (next-is m w.to w.stands)
            ∙ sym (ap (told t (side t) v.order v.omit) (within_by mv (hand_out (side t)) b s y ∙ w.comes (hand_out (side t))))
          where
            -- the picks that the core left are the pick sequence of the chain handed out
            sequence-is : (m : Report) → m.outcome ≡ HandedOut → (w : WentBy mv (ReachedOn (side t) q) (chain_of (side t).rows) b s c' k' m)
                → k' ≡ sequence (side t) q (hand_out (side t) w.to.picks)
            sequence-is m d w =
                w.stands.picked
                ∙ sequence_of_lem t (side t) h.fair q arranged w.to w.stands.fits
                (handed_out t (side t) q v.omit b s m.outcome m.moves w.to d (w.comes (hand_out (side t))))

            next-is : (m : Report) (y : State) → StandsBy (ReachedOn (side t) q) k' m.spot.count (mode_phase m.spot.mode) y
                → next_of t v.order v.omit m k' ≡ paused t v.order v.omit y
            next-is m y g = same m.spot.count (mode_phase m.spot.mode) k' g.picked g.counted g.phased
              where
                same : (c : ℕ) (f : Phase) (k : List ℕ) → k ≡ padded (map suc y.picks) → c ≡ length y.picks → f ≡ numbered y.phase
                    → record { table = t; order = v.order; picks = k; count = c; phase = f; omit = v.omit } ≡ paused t v.order v.omit y
                same c f k a d g = rw (a, d, g)

  -- what the core answers, whichever it is, is the answer of the call
  call_answer : (rows : List ℕ) → Shows side v c' rows o → (r : Step) → r ≡ step rows o → CalledOf side v b r
  call_answer rows chain r e = go (is_preference n v.order) refl
    where
      go : (x : Bool) → is_preference n v.order ≡ x → CalledOf side v b r
      go true z = value-answer z rows chain r e
      go false z = order_answer z rows r e

-- ---- what a call on any value is told, and its answers
pub record Told (side : Table → Side) (v : Value) (b : ℕ) (c' k' : List ℕ) (o : Result Report Refusal) : Type 0 where
  pub size : length v.table.rows ≡ 64
  pub long : length v.order ≡ 64
  pub fair : Legal v.table → Fair v.table (side v.table)
  pub few : Legal v.table → (side v.table).count ≤ 64
  pub reports : Reports side v b c' k' o

module _ (side : Table → Side) (v : Value) (b : ℕ) (c' k' : List ℕ) where
  legal : (o : Result Report Refusal) → Told side v b c' k' o → table_refusal v.table ≡ 0 → Legal v.table
  legal o h z = legal_of v.table h.size z

  worked : (o : Result Report Refusal) (h : Told side v b c' k' o) → table_refusal v.table ≡ 0 → Worked side v b c' k' o
  worked o h z = record { passed = z; fair = h.fair (legal o h z); few = h.few (legal o h z); long = h.long; ordered = h.reports.rules z }

  -- its table is refused, or the core worked
  by_table : (o : Result Report Refusal) → Told side v b c' k' o → (r : Step)
      → ((why : Refusal) → o ≡ Err why → number why ≡ table_refusal v.table → CalledOf side v b r)
      → (table_refusal v.table ≡ 0 → CalledOf side v b r) → CalledOf side v b r
  by_table o h r refuses works = go (dec_lt 0 (table_refusal v.table))
    where
      go : Dec (0 < table_refusal v.table) → CalledOf side v b r
      go (yes l) = let w = h.reports.table l in refuses w.0 w.1.0 w.1.1
      go (no n) = works (omega arith)

  pub told_refused : (why : Refusal) → Told side v b c' k' (Err why) → CalledOf side v b (refusal_step (number why))
  told_refused why h =
      by_table (Err why) h (refusal_step (number why))
      (λ w x n. let y : why ≡ w = cc in
      called_refused side v b (number why)
      (table_first_lem v.table (side v.table).count v.order (number why) (number_pos why) (ap number y ∙ n)) (number_pos why) _ refl)
      (λ z. call_answer side v b c' k' (Err why) (worked (Err why) h z) [] (λ r e. clash cc) _ refl)

  -- of a report
  module _ (o : Report) (h : Told side v b c' k' (Ok o)) (f : Phase) (ef : f ≡ mode_phase o.spot.mode) where
    abbrev after : Value
    after = record { table = v.table; order = v.order; picks = k'; count = o.spot.count; phase = f; omit = v.omit }

    told_as : (rows : List ℕ) → Shows side v c' rows (Ok o) → (r : Step) → r ≡ step_of v k' rows (Ok o) → CalledOf side v b r
    told_as rows chain r e =
        by_table (Ok o) h r (λ w x n. clash cc) (λ z. call_answer side v b c' k' (Ok o) (worked (Ok o) h z) rows chain r e)

    pub told-handed : (c : Chain) (rows : List ℕ) → c ≡ record { gauges = v.table.gauges; rows = rows } → o.outcome ≡ HandedOut
        → (Legal v.table → (p : List ℕ) → c' ≡ padded (chain_of (side v.table).rows p) → Ladder v.table (side v.table) p rows)
        → CalledOf side v b (record { answer = handed (chain_rows c); moves = o.moves; chain = c; picks = k'; next = after })
    told-handed c rows d e ladder =
        subst (λ (x : Chain). CalledOf side v b (record { answer = handed (chain_rows x); moves = o.moves; chain = x; picks = k'; next = after })) (sym d)
        (by_table (Ok o) h _ (λ w x n. clash cc)
        (λ z. call_answer side v b c' k' (Ok o) (worked (Ok o) h z) rows (λ r x y. ladder (legal (Ok o) h z)) _
        (rw ef (sym (ap (step_by v.table v.order v.omit o k' rows) e)))))

    pub told-other : (c : Chain) → c ≡ blank_chain → NotHanded o.outcome
        → CalledOf side v b (record { answer = stop_reply o.outcome (chain_rows c); moves = o.moves; chain = c; picks = no_numbers; next = after })
    told-other c ec other =
        told_as [] (λ r x e. absurd (other (ap (λ (y : Report). y.outcome) (value_of x) ∙ e))) _ (as_step o.outcome other)
      where
        as_step : (oc : Stop) → NotHanded oc
            → ◌≡◌ {A = Step} (record { answer = stop_reply oc (chain_rows c); moves = o.moves; chain = c; picks = no_numbers; next = after })
            (step_by v.table v.order v.omit o k' [] oc)
        as_step HandedOut d = absurd (d refl)
        as_step Spent d = rw (ec, ef)
        as_step End d = rw (ec, ef)

-- ---- what it is told: its table's refusal, or what the core gives

-- an answer that is what `CalledOf` says is what both kinds of run promise, and carries on demand 3, and what is
-- promised of the runs that omit
pub promise : (side : Table → Side) (v : Value) (b : ℕ) (r : Step) → Starts side v → CalledOf side v b r
    → Called side v b r × (CarriesDemand side v b r × (CalledEither side v b r × CarriesOmits side v b r))
promise side v b r f h =
    let c = called_both side v b r h in (c.called, (carries_demand side v b r f c.called, (c, carries_omits side v b r f c)))
