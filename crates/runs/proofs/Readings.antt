-- The contracts leave one answer: no two steps are what `CalledEither` says of one value and budget (`called_unique`), nor, where the run omits
-- nothing, what `Called` says (`called_plain_unique`), and no two answers of the code read alike (`side_value_injective`,
-- `side_start_injective`, `side_step_injective`). For `Called` two steps that are not different are equal, since each field of a step is decided.
--
-- Pins, which nothing else cites: `case_value_injective`, `called_plain_unique`, `gauge_started_injective`, `case_started_injective`, `gauge_step_injective`,
-- `case_step_injective`, `gauge_call_unique`, `case_call_unique`.
use Rattle.std.specs.Prelude.{Result, Ok, Err}
use Rattle.refusals.specs.declared.Refusal.{Refusal}
use mathlib.Core.Path.{◌≡◌, refl, sym, ap, ap₂, ◌∙◌}
use mathlib.Core.Bool.{Bool, false}
use mathlib.Core.List.{List, [], ◌∷◌, List-discrete}
use Prim.Native.Nat.{ℕ}
use native.Mathlib.Decide.{ℕ_discrete}
use native.Mathlib.Omega.{arith}
use lib.ListN.{get_or}
use Rattle.basics.proofs.Clash.{clash}
use Rattle.refusals.specs.Answers.{Answer as Reading, number as number_of}
use Rattle.table.specs.declared.Table.{Table}
use Rattle.table.specs.declared.Chain.{Chain}
use Rattle.refusals.proofs.Answering.{named, named-number, number_pos}
use Rattle.rules.specs.Machine.{State}
use Rattle.rules.specs.Calls.{Reply, refused, spent, handed, end}
use Rattle.lists.specs.Lists.{Side, gauge_side, case_side}
use Rattle.table.specs.declared.Gauge.{Gauge}
use Rattle.table.specs.declared.Case.{Case}
use Rattle.preference.specs.declared.Order.{Order}
use Rattle.runs.specs.declared.Phase.{Phase as Stage}
use Rattle.runs.specs.declared.Phase.TheVariants.{Down as down, Handed as stage_handed, Back as back, Ended as ended}
use Rattle.runs.specs.declared.paused.Picks.{Picks}
use Rattle.runs.specs.declared.paused.Run.{Run}
use Rattle.runs.specs.declared.paused.Ladder.{Ladder}
use Rattle.runs.specs.declared.paused.Outcome.{Outcome}
use Rattle.runs.specs.declared.paused.Outcome.TheVariants.{HandedOut, Spent, End}
use Rattle.runs.specs.declared.paused.Step.{Step as CallStep}
use Rattle.runs.specs.Paused.{Value, phase_of, value_of, gauge_value, case_value, start_of}
use Rattle.runs.specs.Calling.{Step, outcome, chain_out, picks_out, step_of, value_refusal, PausedAt, Called}
use Rattle.runs.specs.Omitting.{CalledEither}
use Rattle.runs.specs.private.Either.{CalledOf}
use Rattle.runs.proofs.Answered.{called_of_both, called_plain}
use Rattle.runs.proofs.Values.{settled, value_settled}

-- ---- an answer from its kind and its numbers
kind : Reply → ℕ
kind (refused n) = 0
kind spent = 1
kind (handed x) = 2
kind end = 3

numbers : Reply → List ℕ
numbers (refused n) = n ∷ []
numbers spent = []
numbers (handed x) = x
numbers end = []

answer_of : ℕ → List ℕ → Reply
answer_of k x = get_or (refused (get_or x 0 0) ∷ spent ∷ handed x ∷ end ∷ []) k end

answer_of_lem : (a : Reply) → answer_of (kind a) (numbers a) ≡ a
unfolding answer_of kind numbers
answer_of_lem (refused n) = refl
answer_of_lem spent = refl
answer_of_lem (handed x) = refl
answer_of_lem end = refl

-- ---- steps, field by field
step_same : (a b : Reply) (k l : ℕ) (c d : Chain) (p q : List ℕ) (v w : Value) → a ≡ b → k ≡ l → c ≡ d → p ≡ q → v ≡ w
    → ◌≡◌ {A = Step} (record { answer = a; moves = k; chain = c; picks = p; next = v }) (record { answer = b; moves = l; chain = d; picks = q; next = w })
step_same a b k l c d p q v w x y z o u = rw (x, y, z, o, u)

-- two steps that are not different are equal
step_settled : (r q : Step) → ¬ ¬ (r ≡ q) → r ≡ q
step_settled r q n =
    step_same r.answer q.answer r.moves q.moves r.chain q.chain r.picks q.picks r.next q.next
    (sym (answer_of_lem r.answer) ∙ ap₂ answer_of (number (λ x. kind x.answer)) (list (λ x. numbers x.answer)) ∙ answer_of_lem q.answer)
    (number (λ x. x.moves))
    (ap₂ (λ (g : ℕ) (rows : List ℕ). record { gauges = g; rows = rows }) (number (λ x. x.chain.gauges)) (list (λ x. x.chain.rows)))
    (list (λ x. x.picks))
    (value_settled r.next q.next (λ d. n (λ e. d (ap (λ (x : Step). x.next) e))))
  where
    number : (f : Step → ℕ) → f r ≡ f q
    number f = settled n f (ℕ_discrete (f r) (f q))

    list : (f : Step → List ℕ) → f r ≡ f q
    list f = settled n f (List-discrete ℕ_discrete (f r) (f q))

of_unique : (side : Table → Side) (v : Value) (b : ℕ) (r q : Step) → CalledOf side v b r → CalledOf side v b q → r ≡ q
of_unique side v b r q a c = step_settled r q (λ n. go n (ℕ_discrete (value_refusal side v) 0))
  where
    go : ¬ (r ≡ q) → Dec (value_refusal side v ≡ 0) → ⊥
    go n (no z) = n (a.table (omega (arith, z)) ∙ sym (c.table (omega (arith, z))))
    go n (yes z) =
        let none : (s : State) → PausedAt side v s → ⊥ = λ s p. n (a.rules z s p ∙ sym (c.rules z s p)) in
        n (a.value z none ∙ sym (c.value z none))

pub called_unique : (side : Table → Side) (v : Value) (b : ℕ) (r q : Step) → CalledEither side v b r → CalledEither side v b q → r ≡ q
called_unique side v b r q a c = of_unique side v b r q (called_of_both side v b r a) (called_of_both side v b q c)

-- of a value whose run omits nothing, by what `Called` says alone
pub called_plain_unique : (side : Table → Side) (v : Value) (b : ℕ) (r q : Step) → v.omit ≡ false → Called side v b r → Called side v b q → r ≡ q
called_plain_unique side v b r q e a c = of_unique side v b r q (called_plain side v b r e a) (called_plain side v b q e c)

-- ---- no two answers read alike, of a side whose numbers are its own
number_injective : (x y : Refusal) → number_of x ≡ number_of y → x ≡ y
number_injective x y e = sym (named-number x) ∙ ap named e ∙ named-number y

order_same : {S : Type 0} (o r : Order S) → o.numbers ≡ r.numbers → o ≡ r
order_same o r e = ap (λ (k : List ℕ). record { numbers = k; side = o.side }) e

pub picks_same : {S : Type 0} (o r : Picks S) → o.numbers ≡ r.numbers → o ≡ r
picks_same o r e = ap (λ (k : List ℕ). record { numbers = k; side = o.side }) e

module _ {S : Type 0} (n : S → ℕ) (own : (x y : S) → n x ≡ n y → x ≡ y) where
  phase_injective : (f g : Stage S) → phase_of n f ≡ phase_of n g → f ≡ g
  phase_injective down down e = refl
  phase_injective down stage_handed e = clash cc
  phase_injective down (back y) e = clash cc
  phase_injective down ended e = clash cc
  phase_injective stage_handed down e = clash cc
  phase_injective stage_handed stage_handed e = refl
  phase_injective stage_handed (back y) e = clash cc
  phase_injective stage_handed ended e = clash cc
  phase_injective (back x) down e = clash cc
  phase_injective (back x) stage_handed e = clash cc
  phase_injective (back x) (back y) e = let d : n x ≡ n y = cc in ap back (own x y d)
  phase_injective (back x) ended e = clash cc
  phase_injective ended down e = clash cc
  phase_injective ended stage_handed e = clash cc
  phase_injective ended (back y) e = clash cc
  phase_injective ended ended e = refl

  run_same : (t u : Table) (k l : Order S) (p q : Picks S) (c d : ℕ) (f g : Stage S) (a b : Bool) → t ≡ u → k ≡ l → p ≡ q → c ≡ d → f ≡ g → a ≡ b
      → ◌≡◌ {A = Run S} (record { table = t; order = k; picks = p; count = c; phase = f; omit = a })
      (record { table = u; order = l; picks = q; count = d; phase = g; omit = b })
  run_same t u k l p q c d f g a b x y z w v o = rw (x, y, z, w, v, o)

  pub side_value_injective : (p q : Run S) → value_of n p ≡ value_of n q → p ≡ q
  side_value_injective p q e =
      run_same p.table q.table p.order q.order p.picks q.picks p.count q.count p.phase q.phase p.omit q.omit
      (ap (λ (v : Value). v.table) e)
      (order_same p.order q.order (ap (λ (v : Value). v.order) e))
      (picks_same p.picks q.picks (ap (λ (v : Value). v.picks) e))
      (ap (λ (v : Value). v.count) e)
      (phase_injective p.phase q.phase (ap (λ (v : Value). v.phase) e))
      (ap (λ (v : Value). v.omit) e)

  pub side_start_injective : (s z : Result (Run S) Refusal) → start_of n s ≡ start_of n z → s ≡ z
  side_start_injective (Ok p) (Ok q) e = ap Ok (side_value_injective p q (ap (λ (a : Reading Value). a.value) e))
  side_start_injective (Ok p) (Err y) e =
      let d : 0 ≡ number_of y = ap (λ (a : Reading Value). a.refusal) e in absurd (omega (arith, d, number_pos y))
  side_start_injective (Err x) (Ok q) e =
      let d : number_of x ≡ 0 = ap (λ (a : Reading Value). a.refusal) e in absurd (omega (arith, d, number_pos x))
  side_start_injective (Err x) (Err y) e = ap Err (number_injective x y (ap (λ (a : Reading Value). a.refusal) e))

  ladder_same : (k l : Ladder S) → k.chain ≡ l.chain → k.picks ≡ l.picks → k ≡ l
  ladder_same k l d e = ap₂ (λ (c : Chain) (p : Picks S). record { chain = c; picks = p }) d e

  outcome_injective : (o p : Outcome S) → outcome o ≡ outcome p → chain_out o ≡ chain_out p → picks_out o ≡ picks_out p → o ≡ p
  outcome_injective (HandedOut k) (HandedOut l) e d f = ap HandedOut (ladder_same k l d (picks_same k.picks l.picks f))
  outcome_injective (HandedOut k) Spent e d f = clash cc
  outcome_injective (HandedOut k) End e d f = clash cc
  outcome_injective Spent (HandedOut l) e d f = clash cc
  outcome_injective Spent Spent e d f = refl
  outcome_injective Spent End e d f = clash cc
  outcome_injective End (HandedOut l) e d f = clash cc
  outcome_injective End Spent e d f = clash cc
  outcome_injective End End e d f = refl

  never_refused : (o : Outcome S) (k : ℕ) {P : Type 0} → outcome o ≡ refused k → P
  never_refused (HandedOut l) k e = clash cc
  never_refused Spent k e = clash cc
  never_refused End k e = clash cc

  call_same : (o p : Outcome S) (k l : ℕ) (r q : Run S) → o ≡ p → k ≡ l → r ≡ q
      → ◌≡◌ {A = CallStep S} (record { outcome = o; moves = k; next = r }) (record { outcome = p; moves = l; next = q })
  call_same o p k l r q x y z = rw (x, y, z)

  pub side_step_injective : (r q : Result (CallStep S) Refusal) → step_of n r ≡ step_of n q → r ≡ q
  side_step_injective (Ok r) (Ok q) e =
      ap Ok
      (call_same r.outcome q.outcome r.moves q.moves r.next q.next
      (outcome_injective r.outcome q.outcome (ap (λ (s : Step). s.answer) e) (ap (λ (s : Step). s.chain) e) (ap (λ (s : Step). s.picks) e))
      (ap (λ (s : Step). s.moves) e)
      (side_value_injective r.next q.next (ap (λ (s : Step). s.next) e)))
  side_step_injective (Ok r) (Err y) e = never_refused r.outcome (number_of y) (ap (λ (s : Step). s.answer) e)
  side_step_injective (Err x) (Ok q) e = never_refused q.outcome (number_of x) (sym (ap (λ (s : Step). s.answer) e))
  side_step_injective (Err x) (Err y) e =
      let d : refused (number_of x) ≡ refused (number_of y) = ap (λ (s : Step). s.answer) e in
      let f : number_of x ≡ number_of y = cc in ap Err (number_injective x y f)

  -- so a run call has one answer
  call_unique : (side : Table → Side) (v : Value) (b : ℕ) (r q : Result (CallStep S) Refusal) → CalledEither side v b (step_of n r)
      → CalledEither side v b (step_of n q)
      → r ≡ q
  call_unique side v b r q a c = side_step_injective r q (called_unique side v b (step_of n r) (step_of n q) a c)

-- ---- of each side
pub gauge_own : (x y : Gauge) → x.0 ≡ y.0 → x ≡ y
gauge_own x y e = ap (λ (k : ℕ). record { 0 = k }) e

pub case_own : (x y : Case) → x.0 ≡ y.0 → x ≡ y
case_own x y e = ap (λ (k : ℕ). record { 0 = k }) e

pub gauge_value_injective : (p q : Run Gauge) → gauge_value p ≡ gauge_value q → p ≡ q
gauge_value_injective = side_value_injective (λ x. x.0) gauge_own

pub case_value_injective : (p q : Run Case) → case_value p ≡ case_value q → p ≡ q
case_value_injective = side_value_injective (λ x. x.0) case_own

pub gauge_call_unique : (v : Value) (b : ℕ) (r q : Result (CallStep Gauge) Refusal) → CalledEither gauge_side v b (step_of (λ x. x.0) r)
    → CalledEither gauge_side v b (step_of (λ x. x.0) q)
    → r ≡ q
gauge_call_unique = call_unique (λ x. x.0) gauge_own gauge_side

pub case_call_unique : (v : Value) (b : ℕ) (r q : Result (CallStep Case) Refusal) → CalledEither case_side v b (step_of (λ x. x.0) r)
    → CalledEither case_side v b (step_of (λ x. x.0) q)
    → r ≡ q
case_call_unique = call_unique (λ x. x.0) case_own case_side

pub gauge_started_injective : (s z : Result (Run Gauge) Refusal) → start_of (λ x. x.0) s ≡ start_of (λ x. x.0) z → s ≡ z
gauge_started_injective = side_start_injective (λ x. x.0) gauge_own

pub case_started_injective : (s z : Result (Run Case) Refusal) → start_of (λ x. x.0) s ≡ start_of (λ x. x.0) z → s ≡ z
case_started_injective = side_start_injective (λ x. x.0) case_own

pub gauge_step_injective : (r q : Result (CallStep Gauge) Refusal) → step_of (λ x. x.0) r ≡ step_of (λ x. x.0) q → r ≡ q
gauge_step_injective = side_step_injective (λ x. x.0) gauge_own

pub case_step_injective : (r q : Result (CallStep Case) Refusal) → step_of (λ x. x.0) r ≡ step_of (λ x. x.0) q → r ≡ q
case_step_injective = side_step_injective (λ x. x.0) case_own
