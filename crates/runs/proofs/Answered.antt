-- From the core's words to the public ones, for either side: a value of which the core says that it represents a
-- state is the paused value of a reached state; refusals and fresh starts. A call that is not refused is in
-- SideCalls.antt.
--
-- Pins, which nothing else cites: `refusal_step_lem`.
use mathlib.Core.Path.{◌≡◌, refl, sym, ap, ◌∙◌}
use mathlib.Core.Bool.{Bool, true, false}
use mathlib.Core.List.{List, map}
use Prim.Native.Nat.{ℕ, suc, ◌<◌}
use native.Mathlib.Omega.{arith}
use lib.ListN.{length}
use Rattle.table.specs.Tables.{padded, blank_chain}
use Rattle.table.specs.declared.Chain.{Chain}
use Rattle.refusals.specs.Answers.{number, answer}
use Rattle.refusals.specs.declared.Refusal.{Refusal}
use Rattle.refusals.proofs.Answering.{answer-refused}
use Rattle.table.specs.declared.Table.{Table}
use Rattle.rules.specs.Machine.{Phase, State, fresh}
use Rattle.lists.specs.Lists.{Side}
use Rattle.lists.specs.OnTable.{ReachedOn}
use Rattle.rules.specs.Calls.{refused}
use Rattle.runs.specs.Paused.{Value, numbered, paused, blank_value, no_numbers}
use Rattle.runs.specs.Calling.{Step, refusal_step, told, held, value_refusal, PausedAt, Called}
use Rattle.runs.specs.Omitting.{CalledEither}
use Rattle.runs.specs.private.Either.{call_of, CalledOf}
use Rattle.runs.specs.private.Working.{StandsBy}
use Rattle.runs.proofs.Holding.{state_by_lem}

-- ---- a paused value has one state
pub paused_state : (t : Table) (k : List ℕ) (omit : Bool) (s z : State) → paused t k omit s ≡ paused t k omit z → s ≡ z
paused_state t k omit s z e =
    let v = paused t k omit s in
    sym (state_by_lem v.picks v.count v.phase s refl refl refl)
    ∙ state_by_lem v.picks v.count v.phase z (ap (λ (y : Value). y.picks) e) (ap (λ (y : Value). y.count) e) (ap (λ (y : Value). y.phase) e)

-- a value that represents a state, in the core's words and in the public ones
module _ (side : Table → Side) (v : Value) where
  abbrev t : Table
  t = v.table

  abbrev Stands : State → Type 0
  Stands s = StandsBy (ReachedOn (side t) (held side v)) v.picks v.count v.phase s

  pub stands_paused : (s : State) → Stands s → PausedAt side v s
  stands_paused s h = record { reached = h.fits; stands = same v.picks v.count v.phase h.picked h.counted h.phased }
    where
      same : (k : List ℕ) (n : ℕ) (f : Phase) → k ≡ padded (map suc s.picks) → n ≡ length s.picks → f ≡ numbered s.phase
          → record { table = t; order = v.order; picks = k; count = n; phase = f; omit = v.omit } ≡ paused t v.order v.omit s
      same k n f a c d = rw (a, c, d)

  pub paused_stands : (s : State) → PausedAt side v s → Stands s
  paused_stands s h = record {
    picked = ap (λ (y : Value). y.picks) h.stands;
    counted = ap (λ (y : Value). y.count) h.stands;
    phased = ap (λ (y : Value). y.phase) h.stands;
    fits = h.reached;
  }

pub called_refused : (side : Table → Side) (v : Value) (b n : ℕ) → n ≡ value_refusal side v → 0 < n → (r : Step) → r ≡ refusal_step n → CalledOf side v b r
called_refused side v b n e l r d = record {
  table = λ w. d ∙ ap refusal_step e;
  value = λ z m. absurd (omega (arith, e, z));
  rules = λ z s p. absurd (omega (arith, e, z));
}

-- the promises of both kinds of run are one
module _ (side : Table → Side) (v : Value) (b : ℕ) (r : Step) where
  abbrev by_kind : Bool → State → Step
  by_kind x s = told v.table (side v.table) v.order x (call_of v.table (side v.table) (held side v) x b s)

  pub called_both : CalledOf side v b r → CalledEither side v b r
  called_both c = record {
    called = record {
      table = c.table;
      value = c.value;
      rules = λ e z s p. c.rules z s p ∙ ap (λ (x : Bool). by_kind x s) e;
    };
    rules = λ e z s p. c.rules z s p ∙ ap (λ (x : Bool). by_kind x s) e;
  }

  pub called_of_both : CalledEither side v b r → CalledOf side v b r
  called_of_both c = record { table = c.called.table; value = c.called.value; rules = λ z s p. go v.omit refl z s p }
    where
      go : (x : Bool) → v.omit ≡ x → value_refusal side v ≡ 0 → (s : State) → PausedAt side v s → r ≡ by_kind v.omit s
      go false e z s p = c.called.rules e z s p ∙ ap (λ (x : Bool). by_kind x s) (sym e)
      go true e z s p = c.rules e z s p ∙ ap (λ (x : Bool). by_kind x s) (sym e)

  -- and of a value whose run omits nothing `Called` is all
  pub called_plain : v.omit ≡ false → Called side v b r → CalledOf side v b r
  called_plain e c = record { table = c.table; value = c.value; rules = λ z s p. c.rules e z s p ∙ ap (λ (x : Bool). by_kind x s) (sym e) }

-- the step that a refusal reads as: its chain and its value are blank
pub refusal_step_lem : (n : ℕ) (c : Chain) (v : Value) → c ≡ blank_chain → v ≡ blank_value
    → record { answer = refused n; moves = 0; chain = c; picks = no_numbers; next = v } ≡ refusal_step n
refusal_step_lem n c v e w = rw (e, w)

-- ---- fresh starts
-- a refused start
pub start_refused : (x : Refusal) (n : ℕ) (t : Table) (k : List ℕ) (omit : Bool) (v : Value) → number x ≡ n → v ≡ blank_value
    → record { refusal = number x; value = v } ≡ answer n (paused t k omit fresh) blank_value
start_refused x n t k omit v e w =
    ap (λ (y : Value). record { refusal = number x; value = y }) w ∙ answer-refused x n (paused t k omit fresh) blank_value e
