-- The checks of a value by a run call without a budget, which makes no move (`spent-at`): what its outcome says where the call is refused
-- (`call-refuses`), where the phase does not fit, and where nothing is refused (`phase-refuses`, `nothing-refuses`); and the checks at one phase
-- (`checks_at`, of Down and Handed `checks_down` and `checks_handed`). What a refused number and what 0 say: `never-at`, `passes_at`, `some_at`.
--
-- Pins, which nothing else cites: `phase-refuses`, `nothing-refuses`; the check finds the two goals that they say by itself.
use mathlib.Core.Path.{◌≡◌, refl, sym, ap, ◌∙◌, subst}
use mathlib.Core.Bool.{Bool, true, false}
use mathlib.Core.List.{List}
use Prim.Native.Nat.{ℕ, ◌<◌}
use native.Mathlib.Decide.{ℕ_discrete}
use native.Mathlib.Omega.{arith}
use Rattle.basics.proofs.Clash.{clash}
use Rattle.table.specs.declared.Table.{Table}
use Rattle.rules.specs.Machine.{Phase, Down, Handed, Back, Ended, State, at}
use Rattle.rules.specs.Calls.{refused, spent, Call}
use Rattle.rules.proofs.Calls.{within_by}
use Rattle.lists.specs.Lists.{Side}
use Rattle.lists.specs.OnTable.{hand_out}
use Rattle.runs.specs.Paused.{Value, numbered}
use Rattle.runs.specs.Calling.{Step, told, held, value_refusal, PausedAt}
use Rattle.runs.specs.Omitting.{moves_of}
use Rattle.runs.specs.Sides.{ChecksAt}
use Rattle.runs.specs.private.Either.{CalledOf}
use Rattle.runs.specs.private.Checks.{is_down, is_handed, ChecksPhase}

module _ (side : Table → Side) (v : Value) where
  abbrev t : Table
  t = v.table

  abbrev Passes : Type 0
  Passes = value_refusal side v ≡ 0

  -- ---- a call without a budget
  module _ (r : Step) (called : CalledOf side v 0 r) (fits : Bool) where
    spent-at : Passes → (s : State) → PausedAt side v s → r.answer ≡ spent
    spent-at z s p =
        ap (λ (x : Step). x.answer) (called.rules z s p)
        ∙ ap (λ (x : Call). (told t (side t) v.order v.omit x).answer)
        (within_by (moves_of t (side t) (held side v) v.omit) (hand_out (side t)) 0 s (omega arith))

    by_number : (n m : ℕ) → r.answer ≡ refused n → r.answer ≡ refused m → n ≡ m
    by_number n m a b = cc

    never_both : (n : ℕ) {P : Type 0} → r.answer ≡ refused n → r.answer ≡ spent → P
    never_both n a b = clash cc

    pub call-refuses : (n : ℕ) → r.answer ≡ refused n → ChecksPhase side v fits n
    call-refuses n e =
        let none : Passes → (s : State) → PausedAt side v s → ⊥ = λ z s p. never_both n e (spent-at z s p) in
        let n15 : Passes → n ≡ 15 = λ z. by_number n 15 e (ap (λ (y : Step). y.answer) (called.value z (none z))) in record {
          table = λ l. by_number n (value_refusal side v) e (ap (λ (y : Step). y.answer) (called.table l));
          value = λ z n. n15 z;
          other = λ f z. n15 z;
          stands = λ f z s p. absurd (none z s p);
        }

    -- a call that is not refused leaves 15, where the phase does not fit, and nothing
    module _ (unrefused : (n : ℕ) → r.answer ≡ refused n → ⊥) where
      passes : Passes
      passes = go (ℕ_discrete (value_refusal side v) 0)
        where
          go : Dec Passes → Passes
          go (yes e) = e
          go (no e) = absurd (unrefused (value_refusal side v) (ap (λ (x : Step). x.answer) (called.table (omega arith))))

      pub phase-refuses : fits ≡ false → ChecksPhase side v fits 15
      phase-refuses f = record {
        table = λ l. absurd (omega (arith, passes));
        value = λ z n. refl;
        other = λ e z. refl;
        stands = λ e z s p. let y : true ≡ false = sym e ∙ f in clash cc;
      }

      pub nothing-refuses : fits ≡ true → ChecksPhase side v fits 0
      nothing-refuses f = record {
        table = λ l. absurd (omega (arith, passes));
        value = λ z n. absurd (unrefused 15 (ap (λ (x : Step). x.answer) (called.value z n)));
        other = λ e z. let y : true ≡ false = sym f ∙ e in clash cc;
        stands = λ e z s p. refl;
      }

  -- ---- at the phase f, which `is` tells from the others
  checks_at : (is : Phase → Bool) (f : Phase) → is (numbered f) ≡ true → ((g : Phase) → is (numbered g) ≡ true → g ≡ f) → (n : ℕ) (fits : Bool)
      → fits ≡ is v.phase → ChecksPhase side v fits n → ChecksAt side v f n
  checks_at is f own only n fits e c = record {
    table = c.table;
    value = λ z none. go z none fits refl;
    stands = λ z p h. c.stands (e ∙ ap (λ (y : Value). is y.phase) h.stands ∙ own) z (at p f) h;
  }
    where
      here : (s : State) → PausedAt side v s → fits ≡ true → PausedAt side v (at s.picks f)
      here s h d =
          subst (λ (g : Phase). PausedAt side v (at s.picks g)) (only s.phase (sym (ap (λ (y : Value). is y.phase) h.stands) ∙ sym e ∙ d)) h

      go : Passes → ((p : List ℕ) → PausedAt side v (at p f) → ⊥) → (b : Bool) → fits ≡ b → n ≡ 15
      go z none false d = c.other d z
      go z none true d = c.value z (λ s h. none s.picks (here s h d))

  pub checks_down : (n : ℕ) (fits : Bool) → fits ≡ is_down v.phase → ChecksPhase side v fits n → ChecksAt side v Down n
  checks_down n fits e c = checks_at is_down Down refl only n fits e c
    where
      only : (g : Phase) → is_down (numbered g) ≡ true → g ≡ Down
      only Down d = refl
      only Handed d = clash cc
      only (Back k) d = clash cc
      only Ended d = clash cc

  pub checks_handed : (n : ℕ) (fits : Bool) → fits ≡ is_handed v.phase → ChecksPhase side v fits n → ChecksAt side v Handed n
  checks_handed n fits e c = checks_at is_handed Handed refl only n fits e c
    where
      only : (g : Phase) → is_handed (numbered g) ≡ true → g ≡ Handed
      only Down d = clash cc
      only Handed d = refl
      only (Back k) d = clash cc
      only Ended d = clash cc

  -- ---- what the number says
  module _ (f : Phase) (n : ℕ) (c : ChecksAt side v f n) where
    pub never-at : 0 < n → Passes → (p : List ℕ) → PausedAt side v (at p f) → ⊥
    never-at l z p h = omega (arith, c.stands z p h)

    pub passes_at : n ≡ 0 → Passes
    passes_at e = go (ℕ_discrete (value_refusal side v) 0)
      where
        go : Dec Passes → Passes
        go (yes d) = d
        go (no d) = let l : 0 < value_refusal side v = omega arith in absurd (omega (arith, c.table l))

    -- it cannot be that there is no state
    pub some_at : n ≡ 0 → ((p : List ℕ) → PausedAt side v (at p f) → ⊥) → ⊥
    some_at e none = omega (arith, c.value (passes_at e) none)
