-- There is an answer of a call for every value of 64 rows and 64 numbers and every budget, on either side (`called_exists`): whether the value is the
-- paused value of a reached state is decided. That there is no other is `called_unique` in runs/proofs/Readings.antt. And an answer is either a refusal or
-- that of moves (`called_cases`).
--
-- Elsewhere: the decision, `paused_decided` in runs/proofs/Deciding.antt.
use mathlib.Core.Path.{◌≡◌, refl, sym, ap, ◌∙◌}
use mathlib.Core.Logic.{◌⊎◌, inl, inr}
use Prim.Native.Nat.{ℕ, ◌≤◌}
use native.Mathlib.Decide.{ℕ_discrete, dec_le}
use native.Mathlib.Omega.{arith}
use lib.ListN.{length}
use Rattle.table.specs.declared.Table.{Table}
use Rattle.rules.specs.Machine.{State, Move}
use Rattle.rules.specs.Calls.{most_budget}
use Rattle.rules.proofs.Calls.{above_by}
use Rattle.lists.specs.Lists.{Side}
use Rattle.lists.specs.OnTable.{hand_out}
use Rattle.runs.specs.Paused.{Value}
use Rattle.runs.specs.Calling.{Step, refusal_step, told, held, value_refusal, PausedAt}
use Rattle.runs.specs.private.Either.{call_of, CalledOf}
use Rattle.runs.specs.Omitting.{moves_of}
use Rattle.runs.proofs.Answered.{paused_state, called_refused}
use Rattle.runs.proofs.Deciding.{paused_decided}
use Rattle.c_runs.proofs.Sides.{Startable}

module _ (side : Table → Side) (v : Value) where
  abbrev here : Side
  here = side v.table

  -- the answer r of moves from the state that v is paused at
  pub record Moved (b : ℕ) (r : Step) : Type 0 where
    pub state : State
    pub passed : value_refusal side v ≡ 0
    pub paused_at : PausedAt side v state
    pub within : b ≤ most_budget
    pub is : r ≡ told v.table here v.order v.omit (call_of v.table here (held side v) v.omit b state)

  pub called_cases : Startable side → length v.table.rows ≡ 64 → length v.order ≡ 64 → (b : ℕ) (r : Step) → CalledOf side v b r
      → ((m : ℕ) × ¬ (m ≡ 0) × (r ≡ refusal_step m)) ⊎ Moved b r
  called_cases all rows long b r c = go (ℕ_discrete (value_refusal side v) 0)
    where
      by_state : value_refusal side v ≡ 0 → ((s : State) × PausedAt side v s) ⊎ ((s : State) → PausedAt side v s → ⊥) → Dec (b ≤ most_budget)
          → ((m : ℕ) × ¬ (m ≡ 0) × (r ≡ refusal_step m)) ⊎ Moved b r
      by_state z (inl (s, p)) (yes l) = inr (record { state = s; passed = z; paused_at = p; within = l; is = c.rules z s p })
      by_state z (inl (s, p)) (no l) =
          let mv : State → Move = moves_of v.table here (held side v) v.omit in
          inl (
            18,
            λ d. omega (arith, d),
            c.rules z s p ∙ ap (told v.table here v.order v.omit) (above_by mv (hand_out here) b s (omega arith)),
          )
      by_state z (inr none) d = inl (15, λ d. omega (arith, d), c.value z none)

      go : Dec (value_refusal side v ≡ 0) → ((m : ℕ) × ¬ (m ≡ 0) × (r ≡ refusal_step m)) ⊎ Moved b r
      go (no z) = inl (value_refusal side v, z, c.table (omega (arith, z)))
      go (yes z) = by_state z (paused_decided side v (all v.table rows v.order long z)) (dec_le b most_budget)

  pub called_exists : Startable side → length v.table.rows ≡ 64 → length v.order ≡ 64 → (b : ℕ) → (r : Step) × CalledOf side v b r
  called_exists all rows long b = go (ℕ_discrete (value_refusal side v) 0)
    where
      -- what the rules give from the state s
      by : State → Step
      by s = told v.table here v.order v.omit (call_of v.table here (held side v) v.omit b s)

      by_state : value_refusal side v ≡ 0 → ((s : State) × PausedAt side v s) ⊎ ((s : State) → PausedAt side v s → ⊥) → (r : Step) × CalledOf side v b r
      by_state z (inl (s, p)) = (
        by s,
        record {
          table = λ l. absurd (omega (arith, z));
          value = λ e none. absurd (none s p);
          rules = λ e x q. ap by (paused_state v.table v.order v.omit s x (sym p.stands ∙ q.stands));
        },
      )
      by_state z (inr none) = (
        refusal_step 15,
        record { table = λ l. absurd (omega (arith, z)); value = λ e n. refl; rules = λ e s p. absurd (none s p) },
      )

      go : Dec (value_refusal side v ≡ 0) → (r : Step) × CalledOf side v b r
      go (no z) = (
        refusal_step (value_refusal side v),
        called_refused side v b (value_refusal side v) refl (omega (arith, z)) (refusal_step (value_refusal side v)) refl,
      )
      go (yes z) = by_state z (paused_decided side v (all v.table rows v.order long z))
