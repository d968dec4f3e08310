-- Whether a paused value of either side is one that has handed out a ladder is decided (`handed_decided`), and it is
-- so by one list of picks only (`picks_one`).
--
-- Elsewhere: the same in any phase, `paused_decided` in runs/proofs/Deciding.antt.
use mathlib.Core.Path.{◌≡◌, refl, sym, ap, ◌∙◌, subst}
use mathlib.Core.Logic.{◌⊎◌, inl, inr}
use mathlib.Core.List.{List}
use Prim.Native.Nat.{ℕ}
use Rattle.basics.proofs.Clash.{clash}
use Rattle.table.specs.declared.Table.{Table}
use Rattle.rules.specs.Machine.{Phase, Down, Handed, Back, Ended, State, at}
use Rattle.lists.specs.Lists.{Side}
use Rattle.runs.specs.Paused.{Value}
use Rattle.runs.specs.Calling.{PausedAt}
use Rattle.runs.proofs.Answered.{paused_state}
use Rattle.runs.proofs.Deciding.{paused_decided}
use Rattle.runs.proofs.Demands.{Started}

is_handed_lem : (f : Phase) → Dec (f ≡ Handed)
is_handed_lem Down = no (λ e. clash cc)
is_handed_lem Handed = yes refl
is_handed_lem (Back k) = no (λ e. clash cc)
is_handed_lem Ended = no (λ e. clash cc)

module _ (side : Table → Side) (v : Value) where
  -- a value represents one state
  state_one : (s z : State) → PausedAt side v s → PausedAt side v z → s ≡ z
  state_one s z h k = paused_state v.table v.order v.omit s z (sym h.stands ∙ k.stands)

  pub picks_one : (p q : List ℕ) → PausedAt side v (at p Handed) → PausedAt side v (at q Handed) → p ≡ q
  picks_one p q h k = ap (λ (x : State). x.picks) (state_one (at p Handed) (at q Handed) h k)

  pub handed_decided : Started side v.table v.order → Dec ((q : List ℕ) × PausedAt side v (at q Handed))
  handed_decided g = go (paused_decided side v g)
    where
      by-phase : (s : State) → PausedAt side v s → Dec (s.phase ≡ Handed) → Dec ((q : List ℕ) × PausedAt side v (at q Handed))
      by-phase s h (yes e) = yes (s.picks, subst (PausedAt side v) (ap (at s.picks) e) h)
      by-phase s h (no n) = no (λ k. n (ap (λ (x : State). x.phase) (state_one s (at k.0 Handed) h k.1)))

      go : ((s : State) × PausedAt side v s) ⊎ ((s : State) → PausedAt side v s → ⊥) → Dec ((q : List ℕ) × PausedAt side v (at q Handed))
      go (inl (s, h)) = by-phase s h (is_handed_lem s.phase)
      go (inr none) = no (λ k. none (at k.0 Handed) k.1)
