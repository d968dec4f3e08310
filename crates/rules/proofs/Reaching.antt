-- A call leads from a state that is reached to one that is (`reached_call`), by any rule for moves, and so does a call of the run that hands over the
-- kept sets alone, whose moves lead to the same states (`reached_keeping`).
use mathlib.Core.Path.{◌≡◌, refl, ap, ◌∙◌}
use mathlib.Core.Bool.{Bool}
use mathlib.Core.List.{List}
use Prim.Native.Nat.{ℕ, zero, suc, ◌+◌, ◌≤◌}
use native.Mathlib.Nat.{zero-add, suc-add}
use native.Mathlib.Decide.{dec_le}
use native.Mathlib.Omega.{arith}
use Rattle.rules.specs.Machine.{State, fresh, Move, after_by, ReachedBy}
use Rattle.rules.specs.Calls.{Call, most_budget, call_by}
use Rattle.rules.specs.Keeping.{move_keeping}
use Rattle.rules.proofs.Calls.{above_by}
use Rattle.rules.proofs.Reports.{whole_by}

module _ (mv : State → Move) where
  after_add : (j k : ℕ) (s : State) → after_by mv (j + k) s ≡ after_by mv k (after_by mv j s)
  after_add zero k s = rw zero-add
  after_add (suc j) k s = rw suc-add (after_add j k (mv s).next)

  reached_more : (k : ℕ) (s : State) → ReachedBy mv s → ReachedBy mv (after_by mv k s)
  reached_more k s r = record { count = r.count + k; leads = after_add r.count k fresh ∙ ap (after_by mv k) r.leads }

  -- a call leads to the state after some moves
  call_leads : (out : List ℕ → List ℕ) (b : ℕ) (s : State) → (k : ℕ) × ((call_by mv out b s).next ≡ after_by mv k s)
  call_leads out b s = go (dec_le b most_budget)
    where
      go : Dec (b ≤ most_budget) → (k : ℕ) × ((call_by mv out b s).next ≡ after_by mv k s)
      go (yes l) = ((call_by mv out b s).moves, (whole_by mv out b s l).leads)
      go (no l) = (0, ap (λ (c : Call). c.next) (above_by mv out b s (omega arith)))

  pub reached_call : (out : List ℕ → List ℕ) (b : ℕ) (s : State) → ReachedBy mv s → ReachedBy mv (call_by mv out b s).next
  reached_call out b s r =
      let k = call_leads out b s in
      rw k.1 (reached_more k.0 s r)

-- ---- the run that omits
keeping_after : (mv : State → Move) (out : List ℕ → List ℕ) (keep : List ℕ → Bool) (k : ℕ) (s : State) → after_by (move_keeping mv out keep) k s ≡ after_by mv k s
keeping_after mv out keep zero s = refl
keeping_after mv out keep (suc k) s = keeping_after mv out keep k (mv s).next

pub reached_keeping : (mv : State → Move) (out : List ℕ → List ℕ) (keep : List ℕ → Bool) (to : List ℕ → List ℕ) (b : ℕ) (s : State) → ReachedBy mv s
    → ReachedBy mv (call_by (move_keeping mv out keep) to b s).next
reached_keeping mv out keep to b s r =
    let k = call_leads (move_keeping mv out keep) to b s in
    rw (k.1 ∙ keeping_after mv out keep k.0 s) (reached_more mv k.0 s r)
