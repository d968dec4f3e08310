-- The machine of a tree reaches its end from every valid sequence Down (`leads-end`), so calls of one move each reach
-- an answer of end, also where the run hands over the kept sets alone (`keeping-ends`): a part of a run that omits is
-- closed by some list of calls.
use mathlib.Core.Path.{◌≡◌, refl, sym, ap, ◌∙◌}
use mathlib.Core.Bool.{Bool}
use mathlib.Core.List.{List, [], Memᴰ}
use Prim.Native.Nat.{ℕ, zero, suc, ◌+◌, ◌-◌, ◌≤◌}
use native.Mathlib.Nat.{zero-add, suc-add}
use native.Mathlib.Decide.{dec_le}
use native.Mathlib.Omega.{arith}
use Rattle.basics.proofs.Clash.{clash}
use Rattle.rules.specs.Machine.{Down, Ended, State, at, fresh}
use Rattle.rules.specs.ByNumber.{move, after, Reached}
use Rattle.rules.specs.Calls.{end, Call, calls_by}
use Rattle.rules.specs.Keeping.{move_keeping}
use Rattle.rules.specs.private.Fitting.{Valid}
use Rattle.rules.proofs.Trees.{Tree}
use Rattle.rules.proofs.Reach.{reachable}
use Rattle.rules.proofs.Keeping.{single, ends_from}

module _ (kids : List ℕ → List ℕ) where
  after_add : (j k : ℕ) (s : State) → after kids (j + k) s ≡ after kids k (after kids j s)
  after_add zero k s = rw zero-add
  after_add (suc j) k s = rw suc-add (after_add j k (move kids s).next)

  stays_ended : (k : ℕ) → after kids k (at [] Ended) ≡ at [] Ended
  stays_ended zero = refl
  stays_ended (suc k) = stays_ended k

  module _ (n : ℕ) (t : Tree kids n) where
    leads-end : (q : List ℕ) → Valid kids q → (k : ℕ) × (after kids k (at q Down) ≡ at [] Ended)
    leads-end q v = go (dec_le here.count last.count)
      where
        here : Reached kids (at q Down)
        here = (reachable kids n t (at q Down)).1 v

        last : Reached kids (at [] Ended)
        last = (reachable kids n t (at [] Ended)).1 refl

        go : Dec (here.count ≤ last.count) → (k : ℕ) × (after kids k (at q Down) ≡ at [] Ended)
        go (yes l) =
            let e : here.count + (last.count - here.count) ≡ last.count = omega arith in (
              last.count - here.count,
              ap (after kids (last.count - here.count)) (sym here.leads) ∙ sym (after_add here.count (last.count - here.count) fresh)
                  ∙ ap (λ (j : ℕ). after kids j fresh) e ∙ last.leads,
            )
        go (no l) =
            let e : last.count + (here.count - last.count) ≡ here.count = omega arith in
            let d : at q Down ≡ at [] Ended =
            sym here.leads ∙ ap (λ (j : ℕ). after kids j fresh) (sym e) ∙ after_add last.count (here.count - last.count) fresh
            ∙ ap (after kids (here.count - last.count)) last.leads ∙ stays_ended (here.count - last.count) in
            let f = ap (λ (x : State). x.phase) d in
            clash cc

    -- one move a call
    pub keeping-ends : (out : List ℕ → List ℕ) (keep : List ℕ → Bool) (q : List ℕ) → Valid kids q
        → (bs : List ℕ) × (c : Call) × Memᴰ c (calls_by (move_keeping (move kids) out keep) out bs (at q Down)) × (c.answer ≡ end)
    keeping-ends out keep q v =
        let k = leads-end q v in
        let r = ends_from kids out keep n t k.0 (at q Down) k.1 in
        (single kids out keep n t (suc k.0), r.0, r.1, r.2)
