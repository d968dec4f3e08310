-- The moves of a call, one after the other: the first m of b moves, and what the call gives after a hand-out, an end,
-- or the budget; first by any rule for moves, then by the core's, which omits a hand-out that is not handed over.
use mathlib.Core.Path.{◌≡◌, sym, ap, ◌∙◌, subst, fun_ext}
use mathlib.Core.Bool.{Bool, true, false, not, cond}
use mathlib.Core.List.{List}
use Prim.Native.Nat.{ℕ, suc, ◌+◌, ◌-◌, ◌<◌}
use native.Mathlib.Omega.{arith}
use lib.Bits.{bit_and}
use lib.Dec.{eqb}
use lib.ListN.{length, take, get_or, length-take}
use Rattle.basics.proofs.Clash.{clash}
use Rattle.table.specs.Tables.{padded}
use Rattle.table.proofs.Padding.{pad_get_or}
use Rattle.sets.specs.Lists.{all_below}
use Rattle.rules.specs.Machine.{State, Move, gives, nothing, hands, ends}
use Rattle.rules.specs.ByNumber.{move}
use Rattle.rules.specs.Calls.{Call, result, proceed_by, carry_by}
use Rattle.lists.specs.ByNumber.{candidates}
use Rattle.lists.specs.OnTable.{chain_of}
use Rattle.runs.specs.private.Working.{Sized, later, Ahead, ComesOut, state_of, Holds, SteppedBy, Stepped, Advanced, apart, hands_over, move_by}
use Rattle.runs.specs.declared.engine.Stop.TheVariants.{HandedOut, End}
use Rattle.runs.specs.declared.engine.Spot.{Spot}
use Rattle.runs.specs.declared.engine.Moved.{Moved}
use Rattle.runs.specs.declared.engine.Moved.TheVariants.{On, Out, Over}

module _ (mv : State → Move) where
  -- one move of the rest of the budget
  carry_step : (out : List ℕ → List ℕ) (b m : ℕ) (y : State) (o : Move) → m < b → mv y ≡ o
      → carry_by mv out (b - m) y ≡ proceed_by mv out (carry_by mv out (b - (m + 1))) o.given o.next
  carry_step out b m y o l e =
      let d : b - m ≡ suc (b - (m + 1)) = omega arith in
      ap (λ (n : ℕ). carry_by mv out n y) d ∙ ap (λ (z : Move). proceed_by mv out (carry_by mv out (b - (m + 1))) z.given z.next) e

  ahead_more : {b m : ℕ} {x y : State} (z : State) → Ahead mv b m x y → m < b → mv y ≡ gives nothing z → Ahead mv b (m + 1) x z
  ahead_more {b} {m} {x} {y} z a l e = record {
    most = omega arith;
    onward = λ out.
        let c : Call = carry_by mv out (b - (m + 1)) z in
        let d : m + suc c.moves ≡ (m + 1) + c.moves = omega arith in
        a.onward out ∙ ap (later m) (carry_step out b m y (gives nothing z) l e)
        ∙ ap (λ (k : ℕ). result c.answer k c.next) d;
  }

  ahead_out : {b m : ℕ} {x y : State} (z : State) → Ahead mv b m x y → m < b → mv y ≡ gives (hands z.picks) z → ComesOut mv b x HandedOut (m + 1) z
  ahead_out {b} {m} {x} {y} z a l e out =
      a.onward out ∙ ap (later m) (carry_step out b m y (gives (hands z.picks) z) l e)

  ahead_over : {b m : ℕ} {x y : State} (z : State) → Ahead mv b m x y → m < b → mv y ≡ gives ends z → ComesOut mv b x End (m + 1) z
  ahead_over {b} {m} {x} {y} z a l e out =
      a.onward out ∙ ap (later m) (carry_step out b m y (gives ends z) l e)

-- ---- the core's rule, by what rules 1 to 5 give
module _ (r w : List ℕ) (y z : State) where
  on_by : (omit : Bool) → move (candidates r) y ≡ gives nothing z → move_by r omit w y ≡ gives nothing z
  unfolding move_by
  on_by false e = e
  on_by true e = rw e

  over_by : (omit : Bool) → move (candidates r) y ≡ gives ends z → move_by r omit w y ≡ gives ends z
  unfolding move_by
  over_by false e = e
  over_by true e = rw e

  module _ (e : move (candidates r) y ≡ gives (hands z.picks) z) where
    out-by : (omit : Bool) → hands_over omit (length r) w (chain_of r z.picks) ≡ true → move_by r omit w y ≡ gives (hands z.picks) z
    unfolding move_by
    out-by false d = e
    out-by true d = rw (e, d)

    omit-by : (omit : Bool) → hands_over omit (length r) w (chain_of r z.picks) ≡ false → move_by r omit w y ≡ gives nothing z
    unfolding move_by hands_over
    omit-by false d = clash cc
    omit-by true d = rw (e, d)

-- the array of the chain is asked for the chain
asked_same : (omit : Bool) (n : ℕ) (w c x : List ℕ) → c ≡ padded x → hands_over omit n w c ≡ hands_over omit n w x
unfolding hands_over apart
asked_same omit n w c x e =
    ap (λ (f : ℕ → Bool). cond omit (not (all_below f n)) true)
    (fun_ext (λ i. ap (λ (v : ℕ). eqb (bit_and v (get_or w i 0)) 0) (ap (λ (l : List ℕ). get_or l i 0) e ∙ pad_get_or x i)))

-- ---- as the loop has it: the state of the spot, and the move that it made
module _ (n : ℕ) (rows : List ℕ) (omit : Bool) (w : List ℕ) where
  abbrev mvs : State → Move
  mvs = move_by (take n rows) omit w

  module _ (c k : List ℕ) (b m : ℕ) (x y : State) (a : Ahead mvs b m x y) (l : m < b) where
    abbrev Made : Moved → Type 0
    Made o = Stepped n rows c k (move (candidates (take n rows)) y) o

    made_as : (o z : Moved) → o ≡ z → Made o → SteppedBy n rows c k (move (candidates (take n rows)) y) z
    made_as o z e h = subst (SteppedBy n rows c k (move (candidates (take n rows)) y)) e h.says

    pub turn_on : (s : Spot) (o : Moved) → o ≡ On s → Made o → Holds n rows c k s × Ahead mvs b (m + 1) x (state_of k s)
    turn_on s o e h =
        let v = made_as o (On s) e h in
        (v.1, ahead_more mvs (state_of k s) a l (on_by (take n rows) w y (state_of k s) omit v.0))

    pub turn-over : (s : Spot) (o : Moved) → o ≡ Over s → Made o → Advanced mvs n rows c k b x (record { outcome = End; moves = m + 1; spot = s })
    turn-over s o e h =
        let v = made_as o (Over s) e h in
        record { comes = ahead_over mvs (state_of k s) a l (over_by (take n rows) w y (state_of k s) omit v.0); holds = v.1 }

    -- a hand-out, and what was asked of its chain
    module _ (z : Sized n rows) (s : Spot) (o : Moved) (e : o ≡ Out s) (h : Made o) (g : Bool) (d : g ≡ hands_over omit n w c) where
      abbrev made : SteppedBy n rows c k (move (candidates (take n rows)) y) (Out s)
      made = made_as o (Out s) e h

      asked : g ≡ hands_over omit (length (take n rows)) w (chain_of (take n rows) (state_of k s).picks)
      asked =
          let q : n ≡ length (take n rows) = omega (arith, z.few, z.size, length-take n rows) in
          d ∙ asked_same omit n w c (chain_of (take n rows) (state_of k s).picks) made.1.chained
          ∙ ap (λ (i : ℕ). hands_over omit i w (chain_of (take n rows) (state_of k s).picks)) q

      pub turn-out : g ≡ true → Advanced mvs n rows c k b x (record { outcome = HandedOut; moves = m + 1; spot = s })
      turn-out f =
          record { comes = ahead_out mvs (state_of k s) a l (out-by (take n rows) w y (state_of k s) made.0 omit (sym asked ∙ f)); holds = made.1 }

      pub turn-past : g ≡ false → Holds n rows c k s × Ahead mvs b (m + 1) x (state_of k s)
      turn-past f = (made.1, ahead_more mvs (state_of k s) a l (omit-by (take n rows) w y (state_of k s) made.0 omit (sym asked ∙ f)))
