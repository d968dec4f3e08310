-- A call on a value handed in that passed its checks: the moves that were made (`call_went`), as `CarriesOn` says it. And of any call, by any rule for
-- moves: it makes at most its budget of them (`carry_most`), which crates above cite too.
--
-- Pins, which nothing else cites: `may_go_on`.
use mathlib.Core.Path.{◌≡◌, refl, sym, ap, ◌∙◌, subst}
use mathlib.Core.List.{List}
use Prim.Native.Nat.{ℕ, zero, suc, ◌≤◌}
use native.Mathlib.Omega.{arith}
use lib.ListN.{take}
use Rattle.std.specs.Prelude.{Result, Ok}
use Rattle.basics.proofs.Clash.{clash}
use Rattle.refusals.specs.declared.Refusal.{Refusal}
use Rattle.rules.specs.Machine.{Phase, State, Given, nothing, hands, ends, Move}
use Rattle.rules.specs.Calls.{most_budget, proceed_by, carry_by}
use Rattle.runs.specs.private.Working.{Holds, state_of, ComesOut, Advanced, StandsFor, CarriesOn, Opens}
use Rattle.runs.specs.declared.engine.Spot.{Spot}
use Rattle.runs.specs.declared.engine.Report.{Report}
use Rattle.runs.proofs.Opening.{value_of}

module _ (mv : State → Move) (out : List ℕ → List ℕ) where
  pub carry_most : (b : ℕ) (s : State) → (carry_by mv out b s).moves ≤ b
  carry_most zero s = omega arith
  carry_most (suc b) s = go (mv s).given (carry_most b (mv s).next)
    where
      go : (g : Given) → (carry_by mv out b (mv s).next).moves ≤ b → (proceed_by mv out (carry_by mv out b) g (mv s).next).moves ≤ suc b
      go nothing h = omega arith
      go (hands p) h = omega arith
      go ends h = omega arith

module _ (n : ℕ) (rows k : List ℕ) (count : ℕ) (f : Phase) (b : ℕ) (c : List ℕ) (o : Result Spot Refusal) (h : Opens n rows k count f b c o) where
  -- from what was opened the moves may go on
  pub may_go_on : (x : Spot) → o ≡ Ok x → (b ≤ most_budget) × Holds n rows c k x
  may_go_on x e = h.holds x e

  -- the state of the spot that was opened
  pub opened_at : (x : Spot) → o ≡ Ok x → (s : State) → StandsFor (take n rows) k count f s → b ≤ most_budget → state_of k x ≡ s
  opened_at x e s y l = let (z, d, same) = h.opens s y l in ap (state_of k) (value_of (sym e ∙ d)) ∙ same

  pub call_went : (x : Spot) → o ≡ Ok x → (mv : State → Move) (c' k' : List ℕ) (r : Report)
      → Advanced mv n rows c' k' b (state_of k x) r → CarriesOn mv (take n rows) k count f b c' k' (Ok r)
  call_went x e mv c' k' r w = record {
    value = λ none. let d = sym e ∙ h.value none in clash cc;
    large = λ s y l. let d = sym e ∙ h.large s y l in clash cc;
    moves = λ s y l. (
      r,
      refl,
      record {
        to = state_of k' r.spot;
        comes = subst (λ (q : State). ComesOut mv b q r.outcome r.moves (state_of k' r.spot)) (opened_at x e s y l) w.comes;
        chained = w.holds.chained;
        stands = record { picked = w.holds.picked; counted = w.holds.counted; phased = w.holds.phased; fits = w.holds.fits };
      },
    );
  }
