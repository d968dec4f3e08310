-- The checks of a value handed in, put together as `Opens` says it: which test failed (`open_filled`, `open-replay`, `open-phase`, `open_budget`), or the
-- spot that holds (`open-spot`); `Passed` is that none failed.
use mathlib.Core.Path.{◌≡◌, refl, ap, ◌∙◌, subst}
use mathlib.Core.Bool.{Bool, false}
use mathlib.Core.List.{List, map}
use Prim.Native.Nat.{ℕ, ◌-◌, ◌≤◌, ◌<◌}
use native.Mathlib.Omega.{arith}
use lib.ListN.{length, take}
use Rattle.basics.proofs.Clash.{clash}
use Rattle.table.specs.Tables.{padded}
use Rattle.refusals.specs.declared.Refusal.{Refusal}
use Rattle.refusals.specs.declared.Refusal.TheVariants.{NotReached, BudgetTooLarge}
use Rattle.rules.specs.Machine.{Phase, State, at}
use Rattle.rules.specs.Calls.{most_budget}
use Rattle.lists.specs.OnTable.{chain_of}
use Rattle.search.specs.Finding.{within}
use Rattle.search.proofs.Within.{length-within}
use Rattle.std.specs.Prelude.{Option, Some, None, Result, Ok, Err}
use Rattle.replay.specs.Picked.{array_rows, Made, Replays}
use Rattle.replay.specs.declared.Replayed.{Replayed}
use Rattle.replay.proofs.Numbers.{places_numbers}
use Rattle.runs.specs.Paused.{mode_phase}
use Rattle.runs.specs.private.Working.{Sized, placed, places_of, HoldsAt, Laying, DecidedBy, filled, PhaseIn, StandsFor, Opens, Holds}
use Rattle.runs.specs.declared.Phase.{Phase as Stage}
use Rattle.runs.specs.declared.engine.Spot.{Spot}
use Rattle.runs.proofs.Holding.{stands_unique, state_is, holds_own}
use Rattle.runs.proofs.Checking.{Front, stands-filled, stands-picked, made_front, no-phase, legal-of}

-- what was given, out of its mark
pub value_of : {A : Type 0} {x y : A} → ◌≡◌ {A = Result A Refusal} (Ok x) (Ok y) → x ≡ y
value_of e = cc

-- ---- 15
module _ (n : ℕ) (rows k : List ℕ) (count : ℕ) (f : Phase) (b : ℕ) (z : Sized n rows) (size : length k ≡ 64)
    (c' : List ℕ) where
  unreached : ((s : State) → StandsFor (take n rows) k count f s → ⊥) → Opens n rows k count f b c' (Err NotReached)
  unreached h = record {
    value = λ none. refl;
    large = λ s l. absurd (h s l);
    opens = λ s l. absurd (h s l);
    holds = λ x e. clash cc;
  }

  pub open_filled : (t : ℕ) → t ≡ filled k 64 → ¬ (t ≡ count) → Opens n rows k count f b c' (Err NotReached)
  open_filled t d x = unreached (λ s l. x (d ∙ stands-filled n rows k count f z size s l))

  module _ (r : Option Replayed) (d : Replays n rows k count r) where
    pub open-replay : r ≡ None → Opens n rows k count f b c' (Err NotReached)
    open-replay x = unreached (λ y l. d.no x y.picks (stands-picked n rows k count f z size y l))

    pub open-phase : (s : Replayed) → r ≡ Some s → (t : Bool) → DecidedBy (PhaseIn (within s.unpicked rows) s.left count f) t → t ≡ false → Opens n rows k count f b c' (Err NotReached)
    open-phase s ok t p x =
        unreached (no-phase n rows k count f z size (within s.unpicked rows) s.left (made_front n rows k count f z size s (d.yes s ok)) (p.no x))

-- ---- every test passed
pub record Passed (n : ℕ) (rows k : List ℕ) (count : ℕ) (m : Stage ℕ) (s : Replayed) : Type 0 where
  pub sized : Sized n rows
  pub places : length k ≡ 64
  pub full : filled k 64 ≡ count
  pub made : Made (array_rows n rows) k count s
  pub phase : PhaseIn (within s.unpicked rows) s.left count (mode_phase m)

module _ (n : ℕ) (rows k : List ℕ) (count : ℕ) (m : Stage ℕ) (b : ℕ) (s : Replayed) (h : Passed n rows k count m s) where
  abbrev r : List ℕ
  r = take n rows

  abbrev f : Phase
  f = mode_phase m

  abbrev u : List ℕ
  u = within s.unpicked rows

  front : Front r u k count s.left
  front = made_front n rows k count f h.sized h.places s h.made

  from : State
  from = at front.picks (placed f)

  legal : StandsFor r k count f from
  unfolding from
  legal = legal-of n rows k count f h.sized h.places u s.left front h.full h.phase

  pub open_budget : (c' : List ℕ) → most_budget < b → Opens n rows k count f b c' (Err BudgetTooLarge)
  open_budget c' l = record {
    value = λ none. absurd (none from legal);
    large = λ x y w. refl;
    opens = λ x y w. absurd (omega arith);
    holds = λ x e. clash cc;
  }

  -- ---- the spot
  abbrev spot : Spot
  spot = record { count = count; unpicked = s.unpicked; left = s.left; mode = m }

  pub may_lay : Laying n rows k count
  may_lay = record { picks = front.picks; numbers = front.numbers; counted = front.counted; valid = front.valid }

  module _ (c : List ℕ) (laid : c ≡ padded (chain_of r (places_of k count))) where
    standing : HoldsAt r u c k spot from
    unfolding from
    standing = record {
      after = front.after;
      size = length-within s.unpicked rows;
      chained = laid ∙ ap (λ (p : List ℕ). padded (chain_of r p)) (ap (map (λ x. x - 1)) front.numbers ∙ places_numbers front.picks);
      picked = legal.picked;
      counted = legal.counted;
      phased = legal.phased;
      fits = legal.fits;
    }

    pub open-spot : b ≤ most_budget → Opens n rows k count f b c (Ok spot)
    open-spot l = record {
      value = λ none. absurd (none from legal);
      large = λ x y w. absurd (omega arith);
      opens = λ x y w. (spot, refl, state_is standing ∙ stands_unique r k count f from x legal y);
      holds = λ x e. (l, subst (Holds n rows c k) (value_of e) (holds_own standing));
    }
