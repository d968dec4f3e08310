-- Checking a value handed in: the picks made again (crate `replay`), as many places filled as there are picks, and the phase, decide
-- whether it is the value of a state whose picks fit its phase (`StandsFor`).
use mathlib.Core.Path.{◌≡◌, refl, sym, ap, ap₂, ◌∙◌, subst}
use mathlib.Core.Bool.{Bool, true, false, not, ◌&&◌, cond}
use mathlib.Core.List.{List, [], ◌∷◌, map}
use Prim.Native.Nat.{ℕ, suc, ◌-◌, ◌≤◌, ◌<◌, min}
use native.Mathlib.Decide.{ℕ_discrete, dec_lt}
use native.Mathlib.Omega.{arith}
use lib.Dec.{not_T, ltb}
use lib.ListN.{length, get_or, take, length-take, get_or-eq_default}
use lib.Seq.{ext_get_or, get_or-take, length-take-le}
use borrow.Author.Tests.{lt-ltb, le-ltb}
use Rattle.basics.proofs.Clash.{clash}
use Rattle.table.proofs.Padding.{pad_get_or, pad_ext}
use Rattle.sets.specs.Sets.{bit}
use Rattle.sets.proofs.Tests.{is_true, is_false}
use Rattle.table.specs.Pairs.{row}
use Rattle.table.proofs.Places.{row_past}
use Rattle.rules.specs.Machine.{Phase, Down, Handed, Back, Ended, State, at}
use Rattle.rules.specs.private.Fitting.{Valid, Fits}
use Rattle.rules.proofs.Reach.{reachable}
use Rattle.lists.specs.PickSequence.{is_in}
use Rattle.lists.specs.ByNumber.{candidate, candidates}
use Rattle.lists.proofs.Candidates.{cand-of, of-cand, mem_candidates, no_candidate, none_candidate}
use Rattle.lists.proofs.CandidateTree.{candidate_tree}
use Rattle.search.specs.Finding.{candidate_in, within}
use Rattle.search.proofs.AfterPicks.{After, candidate_wide}
use Rattle.search.proofs.Within.{row_in, row_out}
use Rattle.runs.specs.Paused.{numbered, mode_phase}
use Rattle.runs.specs.private.Working.{Sized, placed, DecidedBy, filled, PhaseIn, StandsFor}
use Rattle.runs.specs.declared.Phase.{Phase as Stage}
use Rattle.runs.specs.declared.Phase.TheVariants.{Back as mode_back}
use Rattle.replay.specs.Picked.{array_rows, Picked, Made}
use Rattle.replay.specs.declared.Replayed.{Replayed}
use Rattle.replay.proofs.Going.{rows-length, row_side_lem, picked_few}
use Rattle.replay.proofs.Numbers.{length_numbers, get_or_numbers, numbers_same}
use Rattle.runs.proofs.Filled.{filled_most, filled_picks, rest_zero}
use Rattle.runs.proofs.Padding.{take-padded}
use Rattle.runs.proofs.Stepping.{side_length, side_rows}

-- the first `count` numbers in k are the picks p of the rows r, each a candidate after those before it; u has the rows of the unpicked
-- gauges
pub record Front (r u k : List ℕ) (count left : ℕ) : Type 0 where
  pub picks : List ℕ
  pub numbers : take count k ≡ map suc picks
  pub counted : count ≡ length picks
  pub valid : Valid (candidates r) picks
  pub after : After r picks u left

-- the rows of a side's array, by place
arrays_are : (n : ℕ) (rows : List ℕ) → Sized n rows → array_rows n rows ≡ take n rows
arrays_are n rows z =
    ext_get_or 0 (array_rows n rows) (take n rows) (rows-length n rows ∙ sym (length-take n rows ∙ ap (min n) z.size))
    (λ i l. go i (omega (arith, rows-length n rows)))
  where
    go : (i : ℕ) → i < min n 64 → get_or (array_rows n rows) i 0 ≡ get_or (take n rows) i 0
    go i l = row_side_lem n rows i l ∙ z.inside i ∙ sym (get_or-take n rows i 0 (omega arith))

-- ---- the whole value
module _ (n : ℕ) (rows k : List ℕ) (count : ℕ) (f : Phase) (z : Sized n rows) (size : length k ≡ 64) where
  abbrev side : List ℕ
  side = take n rows

  valid_of : (p : List ℕ) (g : Phase) → Fits (candidates side) p g → Valid (candidates side) p
  valid_of p Down v = v
  valid_of p Handed v = v.0
  valid_of p (Back i) v = v.0
  valid_of p Ended v = subst (Valid (candidates side)) (sym v) tt

  module _ (s : State) (l : StandsFor side k count f s) where
    legal-few : length s.picks ≤ 64
    legal-few = omega (arith, (candidate_tree side).depth s.picks (valid_of s.picks s.phase l.fits), side_length n rows z, z.few)

    legal-take : take count k ≡ map suc s.picks
    legal-take = ap (take count) l.picked ∙ take-padded (map suc s.picks) count (l.counted ∙ sym (length_numbers s.picks))

    pub stands-filled : filled k 64 ≡ count
    stands-filled = ap (λ (x : List ℕ). filled x 64) l.picked ∙ filled_picks s.picks legal-few ∙ sym l.counted

    pub stands-picked : Picked (array_rows n rows) k count s.picks
    stands-picked = rw (arrays_are n rows z) (record {
      counted = sym l.counted;
      numbers = λ i y. ap (λ (x : List ℕ). get_or x i 0) l.picked ∙ pad_get_or (map suc s.picks) i ∙ get_or_numbers s.picks i (omega (arith, l.counted));
      reached = (reachable (candidates side) (length side) (candidate_tree side) (at s.picks Down)).1 (valid_of s.picks s.phase l.fits);
    })

  -- picks that are made again
  pub made_front : (s : Replayed) → Made (array_rows n rows) k count s → Front side (within s.unpicked rows) k count s.left
  made_front s m = record {
    picks = m.picks;
    numbers =
        ext_get_or 0 (take count k) (map suc m.picks) (length-take-le count k (omega (arith, few)) ∙ sym (length_numbers m.picks ∙ m.given.counted))
        (λ i l.
        get_or-take count k i 0 (low i l) ∙ m.given.numbers i (low i l) ∙ sym (get_or_numbers m.picks i (omega (arith, low i l, m.given.counted))));
    counted = sym m.given.counted;
    valid = (reachable (candidates side) (length side) (candidate_tree side) (at m.picks Down)).0 (rw (arrays_are n rows z) at m.given.reached);
    after = record { entry = λ h. entry h (is_in h m.picks) refl (dec_lt h (length side)); remains = rw (arrays_are n rows z) at m.left };
  }
    where
      few : count ≤ 64
      few = picked_few n rows k count m.picks m.given

      low : (i : ℕ) → i < length (take count k) → i < count
      low i l = omega (arith, length-take-le count k (omega (arith, few)))

      bits : (h : ℕ) → bit s.unpicked h ≡ (ltb h (length side) && not (is_in h m.picks))
      bits h = rw (arrays_are n rows z) at (m.unpicked h)

      entry : (h : ℕ) (b : Bool) → is_in h m.picks ≡ b → Dec (h < length side) → row (within s.unpicked rows) h ≡ cond (is_in h m.picks) 0 (row side h)
      entry h true b y =
          row_out s.unpicked rows h (bits h ∙ ap (λ (x : Bool). ltb h (length side) && not x) b ∙ and-false (ltb h (length side)))
          ∙ sym (ap (λ (x : Bool). cond x 0 (row side h)) b)
        where
          and-false : (x : Bool) → (x && false) ≡ false
          and-false true = refl
          and-false false = refl
      entry h false b (yes y) =
          row_in s.unpicked rows h (omega (arith, side_length n rows z, z.few)) (bits h ∙ ap₂ (λ (x w : Bool). x && not w) (lt-ltb h (length side) y) b)
          ∙ sym (get_or-take n rows h 0 (omega (arith, side_length n rows z))) ∙ sym (ap (λ (x : Bool). cond x 0 (row side h)) b)
      entry h false b (no y) =
          row_out s.unpicked rows h (bits h ∙ ap (λ (x : Bool). x && not (is_in h m.picks)) (le-ltb h (length side) (omega arith)))
          ∙ sym (ap (λ (x : Bool). cond x 0 (row side h)) b ∙ row_past side h (omega arith))

  module _ (u : List ℕ) (left : ℕ) (m : Front side u k count left) where
    in-side : (i : ℕ) → candidate_in u left 64 i ≡ candidate side m.picks i
    in-side i = candidate_wide side m.picks u left (side_rows n rows z) m.after i

    phase-of : (g : Phase) → f ≡ numbered g → Fits (candidates side) m.picks g → PhaseIn u left count f
    phase-of Down e v = rw e tt
    phase-of Handed e v = rw e (λ i l. in-side i ∙ no_one i)
      where
        no_one : (i : ℕ) → candidate side m.picks i ≡ false
        no_one i =
            is_false (candidate side m.picks i) (not_T (candidate side m.picks i)
            (λ t. no_candidate side m.picks i v.1 (cand-of side m.picks i t)))
    phase-of (Back j) e v =
        let d : suc j - 1 ≡ j = omega arith in
        rw e (
          omega arith,
          ap (candidate_in u left 64) d ∙ in-side j
              ∙ is_true (candidate side m.picks j) (of-cand side m.picks j ((mem_candidates side m.picks j).0 v.1)),
        )
    phase-of Ended e v = rw e (omega (arith, m.counted, ap length v))

    pub no-phase : ¬ PhaseIn u left count f → (s : State) → StandsFor side k count f s → ⊥
    no-phase h s l =
        h (phase-of s.phase l.phased (subst (λ (p : List ℕ). Fits (candidates side) p s.phase)
        (numbers_same s.picks m.picks (sym (legal-take s l) ∙ m.numbers)) l.fits))

    fits-of : (g : Phase) → PhaseIn u left count g → Fits (candidates side) m.picks (placed g)
    fits-of Down v = m.valid
    fits-of Handed v = (
      m.valid,
      none_candidate side m.picks (λ i cand. let w : true ≡ false = sym
          (is_true (candidate side m.picks i) (of-cand side m.picks i cand)) ∙ sym (in-side i)
          ∙ v i (omega (arith, cand.below, side_length n rows z, z.few)) in clash cc),
    )
    fits-of (Back j) v = (m.valid, (mem_candidates side m.picks (j - 1)).1 (cand-of side m.picks (j - 1) (rw (← in-side (j - 1), v.1) tt)))
    fits-of Ended v = none m.picks (omega (arith, m.counted))
      where
        none : (p : List ℕ) → length p ≡ 0 → p ≡ []
        none [] e = refl
        none (x ∷ p) e = absurd (omega arith)

    number_of : (g : Phase) → PhaseIn u left count g → g ≡ numbered (placed g)
    number_of Down v = refl
    number_of Handed v = refl
    number_of (Back j) v = let e : j ≡ suc (j - 1) = omega (arith, v.0) in ap Back e
    number_of Ended v = refl

    pub legal-of : filled k 64 ≡ count → PhaseIn u left count f → StandsFor side k count f (at m.picks (placed f))
    legal-of full v = record {
      picked =
          pad_ext k (map suc m.picks) size (omega (arith, length_numbers m.picks, m.counted, full, filled_most k 64))
          (λ i. go i (dec_lt i count) (dec_lt i 64));
      counted = m.counted;
      phased = number_of f v;
      fits = fits-of f v;
    }
      where
        front : (i : ℕ) → i < count → get_or k i 0 ≡ get_or (map suc m.picks) i 0
        front i l = sym (get_or-take count k i 0 l) ∙ ap (λ (x : List ℕ). get_or x i 0) m.numbers

        past : (i : ℕ) → ¬ (i < count) → get_or (map suc m.picks) i 0 ≡ 0
        past i l = get_or-eq_default (map suc m.picks) 0 (omega (arith, length_numbers m.picks, m.counted))

        go : (i : ℕ) → Dec (i < count) → Dec (i < 64) → get_or k i 0 ≡ get_or (map suc m.picks) i 0
        go i (yes l) b = front i l
        go i (no l) (yes b) =
            rest_zero k count full (λ j y e. omega (arith, front j y, get_or_numbers m.picks j (omega (arith, m.counted)))) i (omega arith) b ∙ sym (past i l)
        go i (no l) (no b) = get_or-eq_default k 0 (omega arith) ∙ sym (past i l)

-- ---- what the tests answer
bool_no : {P : Type 0} → true ≡ false → P
bool_no e = clash cc

decides_yes : {P : Type 0} → P → DecidedBy P true
decides_yes p = record { yes = λ e. p; no = λ e. bool_no e }

decides_no : {P : Type 0} → ¬ P → DecidedBy P false
decides_no p = record { yes = λ e. bool_no (sym e); no = λ e. p }

-- ---- the phase
module _ (u : List ℕ) (left count : ℕ) (m : Stage ℕ) where
  abbrev Phased : Type 0
  Phased = PhaseIn u left count (mode_phase m)

  as_phase : (o : Stage ℕ) → m ≡ o → (b : Bool) → DecidedBy (PhaseIn u left count (mode_phase o)) b → DecidedBy Phased b
  as_phase o e b d = subst (λ (x : Stage ℕ). DecidedBy (PhaseIn u left count (mode_phase x)) b) (sym e) d

  phase_back : (k : ℕ) → m ≡ mode_back k → (k ≡ 0 → ⊥) → (t : Bool) → t ≡ candidate_in u left 64 (k - 1) → DecidedBy Phased t
  phase_back k e z t d = as_phase (mode_back k) e t (go t d)
    where
      low : Dec (k ≡ 0) → 1 ≤ k
      low (yes x) = absurd (z x)
      low (no x) = omega arith

      go : (b : Bool) → b ≡ candidate_in u left 64 (k - 1) → DecidedBy ((1 ≤ k) × (candidate_in u left 64 (k - 1) ≡ true)) b
      go true x = decides_yes (low (ℕ_discrete k 0), sym x)
      go false x = decides_no (λ h. bool_no (sym h.1 ∙ sym x))
