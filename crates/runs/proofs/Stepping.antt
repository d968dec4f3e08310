-- One move of the core, as its functions make it: what each answer of `step` and `take_back` says of the rules, from the facts that the
-- code has where it answers.
use mathlib.Core.Path.{◌≡◌, refl, sym, ap, ap₂, ◌∙◌, subst}
use mathlib.Core.Bool.{Bool, cond}
use mathlib.Core.List.{List, [], ◌∷◌, ◌++◌, head?, map}
use Prim.Native.Nat.{ℕ, suc, ◌+◌, ◌-◌, ◌^◌, ◌≤◌, ◌<◌}
use native.Mathlib.Decide.{dec_lt}
use native.Mathlib.Omega.{arith}
use lib.Bits.{bit_and}
use lib.ListN.{length, get_or, set, take}
use lib.Seq.{get_or-take, length-take-le}
use Rattle.basics.proofs.Clash.{clash}
use Rattle.table.specs.Tables.{padded}
use Rattle.sets.specs.Sets.{◌⊆◌}
use Rattle.sets.proofs.Order.{zero_sub}
use Rattle.table.specs.Pairs.{row}
use Rattle.table.proofs.Places.{row_past}
use Rattle.rules.specs.Machine.{Phase, Down, Handed, Back, Ended, State, at, Move, gives, ends, cut_last, take_back, pick, down, back}
use Rattle.rules.specs.ByNumber.{above, move}
use Rattle.rules.specs.private.Fitting.{Valid, Fits}
use Rattle.rules.proofs.Trees.{cut_snoc}
use Rattle.lists.specs.Picks.{common}
use Rattle.lists.specs.ByNumber.{candidates}
use Rattle.lists.specs.OnTable.{chain_of}
use Rattle.lists.proofs.Candidates.{Cand, cand-of}
use Rattle.search.specs.Finding.{candidate_in, FirstOf, within}
use Rattle.search.proofs.Within.{within_without, within_with}
use Rattle.search.proofs.AfterPicks.{full, Rows, After, lowest-found, lowest-none, above-found, above-none, found-candidate}
use Rattle.sets.specs.First.{Without, With}
use Rattle.sets.proofs.Tests.{is_false}
use Rattle.lists.specs.PickSequence.{is_in}
use Rattle.runs.specs.Paused.{numbered, mode_phase}
use Rattle.runs.specs.private.Working.{Sized, placed, state_of, HoldsAt, Holds, TakesBack, NumberAt, left_after, spot_down, Stepped}
use Rattle.runs.specs.declared.Phase.{Phase as Stage}
use Rattle.runs.specs.declared.Phase.TheVariants.{Down as mode_down, Handed as mode_handed, Back as mode_back, Ended as mode_ended}
use Rattle.runs.specs.declared.engine.Spot.{Spot}
use Rattle.runs.specs.declared.engine.Moved.{Moved}
use Rattle.runs.specs.declared.engine.Moved.TheVariants.{On, Out, Over}
use Rattle.runs.proofs.Padding.{last_split}
use Rattle.runs.proofs.Holding.{stepped_on, stepped_out, stepped_over, full_is, common_none, room, holds-pick, few, last-count, last-below}
use Rattle.runs.proofs.Holding.{last-number, holds-back, left_back, number-back}

-- ---- the side's rows
module _ (n : ℕ) (rows : List ℕ) (z : Sized n rows) where
  pub side_length : length (take n rows) ≡ n
  side_length = length-take-le n rows (omega (arith, z.size, z.few))

  pub side_rows : Rows (take n rows)
  side_rows = record { few = omega (arith, side_length, z.few); inside = λ i. go i (dec_lt i n) }
    where
      go : (i : ℕ) → Dec (i < n) → row (take n rows) i ⊆ full
      go i (yes l) = subst (λ (x : ℕ). x ⊆ full) (sym (get_or-take n rows i 0 l)) (z.inside i)
      go i (no l) = subst (λ (x : ℕ). x ⊆ full) (sym (row_past (take n rows) i (omega (arith, side_length)))) (zero_sub full)

valid_back : (kids : List ℕ → List ℕ) (p : List ℕ) (m : Phase) → TakesBack m → Fits kids p (placed m) → Valid kids p
valid_back kids p Down t f = absurd t
valid_back kids p Handed t f = f.0
valid_back kids p (Back k) t f = f.0
valid_back kids p Ended t f = absurd t

-- ---- taking back
module _ (n : ℕ) (rows c k : List ℕ) (s : Spot) (z : Sized n rows) (h : Holds n rows c k s) (t : TakesBack (mode_phase s.mode)) where
  abbrev u : List ℕ
  u = within s.unpicked rows

  abbrev r : List ℕ
  r = take n rows

  abbrev x : State
  x = state_of k s

  valid : Valid (candidates r) x.picks
  valid = valid_back (candidates r) x.picks (mode_phase s.mode) t h.fits

  -- no pick: the end
  pub back_end : s.count ≡ 0
      → Stepped n rows c k (take_back (cut_last x.picks)) (Over (record { count = 0; unpicked = s.unpicked; left = 2 ^ 64 - 1; mode = mode_ended }))
  back_end e =
      stepped_over n rows c k (take_back (cut_last x.picks)) (record { count = 0; unpicked = s.unpicked; left = 2 ^ 64 - 1; mode = mode_ended }) (at [] Ended)
      (record {
        after = record { entry = λ i. after'.entry i; remains = sym full_is ∙ sym (common_none r full) };
        size = h.size;
        chained = subst (λ (p : List ℕ). c ≡ padded (chain_of r p)) none h.chained;
        picked = subst (λ (p : List ℕ). k ≡ padded (map suc p)) none h.picked;
        counted = refl;
        phased = refl;
        fits = refl;
      })
      (ap (λ (p : List ℕ). take_back (cut_last p)) none)
    where
      none : x.picks ≡ []
      none = empty x.picks (omega (arith, h.counted))
        where
          empty : (p : List ℕ) → length p ≡ 0 → p ≡ []
          empty [] d = refl
          empty (y ∷ p) d = absurd (omega arith)

      after' : After r [] u s.left
      after' = subst (λ (p : List ℕ). After r p u s.left) none h.after

  module _ (l : 0 < s.count) where
    abbrev Last : Type 0
    Last = (q : List ℕ) × (g : ℕ) × (x.picks ≡ q ++ (g ∷ []))

    last : Last
    last = last_split x.picks (omega (arith, h.counted))

    -- the facts of the last pick's number
    pub record LastFacts : Type 0 where
      pub index : s.count - 1 < 64
      pub low : 1 ≤ get_or k (s.count - 1) 0
      pub high : get_or k (s.count - 1) 0 ≤ n
      pub place : get_or k (s.count - 1) 0 - 1 < 64

    pub last-facts : LastFacts
    last-facts = go last
      where
        go : Last → LastFacts
        go (q, g, e) =
            let i : s.count - 1 ≡ length q = omega (arith, last-count r u c k (side_rows n rows z) s x h q g e valid) in
            let m : get_or k (s.count - 1) 0 ≡ suc g = ap (λ (j : ℕ). get_or k j 0) i ∙ last-number r u c k (side_rows n rows z) s x h q g e valid in
            let b : g < n = omega (arith, last-below r u c k (side_rows n rows z) s x h q g e valid, side_length n rows z) in
            let f : length q < 64 = few r u c k (side_rows n rows z) s x h q g e valid in
            record { index = omega arith; low = omega arith; high = omega arith; place = omega (arith, z.few) }

    module _ (j number g' : ℕ) (ej : j ≡ s.count - 1) (en : number ≡ get_or k j 0) (eg : g' ≡ number - 1) where
      pub back-number : NumberAt (set k j 0) j
      back-number = go last
        where
          go : Last → NumberAt (set k j 0) j
          go (q, g, e) =
              let i : j ≡ length q = omega (arith, last-count r u c k (side_rows n rows z) s x h q g e valid) in
              rw i (number-back r u c k (side_rows n rows z) s x h q g e valid)

      pub back_on : (v' left : ℕ) → With s.unpicked g' v' → left ≡ left_after (set c g' 0) (set k j 0) j
          → Stepped n rows (set c g' 0) (set k j 0) (take_back (cut_last x.picks))
          (On (record { count = j; unpicked = v'; left = left; mode = mode_back number }))
      back_on v' left ev el = go last
        where
          go : Last
              → Stepped n rows (set c g' 0) (set k j 0) (take_back (cut_last x.picks))
              (On (record { count = j; unpicked = v'; left = left; mode = mode_back number }))
          go (q, g, e) =
              let i : j ≡ length q = omega (arith, last-count r u c k (side_rows n rows z) s x h q g e valid) in
              let m : number ≡ suc g = en ∙ ap (λ (j : ℕ). get_or k j 0) i ∙ last-number r u c k (side_rows n rows z) s x h q g e valid in
              let a : g' ≡ g = omega arith in
              let b : g < n = omega (arith, last-below r u c k (side_rows n rows z) s x h q g e valid, side_length n rows z) in
              let w : get_or rows g' 0 ≡ row r g = ap (λ (y : ℕ). get_or rows y 0) a ∙ sym (get_or-take n rows g 0 b) in
              let d : left ≡ common r q full = el ∙ ap₂ (λ (y b : ℕ). left_after (set c y 0) (set k b 0) b) a i
              ∙ left_back r u c k (side_rows n rows z) s x h q g e valid in
              let f : g' < 64 = omega (arith, z.few) in
              let eu : within v' rows ≡ set u g' (get_or rows g' 0) = within_with s.unpicked g' v' rows f (ev.inside f) in
              stepped_on n rows (set c g' 0) (set k j 0) (take_back (cut_last x.picks))
              (record { count = j; unpicked = v'; left = left; mode = mode_back number }) (at q (Back g))
              (rw (eu, w, a, i, m) (holds-back r u c k (side_rows n rows z) s x h q g e valid v' left d))
              (ap (λ (p : List ℕ). take_back (cut_last p)) e ∙ ap take_back (cut_snoc q g))

-- ---- the moves
module _ (n : ℕ) (rows c k : List ℕ) (s : Spot) (z : Sized n rows) (h : Holds n rows c k s) where
  abbrev u' : List ℕ
  u' = within s.unpicked rows

  abbrev side : List ℕ
  side = take n rows

  abbrev now : State
  now = state_of k s

  picked_on : (g : ℕ) → Valid (candidates side) now.picks → Cand side now.picks g → move (candidates side) now ≡ pick now.picks g
      → (c' k' : List ℕ) (s' : Spot) → Without s.unpicked g s'.unpicked → c' ≡ set c g (bit_and (get_or rows g 0) s.left) → k' ≡ set k s.count (g + 1)
      → s' ≡ spot_down (s.count + 1) s'.unpicked (bit_and (get_or rows g 0) s.left) → Stepped n rows c' k' (move (candidates side) now) (On s')
  picked_on g v cand e c' k' s' w ec ek es =
      let b : g < n = omega (arith, cand.below, side_length n rows z) in
      let er : get_or rows g 0 ≡ row u' g =
      sym (h.after.entry g ∙ ap (λ (y : Bool). cond y 0 (row side g)) (is_false (is_in g now.picks) cand.fresh) ∙ get_or-take n rows g 0 b) in
      let eu : within s'.unpicked rows ≡ set u' g 0 = within_without s.unpicked g s'.unpicked rows (omega (arith, z.few)) w in
      let ec' : c' ≡ set c g (bit_and (row u' g) s.left) = ec ∙ ap (λ (y : ℕ). set c g (bit_and y s.left)) er in
      let es' : s' ≡ spot_down (s.count + 1) s'.unpicked (bit_and (row u' g) s.left) = es
      ∙ ap (λ (y : ℕ). spot_down (s.count + 1) s'.unpicked (bit_and y s.left)) er in
      stepped_on n rows c' k' (move (candidates side) now) s' (at (now.picks ++ (g ∷ [])) Down)
      (held s' c' k' (within s'.unpicked rows) eu ec' ek es' (holds-pick side u' c k (side_rows n rows z) s now h v g cand s'.unpicked)) e
    where
      held : (s' : Spot) (c' k' w : List ℕ) → w ≡ set u' g 0 → c' ≡ set c g (bit_and (row u' g) s.left) → k' ≡ set k s.count (g + 1)
          → s' ≡ spot_down (s.count + 1) s'.unpicked (bit_and (row u' g) s.left)
          → HoldsAt side (set u' g 0) (set c g (bit_and (row u' g) s.left)) (set k s.count (g + 1))
          (spot_down (s.count + 1) s'.unpicked (bit_and (row u' g) s.left)) (at (now.picks ++ (g ∷ [])) Down)
          → HoldsAt side w c' k' s' (at (now.picks ++ (g ∷ [])) Down)
      held s' c' k' w ew ec ek es o =
          subst (λ (y : Spot). HoldsAt side w c' k' y (at (now.picks ++ (g ∷ [])) Down)) (sym es)
          (subst (λ (y : List ℕ). HoldsAt side y c' k' (spot_down (s.count + 1) s'.unpicked (bit_and (row u' g) s.left))
          (at (now.picks ++ (g ∷ [])) Down)) (sym ew) (rw (ec, ek) o))

  module _ (from g : ℕ) (f : FirstOf (candidate_in u' s.left 64) from 64 g) where
    found : g < 64 → Cand side now.picks g
    found l = cand-of side now.picks g (found-candidate side now.picks u' s.left (side_rows n rows z) h.after from g f l)

    -- Down
    module _ (e : s.mode ≡ mode_down) where
      down_is : move (candidates side) now ≡ down now.picks (head? (candidates side now.picks))
      down_is = ap (λ (m : Stage ℕ). move (candidates side) (at now.picks (placed (mode_phase m)))) e

      down-valid : Valid (candidates side) now.picks
      down-valid = subst (λ (m : Stage ℕ). Fits (candidates side) now.picks (placed (mode_phase m))) e h.fits

      pub down-room : g < 64 → (s.count < 64) × (g < 64)
      down-room l = (omega (arith, h.counted, room side u' c k (side_rows n rows z) s now h down-valid g (found l)), l)

      pub down-on : from ≡ 0 → g < 64 → (c' k' : List ℕ) (s' : Spot) → Without s.unpicked g s'.unpicked
          → c' ≡ set c g (bit_and (get_or rows g 0) s.left) → k' ≡ set k s.count (g + 1)
          → s' ≡ spot_down (s.count + 1) s'.unpicked (bit_and (get_or rows g 0) s.left) → Stepped n rows c' k' (move (candidates side) now) (On s')
      down-on z0 l =
          picked_on g down-valid (found l)
          (down_is ∙ ap (down now.picks) (lowest-found side now.picks u' s.left (side_rows n rows z) h.after from g f z0 l))

      pub down_out : from ≡ 0 → (g < 64 → ⊥)
          → Stepped n rows c k (move (candidates side) now) (Out (record { count = s.count; unpicked = s.unpicked; left = s.left; mode = mode_handed }))
      down_out z0 l =
          stepped_out n rows c k (move (candidates side) now) (record { count = s.count; unpicked = s.unpicked; left = s.left; mode = mode_handed })
          (at now.picks Handed)
          (record {
            after = h.after;
            size = h.size;
            chained = h.chained;
            picked = h.picked;
            counted = h.counted;
            phased = refl;
            fits =
                (down-valid, none);
          })
          (down_is ∙ ap (λ (q : List ℕ). down now.picks (head? q)) none)
        where
          none : candidates side now.picks ≡ []
          none = lowest-none side now.picks u' s.left (side_rows n rows z) h.after from g f z0 l

    -- Back from the gauge whose number is `from`
    module _ (e : s.mode ≡ mode_back from) where
      back_is : move (candidates side) now ≡ back now.picks (head? (above (from - 1) (candidates side now.picks)))
      back_is = ap (λ (m : Stage ℕ). move (candidates side) (at now.picks (placed (mode_phase m)))) e

      back_fits : Fits (candidates side) now.picks (Back (from - 1))
      back_fits = subst (λ (m : Stage ℕ). Fits (candidates side) now.picks (placed (mode_phase m))) e h.fits

      number-low : from ≡ suc (from - 1)
      number-low = go now.phase (sym (ap mode_phase e) ∙ h.phased)
        where
          go : (f : Phase) → Back from ≡ numbered f → from ≡ suc (from - 1)
          go Down d = clash cc
          go Handed d = clash cc
          go (Back i) d = let w : from ≡ suc i = cc in omega arith
          go Ended d = clash cc

      pub back-room : g < 64 → (s.count < 64) × (g < 64)
      back-room l = (omega (arith, h.counted, room side u' c k (side_rows n rows z) s now h back_fits.0 g (found l)), l)

      pub back-pick : g < 64 → (c' k' : List ℕ) (s' : Spot) → Without s.unpicked g s'.unpicked → c' ≡ set c g (bit_and (get_or rows g 0) s.left)
          → k' ≡ set k s.count (g + 1)
          → s' ≡ spot_down (s.count + 1) s'.unpicked (bit_and (get_or rows g 0) s.left) → Stepped n rows c' k' (move (candidates side) now) (On s')
      back-pick l =
          picked_on g back_fits.0 (found l)
          (back_is ∙ ap (back now.picks) (above-found side now.picks u' s.left (side_rows n rows z) h.after from g f (from - 1) number-low l))

      -- none above: the pick before is taken back
      pub back_none : (g < 64 → ⊥) → move (candidates side) now ≡ take_back (cut_last now.picks)
      back_none l =
          back_is
          ∙ ap (λ (q : List ℕ). back now.picks (head? q))
          (above-none side now.picks u' s.left (side_rows n rows z) h.after from g f (from - 1) number-low l)

  -- Ended: end again
  ended_over : s.mode ≡ mode_ended → Stepped n rows c k (move (candidates side) now) (Over s)
  ended_over e = record { says = (ended, h) }
    where
      phase-is : now.phase ≡ Ended
      phase-is = ap (λ (m : Stage ℕ). placed (mode_phase m)) e

      ended : move (candidates side) now ≡ gives ends now
      ended = ap (λ (f : Phase). move (candidates side) (at now.picks f)) phase-is ∙ sym (ap (λ (f : Phase). gives ends (at now.picks f)) phase-is)

pub stepped_as : (n : ℕ) (rows c k : List ℕ) (m o : Move) (r : Moved) → m ≡ o → Stepped n rows c k o r → Stepped n rows c k m r
stepped_as n rows c k m o r e h = subst (λ (y : Move). Stepped n rows c k y r) (sym e) h
