-- A call by place from the core's call by number (`carried_over`, `stopped_over`): where the moves follow one another, number for
-- number, and the arrays represent one another's states. So it is for the plain order, where both are the same
-- (`plain_carried`), and for any other order, on the gathered rows and the picks by place (`arranged-carried`).
--
-- In order: the law; the side that rows are; the plain order; rows gathered, values by place, values by number again,
-- chains; any order.
--
-- Pins, which nothing else cites: `flag_found`.
use mathlib.Core.Path.{◌≡◌, refl, sym, ap, ap₂, ◌∙◌, subst, fun_ext}
use mathlib.Core.Bool.{Bool, true, false, not}
use mathlib.Core.List.{List, [], map}
use Prim.Native.Nat.{ℕ, suc, ◌≤◌, ◌<◌}
use native.Mathlib.Decide.{dec_lt}
use native.Mathlib.Omega.{arith}
use lib.Bits.{bit_and}
use lib.Dec.{eqb}
use lib.ListN.{length, take, get_or, length-map}
use lib.Seq.{get_or-take, length-take-le}
use Rattle.basics.proofs.Clash.{clash}
use Rattle.sets.specs.Sets.{◌⊆◌, lowest}
use Rattle.sets.specs.Lists.{all_below}
use Rattle.sets.proofs.Order.{zero_sub}
use Rattle.sets.proofs.Tabulated.{length-tabulate}
use Rattle.table.specs.Pairs.{row}
use Rattle.table.specs.Tables.{padded}
use Rattle.table.proofs.Places.{row_past}
use Rattle.table.proofs.Padding.{pad_length, pad_get_or}
use Rattle.rules.specs.Machine.{Phase, Down, Handed, Back, Ended, State, hands, Move, move_in}
use Rattle.rules.specs.ByNumber.{move}
use Rattle.rules.specs.Calls.{result, carry_by, most_budget}
use Rattle.rules.specs.Keeping.{move_keeping}
use Rattle.rules.proofs.Renaming.{renamed, renamed_phase, renamed_call, Below, Follows, any_out, carry-renamed, keeping_follows}
use Rattle.lists.specs.Arrangements.{IsArrangement, place_of, plain}
use Rattle.lists.specs.ByNumber.{candidates}
use Rattle.lists.specs.Preferred.{candidates_by}
use Rattle.lists.specs.Lists.{Side}
use Rattle.lists.specs.OnTable.{chain_of}
use Rattle.lists.specs.private.Arranging.{index_at, arrange}
use Rattle.lists.proofs.Standing.{index_below}
use Rattle.lists.proofs.Arranging.{length-arrange, arrange_moves}
use Rattle.lists.proofs.CandidateTree.{reached_fits}
use Rattle.lists.proofs.ChainRows.{length-chain_of, row-chain_of}
use Rattle.lists.proofs.PlacedCandidates.{AllBelow, all_index}
use Rattle.lists.proofs.PlacedRuns.{step_hands, row_placed, chain_placed, good_below, good_short, follows, handed_below, reached_placed}
use Rattle.lists.proofs.Plain.{plain_follows, state_plain, reached_plain}
use Rattle.preference.specs.Preferences.{is_preference, order_of, numbers_of}
use Rattle.preference.specs.Placing.{inverse, is_plain, gathered, renumber, renumbered}
use Rattle.preference.proofs.Holding.{IsPreference, preference_of}
use Rattle.preference.proofs.Gathering.{gathered_is, gathered_array, gathered_back, place_entry, number_entry, places-of-picks, numbers-of-picks}
use Rattle.preference.proofs.PlainOrder.{plain_is, plain_order, plain_passes}
use Rattle.runs.specs.Paused.{numbered, mode_phase}
use Rattle.runs.specs.Calling.{}
use Rattle.runs.specs.private.Working.{stop_reply}
use Rattle.runs.specs.private.Working.{Sized, apart, hands_over, omits, wanted_in, gathered_wanted, move_by, StandsBy, WentBy, CarriesBy, FitsOn, CarriesOn, placed_move, ReachedIn}
use Rattle.runs.specs.private.Working.{renumbered_phase, InOrder}
use Rattle.refusals.specs.declared.Refusal.{Refusal}
use Rattle.refusals.specs.declared.Refusal.TheVariants.{NotAnArrangement}
use Rattle.std.specs.Prelude.{Result, Ok, Err, Option, Some, None}
use Rattle.std.specs.Borrow.{Bor}
use Rattle.std.specs.Option.{option_copied}
use Rattle.runs.proofs.Turns.{gathered_long}
use Rattle.runs.specs.declared.engine.Stop.{Stop}
use Rattle.runs.specs.declared.engine.Report.{Report}
use Rattle.runs.proofs.Opening.{value_of}
use Rattle.runs.proofs.Padding.{take-padded}

-- ---- from one call to the other
-- what represents the state x by number represents its renamed one by place
pub record Stand (f : ℕ → ℕ) (good good' : State → Type 0) (k₁ k : List ℕ) (count : ℕ) (p₁ p : Phase) : Type 0 where
  pub there : (x : State) → StandsBy good k₁ count p₁ x → StandsBy good' k count p (renamed f x)
  pub again : (x : State) → good x → StandsBy good' k count p (renamed f x) → StandsBy good k₁ count p₁ x

-- the report o, the picks k' and the chain c by place, from those by number
pub record Turned (f : ℕ → ℕ) (good good' : State → Type 0) (chain chain' : List ℕ → List ℕ) (c₁ k₁' c k' : List ℕ) (o₁ o : Report) : Type 0 where
  pub same_outcome : o.outcome ≡ o₁.outcome
  pub same_moves : o.moves ≡ o₁.moves
  pub stands : (x : State) → StandsBy good k₁' o₁.spot.count (mode_phase o₁.spot.mode) x
      → StandsBy good' k' o.spot.count (mode_phase o.spot.mode) (renamed f x)
  pub chains : (x : State) → good x → c₁ ≡ padded (chain x.picks) → c ≡ padded (chain' (map f x.picks))

module _ {f : ℕ → ℕ} {good good' : State → Type 0} {mv mv' : State → Move} {chain chain' : List ℕ → List ℕ} (w : Follows f good mv mv')
    (from : (y : State) → good' y → (x : State) × good x × (renamed f x ≡ y)) where
  stopped_over : (k₁ k : List ℕ) (count : ℕ) (p₁ p : Phase) (b : ℕ) (c₁ k₁' c k' : List ℕ) (why : Refusal) → Stand f good good' k₁ k count p₁ p
      → CarriesBy mv good chain k₁ count p₁ b c₁ k₁' (Err why) → CarriesBy mv' good' chain' k count p b c k' (Err why)
  stopped_over k₁ k count p₁ p b c₁ k₁' c k' why s h = record {
    value = λ none. h.value (λ x z. none (renamed f x) (s.there x z));
    large = λ y z l. let q = from y z.fits in h.large q.0 (s.again q.0 q.1 (subst (StandsBy good' k count p) (sym q.2) z)) l;
    moves = λ y z l.
        let q = from y z.fits in
        let g = h.moves q.0 (s.again q.0 q.1 (subst (StandsBy good' k count p) (sym q.2) z)) l in
        let e = g.1 in clash cc;
  }

  carried_over : (k₁ k : List ℕ) (count : ℕ) (p₁ p : Phase) (b : ℕ) (c₁ k₁' c k' : List ℕ) (o₁ o : Report) → Stand f good good' k₁ k count p₁ p
      → Turned f good good' chain chain' c₁ k₁' c k' o₁ o → CarriesBy mv good chain k₁ count p₁ b c₁ k₁' (Ok o₁)
      → CarriesBy mv' good' chain' k count p b c k' (Ok o)
  carried_over k₁ k count p₁ p b c₁ k₁' c k' o₁ o s t h = record {
    value = λ none. let e = h.value (λ x z. none (renamed f x) (s.there x z)) in clash cc;
    large = λ y z l. let q = from y z.fits in let e = h.large q.0 (its y z) l in clash cc;
    moves = λ y z l. (o, refl, went y z l);
  }
    where
      -- the state by number
      its : (y : State) (z : StandsBy good' k count p y) → StandsBy good k₁ count p₁ (from y z.fits).0
      its y z =
          let q = from y z.fits in
          s.again q.0 q.1 (subst (StandsBy good' k count p) (sym q.2) z)

      went : (y : State) (z : StandsBy good' k count p y) → b ≤ most_budget → WentBy mv' good' chain' b y c k' o
      went y z l =
          let q = from y z.fits in
          let m = h.moves q.0 (its y z) l in
          let g = subst (WentBy mv good chain b q.0 c₁ k₁') (sym (value_of m.1)) m.2 in
          record {
            to = renamed f g.to;
            comes = λ out.
                ap (carry_by mv' out b) (sym q.2)
                ∙ carry-renamed w (any_out f good mv out) b q.0 q.1
                ∙ ap (renamed_call f) (g.comes (λ x. out (map f x)))
                ∙ ap₂ (λ (oc : Stop) (m : ℕ). result (stop_reply oc (out (map f g.to.picks))) m (renamed f g.to)) (sym t.same_outcome)
                (sym t.same_moves);
            chained = t.chains g.to g.stands.fits g.chained;
            stands = t.stands g.to g.stands;
          }

-- ---- the side whose rows these are, seen as they are
abbrev side : ℕ → List ℕ → Side
side n r = record { count = n; rows = r; view = λ x. x; by_gauges = λ x. x }

-- the moves by number and by place, of a run that omits nothing
pub number_moves : (r w : List ℕ) → move_by r false w ≡ move (candidates r)
unfolding move_by
number_moves r w = fun_ext (λ x. refl)

place_moves : (r o w : List ℕ) → placed_move r o false w ≡ move_in (place_of o) (candidates_by o r)
unfolding placed_move
place_moves r o w = fun_ext (λ x. refl)

pub number_keeps : (r w : List ℕ) → move_by r true w ≡ move_keeping (move (candidates r)) (chain_of r) (hands_over true (length r) w)
unfolding move_by
number_keeps r w = fun_ext (λ x. refl)

place_keeps : (r o w : List ℕ) → placed_move r o true w ≡ move_keeping (move_in (place_of o) (candidates_by o r)) (chain_of r) (hands_over true (length r) w)
unfolding placed_move
place_keeps r o w = fun_ext (λ x. refl)

-- both, of a run that omits or does not
both_follow : {f : ℕ → ℕ} (r₁ r o w₁ w : List ℕ) → Follows f (FitsOn r₁) (move (candidates r₁)) (move_in (place_of o) (candidates_by o r))
    → ((x : State) → FitsOn r₁ x → (p : List ℕ) → (move (candidates r₁) x).given ≡ hands p
    → hands_over true (length r) w (chain_of r (map f p)) ≡ hands_over true (length r₁) w₁ (chain_of r₁ p))
    → (omit : Bool) → Follows f (FitsOn r₁) (move_by r₁ omit w₁) (placed_move r o omit w)
both_follow {f} r₁ r o w₁ w follow same false =
    rw (number_moves r₁ w₁, place_moves r o w) follow
both_follow {f} r₁ r o w₁ w follow same true =
    rw (number_keeps r₁ w₁, place_keeps r o w)
    (keeping_follows follow (chain_of r₁) (chain_of r) (hands_over true (length r₁) w₁) (hands_over true (length r) w) same)

-- ---- the plain order: the rows, the picks and the chain as they are
module _ (n : ℕ) (r : List ℕ) (counted : length r ≡ n) where
  abbrev plain_side : Side
  plain_side = side n r

  abbrev o : List ℕ
  o = plain n

  -- a state stays as it is
  same_state : (x : State) → FitsOn r x → renamed (index_at o) x ≡ x
  same_state x h = state_plain plain_side counted x h

  pub same_picks : (x : State) → FitsOn r x → map (index_at o) x.picks ≡ x.picks
  same_picks x h = ap (λ (y : State). y.picks) (same_state x h)

  plain_reached : (x : State) → FitsOn r x → ReachedIn r o (renamed (index_at o) x)
  plain_reached x h = subst (ReachedIn r o) (sym (same_state x h)) ((reached_plain plain_side counted x).1 ((reached_fits r x).1 h))

  pub plain_from : (y : State) → ReachedIn r o y → (x : State) × FitsOn r x × (renamed (index_at o) x ≡ y)
  plain_from y h =
      let g = (reached_fits r y).0 ((reached_plain plain_side counted y).0 h) in
      (y, g, same_state y g)

  -- a value by place is the value by number
  module _ (k : List ℕ) (count : ℕ) (p : Phase) where
    plain-there : (x : State) → StandsBy (FitsOn r) k count p x → StandsBy (ReachedIn r o) k count p (renamed (index_at o) x)
    plain-there x s =
        let e = sym (same_state x s.fits) in
        record {
          picked = s.picked ∙ ap (λ (y : State). padded (map suc y.picks)) e;
          counted = s.counted ∙ ap (λ (y : State). length y.picks) e;
          phased = s.phased ∙ ap (λ (y : State). numbered y.phase) e;
          fits = plain_reached x s.fits;
        }

    plain-again : (x : State) → FitsOn r x → StandsBy (ReachedIn r o) k count p (renamed (index_at o) x) → StandsBy (FitsOn r) k count p x
    plain-again x h s =
        let e = same_state x h in
        record {
          picked = s.picked ∙ ap (λ (y : State). padded (map suc y.picks)) e;
          counted = s.counted ∙ ap (λ (y : State). length y.picks) e;
          phased = s.phased ∙ ap (λ (y : State). numbered y.phase) e;
          fits = h;
        }

  pub plain_stand : (k : List ℕ) (count : ℕ) (p : Phase) → Stand (index_at o) (FitsOn r) (ReachedIn r o) k k count p p
  plain_stand k count p = record { there = plain-there k count p; again = plain-again k count p }

  pub plain_turned : (c k' : List ℕ) (rep : Report) → Turned (index_at o) (FitsOn r) (ReachedIn r o) (chain_of r) (chain_of r) c k' c k' rep rep
  plain_turned c k' rep = record {
    same_outcome = refl;
    same_moves = refl;
    stands = plain-there k' rep.spot.count (mode_phase rep.spot.mode);
    chains = λ x h e. e ∙ ap (λ (q : List ℕ). padded (chain_of r q)) (sym (same_picks x h));
  }

  pub plain_moves : (omit : Bool) (w : List ℕ) → Follows (index_at o) (FitsOn r) (move_by r omit w) (placed_move r o omit w)
  plain_moves omit w = both_follow r r o w w (plain_follows plain_side counted) same omit
    where
      same : (x : State) → FitsOn r x → (q : List ℕ) → (move (candidates r) x).given ≡ hands q
          → hands_over true (length r) w (chain_of r (map (index_at o) q)) ≡ hands_over true (length r) w (chain_of r q)
      same x h q e =
          let d : q ≡ x.picks = step_hands (candidates r) x.picks x.phase q e in
          ap (λ (z : List ℕ). hands_over true (length r) w (chain_of r z)) (ap (map (index_at o)) d ∙ same_picks x h ∙ sym d)

  plain_carried : n ≤ 64 → (order : List ℕ) → order ≡ numbers_of (plain n) → (omit : Bool) (w k : List ℕ) (count : ℕ) (p : Phase) (b : ℕ)
      (c k' : List ℕ) (rep : Result Report Refusal) → CarriesOn (move_by r omit w) r k count p b c k' rep
      → InOrder (λ q. placed_move r q omit w) n r order k count p b c k' rep
  plain_carried few order e omit w k count p b c k' rep h = record {
    none = λ z. absurd (fails (sym (plain_passes n few) ∙ ap (is_preference n) (sym e) ∙ z));
    carried = λ z.
        subst (λ (q : List ℕ). CarriesBy (placed_move r q omit w) (ReachedIn r q) (chain_of r) k count p b c k' rep)
        (sym (ap (order_of n) e ∙ plain_order n))
        (over rep h);
  }
    where
      over : (o : Result Report Refusal) → CarriesOn (move_by r omit w) r k count p b c k' o
          → CarriesBy (placed_move r (plain n) omit w) (ReachedIn r (plain n)) (chain_of r) k count p b c k' o
      over (Ok rep) h = carried_over (plain_moves omit w) plain_from k k count p p b c k' c k' rep rep (plain_stand k count p) (plain_turned c k' rep) h
      over (Err why) h = stopped_over (plain_moves omit w) plain_from k k count p p b c k' c k' why (plain_stand k count p) h

      fails : true ≡ false → ⊥
      fails z = clash cc

-- ---- any order
module _ (n : ℕ) (rows order : List ℕ) (z : Sized n rows) (long : length order ≡ 64) (ok : is_preference n order ≡ true) where
  abbrev r : List ℕ
  r = take n rows

  abbrev q : List ℕ
  q = order_of n order

  abbrev num : ℕ → ℕ
  num = index_at q

  is_preference_lem : IsPreference n order
  is_preference_lem = preference_of n order z.few long (rw ok tt)

  arranges : IsArrangement n q
  arranges = is_preference_lem.arranged

  held : numbers_of q ≡ order
  held = sym is_preference_lem.held

  row_count : length r ≡ n
  row_count = length-take-le n rows (omega (arith, z.few, z.size))

  -- ---- the rows gathered
  array_is : padded (gathered n rows order) ≡ padded (arrange q r)
  array_is = gathered_array n rows order z.few z.size long arranges

  size : length (arrange q r) ≡ n
  size = length-arrange n q arranges r

  pub arranged_rows : take n (padded (gathered n rows order)) ≡ arrange q r
  arranged_rows = ap (take n) array_is ∙ take-padded (arrange q r) n (sym size)

  pub arranged_sized : Sized n (padded (gathered n rows order))
  arranged_sized = record {
    few = z.few;
    size = ap length array_is ∙ pad_length (arrange q r) (omega (arith, size, z.few));
    inside = λ i. subst (λ (x : ℕ). x ⊆ lowest 64) (sym (at i)) (inside i (dec_lt i n));
    rest = λ i l. at i ∙ row_past (arrange q r) i (omega (arith, size));
  }
    where
      at : (i : ℕ) → row (padded (gathered n rows order)) i ≡ row (arrange q r) i
      at i = ap (λ (x : List ℕ). row x i) array_is ∙ pad_get_or (arrange q r) i

      inside : (i : ℕ) → Dec (i < n) → row (arrange q r) i ⊆ lowest 64
      inside i (yes l) =
          subst (λ (x : ℕ). x ⊆ lowest 64)
          (sym ((arrange_moves n q arranges).at r i l ∙ get_or-take n rows (num i) 0 (index_below n q arranges i l))) (z.inside (num i))
      inside i (no l) = subst (λ (x : ℕ). x ⊆ lowest 64) (sym (row_past (arrange q r) i (omega (arith, size)))) (zero_sub (lowest 64))

  -- ---- the states
  abbrev row_side : Side
  row_side = side n r

  abbrev Fit : State → Type 0
  Fit = FitsOn (arrange q r)

  abbrev Reach : State → Type 0
  Reach = ReachedIn r q

  reach_of : (x : State) → Fit x → Reach (renamed num x)
  reach_of x h = (reached_placed row_side q row_count arranges (renamed num x)).1 (record { state = x; good = h; is = refl })

  pub from_reach : (y : State) → Reach y → (x : State) × Fit x × (renamed num x ≡ y)
  from_reach y h = let p = (reached_placed row_side q row_count arranges y).0 h in (p.state, p.good, p.is)

  below : (x : State) → Fit x → AllBelow n x.picks
  below x h = (good_below row_side q row_count arranges x h).picks

  short : (x : State) → Fit x → length x.picks ≤ n
  short x h = good_short row_side q row_count arranges x h

  -- ---- phases
  abbrev places : List ℕ
  places = numbers_of (inverse q)

  phase_there : (x : State) → Fit x → (p : Phase) → renumbered_phase places n p ≡ numbered x.phase → p ≡ numbered (renamed_phase num x.phase)
  phase_there x h p e = go x.phase p (good_below row_side q row_count arranges x h) e
    where
      go : (f p : Phase) → Below n x.picks f → renumbered_phase places n p ≡ numbered f → p ≡ numbered (renamed_phase num f)
      go Down Down b e = refl
      go Down Handed b e = clash cc
      go Down (Back g) b e = clash cc
      go Down Ended b e = clash cc
      go Handed Down b e = clash cc
      go Handed Handed b e = refl
      go Handed (Back g) b e = clash cc
      go Handed Ended b e = clash cc
      go (Back i) Down b e = clash cc
      go (Back i) Handed b e = clash cc
      go (Back i) (Back g) b e =
          let d : renumber places n g ≡ suc i = cc in
          ap Back ((place_entry n q arranges z.few g i b.phase).0 d)
      go (Back i) Ended b e = clash cc
      go Ended Down b e = clash cc
      go Ended Handed b e = clash cc
      go Ended (Back g) b e = clash cc
      go Ended Ended b e = refl

  phase_again : (f : Phase) (x : State) → Below n x.picks f → renumbered_phase places n (numbered (renamed_phase num f)) ≡ numbered f
  phase_again Down x b = refl
  phase_again Handed x b = refl
  phase_again (Back i) x b = ap Back ((place_entry n q arranges z.few (suc (num i)) i b.phase).1 refl)
  phase_again Ended x b = refl

  phase_back : (f : Phase) (x : State) → Below n x.picks f → renumbered_phase order n (numbered f) ≡ numbered (renamed_phase num f)
  phase_back Down x b = refl
  phase_back Handed x b = refl
  phase_back (Back i) x b = ap Back (ap (λ (l : List ℕ). renumber l n (suc i)) (sym held) ∙ number_entry n q arranges z.few i b.phase)
  phase_back Ended x b = refl

  -- ---- a value by number, and by place
  pub arranged_stand : (k : List ℕ) → length k ≡ 64 → (count : ℕ) (p p₁ : Phase) → p₁ ≡ renumbered_phase places n p
      → Stand num Fit Reach (renumbered places n k) k count p₁ p
  arranged_stand k size count p p₁ e = record {
    there = λ x s. record {
      picked = (places-of-picks n q arranges z.few x.picks (below x s.fits) (short x s.fits) k size).0 s.picked;
      counted = s.counted ∙ sym (length-map x.picks num);
      phased = phase_there x s.fits p (sym e ∙ s.phased);
      fits = reach_of x s.fits;
    };
    again = λ x h s. record {
      picked = (places-of-picks n q arranges z.few x.picks (below x h) (short x h) k size).1 s.picked;
      counted = s.counted ∙ length-map x.picks num;
      phased = e ∙ ap (renumbered_phase places n) s.phased ∙ phase_again x.phase x (good_below row_side q row_count arranges x h);
      fits = h;
    };
  }

  -- ---- what is handed back
  module _ (c₁ k₁' c k' : List ℕ) (rep₁ rep : Report) (chain-is : c ≡ padded (gathered n c₁ places)) (picks-are : k' ≡ renumbered order n k₁')
      (outcome-is : rep.outcome ≡ rep₁.outcome) (moves-are : rep.moves ≡ rep₁.moves)
      (count-is : rep.spot.count ≡ rep₁.spot.count)
      (mode-is : mode_phase rep.spot.mode ≡ renumbered_phase order n (mode_phase rep₁.spot.mode)) where
    pub arranged-turned : Turned num Fit Reach (chain_of (arrange q r)) (chain_of r) c₁ k₁' c k' rep₁ rep
    arranged-turned = record {
      same_outcome = outcome-is;
      same_moves = moves-are;
      stands = λ x s. record {
        picked =
            picks-are ∙ ap₂ (λ (l k : List ℕ). renumbered l n k) (sym held) s.picked
            ∙ numbers-of-picks n q arranges z.few x.picks (below x s.fits) (short x s.fits);
        counted = count-is ∙ s.counted ∙ sym (length-map x.picks num);
        phased = mode-is ∙ ap (renumbered_phase order n) s.phased ∙ phase_back x.phase x (good_below row_side q row_count arranges x s.fits);
        fits = reach_of x s.fits;
      };
      chains = λ x h e.
          chain-is
          ∙ ap padded (gathered_is n c₁ places z.few (ap length e ∙ long-chain x.picks) long-places
          ∙ ap (arrange (order_of n places)) e ∙ gathered_back n q (chain_of (arrange q r) x.picks) arranges.size
          ∙ sym (chain_placed n q arranges r row_count x.picks (below x h)));
    }
      where
        long-chain : (p : List ℕ) → length (padded (chain_of (arrange q r) p)) ≡ 64
        long-chain p = pad_length (chain_of (arrange q r) p) (omega (arith, length-chain_of (arrange q r) p, size, z.few))

        long-places : length places ≡ 64
        long-places =
            pad_length (map suc (inverse q)) (omega (arith, length-map (inverse q) suc, length-tabulate (place_of q) (length q), arranges.size, z.few))

  -- ---- the pairs that are wanted
  wanted_same : (w : List ℕ) → length w ≡ 64 → (x : State) → Fit x → (p : List ℕ) → (move (candidates (arrange q r)) x).given ≡ hands p
      → hands_over true (length r) w (chain_of r (map num p)) ≡ hands_over true (length (arrange q r)) (padded (gathered n w order)) (chain_of (arrange q r) p)
  unfolding hands_over apart
  wanted_same w lw x h p e =
      ap not
      (ap (λ (m : ℕ). all_below mine m) row_count
      ∙ all_index n q arranges mine theirs (λ i l. ap₂ (λ (a b : ℕ). eqb (bit_and a b) 0) (own i l) (asked i l))
      ∙ sym (ap (λ (m : ℕ). all_below theirs m) size))
    where
      mine : ℕ → Bool
      mine i = eqb (bit_and (get_or (chain_of r (map num p)) i 0) (get_or w i 0)) 0

      theirs : ℕ → Bool
      theirs i = eqb (bit_and (get_or (chain_of (arrange q r) p) i 0) (get_or (padded (gathered n w order)) i 0)) 0

      low : AllBelow n p
      low = handed_below row_side q row_count arranges x h p e

      own : (i : ℕ) → i < n → row (chain_of r (map num p)) (num i) ≡ row (chain_of (arrange q r) p) i
      own i l =
          row-chain_of r (map num p) (num i) ∙ row_placed n q arranges r row_count [] p tt low i l ∙ sym (row-chain_of (arrange q r) p i)

      asked : (i : ℕ) → i < n → row w (num i) ≡ row (padded (gathered n w order)) i
      asked i l =
          sym (ap (λ (y : List ℕ). row y i) (ap padded (gathered_is n w order z.few lw long)) ∙ pad_get_or (arrange q w) i
          ∙ (arrange_moves n q arranges).at w i l)

  pub arranged_moves : (omit : Bool) (w : List ℕ) → length w ≡ 64
      → Follows num Fit (move_by (arrange q r) omit (padded (gathered n w order))) (placed_move r q omit w)
  arranged_moves omit w lw =
      both_follow (arrange q r) r q (padded (gathered n w order)) w (follows row_side q row_count arranges) (wanted_same w lw) omit

  -- ---- the whole call, from what each step of it made
  module _ (omit : Bool) (w k : List ℕ) (count : ℕ) (p p₁ : Phase) (b : ℕ) (pl arr made : List ℕ) (lw : length w ≡ 64) (lk : length k ≡ 64)
      (places-are : pl ≡ places) (rows_are : arr ≡ padded (gathered n rows order)) (picks-are : made ≡ renumbered pl n k)
      (phase-is : p₁ ≡ renumbered_phase pl n p) where
    abbrev asked : List ℕ
    asked = padded (gathered n w order)

    turned : (c₁ k₁' : List ℕ) (o : Result Report Refusal) → CarriesOn (move_by (take n arr) omit asked) (take n arr) made count p₁ b c₁ k₁' o
        → CarriesOn (move_by (arrange q r) omit asked) (arrange q r) (renumbered places n k) count p₁ b c₁ k₁' o
    turned c₁ k₁' o h =
        subst (λ (x : List ℕ). CarriesOn (move_by x omit asked) x (renumbered places n k) count p₁ b c₁ k₁' o) (ap (take n) rows_are ∙ arranged_rows)
        (subst (λ (m : List ℕ). CarriesOn (move_by (take n arr) omit asked) (take n arr) m count p₁ b c₁ k₁' o)
        (picks-are ∙ ap (λ (l : List ℕ). renumbered l n k) places-are) h)

    stand : Stand num Fit Reach (renumbered places n k) k count p₁ p
    stand = arranged_stand k lk count p p₁ (phase-is ∙ ap (λ (l : List ℕ). renumbered_phase l n p) places-are)

    never : {P : Type 0} → is_preference n order ≡ false → P
    never e = let y : ◌≡◌ {A = Bool} true false = sym ok ∙ e in clash cc

    pub arranged-stopped : (c₁ k₁' c k' : List ℕ) (why : Refusal)
        → CarriesOn (move_by (take n arr) omit asked) (take n arr) made count p₁ b c₁ k₁' (Err why)
        → InOrder (λ o. placed_move r o omit w) n r order k count p b c k' (Err why)
    arranged-stopped c₁ k₁' c k' why h = record {
      none = never;
      carried = λ e.
          stopped_over (arranged_moves omit w lw) from_reach (renumbered places n k) k count p₁ p b c₁ k₁' c k' why stand
          (turned c₁ k₁' (Err why) h);
    }

    pub arranged-carried : (c₁ k₁' c k' : List ℕ) (rep₁ rep : Report)
        → CarriesOn (move_by (take n arr) omit asked) (take n arr) made count p₁ b c₁ k₁' (Ok rep₁)
        → c ≡ padded (gathered n c₁ pl) → k' ≡ renumbered order n k₁' → rep.outcome ≡ rep₁.outcome → rep.moves ≡ rep₁.moves
        → rep.spot.count ≡ rep₁.spot.count → mode_phase rep.spot.mode ≡ renumbered_phase order n (mode_phase rep₁.spot.mode)
        → InOrder (λ o. placed_move r o omit w) n r order k count p b c k' (Ok rep)
    arranged-carried c₁ k₁' c k' rep₁ rep h ec ek eo em et ep = record {
      none = never;
      carried = λ e.
          carried_over (arranged_moves omit w lw) from_reach (renumbered places n k) k count p₁ p b c₁ k₁' c k' rep₁ rep stand
          (arranged-turned c₁ k₁' c k' rep₁ rep (ec ∙ ap (λ (l : List ℕ). padded (gathered n c₁ l)) places-are) ek eo em et ep)
          (turned c₁ k₁' (Ok rep₁) h);
    }

-- ---- the steps of a call
-- the pairs that are wanted, as the order has them
abbrev pairs : Option (List ℕ) → List ℕ
pairs None = []
pairs (Some l) = l

pub gathered_size : (w : Option (Bor (List ℕ))) (n : ℕ) (o : List ℕ) (r : Option (Bor (List ℕ))) → option_copied r ≡ gathered_wanted w n o
    → length (wanted_in r) ≡ 64
gathered_size None n o None e = refl
gathered_size None n o (Some v) e = clash cc
gathered_size (Some w) n o None e = clash cc
gathered_size (Some w) n o (Some v) e = ap (λ (l : Option (List ℕ)). length (pairs l)) e ∙ gathered_long n w.now o

pub gathered_moves : (rows : List ℕ) (w : Option (Bor (List ℕ))) (n : ℕ) (o : List ℕ) (r : Option (Bor (List ℕ))) → option_copied r ≡ gathered_wanted w n o
    → move_by rows (omits r) (wanted_in r) ≡ move_by rows (omits w) (padded (gathered n (wanted_in w) o))
gathered_moves rows None n o None e = number_moves rows (padded []) ∙ sym (number_moves rows (padded (gathered n (padded []) o)))
gathered_moves rows None n o (Some v) e = clash cc
gathered_moves rows (Some w) n o None e = clash cc
gathered_moves rows (Some w) n o (Some v) e = ap (λ (l : Option (List ℕ)). move_by rows true (pairs l)) e

-- the plain order goes straight to the core
pub plain_call : (n : ℕ) (rows order : List ℕ) → Sized n rows → length order ≡ 64 → (test : Bool) → test ≡ is_plain n order → test ≡ true → (omit : Bool)
    (w k : List ℕ) (count : ℕ) (p : Phase) (b : ℕ) (c k' : List ℕ) (rep : Result Report Refusal)
    → CarriesOn (move_by (take n rows) omit w) (take n rows) k count p b c k' rep
    → InOrder (λ q. placed_move (take n rows) q omit w) n (take n rows) order k count p b c k' rep
plain_call n rows order z long test e d omit w k count p b c k' rep h =
    plain_carried n (take n rows) (length-take-le n rows (omega (arith, z.few, z.size))) z.few order (plain_is n order z.few long (sym e ∙ d)) omit w k
    count p b c k' rep h

-- a call with the flag as it was found to be is the call with the flag
pub flag_found : (r : List ℕ) (omit flag : Bool) → omit ≡ flag → (w : List ℕ) (n : ℕ) (order k : List ℕ) (count : ℕ) (f : Phase) (b : ℕ)
    (c' k' : List ℕ) (rep : Result Report Refusal) → InOrder (λ q. placed_move r q flag w) n r order k count f b c' k' rep
    → InOrder (λ q. placed_move r q omit w) n r order k count f b c' k' rep
flag_found r omit flag e w n order k count f b c' k' rep h =
    subst (λ (x : Bool). InOrder (λ q. placed_move r q x w) n r order k count f b c' k' rep) (sym e) h

-- ---- 27
pub refused_order : (mv : List ℕ → State → Move) (n : ℕ) (r order k : List ℕ) (count : ℕ) (f : Phase) (b : ℕ) (c' k' : List ℕ)
    → is_preference n order ≡ false → InOrder mv n r order k count f b c' k' (Err NotAnArrangement)
refused_order mv n r order k count f b c' k' e = record {
  none = λ _. refl;
  carried = λ h. clash cc;
}
