-- How a spot and its arrays represent a state: the state is determined, a pick and a pick taken back keep it so, and
-- the facts of the last pick that the code's indices need. The rows r are the side's; the code's own step by step use
-- is in Stepping.antt.
use mathlib.Core.Path.{◌≡◌, refl, sym, ap, ap₂, ◌∙◌, subst}
use mathlib.Core.Bool.{false}
use mathlib.Core.List.{List, [], ◌∷◌, ◌++◌, map}
use Prim.Native.Nat.{ℕ, suc, ◌+◌, ◌-◌, ◌^◌, ◌<◌}
use native.Mathlib.Omega.{arith}
use lib.Bits.{bit_and}
use lib.Dec.{eqb}
use lib.ListN.{length, get_or, set, take, length-set}
use lib.Seq.{set-set, set-get_or, get_or-append_seam, get_or-set_same}
use borrow.Author.Tests.{ne_eqb}
use Rattle.table.proofs.Padding.{pad_get_or, pad_set}
use Rattle.table.specs.Tables.{padded}
use Rattle.sets.specs.Sets.{meet}
use Rattle.sets.proofs.Tests.{is_false}
use Rattle.sets.proofs.Order.{meet_comm}
use Rattle.sets.proofs.Masks.{lowest_up}
use Rattle.table.specs.Pairs.{row}
use Rattle.rules.specs.Machine.{Phase, Down, Handed, Back, Ended, State, at, Move, gives, nothing, hands, ends}
use Rattle.rules.specs.private.Fitting.{Valid}
use Rattle.rules.proofs.Trees.{by_last, kid_fits, valid_up, valid_kid, valid_snoc, length_snoc}
use Rattle.lists.specs.PickSequence.{is_in}
use Rattle.lists.specs.Picks.{common, remainder}
use Rattle.lists.specs.ByNumber.{candidates}
use Rattle.lists.specs.OnTable.{chain_of}
use Rattle.lists.proofs.Candidates.{Cand, mem_candidates}
use Rattle.lists.proofs.CandidateTree.{candidate_tree}
use Rattle.lists.proofs.Remainders.{remainder_left, common_snoc}
use Rattle.lists.proofs.ChainRows.{chain_of_snoc, length-chain_of, row_unpicked}
use Rattle.search.specs.Finding.{within}
use Rattle.search.proofs.ChainArrays.{chain_pick}
use Rattle.search.proofs.AfterPicks.{full, Rows, After, after_pick, after_unpick, remains_unpicked}
use Rattle.runs.specs.Paused.{numbered, mode_phase}
use Rattle.runs.specs.private.Working.{placed, places_of, state_of, HoldsAt, StandsFor, left_after, NumberAt, spot_down, Stepped}
use Rattle.runs.specs.declared.Phase.TheVariants.{Back as mode_back}
use Rattle.runs.specs.declared.engine.Spot.{Spot}
use Rattle.runs.specs.declared.engine.Moved.TheVariants.{On, Out, Over}
use Rattle.replay.proofs.Numbers.{length_numbers, places_numbers, numbers_snoc}
use Rattle.runs.proofs.Padding.{pad_snoc, pad_unsnoc, take-padded}

placed-numbered : (f : Phase) → placed (numbered f) ≡ f
placed-numbered Down = refl
placed-numbered Handed = refl
placed-numbered (Back i) = let e : suc i - 1 ≡ i = omega arith in ap Back e
placed-numbered Ended = refl

-- the state that picks by number, padded with zeros, their count and a phase by number represent
pub state_by_lem : (k : List ℕ) (count : ℕ) (f : Phase) (x : State) → k ≡ padded (map suc x.picks) → count ≡ length x.picks → f ≡ numbered x.phase
    → at (places_of k count) (placed f) ≡ x
state_by_lem k count f x a b c =
    ap₂ (λ (p : List ℕ) (g : Phase). at p g)
    (ap (map (λ x. x - 1)) (ap (take count) a ∙ take-padded (map suc x.picks) count (b ∙ sym (length_numbers x.picks))) ∙ places_numbers x.picks)
    (ap placed c ∙ placed-numbered x.phase)

-- so a value has one state
pub stands_unique : (r k : List ℕ) (count : ℕ) (f : Phase) (s z : State) → StandsFor r k count f s → StandsFor r k count f z → s ≡ z
stands_unique r k count f s z a b = sym (state_by_lem k count f s a.picked a.counted a.phased) ∙ state_by_lem k count f z b.picked b.counted b.phased

-- and a spot too
pub state_is : {r u c k : List ℕ} {s : Spot} {x : State} → HoldsAt r u c k s x → state_of k s ≡ x
state_is {r} {u} {c} {k} {s} {x} h = state_by_lem k s.count (mode_phase s.mode) x h.picked h.counted h.phased

pub holds_own : {r u c k : List ℕ} {s : Spot} {x : State} → HoldsAt r u c k s x → HoldsAt r u c k s (state_of k s)
holds_own {r} {u} {c} {k} {s} h = subst (HoldsAt r u c k s) (sym (state_is h)) h

-- ---- what each move leads to, as `Stepped` asks
module _ (n : ℕ) (rows c k : List ℕ) (m : Move) (s : Spot) (y : State) (h : HoldsAt (take n rows) (within s.unpicked rows) c k s y) where
  pub stepped_on : m ≡ gives nothing y → Stepped n rows c k m (On s)
  stepped_on e = record { says = (e ∙ ap (gives nothing) (sym (state_is h)), holds_own h) }

  pub stepped_out : m ≡ gives (hands y.picks) y → Stepped n rows c k m (Out s)
  stepped_out e = record { says = (e ∙ ap (λ (z : State). gives (hands z.picks) z) (sym (state_is h)), holds_own h) }

  pub stepped_over : m ≡ gives ends y → Stepped n rows c k m (Over s)
  stepped_over e = record { says = (e ∙ ap (gives ends) (sym (state_is h)), holds_own h) }

pub common_none : (r : List ℕ) (x : ℕ) → common r [] x ≡ x
unfolding common
common_none r x = refl

pub full_is : full ≡ 2 ^ 64 - 1
full_is = lowest_up 64 (omega arith)

few_picks : (r p : List ℕ) (g : ℕ) → Valid (candidates r) p → Cand r p g → length p < length r
few_picks r p g v cand = kid_fits (candidates r) (length r) (candidate_tree r) p g v ((mem_candidates r p g).1 cand)

-- ---- the left cases, found again in the chain
module _ (r : List ℕ) (ok : Rows r) where
  left_last : (q : List ℕ) (h : ℕ) → Cand r q h → row (padded (chain_of r (q ++ (h ∷ [])))) h ≡ common r (q ++ (h ∷ [])) full
  left_last q h cand =
      pad_get_or (chain_of r (q ++ (h ∷ []))) h ∙ ap (λ (l : List ℕ). row l h) (chain_of_snoc r q h cand.fresh cand.below)
      ∙ get_or-set_same (chain_of r q) h (remainder r q h) 0 (omega (arith, length-chain_of r q, cand.below))
      ∙ remainder_left r full q h (ok.inside h) ∙ meet_comm (row r h) (common r q full) ∙ sym (common_snoc r q h full)

  number_last : (q : List ℕ) (h : ℕ) → get_or (padded (map suc (q ++ (h ∷ [])))) (length (q ++ (h ∷ [])) - 1) 0 ≡ suc h
  number_last q h =
      let e : length (q ++ (h ∷ [])) - 1 ≡ length (map suc q) = omega (arith, length_snoc q h, length_numbers q) in
      ap₂ (λ (l : List ℕ) (i : ℕ). get_or l i 0) (ap padded (numbers_snoc q h)) e ∙ pad_get_or (map suc q ++ (suc h ∷ [])) (length (map suc q))
      ∙ get_or-append_seam (map suc q) (suc h) [] 0

  left_is : (q : List ℕ) → Valid (candidates r) q → left_after (padded (chain_of r q)) (padded (map suc q)) (length q) ≡ common r q full
  unfolding left_after
  left_is =
      by_last (λ (q : List ℕ). Valid (candidates r) q → left_after (padded (chain_of r q)) (padded (map suc q)) (length q) ≡ common r q full) none
      (λ q h ih v. some q h v)
    where
      none : Valid (candidates r) [] → 2 ^ 64 - 1 ≡ common r [] full
      none v = sym full_is ∙ sym (common_none r full)

      some : (q : List ℕ) (h : ℕ) → Valid (candidates r) (q ++ (h ∷ []))
          → left_after (padded (chain_of r (q ++ (h ∷ [])))) (padded (map suc (q ++ (h ∷ [])))) (length (q ++ (h ∷ []))) ≡ common r (q ++ (h ∷ [])) full
      some q h v =
          let z : eqb (length (q ++ (h ∷ []))) 0 ≡ false = ne_eqb (length (q ++ (h ∷ []))) 0 (λ d. omega (arith, length_snoc q h)) in
          let e : suc h - 1 ≡ h = omega arith in
          rw z (ap (λ (i : ℕ). get_or (padded (chain_of r (q ++ (h ∷ [])))) (i - 1) 0) (number_last q h)
          ∙ ap (λ (i : ℕ). get_or (padded (chain_of r (q ++ (h ∷ [])))) i 0) e
          ∙ left_last q h ((mem_candidates r q h).0 (valid_kid (candidates r) q h v)))

  number_is : (q : List ℕ) → Valid (candidates r) q → NumberAt (padded (map suc q)) (length q)
  number_is =
      by_last (λ (q : List ℕ). Valid (candidates r) q → NumberAt (padded (map suc q)) (length q)) (λ v. (omega arith, λ l. absurd (omega arith))) (λ q h ih v.
      let cand : Cand r q h = (mem_candidates r q h).0 (valid_kid (candidates r) q h v) in (
        omega (arith, length_snoc q h, few_picks r q h (valid_up (candidates r) q h v) cand, ok.few),
        λ l. (omega (arith, number_last q h), omega (arith, number_last q h, cand.below, ok.few)),
      ))

module _ (r u c k : List ℕ) (ok : Rows r) where
  -- ---- one pick more
  module _ (s : Spot) (x : State) (h : HoldsAt r u c k s x) (v : Valid (candidates r) x.picks) (g : ℕ) (cand : Cand r x.picks g) where
    own : bit_and (row u g) s.left ≡ remainder r x.picks g
    unfolding meet
    own = remains_unpicked r x.picks u s.left ok h.after g (is_false (is_in g x.picks) cand.fresh)

    pub room : length x.picks < 64
    room = omega (arith, few_picks r x.picks g v cand, ok.few)

    pub holds-pick : (v' : ℕ)
        → HoldsAt r (set u g 0) (set c g (bit_and (row u g) s.left)) (set k s.count (g + 1)) (spot_down (s.count + 1) v' (bit_and (row u g) s.left))
        (at (x.picks ++ (g ∷ [])) Down)
    unfolding meet
    holds-pick v' = record {
      after = after_pick r x.picks u s.left g (is_false (is_in g x.picks) cand.fresh) (omega (arith, h.size, cand.below, ok.few)) h.after;
      size = length-set u g 0 ∙ h.size;
      chained = chain_pick r x.picks c g (bit_and (row u g) s.left) cand h.chained own;
      picked =
          let e : g + 1 ≡ suc g = omega arith in
          ap₂ (λ (l : List ℕ) (i : ℕ). set l i (g + 1)) h.picked (h.counted ∙ sym (length_numbers x.picks))
          ∙ ap (set (padded (map suc x.picks)) (length (map suc x.picks))) e
          ∙ pad_snoc (map suc x.picks) (suc g) (omega (arith, length_numbers x.picks, room)) ∙ ap padded (sym (numbers_snoc x.picks g));
      counted = omega (arith, h.counted, length_snoc x.picks g);
      phased = refl;
      fits = valid_snoc (candidates r) x.picks g v ((mem_candidates r x.picks g).1 cand);
    }

  -- ---- one pick fewer
  module _ (s : Spot) (x : State) (h : HoldsAt r u c k s x) (q : List ℕ) (g : ℕ) (e : x.picks ≡ q ++ (g ∷ [])) (v : Valid (candidates r) x.picks) where
    old : HoldsAt r u c k s (at (q ++ (g ∷ [])) x.phase)
    old = subst (λ (z : List ℕ). HoldsAt r u c k s (at z x.phase)) e h

    valid : Valid (candidates r) (q ++ (g ∷ []))
    valid = subst (Valid (candidates r)) e v

    cand : Cand r q g
    cand = (mem_candidates r q g).0 (valid_kid (candidates r) q g valid)

    pub few : length q < 64
    few = omega (arith, few_picks r q g (valid_up (candidates r) q g valid) cand, ok.few)

    pub last-count : s.count ≡ suc (length q)
    last-count = old.counted ∙ length_snoc q g

    pub last-below : g < length r
    last-below = cand.below

    pub last-number : get_or k (length q) 0 ≡ suc g
    last-number =
        ap (λ (l : List ℕ). get_or l (length q) 0) (old.picked ∙ ap padded (numbers_snoc q g)) ∙ pad_get_or (map suc q ++ (suc g ∷ [])) (length q)
        ∙ ap (λ (i : ℕ). get_or (map suc q ++ (suc g ∷ [])) i 0) (sym (length_numbers q)) ∙ get_or-append_seam (map suc q) (suc g) [] 0

    chain-after : set c g 0 ≡ padded (chain_of r q)
    chain-after =
        ap (λ (l : List ℕ). set l g 0) (old.chained ∙ ap padded (chain_of_snoc r q g cand.fresh cand.below)
        ∙ sym (pad_set (chain_of r q) g (remainder r q g) (omega (arith, length-chain_of r q, cand.below))))
        ∙ set-set (padded (chain_of r q)) g (remainder r q g) 0
        ∙ ap (set (padded (chain_of r q)) g) (sym (pad_get_or (chain_of r q) g ∙ row_unpicked r q g cand.fresh))
        ∙ set-get_or (padded (chain_of r q)) g 0

    picks-after : set k (length q) 0 ≡ padded (map suc q)
    picks-after =
        ap (λ (l : List ℕ). set l (length q) 0) (old.picked ∙ ap padded (numbers_snoc q g))
        ∙ ap (λ (i : ℕ). set (padded (map suc q ++ (suc g ∷ []))) i 0) (sym (length_numbers q))
        ∙ pad_unsnoc (map suc q) (suc g) (omega (arith, length_numbers q, few))

    pub holds-back : (v' left : ℕ) → left ≡ common r q full
        → HoldsAt r (set u g (row r g)) (set c g 0) (set k (length q) 0) (record { count = length q; unpicked = v'; left = left; mode = mode_back (suc g) })
        (at q (Back g))
    holds-back v' left l = record {
      after =
          subst (After r q (set u g (row r g))) (sym l) (after_unpick r q u s.left g (is_false (is_in g q) cand.fresh)
          (omega (arith, h.size, cand.below, ok.few)) old.after);
      size = length-set u g (row r g) ∙ h.size;
      chained = chain-after;
      picked = picks-after;
      counted = refl;
      phased = refl;
      fits = (valid_up (candidates r) q g valid, valid_kid (candidates r) q g valid);
    }

    pub left_back : left_after (set c g 0) (set k (length q) 0) (length q) ≡ common r q full
    left_back = ap₂ (λ (a b : List ℕ). left_after a b (length q)) chain-after picks-after ∙ left_is r ok q (valid_up (candidates r) q g valid)

    pub number-back : NumberAt (set k (length q) 0) (length q)
    number-back = subst (λ (l : List ℕ). NumberAt l (length q)) (sym picks-after) (number_is r ok q (valid_up (candidates r) q g valid))
