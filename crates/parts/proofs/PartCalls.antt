-- Calls from a part's state on hand out its list, on any fair side of a table under any arrangement: what they hand
-- out of it is a front of it, and all of it once the part is over (`part_demand`), and of a run that omits the same
-- of what it keeps (`part-keeping`). With enough calls the part is over (`part_over`), some calls of a run that omits
-- close it too (`part-keeping-over`), and no part is empty (`part_some`).
--
-- In order: a list without the sets that are not kept; a part of a side, its leaves among the others; what the run's
-- picks tell of it; its calls. The calls of any machine are in Listing.antt, when a machine has left the leaves of a
-- part in Leaving.antt.
use mathlib.Core.Path.{◌≡◌, refl, sym, ap, ap₂, ◌∙◌, subst}
use mathlib.Core.Logic.{◌≢◌, inl, inr}
use mathlib.Core.Bool.{Bool, true, false, cond}
use mathlib.Core.List.Memᴰ
use mathlib.Core.List.{List, [], ◌∷◌, ◌++◌, map, append-nil, Memᴰ}
use Prim.Native.Nat.{ℕ, ◌-◌, ◌<◌, min}
use native.Mathlib.Omega.{arith}
use lib.ListN.{length, length-append}
use Rattle.basics.proofs.Clash.{clash}
use Rattle.table.specs.declared.Table.{Table}
use Rattle.table.specs.Tables.{Legal}
use Rattle.rules.specs.Sequences.{All, factorial}
use Rattle.rules.specs.Machine.{Phase, Down, Handed, Back, Ended, State, at, hands, Move}
use Rattle.rules.specs.ByNumber.{move}
use Rattle.rules.specs.Calls.{handed, Call, call_by, calls_by, handouts}
use Rattle.rules.specs.ByNumber.{calls_from}
use Rattle.rules.specs.Keeping.{move_keeping, kept_sets}
use Rattle.rules.specs.private.Fitting.{Valid, Fits}
use Rattle.rules.proofs.Sequences.{All_of, All_get}
use Rattle.rules.proofs.Trees.{Tree}
use Rattle.rules.proofs.Leaves.{leaf-iff}
use Rattle.rules.proofs.Progress.{rest, move_fits}
use Rattle.rules.proofs.Calls.{ahead}
use Rattle.rules.proofs.Keeping.{ahead as ahead_kept, ahead_is}
use Rattle.rules.proofs.Kept.{mem_kept}
use Rattle.rules.proofs.Ends.{Enough, end_from}
use Rattle.rules.proofs.Renaming.{renamed_call, calls-renamed, keeping_follows, keeping_out, handouts_renamed}
use Rattle.lists.specs.Arrangements.{IsArrangement}
use Rattle.lists.specs.ByNumber.{candidates}
use Rattle.lists.specs.Lists.{Side}
use Rattle.lists.specs.OnTable.{hand_out, ReachedOn}
use Rattle.lists.specs.private.Arranging.{index_at, prefer}
use Rattle.lists.proofs.CandidateTree.{candidate_tree}
use Rattle.lists.proofs.Listed.{picks_in_order}
use Rattle.lists.proofs.BothSides.{Fair, side_list, list_few}
use Rattle.lists.proofs.PreferredSides.{prefer_fair, preferred_list}
use Rattle.lists.proofs.PlacedRuns.{follows, same_out}
use Rattle.parts.specs.Parts.{StartsWith, picks_of, PartList}
use Rattle.parts.specs.Calls.{starts_with, is_of, of_part, is_over, left_picks, calls_in, calls_keeping_in, PartDemand}
use Rattle.parts.proofs.Listing.{Lists, Law, calls-in, calls-inside, of_renamed, over_renamed, left_renamed, over_end, Good, rules_law, keeping_law}
use Rattle.parts.proofs.Closing.{keeping-ends}
use Rattle.parts.proofs.Leaving.{Left, Stands, left_move, stands_move, call_keeps, call_hands, move_hands, keeping_hands}
use Rattle.parts.proofs.Prefixes.{starts_same, starts_test, starts_not}
use Rattle.parts.proofs.Joining.{part_list, part_unique}
use Rattle.parts.proofs.BelowLeaves.{below_start, below_some, below, beyond, Around, around}
use Rattle.parts.proofs.Places.{AtPlaces, valid_low, reached_at, starts_indices, starts_places, leaf_of, leaf_picks}

-- ---- the kept part of a list
module _ (keep : List ℕ → Bool) where
  pub kept_append : (a b : List (List ℕ)) → kept_sets keep (a ++ b) ≡ kept_sets keep a ++ kept_sets keep b
  kept_append [] b = refl
  kept_append (x ∷ a) b = go (keep x) (kept_append a b)
    where
      go : (k : Bool) → kept_sets keep (a ++ b) ≡ kept_sets keep a ++ kept_sets keep b
          → cond k (x ∷ kept_sets keep (a ++ b)) (kept_sets keep (a ++ b)) ≡ cond k (x ∷ kept_sets keep a) (kept_sets keep a) ++ kept_sets keep b
      go true ih = ap (λ (l : List (List ℕ)). x ∷ l) ih
      go false ih = ih

  kept_all : (l : List (List ℕ)) → All (λ (x : List ℕ). keep x ≡ true) l → kept_sets keep l ≡ l
  kept_all [] h = refl
  kept_all (x ∷ l) h = rw h.0 (ap (λ (m : List (List ℕ)). x ∷ m) (kept_all l h.1))

  kept_none : (l : List (List ℕ)) → All (λ (x : List ℕ). keep x ≡ false) l → kept_sets keep l ≡ []
  kept_none [] h = refl
  kept_none (x ∷ l) h = rw h.0 (kept_none l h.1)

  -- those that are kept, between others
  kept_between : (h a b : List (List ℕ)) → All (λ (x : List ℕ). keep x ≡ false) h → All (λ (x : List ℕ). keep x ≡ true) a
      → All (λ (x : List ℕ). keep x ≡ false) b → kept_sets keep (h ++ (a ++ b)) ≡ a
  kept_between h a b n y m =
      kept_append h (a ++ b)
      ∙ ap₂ (λ (u v : List (List ℕ)). u ++ v) (kept_none h n) (kept_append a b ∙ ap₂ (λ (u v : List (List ℕ)). u ++ v) (kept_all a y) (kept_none b m))
      ∙ append-nil a

maps_append : (f : List ℕ → List ℕ) (a b : List (List ℕ)) → map f (a ++ b) ≡ map f a ++ map f b
maps_append f [] b = refl
maps_append f (x ∷ a) b = ap (λ (l : List (List ℕ)). f x ∷ l) (maps_append f a b)

all_maps : (P : List ℕ → Type 0) (f : List ℕ → List ℕ) (l : List (List ℕ)) → All (λ (x : List ℕ). P (f x)) l → All P (map f l)
all_maps P f [] h = tt
all_maps P f (x ∷ l) h = (h.0, all_maps P f l h.1)

all_ends : (P : List ℕ → Type 0) (a b : List (List ℕ)) → All P (a ++ b) → All P b
all_ends P [] b h = h
all_ends P (x ∷ a) b h = all_ends P a b h.1

-- ---- a part of a side
module _ (t : Table) (s : Side) (f : Fair t s) (o : List ℕ) (a : IsArrangement s.count o) (p : List ℕ) (r : ReachedOn s o (at p Down)) where
  abbrev rows : List ℕ
  rows = (prefer o s).rows

  abbrev kids : List ℕ → List ℕ
  kids = candidates rows

  abbrev n : ℕ
  n = length rows

  tree : Tree kids n
  tree = candidate_tree rows

  abbrev out : List ℕ → List ℕ
  out = hand_out (prefer o s)

  abbrev whole : List (List ℕ)
  whole = side_list t (prefer o s) (prefer_fair t s f o a)

  here : AtPlaces s o f.counted a p
  here = reached_at s o f.counted a p r

  abbrev q : List ℕ
  q = here.places

  near : Around kids n tree q
  near = around kids n tree q here.valid

  abbrev mine : List (List ℕ)
  mine = below kids n tree q

  abbrev after : List (List ℕ)
  after = beyond kids n tree q

  in_whole : (l : List ℕ) → Memᴰ l (near.sooner ++ (mine ++ after)) → Memᴰ l (picks_in_order rows)
  in_whole l m = subst (λ (x : List (List ℕ)). Memᴰ l x) near.whole m

  -- the test of a leaf's set is that of the leaf
  leaf_yes : (l : List ℕ) → Memᴰ l (picks_in_order rows) → StartsWith q l → is_of s o p (out l) ≡ true
  leaf_yes l m h =
      (starts_test p (picks_of s o (out l))).1
      (subst (StartsWith p) (sym (leaf_picks t s f o a l m))
      (subst (λ (x : List ℕ). StartsWith x (map (index_at o) l)) here.is (starts_indices s o f.counted a q l h)))

  leaf_no : (l : List ℕ) → Memᴰ l (picks_in_order rows) → (StartsWith q l → ⊥) → is_of s o p (out l) ≡ false
  leaf_no l m h =
      starts_not p (picks_of s o (out l)) (λ w. h
      (starts_places s o f.counted a q l (valid_low s o f.counted a q here.valid) (valid_low s o f.counted a l (leaf_of t s f o a l m).0)
      (subst (λ (x : List ℕ). StartsWith x (map (index_at o) l)) (sym here.is) (subst (StartsWith p) (leaf_picks t s f o a l m) w))))

  all_yes : All (λ (x : List ℕ). is_of s o p x ≡ true) (map out mine)
  all_yes =
      all_maps (λ (x : List ℕ). is_of s o p x ≡ true) out mine
      (All_of (λ (l : List ℕ). is_of s o p (out l) ≡ true) mine (λ l m.
      leaf_yes l (in_whole l (Memᴰ.append_right near.sooner (Memᴰ.append_left after m))) (All_get (StartsWith q) m (below_start kids (n - length q) q))))

  none_after : All (λ (x : List ℕ). is_of s o p x ≡ false) (map out after)
  none_after =
      all_maps (λ (x : List ℕ). is_of s o p x ≡ false) out after
      (All_of (λ (l : List ℕ). is_of s o p (out l) ≡ false) after (λ l m.
      leaf_no l (in_whole l (Memᴰ.append_right near.sooner (Memᴰ.append_right mine m)))
      (All_get (λ (x : List ℕ). StartsWith q x → ⊥) m near.none-beyond)))

  none_sooner : All (λ (x : List ℕ). is_of s o p x ≡ false) (map out near.sooner)
  none_sooner =
      all_maps (λ (x : List ℕ). is_of s o p x ≡ false) out near.sooner
      (All_of (λ (l : List ℕ). is_of s o p (out l) ≡ false) near.sooner (λ l m.
      leaf_no l (in_whole l (Memᴰ.append_left (mine ++ after) m)) (All_get (λ (x : List ℕ). StartsWith q x → ⊥) m near.none-sooner)))

  pieces : map out near.sooner ++ (map out mine ++ map out after) ≡ whole
  pieces =
      ap (λ (x : List (List ℕ)). map out near.sooner ++ x) (sym (maps_append out mine after)) ∙ sym (maps_append out near.sooner (mine ++ after))
      ∙ ap (map out) near.whole

  -- the list of the part: the sets of the leaves below it
  part_is : kept_sets (is_of s o p) whole ≡ map out mine
  part_is =
      ap (kept_sets (is_of s o p)) (sym pieces)
      ∙ kept_between (is_of s o p) (map out near.sooner) (map out mine) (map out after) none_sooner all_yes none_after

  part_listed : PartList t s o p (map out mine)
  part_listed = subst (PartList t s o p) part_is (part_list t s o p whole (preferred_list t s f o a))

  -- no part is empty
  pub part_some : (xs : List (List ℕ)) → PartList t s o p xs → xs ≢ []
  part_some xs l e =
      let m = below_some kids (n - length q) q in
      Memᴰ.not-nil (subst (λ (x : List (List ℕ)). Memᴰ (out m.0) x) (part_unique t s o p (map out mine) xs part_listed l ∙ e)
      (Memᴰ.map out m.1))

  -- ---- what the run's picks tell
  -- the picks r, by place, start with the part's
  abbrev inside : List ℕ → Bool
  inside r = starts_with p (map (index_at o) r)

  -- from the part's state on the machine is in it, or has left it
  abbrev Known : State → Type 0
  Known z = Good kids out n tree z × Stands kids n tree q here.valid z

  inside_yes : (r : List ℕ) → StartsWith q r → inside r ≡ true
  inside_yes r h =
      (starts_test p (map (index_at o) r)).1
      (subst (λ (x : List ℕ). StartsWith x (map (index_at o) r)) here.is (starts_indices s o f.counted a q r h))

  inside_no : (r : List ℕ) → Valid kids r → (StartsWith q r → ⊥) → inside r ≡ false
  inside_no r v h =
      starts_not p (map (index_at o) r) (λ w. h
      (starts_places s o f.counted a q r (valid_low s o f.counted a q here.valid) (valid_low s o f.counted a r v)
      (subst (λ (x : List ℕ). StartsWith x (map (index_at o) r)) (sym here.is) w)))

  fits_valid : (r : List ℕ) (x : Phase) → Fits kids r x → Valid kids r
  fits_valid r Down h = h
  fits_valid r Handed h = h.0
  fits_valid r (Back i) h = h.0
  fits_valid r Ended h = subst (Valid kids) (sym h) tt

  left_of : (z : State) → Known z → inside z.picks ≡ false → Left kids n tree q here.valid z
  left_of z k e = go k.1
    where
      go : Stands kids n tree q here.valid z → Left kids n tree q here.valid z
      go (inl w) = let c : true ≡ false = sym (inside_yes z.picks w) ∙ e in clash cc
      go (inr l) = l

  none_left : (z : State) → Left kids n tree q here.valid z → All (λ (x : List ℕ). is_of s o p x ≡ false) (ahead kids out n z)
  none_left z l =
      all_ends (λ (x : List ℕ). is_of s o p x ≡ false) (map out l.passed) (ahead kids out n z)
      (subst (All (λ (x : List ℕ). is_of s o p x ≡ false)) (sym (ap (map out) l.is) ∙ maps_append out l.passed (rest kids n z.picks z.phase))
      none_after)

  -- of any moves that lead where those of the rules do
  module _ (mv : State → Move) (same : (z : State) → (mv z).next ≡ (move kids z).next)
      (hand : (z : State) (r : List ℕ) → (mv z).given ≡ hands r → (move kids z).next ≡ at r Handed) where
    known-call : (b : ℕ) (z : State) → Known z → Known (call_by mv out b z).next
    known-call b z k =
        call_keeps mv out Known (λ y h.
        rw (same y) (move_fits kids n tree y.picks y.phase h.0, stands_move kids n tree q here.valid y h.0 h.1)) b z k

    stays_out : (b : ℕ) (z : State) → Known z → inside z.picks ≡ false → inside (call_by mv out b z).next.picks ≡ false
    stays_out b z k e =
        let r =
        call_keeps mv out (λ y. Good kids out n tree y × Left kids n tree q here.valid y) (λ y h.
        rw (same y) (move_fits kids n tree y.picks y.phase h.0, left_move kids n tree q here.valid y h.0 h.1)) b z (k.0, left_of z k e) in
        inside_no (call_by mv out b z).next.picks (fits_valid _ (call_by mv out b z).next.phase r.0) r.1.outside

    mine-told : (b : ℕ) (z : State) → Known z → (x : List ℕ) → (call_by mv out b z).answer ≡ handed x
        → inside (call_by mv out b z).next.picks ≡ is_of s o p x
    mine-told b z k x e =
        let (r, w, d) = call_hands mv out (λ y r g. same y ∙ hand y r g) b z x e in
        let fit : Good kids out n tree (at r Handed) = subst (Good kids out n tree) d (known-call b z k).0 in
        ap (λ (y : State). inside y.picks) d ∙ go r fit (starts_with q r) refl ∙ ap (is_of s o p) w
      where
        go : (r : List ℕ) → Good kids out n tree (at r Handed) → (i : Bool) → starts_with q r ≡ i → inside r ≡ is_of s o p (out r)
        go r fit true e =
            let h = (starts_test q r).0 e in
            inside_yes r h ∙ sym (leaf_yes r ((leaf-iff kids n tree r).1 fit) h)
        go r fit false e =
            let h : StartsWith q r → ⊥ = λ w. (let c : true ≡ false = sym ((starts_test q r).1 w) ∙ e in clash cc) in
            inside_no r fit.0 h ∙ sym (leaf_no r ((leaf-iff kids n tree r).1 fit) h)

  -- ---- the calls
  abbrev made : List ℕ → List Call
  made bs = calls_from kids out bs (at q Down)

  start : Known (at q Down)
  start = (here.valid, inl (starts_same q))

  calls_placed : (bs : List ℕ) → calls_in s o p bs ≡ map (renamed_call (index_at o)) (made bs)
  calls_placed bs =
      ap (λ (x : List ℕ). calls_in s o x bs) (sym here.is)
      ∙ calls-renamed (follows s o f.counted a) (same_out s o f.counted a) bs (at q Down) here.valid

  -- the law of the rules' calls, with what is known of their states
  law : (b : ℕ) (z : State) → Known z → Law Known (ahead kids out n) z (call_by (move kids) out b z)
  law b z k =
      let l = rules_law kids out n tree b z k.0 in
      record { stays = known-call (move kids) (λ _. refl) (move_hands kids) b z k; keeps = l.keeps; ended = l.ended }

  lists : (bs : List ℕ) → Lists (map out mine) (of_part (is_of s o p) (calls_in s o p bs)) (is_over (is_of s o p) (starts_with p) (calls_in s o p bs))
  lists bs =
      rw (calls_placed bs, of_renamed (is_of s o p) (index_at o) (made bs), over_renamed (is_of s o p) (index_at o) (starts_with p) (made bs))
      (calls-in (move kids) out Known (ahead kids out n) (is_of s o p) inside law (λ z k e. none_left z (left_of z k e)) bs (at q Down) start
      (map out mine) (map out after) (maps_append out mine after) all_yes none_after)

  -- the picks that renamed calls leave
  picks_placed : (cs ds : List Call) → ds ≡ map (renamed_call (index_at o)) cs → starts_with p (left_picks p ds) ≡ inside (left_picks q cs)
  picks_placed cs ds e =
      ap (λ (x : List Call). starts_with p (left_picks p x)) e
      ∙ ap (λ (x : List ℕ). starts_with p (left_picks x (map (renamed_call (index_at o)) cs))) (sym here.is)
      ∙ ap (starts_with p) (left_renamed (is_of s o p) (index_at o) q cs)

  all_inside : (bs : List ℕ) → starts_with p (left_picks p (calls_in s o p bs)) ≡ true → of_part (is_of s o p) (calls_in s o p bs) ≡ handouts (calls_in s o p bs)
  all_inside bs e =
      ap (of_part (is_of s o p)) (calls_placed bs) ∙ of_renamed (is_of s o p) (index_at o) (made bs)
      ∙ calls-inside (move kids) out Known (ahead kids out n) (is_of s o p) inside law (mine-told (move kids) (λ _. refl) (move_hands kids))
      (stays_out (move kids) (λ _. refl) (move_hands kids)) bs (at q Down) start (sym (picks_placed (made bs) (calls_in s o p bs) (calls_placed bs)) ∙ e)
      ∙ sym (ap handouts (calls_placed bs) ∙ handouts_renamed (index_at o) (made bs))

  pub part_demand : (bs : List ℕ) → PartDemand t s o p (λ xs. xs) (calls_in s o p bs)
  part_demand bs = record { list = map out mine; listed = part_listed; front = (lists bs).front; complete = (lists bs).complete; inside = all_inside bs }

  -- with enough moves a call, and more calls than (min G L)!, the part is over
  pub part_over : Legal t → (bs : List ℕ) → All (Enough s.count) bs → factorial (min t.gauges t.cases) < length bs
      → is_over (is_of s o p) (starts_with p) (calls_in s o p bs) ≡ true
  part_over legal bs enough h =
      let e =
      end_from kids out n tree bs (at q Down) here.valid
      (subst (λ (m : ℕ). All (Enough m) bs) (sym (prefer_fair t s f o a).counted) enough)
      (omega (
        arith,
        ap length (maps_append out mine after),
        length-append (map out near.sooner) (map out mine ++ map out after),
        ap length pieces,
        list_few t legal whole (preferred_list t s f o a),
      )) in
      ap (is_over (is_of s o p) (starts_with p)) (calls_placed bs) ∙ over_renamed (is_of s o p) (index_at o) (starts_with p) (made bs)
      ∙ over_end (is_of s o p) inside (made bs) e.0 e.1 e.2

  -- ---- of a run that omits
  module _ (keep : List ℕ → Bool) where
    abbrev kept-made : List ℕ → List Call
    kept-made bs = calls_by (move_keeping (move kids) out keep) out bs (at q Down)

    keeping-placed : (bs : List ℕ) → calls_keeping_in s o keep p bs ≡ map (renamed_call (index_at o)) (kept-made bs)
    keeping-placed bs =
        ap (λ (x : List ℕ). calls_keeping_in s o keep x bs) (sym here.is)
        ∙ calls-renamed
        (keeping_follows (follows s o f.counted a) out (hand_out s) keep keep (λ x h l e. ap keep ((same_out s o f.counted a).same_out x h l e)))
        (keeping_out keep (same_out s o f.counted a)) bs (at q Down) here.valid

    kept_test : (b : Bool) (l : List (List ℕ)) → All (λ (x : List ℕ). is_of s o p x ≡ b) l → All (λ (x : List ℕ). is_of s o p x ≡ b) (kept_sets keep l)
    kept_test b l h =
        All_of (λ (x : List ℕ). is_of s o p x ≡ b) (kept_sets keep l) (λ x m. All_get (λ (y : List ℕ). is_of s o p y ≡ b) ((mem_kept keep l x).0 m).0 h)

    kept-law : (b : ℕ) (z : State) → Known z → Law Known (ahead_kept kids out keep n tree) z (call_by (move_keeping (move kids) out keep) out b z)
    kept-law b z k =
        let l = keeping_law kids out n tree keep b z k.0 in record {
          stays = known-call (move_keeping (move kids) out keep) (λ _. refl) (keeping_hands kids out keep) b z k;
          keeps = l.keeps;
          ended = l.ended;
        }

    kept-left : (z : State) → Known z → inside z.picks ≡ false → All (λ (x : List ℕ). is_of s o p x ≡ false) (ahead_kept kids out keep n tree z)
    kept-left z k e =
        subst (All (λ (x : List ℕ). is_of s o p x ≡ false)) (sym (ahead_is kids out keep n tree z))
        (kept_test false (ahead kids out n z) (none_left z (left_of z k e)))

    kept-lists : (bs : List ℕ)
        → Lists (kept_sets keep (map out mine)) (of_part (is_of s o p) (calls_keeping_in s o keep p bs))
        (is_over (is_of s o p) (starts_with p) (calls_keeping_in s o keep p bs))
    kept-lists bs =
        rw (keeping-placed bs, of_renamed (is_of s o p) (index_at o) (kept-made bs), over_renamed (is_of s o p) (index_at o) (starts_with p) (kept-made bs))
        (calls-in (move_keeping (move kids) out keep) out Known (ahead_kept kids out keep n tree) (is_of s o p) inside kept-law kept-left bs (at q Down) start
        (kept_sets keep (map out mine)) (kept_sets keep (map out after))
        (ahead_is kids out keep n tree (at q Down) ∙ ap (kept_sets keep) (maps_append out mine after) ∙ kept_append keep (map out mine) (map out after))
        (kept_test true (map out mine) all_yes) (kept_test false (map out after) none_after))

    kept-inside : (bs : List ℕ) → starts_with p (left_picks p (calls_keeping_in s o keep p bs)) ≡ true
        → of_part (is_of s o p) (calls_keeping_in s o keep p bs) ≡ handouts (calls_keeping_in s o keep p bs)
    kept-inside bs e =
        ap (of_part (is_of s o p)) (keeping-placed bs) ∙ of_renamed (is_of s o p) (index_at o) (kept-made bs)
        ∙ calls-inside (move_keeping (move kids) out keep) out Known (ahead_kept kids out keep n tree) (is_of s o p) inside kept-law
        (mine-told (move_keeping (move kids) out keep) (λ _. refl) (keeping_hands kids out keep))
        (stays_out (move_keeping (move kids) out keep) (λ _. refl) (keeping_hands kids out keep)) bs (at q Down) start
        (sym (picks_placed (kept-made bs) (calls_keeping_in s o keep p bs) (keeping-placed bs)) ∙ e)
        ∙ sym (ap handouts (keeping-placed bs) ∙ handouts_renamed (index_at o) (kept-made bs))

    pub part-keeping : (bs : List ℕ) → PartDemand t s o p (kept_sets keep) (calls_keeping_in s o keep p bs)
    part-keeping bs = record {
      list = map out mine;
      listed = part_listed;
      front = (kept-lists bs).front;
      complete = (kept-lists bs).complete;
      inside = kept-inside bs;
    }

    -- some list of calls closes the part
    pub part-keeping-over : (bs : List ℕ) × (is_over (is_of s o p) (starts_with p) (calls_keeping_in s o keep p bs) ≡ true)
    part-keeping-over =
        let r = keeping-ends kids n tree out keep q here.valid in (
          r.0,
          ap (is_over (is_of s o p) (starts_with p)) (keeping-placed r.0) ∙ over_renamed (is_of s o p) (index_at o) (starts_with p) (kept-made r.0)
              ∙ over_end (is_of s o p) inside (kept-made r.0) r.1 r.2 r.3,
        )
