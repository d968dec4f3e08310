-- A batch on a value handed in: from the checks and the calls (`list-went`), and by place from the
-- batch by number (`lists_over`, `lists_stopped`), as Ordering.antt has it for a call: for the plain order (`plain_list`) and for any
-- other (`arranged_list`).
use mathlib.Core.Path.{◌≡◌, refl, sym, ap, ap₂, ◌∙◌, subst}
use mathlib.Core.Bool.{Bool, true, false, cond}
use mathlib.Core.List.{List, [], ◌∷◌, map}
use Prim.Native.Nat.{ℕ, zero, suc, ◌-◌, ◌≤◌}
use native.Mathlib.Omega.{arith}
use lib.ListN.{length, take}
use lib.Seq.{length-take-le}
use Rattle.basics.proofs.Clash.{clash}
use Rattle.table.specs.Tables.{padded}
use Rattle.std.specs.Prelude.{Result, Ok, Err}
use Rattle.refusals.specs.declared.Refusal.{Refusal}
use Rattle.refusals.specs.declared.Refusal.TheVariants.{NotAnArrangement}
use Rattle.rules.specs.Machine.{Phase, State, Given, nothing, hands, ends, Move}
use Rattle.rules.specs.ByNumber.{move}
use Rattle.rules.specs.Calls.{Reply, refused, spent, handed, end, Call, most_budget, call_by}
use Rattle.rules.specs.Keeping.{taken, move_keeping}
use Rattle.rules.proofs.Renaming.{renamed, Follows, SameOut, call-renamed, call_stays}
use Rattle.lists.specs.Arrangements.{plain}
use Rattle.lists.specs.ByNumber.{candidates}
use Rattle.lists.specs.OnTable.{chain_of}
use Rattle.lists.specs.private.Arranging.{index_at, arrange}
use Rattle.lists.proofs.PlacedRuns.{step_hands}
use Rattle.preference.specs.Preferences.{is_preference, order_of, numbers_of}
use Rattle.preference.specs.Placing.{inverse, is_plain, gathered, renumbered}
use Rattle.preference.proofs.PlainOrder.{plain_is, plain_order, plain_passes}
use Rattle.runs.specs.Batches.{Tale, tale, behind, onward, batch_by}
use Rattle.runs.specs.private.Listing.{stop_ending}
use Rattle.runs.specs.Paused.{mode_phase}
use Rattle.runs.specs.private.Working.{Sized, state_of, StandsBy, FitsOn, ReachedIn, Opens, hands_over, move_by, placed_move, renumbered_phase, spot_down}
use Rattle.runs.specs.private.Listing.{turned_rows, ladder_of, ladder_for, Lists, WentOn, ListsBy, ListsIn}
use Rattle.runs.specs.declared.engine.Stop.{Stop}
use Rattle.runs.specs.declared.engine.Stop.TheVariants.{End}
use Rattle.runs.specs.declared.engine.Spot.{Spot}
use Rattle.runs.specs.declared.engine.Report.{Report}
use Rattle.runs.specs.declared.listing.Tally.{Tally}
use Rattle.runs.proofs.Opening.{value_of}
use Rattle.runs.proofs.Carrying.{opened_at}
use Rattle.runs.proofs.Ordering.{Stand, Turned, number_moves, number_keeps, plain_from, plain_stand, plain_moves, plain_turned, same_picks}
use Rattle.runs.proofs.Ordering.{from_reach, arranged_stand, arranged_moves, arranged-turned, arranged_rows}

-- ---- from the checks
module _ (n : ℕ) (rows k : List ℕ) (count : ℕ) (f : Phase) (b : ℕ) (c : List ℕ) (o : Result Spot Refusal) (h : Opens n rows k count f b c o) where
  module _ (mv : State → Move) (out : List ℕ → List ℕ) (room : ℕ) (before : List ℕ) where
    pub list-went : (x : Spot) → o ≡ Ok x → (c' k' now : List ℕ) (r : Tally)
        → Lists true mv out n rows room b (state_of k x) before c' k' now r → ListsBy mv (FitsOn (take n rows)) out room k count f b before k' now (Ok r)
    list-went x e c' k' now r w = record {
      value = λ none. let d = sym e ∙ h.value none in clash cc;
      large = λ s y l. let d = sym e ∙ h.large s y l in clash cc;
      moves = λ s y l. (
        r,
        refl,
        record {
          to = state_of k' r.spot;
          sets = w.sets;
          comes = ap (batch_by mv out room b) (sym (opened_at n rows k count f b c o h x e s y l)) ∙ w.comes;
          counted = w.counted;
          buffer = w.buffer;
          fits = w.fits refl;
          stands = record { picked = w.holds.picked; counted = w.holds.counted; phased = w.holds.phased; fits = w.holds.fits };
        },
      );
    }

-- ---- renamed
abbrev renamed_tale : (ℕ → ℕ) → Tale → Tale
renamed_tale f t = tale t.ending t.sets t.moves (renamed f t.next)

module _ {f : ℕ → ℕ} {good : State → Type 0} {mv mv' : State → Move} (w : Follows f good mv mv')
    {out out' : List ℕ → List ℕ} (u : SameOut f good mv out out') where
  batch_renamed : (k b : ℕ) (s : State) → good s → batch_by mv' out' k b (renamed f s) ≡ renamed_tale f (batch_by mv out k b s)
  batch_renamed zero b s h = refl
  batch_renamed (suc k) b s h =
      ap (λ (c : Call). onward mv' out' (batch_by mv' out' k) b c.answer c.moves c.next) (call-renamed w u b s h)
      ∙ go (call_by mv out b s).answer (call_by mv out b s).moves (call_by mv out b s).next
      (batch_renamed k (b - (call_by mv out b s).moves) (call_by mv out b s).next (call_stays w u b s h))
    where
      go : (a : Reply) (m : ℕ) (y : State) → batch_by mv' out' k (b - m) (renamed f y) ≡ renamed_tale f (batch_by mv out k (b - m) y)
          → onward mv' out' (batch_by mv' out' k) b a m (renamed f y) ≡ renamed_tale f (onward mv out (batch_by mv out k) b a m y)
      go (refused n) m y ih = refl
      go spent m y ih = refl
      go (handed x) m y ih = ap (behind (x ∷ []) m) ih
      go end m y ih = refl

-- of runs that omit, whatever is looked at to omit
keeping_any : {f : ℕ → ℕ} {good : State → Type 0} {mv : State → Move} {out out' : List ℕ → List ℕ} (chain : List ℕ → List ℕ) (keep : List ℕ → Bool)
    → SameOut f good mv out out' → SameOut f good (move_keeping mv chain keep) out out'
keeping_any {f} {good} {mv} {out} {out'} chain keep u = record { same_out = λ s h p e. outs s h p (mv s).given refl e }
  where
    outs : (s : State) → good s → (p : List ℕ) (g : Given) → (mv s).given ≡ g → taken chain keep g ≡ hands p → out' (map f p) ≡ out p
    outs s h p nothing e d = clash cc
    outs s h p (hands q) e d = go (keep (chain q)) d
      where
        go : (x : Bool) → cond x (hands q) nothing ≡ hands p → out' (map f p) ≡ out p
        go true z = let y : q ≡ p = cc in rw (← y) (u.same_out s h q e)
        go false z = clash cc
    outs s h p ends e d = clash cc

any_moves : {f : ℕ → ℕ} {good : State → Type 0} {out out' : List ℕ → List ℕ} (r w : List ℕ) (omit : Bool)
    → SameOut f good (move (candidates r)) out out' → SameOut f good (move_by r omit w) out out'
any_moves r w false u = rw (number_moves r w) u
any_moves r w true u = rw (number_keeps r w) (keeping_any (chain_of r) (hands_over true (length r) w) u)

-- ---- from one batch to the other
abbrev reported : Tally → Report
reported o = record { outcome = o.outcome; moves = o.moves; spot = o.spot }

-- a refusal is the same
lists_stopped : {f : ℕ → ℕ} {good good' : State → Type 0} {mv mv' : State → Move} {out out' : List ℕ → List ℕ}
    → ((y : State) → good' y → (x : State) × good x × (renamed f x ≡ y)) → (k₁ k : List ℕ) (count : ℕ) (p₁ p : Phase) (room b : ℕ) (before now k₁' k' : List ℕ)
    (why : Refusal) → Stand f good good' k₁ k count p₁ p → ListsBy mv good out room k₁ count p₁ b before k₁' now (Err why)
    → ListsBy mv' good' out' room k count p b before k' now (Err why)
lists_stopped {f} {good} {good'} from k₁ k count p₁ p room b before now k₁' k' why s h = record {
  value = λ none. h.value (λ x z. none (renamed f x) (s.there x z));
  large = λ y z l. let q = from y z.fits in h.large q.0 (s.again q.0 q.1 (subst (StandsBy good' k count p) (sym q.2) z)) l;
  moves = λ y z l.
      let q = from y z.fits in
      let g = h.moves q.0 (s.again q.0 q.1 (subst (StandsBy good' k count p) (sym q.2) z)) l in
      let e = g.1 in clash cc;
}

module _ {f : ℕ → ℕ} {good good' : State → Type 0} {mv mv' : State → Move} {out out' chain chain' : List ℕ → List ℕ} (w : Follows f good mv mv')
    (u : SameOut f good mv out out') (from : (y : State) → good' y → (x : State) × good x × (renamed f x ≡ y)) where
  lists_over : (k₁ k : List ℕ) (count : ℕ) (p₁ p : Phase) (room b : ℕ) (before now c₁ k₁' c k' : List ℕ) (o₁ o : Tally)
      → Stand f good good' k₁ k count p₁ p → Turned f good good' chain chain' c₁ k₁' c k' (reported o₁) (reported o) → o.ladders ≡ o₁.ladders
      → ListsBy mv good out room k₁ count p₁ b before k₁' now (Ok o₁) → ListsBy mv' good' out' room k count p b before k' now (Ok o)
  lists_over k₁ k count p₁ p room b before now c₁ k₁' c k' o₁ o s t e h = record {
    value = λ none. let d = (h.value (λ x z. none (renamed f x) (s.there x z))).0 in clash cc;
    large = λ y z l. let d = (h.large (from y z.fits).0 (its y z) l).0 in clash cc;
    moves = λ y z l. (o, refl, went y z l);
  }
    where
      its : (y : State) (z : StandsBy good' k count p y) → StandsBy good k₁ count p₁ (from y z.fits).0
      its y z =
          let q = from y z.fits in
          s.again q.0 q.1 (subst (StandsBy good' k count p) (sym q.2) z)

      went : (y : State) (z : StandsBy good' k count p y) → b ≤ most_budget → WentOn mv' good' out' room b y before k' now o
      went y z l =
          let q = from y z.fits in
          let m = h.moves q.0 (its y z) l in
          let g = subst (WentOn mv good out room b q.0 before k₁' now) (sym (value_of m.1)) m.2 in
          record {
            to = renamed f g.to;
            sets = g.sets;
            comes =
                ap (batch_by mv' out' room b) (sym q.2) ∙ batch_renamed w u room b q.0 q.1 ∙ ap (renamed_tale f) g.comes
                ∙ ap₂ (λ (oc : Stop) (m : ℕ). tale (stop_ending oc) g.sets m (renamed f g.to)) (sym t.same_outcome) (sym t.same_moves);
            counted = e ∙ g.counted;
            buffer = g.buffer;
            fits = g.fits;
            stands = t.stands g.to g.stands;
          }

fails : true ≡ false → ⊥
fails z = clash cc

-- ---- the plain order
pub plain_list : (n : ℕ) (rows order : List ℕ) → Sized n rows → length order ≡ 64 → (test : Bool) → test ≡ is_plain n order → test ≡ true
    → (turning omit : Bool) (w : List ℕ) (g room : ℕ) (k : List ℕ) (count : ℕ) (p : Phase) (b : ℕ) (before k' now : List ℕ) (o : Result Tally Refusal)
    → ListsBy (move_by (take n rows) omit w) (FitsOn (take n rows)) (ladder_for turning true [] n g (take n rows)) room k count p b before k' now o
    → ListsIn (λ q. placed_move (take n rows) q omit w) (ladder_for turning true [] n g (take n rows)) room n (take n rows) order k count p b before k' now o
plain_list n rows order z long test e d turning omit w g room k count p b before k' now o h = record {
  none = λ x. absurd (fails (sym (plain_passes n z.few) ∙ ap (is_preference n) (sym is) ∙ x));
  listed = λ x.
      subst (λ (q : List ℕ). ListsBy (placed_move r q omit w) (ReachedIn r q) out room k count p b before k' now o) (sym (ap (order_of n) is ∙ plain_order n))
      (over o h);
}
  where
    r : List ℕ
    r = take n rows

    out : List ℕ → List ℕ
    out = ladder_for turning true [] n g r

    is : order ≡ numbers_of (plain n)
    is = plain_is n order z.few long (sym e ∙ d)

    counted : length r ≡ n
    counted = length-take-le n rows (omega (arith, z.few, z.size))

    same : SameOut (index_at (plain n)) (FitsOn r) (move (candidates r)) out out
    same = record {
      same_out = λ s f q x.
          let y : q ≡ s.picks = step_hands (candidates r) s.picks s.phase q x in
          ap out (ap (map (index_at (plain n))) y ∙ same_picks n r counted s f ∙ sym y);
    }

    over : (o : Result Tally Refusal) → ListsBy (move_by r omit w) (FitsOn r) out room k count p b before k' now o
        → ListsBy (placed_move r (plain n) omit w) (ReachedIn r (plain n)) out room k count p b before k' now o
    over (Ok o) h =
        lists_over (plain_moves n r counted omit w) (any_moves r w omit same) (plain_from n r counted) k k count p p room b before now [] k' [] k' o o
        (plain_stand n r counted k count p) (plain_turned n r counted [] k' (reported o)) refl h
    over (Err why) h =
        lists_stopped (plain_from n r counted) k k count p p room b before now k' k' why
        (plain_stand n r counted k count p) h

-- ---- any order
module _ (n : ℕ) (rows order : List ℕ) (z : Sized n rows) (long : length order ≡ 64) (ok : is_preference n order ≡ true) where
  abbrev r : List ℕ
  r = take n rows

  abbrev q : List ℕ
  q = order_of n order

  abbrev places : List ℕ
  places = numbers_of (inverse q)

  -- any report: the chains of both are the same, whatever was reported
  abbrev blank : Report
  blank = record { outcome = End; moves = 0; spot = spot_down 0 0 0 }

  -- the ladders are the same
  arranged_out : (turning : Bool) (g : ℕ)
      → SameOut (index_at q) (FitsOn (arrange q r)) (move (candidates (arrange q r))) (ladder_for turning false places n g (arrange q r))
      (ladder_for turning true [] n g r)
  unfolding ladder_of
  arranged_out turning g = record {
    same_out = λ s f p x.
        let y : p ≡ s.picks = step_hands (candidates (arrange q r)) s.picks s.phase p x in
        let c₁ : List ℕ = padded (chain_of (arrange q r) p) in
        let c : List ℕ = padded (gathered n c₁ places) in
        let e : c ≡ padded (chain_of r (map (index_at q) s.picks)) =
        (arranged-turned n rows order z long ok c₁ [] c (renumbered order n []) blank blank refl refl refl refl refl refl).chains s f
        (ap (λ (l : List ℕ). padded (chain_of (arrange q r) l)) y) in
        ap (λ (l : List ℕ). take g (turned_rows turning n g l)) (ap (λ (l : List ℕ). padded (chain_of r (map (index_at q) l))) y ∙ sym e);
  }

  -- the whole batch, from what each step of it made
  module _ (turning omit : Bool) (w k : List ℕ) (count : ℕ) (p p₁ : Phase) (b g room : ℕ) (pl arr asked made : List ℕ) (lw : length w ≡ 64)
      (lk : length k ≡ 64) (places-are : pl ≡ places) (rows_are : arr ≡ padded (gathered n rows order)) (asked-are : asked ≡ padded (gathered n w order))
      (picks-are : made ≡ renumbered pl n k) (phase-is : p₁ ≡ renumbered_phase pl n p) where
    -- the batch on the arranged rows, each part of it as it was found
    listed : (before now k₁' : List ℕ) (o : Result Tally Refusal)
        → ListsBy (move_by (take n arr) omit asked) (FitsOn (take n arr)) (ladder_for turning false pl n g (take n arr)) room made count p₁ b before k₁' now o
        → ListsBy (move_by (arrange q r) omit (padded (gathered n w order))) (FitsOn (arrange q r)) (ladder_for turning false places n g (arrange q r)) room
        (renumbered places n k) count p₁ b before k₁' now o
    listed before now k₁' o h =
        subst (λ (l : List ℕ). ListsBy (move_by (arrange q r) omit (padded (gathered n w order))) (FitsOn (arrange q r))
        (ladder_for turning false places n g (arrange q r)) room l count p₁ b before k₁' now o) (picks-are ∙ ap (λ (l : List ℕ). renumbered l n k) places-are)
        (subst (λ (l : List ℕ). ListsBy (move_by l omit (padded (gathered n w order))) (FitsOn l) (ladder_for turning false places n g l) room made count p₁ b
        before k₁' now o) (ap (take n) rows_are ∙ arranged_rows n rows order z long ok)
        (subst (λ (l : List ℕ). ListsBy (move_by (take n arr) omit (padded (gathered n w order))) (FitsOn (take n arr))
        (ladder_for turning false l n g (take n arr)) room made count p₁ b before k₁' now o) places-are
        (subst (λ (l : List ℕ). ListsBy (move_by (take n arr) omit l) (FitsOn (take n arr)) (ladder_for turning false pl n g (take n arr)) room made count p₁ b
        before k₁' now o) asked-are h)))

    stand : Stand (index_at q) (FitsOn (arrange q r)) (ReachedIn r q) (renumbered places n k) k count p₁ p
    stand = arranged_stand n rows order z long ok k lk count p p₁ (phase-is ∙ ap (λ (l : List ℕ). renumbered_phase l n p) places-are)

    pub arranged_stopped : (before now k₁' k' : List ℕ) (why : Refusal)
        → ListsBy (move_by (take n arr) omit asked) (FitsOn (take n arr)) (ladder_for turning false pl n g (take n arr)) room made count p₁ b before k₁' now
        (Err why) → ListsIn (λ x. placed_move r x omit w) (ladder_for turning true [] n g r) room n r order k count p b before k' now (Err why)
    arranged_stopped before now k₁' k' why h = record {
      none = λ e. absurd (fails (sym ok ∙ e));
      listed = λ e.
          lists_stopped (from_reach n rows order z long ok) (renumbered places n k) k count p₁ p room b before now k₁' k' why stand
          (listed before now k₁' (Err why) h);
    }

    pub arranged_list : (before now k₁' k' : List ℕ) (o₁ o : Tally)
        → ListsBy (move_by (take n arr) omit asked) (FitsOn (take n arr)) (ladder_for turning false pl n g (take n arr)) room made count p₁ b before k₁' now
        (Ok o₁) → k' ≡ renumbered order n k₁' → o.outcome ≡ o₁.outcome → o.moves ≡ o₁.moves → o.ladders ≡ o₁.ladders → o.spot.count ≡ o₁.spot.count
        → mode_phase o.spot.mode ≡ renumbered_phase order n (mode_phase o₁.spot.mode)
        → ListsIn (λ x. placed_move r x omit w) (ladder_for turning true [] n g r) room n r order k count p b before k' now (Ok o)
    arranged_list before now k₁' k' o₁ o h ek eo em el et ep = record {
      none = λ e. absurd (fails (sym ok ∙ e));
      listed = λ e.
          lists_over (arranged_moves n rows order z long ok omit w lw) (any_moves (arrange q r) (padded (gathered n w order)) omit (arranged_out turning g))
          (from_reach n rows order z long ok) (renumbered places n k) k count p₁ p room b before now [] k₁' (padded (gathered n [] places)) k' o₁ o stand
          (arranged-turned n rows order z long ok [] k₁' (padded (gathered n [] places)) k' (reported o₁) (reported o) refl ek eo em et ep) el
          (listed before now k₁' (Ok o₁) h);
    }

-- ---- 27
pub refused_list : (mv : List ℕ → State → Move) (out : List ℕ → List ℕ) (room n : ℕ) (r order k : List ℕ) (count : ℕ) (f : Phase) (b : ℕ)
    (before k' : List ℕ) → is_preference n order ≡ false
    → ListsIn mv out room n r order k count f b before k' before (Err NotAnArrangement)
refused_list mv out room n r order k count f b before k' e = record {
  none = λ _. (refl, refl);
  listed = λ h. clash cc;
}
