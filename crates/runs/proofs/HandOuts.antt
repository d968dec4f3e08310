-- What a hand-out carries (02, R-6): a call that hands out leaves the phase Handed (`handed_out`), and the picks of a state in that phase are the
-- pick sequence of the set that is handed out for them (`sequence_of_lem`).
use mathlib.Core.Path.{◌≡◌, refl, sym, ap, ◌∙◌, subst}
use mathlib.Core.Bool.{Bool, true, false}
use mathlib.Core.Option.{Option, none, some}
use mathlib.Core.List.{List, map, head?}
use Prim.Native.Nat.{ℕ, zero, suc}
use lib.ListN.{length}
use Rattle.basics.proofs.Clash.{clash}
use Rattle.table.specs.declared.Table.{Table}
use Rattle.table.specs.Chains.{IsMaximal}
use Rattle.table.specs.Tables.{table_rows, padded}
use Rattle.rules.specs.Machine.{Phase, Down, Handed, Back, Ended, State, Given, nothing, hands, ends, Move, Cut, empty, cut, cut_last, take_back, down, back}
use Rattle.rules.specs.Machine.{above_in, step_in}
use Rattle.rules.specs.Calls.{handed, Call, result, proceed_by, carry_by}
use Rattle.rules.specs.Keeping.{taken}
use Rattle.rules.specs.private.Fitting.{Fits}
use Rattle.rules.proofs.Renaming.{renamed_phase}
use Rattle.lists.specs.Arrangements.{IsArrangement, place_of}
use Rattle.lists.specs.ByNumber.{pick_seq}
use Rattle.lists.specs.Preferred.{candidates_by, pick_seq_by}
use Rattle.lists.specs.Lists.{Side}
use Rattle.lists.specs.ByNumber.{candidates}
use Rattle.lists.specs.OnTable.{chain_of, hand_out, move_on, ReachedOn}
use Rattle.lists.specs.private.Arranging.{index_at, prefer}
use Rattle.lists.proofs.Candidates.{IsLeaf}
use Rattle.lists.proofs.Maximal.{leaf_maximal, leaf_pick_seq}
use Rattle.lists.proofs.BothSides.{Fair}
use Rattle.lists.proofs.PreferredSides.{prefer_fair}
use Rattle.lists.proofs.PlacedCandidates.{AllBelow}
use Rattle.lists.proofs.PlacedSequences.{sequence_placed}
use Rattle.lists.proofs.PlacedRuns.{hand_out_placed, good_below, Placed, reached_placed}
use Rattle.conflicts.specs.Omitting.{keeps_of}
use Rattle.runs.specs.declared.engine.Stop.{Stop}
use Rattle.runs.specs.declared.engine.Stop.TheVariants.{HandedOut}
use Rattle.runs.specs.Calling.{sequence}
use Rattle.runs.specs.private.Working.{stop_reply}
use Rattle.runs.specs.Omitting.{moves_of}

-- ---- a state that is reached, and Handed
-- by place there is no candidate after its picks
pub handed_leaf : (s : Side) (o : List ℕ) (counted : length s.rows ≡ s.count) (a : IsArrangement s.count o) (x : State) (p : Placed s o counted a x)
    → x.phase ≡ Handed → IsLeaf (prefer o s).rows p.state.picks
handed_leaf s o counted a x p e =
    leaf-of p.state.picks p.state.phase (handed-phase p.state.phase (ap (λ (y : State). y.phase) p.is ∙ e)) p.good
  where
    handed-phase : (g : Phase) → renamed_phase (index_at o) g ≡ Handed → g ≡ Handed
    handed-phase Down z = clash cc
    handed-phase Handed z = refl
    handed-phase (Back i) z = clash cc
    handed-phase Ended z = clash cc

    leaf-of : (q : List ℕ) (g : Phase) → g ≡ Handed → Fits (candidates (prefer o s).rows) q g → IsLeaf (prefer o s).rows q
    leaf-of q g z h = subst (λ (y : Phase). Fits (candidates (prefer o s).rows) q y) z h

-- ---- the sequence
module _ (t : Table) (s : Side) (f : Fair t s) (o : List ℕ) (a : IsArrangement s.count o) where
  -- of the picks q of the arranged rows, by place, after which there is no candidate
  leaf_sequence : (q : List ℕ) → IsLeaf (prefer o s).rows q → AllBelow s.count q → pick_seq_by o (s.view (hand_out s (map (index_at o) q))) ≡ map (index_at o) q
  leaf_sequence q l b =
      ap (λ (x : List ℕ). pick_seq_by o (s.view x)) (hand_out_placed s o f.counted a q b)
      ∙ sequence_placed s.count o a (s.view (hand_out (prefer o s) q)) size
      ∙ ap (map (index_at o)) (ap pick_seq home.1 ∙ leaf_pick_seq (prefer o s).rows q l)
    where
      home : IsMaximal (table_rows t) (hand_out (prefer o s) q) × ((prefer o s).view (hand_out (prefer o s) q) ≡ chain_of (prefer o s).rows q)
      home = (prefer_fair t s f o a).home (chain_of (prefer o s).rows q) (leaf_maximal (prefer o s).rows q l)

      size : length (s.view (hand_out (prefer o s) q)) ≡ s.count
      size = (f.over (hand_out (prefer o s) q) home.0).0.within.size ∙ f.counted

  pub sequence_of_lem : (x : State) → ReachedOn s o x → x.phase ≡ Handed → padded (map suc x.picks) ≡ sequence s o (hand_out s x.picks)
  sequence_of_lem x r e =
      let p = (reached_placed s o f.counted a x).0 r in
      let q = p.state.picks in
      let d : map (index_at o) q ≡ x.picks = ap (λ (y : State). y.picks) p.is in
      let l : IsLeaf (prefer o s).rows q = handed_leaf s o f.counted a x p e in
      ap (λ (z : List ℕ). padded (map suc z))
      (sym (ap (λ (z : List ℕ). pick_seq_by o (s.view (hand_out s z))) (sym d)
      ∙ leaf_sequence q l (good_below s o f.counted a p.state p.good).picks ∙ d))

-- ---- the phase
-- a move gives a hand-out only as it becomes Handed
back_hands : (c : Cut) (p : List ℕ) → (take_back c).given ≡ hands p → (take_back c).next.phase ≡ Handed
back_hands empty p e = clash cc
back_hands (cut q g) p e = clash cc

module _ (place : ℕ → ℕ) (kids : List ℕ → List ℕ) where
  move_hands : (q : List ℕ) (f : Phase) (p : List ℕ) → (step_in place kids q f).given ≡ hands p → (step_in place kids q f).next.phase ≡ Handed
  move_hands q Down p = go (head? (kids q))
    where
      go : (o : Option ℕ) → (down q o).given ≡ hands p → (down q o).next.phase ≡ Handed
      go none e = refl
      go (some g) e = clash cc
  move_hands q Handed p = back_hands (cut_last q) p
  move_hands q (Back g) p = go (head? (above_in place g (kids q)))
    where
      go : (o : Option ℕ) → (back q o).given ≡ hands p → (back q o).next.phase ≡ Handed
      go none e = back_hands (cut_last q) p e
      go (some h) e = clash cc
  move_hands q Ended p = λ e. clash cc

module _ (t : Table) (s : Side) (o : List ℕ) where
  hands_at : (omit : Bool) (x : State) (p : List ℕ) → (moves_of t s o omit x).given ≡ hands p → (moves_of t s o omit x).next.phase ≡ Handed
  hands_at false x p e = move_hands (place_of o) (candidates_by o s.rows) x.picks x.phase p e
  hands_at true x p e = go (move_on s o x).given refl e
    where
      go : (g : Given) → (move_on s o x).given ≡ g → taken (hand_out s) (keeps_of t) g ≡ hands p → (move_on s o x).next.phase ≡ Handed
      go nothing d z = clash cc
      go (hands q) d z = move_hands (place_of o) (candidates_by o s.rows) x.picks x.phase q d
      go ends d z = clash cc

  -- so does a call
  module _ (omit : Bool) where
    abbrev out : List ℕ → List ℕ
    out = hand_out s

    abbrev mv : State → Move
    mv = moves_of t s o omit

    carried : (b : ℕ) (x : State) (y : List ℕ) → (carry_by mv out b x).answer ≡ handed y → (carry_by mv out b x).next.phase ≡ Handed
    carried zero x y e = clash cc
    carried (suc b) x y e = go (mv x).given refl (carried b (mv x).next y) e
      where
        go : (g : Given) → (mv x).given ≡ g
            → ((carry_by mv out b (mv x).next).answer ≡ handed y → (carry_by mv out b (mv x).next).next.phase ≡ Handed)
            → (proceed_by mv out (carry_by mv out b) g (mv x).next).answer ≡ handed y
            → (proceed_by mv out (carry_by mv out b) g (mv x).next).next.phase ≡ Handed
        go nothing d ih z = ih z
        go (hands p) d ih z = hands_at omit x p d
        go ends d ih z = clash cc

    pub handed_out : (b : ℕ) (x : State) (oc : Stop) (k : ℕ) (y : State) → oc ≡ HandedOut
        → carry_by mv out b x ≡ result (stop_reply oc (out y.picks)) k y → y.phase ≡ Handed
    handed_out b x oc k y d e =
        sym (ap (λ (c : Call). c.next.phase) e)
        ∙ carried b x (out y.picks) (ap (λ (c : Call). c.answer) e ∙ ap (λ (z : Stop). stop_reply z (out y.picks)) d)
