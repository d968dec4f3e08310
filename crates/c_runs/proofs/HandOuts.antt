-- What a call hands out, on either side: it leaves the phase Handed, with the picks of the set that it hands out (`call-hands`); so that set is a maximal
-- chain of the table (`handed_maximal`), of G rows, and its pick sequence is the picks (`handed_sequence`).
use mathlib.Core.Path.{◌≡◌, refl, sym, ap, ◌∙◌, subst}
use mathlib.Core.Bool.{Bool, true, false, cond}
use mathlib.Core.Option.{Option, none, some}
use mathlib.Core.List.{List, map, head?}
use Prim.Native.Nat.{ℕ, zero, suc, ◌≤◌}
use Rattle.basics.proofs.Clash.{clash}
use Rattle.table.specs.declared.Table.{Table}
use Rattle.table.specs.Chains.{IsMaximal}
use Rattle.table.specs.Tables.{table_rows, padded}
use Rattle.rules.specs.Machine.{Phase, Down, Handed, Back, Ended, State, at, Given, nothing, hands, ends, Move, Cut, empty, cut, cut_last, take_back, down, back}
use Rattle.rules.specs.Machine.{above_in, step_in}
use Rattle.rules.specs.Calls.{handed, Call, most_budget, proceed_by, carry_by}
use Rattle.rules.specs.Keeping.{taken}
use Rattle.rules.proofs.Calls.{within_by}
use Rattle.lists.specs.Arrangements.{IsArrangement, place_of}
use Rattle.lists.specs.Preferred.{candidates_by}
use Rattle.lists.specs.Lists.{Side}
use Rattle.lists.specs.OnTable.{chain_of, hand_out, move_on, ReachedOn}
use Rattle.lists.specs.private.Arranging.{prefer}
use Rattle.lists.proofs.Maximal.{leaf_maximal}
use Rattle.lists.proofs.BothSides.{Fair}
use Rattle.lists.proofs.PreferredSides.{prefer_fair}
use Rattle.lists.proofs.PlacedRuns.{hand_out_placed, good_below, reached_placed}
use Rattle.conflicts.specs.Omitting.{keeps_of}
use Rattle.runs.specs.Calling.{sequence}
use Rattle.runs.specs.private.Either.{call_of}
use Rattle.runs.specs.Omitting.{moves_of}
use Rattle.runs.proofs.HandOuts.{handed_leaf, sequence_of_lem}

-- ---- a move gives a hand-out only as it becomes Handed, with the picks that are handed out
back_hands : (c : Cut) (p : List ℕ) → ¬ ((take_back c).given ≡ hands p)
back_hands empty p e = clash cc
back_hands (cut q g) p e = clash cc

module _ (place : ℕ → ℕ) (kids : List ℕ → List ℕ) where
  move_hands : (q : List ℕ) (f : Phase) (p : List ℕ) → (step_in place kids q f).given ≡ hands p → (step_in place kids q f).next ≡ at p Handed
  move_hands q Down p = go (head? (kids q))
    where
      go : (o : Option ℕ) → (down q o).given ≡ hands p → (down q o).next ≡ at p Handed
      go none e = let d : q ≡ p = cc in ap (λ (l : List ℕ). at l Handed) d
      go (some g) e = clash cc
  move_hands q Handed p = λ e. absurd (back_hands (cut_last q) p e)
  move_hands q (Back g) p = go (head? (above_in place g (kids q)))
    where
      go : (o : Option ℕ) → (back q o).given ≡ hands p → (back q o).next ≡ at p Handed
      go none e = absurd (back_hands (cut_last q) p e)
      go (some h) e = clash cc
  move_hands q Ended p = λ e. clash cc

-- a run that omits hands out what the rules hand out
taken_hands : (out : List ℕ → List ℕ) (keep : List ℕ → Bool) (g : Given) (p : List ℕ) → taken out keep g ≡ hands p → g ≡ hands p
taken_hands out keep nothing p e = e
taken_hands out keep (hands q) p e = go (keep (out q)) e
  where
    go : (b : Bool) → cond b (hands q) nothing ≡ hands p → hands q ≡ hands p
    go true d = d
    go false d = clash cc
taken_hands out keep ends p e = e

module _ (t : Table) (s : Side) (o : List ℕ) where
  hands_at : (omit : Bool) (x : State) (p : List ℕ) → (moves_of t s o omit x).given ≡ hands p → (moves_of t s o omit x).next ≡ at p Handed
  hands_at false x p e = move_hands (place_of o) (candidates_by o s.rows) x.picks x.phase p e
  hands_at true x p e =
      move_hands (place_of o) (candidates_by o s.rows) x.picks x.phase p (taken_hands (hand_out s) (keeps_of t) (move_on s o x).given p e)

  -- so does a call
  module _ (omit : Bool) where
    abbrev out : List ℕ → List ℕ
    out = hand_out s

    abbrev mv : State → Move
    mv = moves_of t s o omit

    carried : (b : ℕ) (x : State) (y : List ℕ) → (carry_by mv out b x).answer ≡ handed y
        → ((carry_by mv out b x).next.phase ≡ Handed) × (out (carry_by mv out b x).next.picks ≡ y)
    carried zero x y e = clash cc
    carried (suc b) x y e = go (mv x).given refl (carried b (mv x).next y) e
      where
        go : (g : Given) → (mv x).given ≡ g
            → ((carry_by mv out b (mv x).next).answer ≡ handed y
            → ((carry_by mv out b (mv x).next).next.phase ≡ Handed) × (out (carry_by mv out b (mv x).next).next.picks ≡ y))
            → (proceed_by mv out (carry_by mv out b) g (mv x).next).answer ≡ handed y
            → ((proceed_by mv out (carry_by mv out b) g (mv x).next).next.phase ≡ Handed)
            × (out (proceed_by mv out (carry_by mv out b) g (mv x).next).next.picks ≡ y)
        go nothing d ih z = ih z
        go (hands p) d ih z =
            let n = hands_at omit x p d in
            let q : out p ≡ y = cc in
            (ap (λ (a : State). a.phase) n, ap (λ (a : State). out a.picks) n ∙ q)
        go ends d ih z = clash cc

    pub call-hands : (b : ℕ) (x : State) (y : List ℕ) → b ≤ most_budget → (call_of t s o omit b x).answer ≡ handed y
        → ((call_of t s o omit b x).next.phase ≡ Handed) × (out (call_of t s o omit b x).next.picks ≡ y)
    call-hands b x y l e =
        subst (λ (c : Call). c.answer ≡ handed y → (c.next.phase ≡ Handed) × (out c.next.picks ≡ y)) (sym (within_by mv out b x l)) (carried b x y) e

-- ---- the set that is handed out in a reached state
module _ (t : Table) (s : Side) (f : Fair t s) (o : List ℕ) (a : IsArrangement s.count o) (x : State) (r : ReachedOn s o x) (e : x.phase ≡ Handed) where
  pub handed_maximal : IsMaximal (table_rows t) (hand_out s x.picks)
  handed_maximal =
      let p = (reached_placed s o f.counted a x).0 r in
      let q = p.state.picks in
      let l = handed_leaf s o f.counted a x p e in
      subst (IsMaximal (table_rows t))
      (sym (hand_out_placed s o f.counted a q (good_below s o f.counted a p.state p.good).picks)
      ∙ ap (λ (z : State). hand_out s z.picks) p.is)
      ((prefer_fair t s f o a).home (chain_of (prefer o s).rows q) (leaf_maximal (prefer o s).rows q l)).0

  pub handed_sequence : padded (map suc x.picks) ≡ sequence s o (hand_out s x.picks)
  handed_sequence = sequence_of_lem t s f o a x r e
