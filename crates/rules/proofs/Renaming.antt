-- States whose numbers are renamed by a map f, number for number: a machine that goes by place makes the moves of one
-- that goes by number, renamed, where the place of f i is i (`moves_renamed`). So it reaches the same states
-- (`after_renamed`) and makes the same calls, renamed (`carry-renamed`, `call-renamed`, `calls-renamed`,
-- `state-renamed`), also where it hands over the kept sets alone (`keeping_follows`). Last, what a renamed list of
-- calls hands out, and its moves.
--
-- Elsewhere: the places of a preference, and the candidates by place, crate `lists`.
use mathlib.Core.Path.{◌≡◌, refl, sym, ap, ◌∙◌}
use mathlib.Core.Bool.{Bool, true, false, cond}
use mathlib.Core.List.{List, [], ◌∷◌, ◌++◌, head?, map}
use Prim.Native.Nat.{ℕ, zero, suc, ◌+◌, ◌<◌}
use native.Mathlib.Decide.{dec_lt}
use native.Mathlib.Omega.{arith}
use lib.Dec.{ltb}
use borrow.Author.Tests.{lt-ltb, le-ltb}
use Rattle.basics.proofs.Clash.{clash}
use Rattle.rules.specs.Sequences.{All}
use Rattle.rules.specs.Machine.{Phase, Down, Handed, Back, Ended, State, at, Given, nothing, hands, ends, Move, gives, cut_last, take_back, down, back}
use Rattle.rules.specs.Machine.{above_in, step_in, move_in, after_by}
use Rattle.rules.specs.ByNumber.{above, step, move}
use Rattle.rules.specs.Calls.{Reply, refused, handed, Call, result, most_budget, answered, handouts, moves_until}
use Rattle.rules.specs.Calls.{proceed_by, carry_by, call_by, calls_by, state_by}
use Rattle.rules.specs.Keeping.{taken, move_keeping}
use Rattle.rules.proofs.Trees.{by_last, cut_snoc}

-- ---- renamed
abbrev pub renamed_phase : (ℕ → ℕ) → Phase → Phase
renamed_phase f Down = Down
renamed_phase f Handed = Handed
renamed_phase f (Back g) = Back (f g)
renamed_phase f Ended = Ended

abbrev pub renamed : (ℕ → ℕ) → State → State
renamed f s = at (map f s.picks) (renamed_phase f s.phase)

abbrev pub renamed_given : (ℕ → ℕ) → Given → Given
renamed_given f nothing = nothing
renamed_given f (hands p) = hands (map f p)
renamed_given f ends = ends

abbrev pub renamed_move : (ℕ → ℕ) → Move → Move
renamed_move f m = gives (renamed_given f m.given) (renamed f m.next)

abbrev pub renamed_call : (ℕ → ℕ) → Call → Call
renamed_call f c = result c.answer c.moves (renamed f c.next)

pub map_snoc : (f : ℕ → ℕ) (q : List ℕ) (g : ℕ) → map f (q ++ (g ∷ [])) ≡ map f q ++ (f g ∷ [])
map_snoc f [] g = refl
map_snoc f (x ∷ q) g = ap (λ (l : List ℕ). f x ∷ l) (map_snoc f q g)

-- ---- numbers below n in a state
abbrev PhaseBelow : ℕ → Phase → Type 0
PhaseBelow n Down = Unit {0}
PhaseBelow n Handed = Unit {0}
PhaseBelow n (Back i) = i < n
PhaseBelow n Ended = Unit {0}

pub record Below (n : ℕ) (q : List ℕ) (f : Phase) : Type 0 where
  pub picks : All (λ (i : ℕ). i < n) q
  pub phase : PhaseBelow n f

-- ---- one move
module _ (f : ℕ → ℕ) where
  pick_renamed : (q : List ℕ) (i : ℕ) → gives nothing (at (map f q ++ (f i ∷ [])) Down) ≡ renamed_move f (gives nothing (at (q ++ (i ∷ [])) Down))
  pick_renamed q i = ap (λ (l : List ℕ). gives nothing (at l Down)) (sym (map_snoc f q i))

  down_renamed : (q l : List ℕ) → down (map f q) (head? (map f l)) ≡ renamed_move f (down q (head? l))
  down_renamed q [] = refl
  down_renamed q (i ∷ l) = pick_renamed q i

  take_renamed : (q : List ℕ) → take_back (cut_last (map f q)) ≡ renamed_move f (take_back (cut_last q))
  take_renamed q =
      by_last (λ (q : List ℕ). take_back (cut_last (map f q)) ≡ renamed_move f (take_back (cut_last q))) refl
      (λ q i _.
      ap (λ (l : List ℕ). take_back (cut_last l)) (map_snoc f q i) ∙ ap take_back (cut_snoc (map f q) (f i))
      ∙ sym (ap (λ c. renamed_move f (take_back c)) (cut_snoc q i))) q

  back_renamed : (q l : List ℕ) → back (map f q) (head? (map f l)) ≡ renamed_move f (back q (head? l))
  back_renamed q [] = take_renamed q
  back_renamed q (i ∷ l) = pick_renamed q i

-- the machine by place has the kids of the one by number, renamed, and the place of f i is i
pub record Renames (n : ℕ) (f place : ℕ → ℕ) (kids kids' : List ℕ → List ℕ) : Type 0 where
  pub back_to : (i : ℕ) → i < n → place (f i) ≡ i
  pub inside : (q : List ℕ) → All (λ (i : ℕ). i < n) (kids q)
  pub kids_are : (q : List ℕ) → All (λ (i : ℕ). i < n) q → kids' (map f q) ≡ map f (kids q)

module _ (n : ℕ) (f place : ℕ → ℕ) (kids kids' : List ℕ → List ℕ) (r : Renames n f place kids kids') where
  above_renamed : (i : ℕ) (l : List ℕ) → i < n → All (λ (j : ℕ). j < n) l → above_in place (f i) (map f l) ≡ map f (above i l)
  above_renamed i [] h b = refl
  above_renamed i (j ∷ l) h b = go (dec_lt i j) (above_renamed i l h b.1)
    where
      go : Dec (i < j) → above_in place (f i) (map f l) ≡ map f (above i l) → above_in place (f i) (map f (j ∷ l)) ≡ map f (above i (j ∷ l))
      go (yes k) ih = rw (r.back_to i h, r.back_to j b.0, lt-ltb i j k) (ap (λ (m : List ℕ). f j ∷ m) ih)
      go (no k) ih = rw (r.back_to i h, r.back_to j b.0, le-ltb i j (omega arith)) ih

  step_renamed : (q : List ℕ) (p : Phase) → Below n q p → step_in place kids' (map f q) (renamed_phase f p) ≡ renamed_move f (step kids q p)
  step_renamed q Down b = ap (λ (l : List ℕ). down (map f q) (head? l)) (r.kids_are q b.picks) ∙ down_renamed f q (kids q)
  step_renamed q Handed b = take_renamed f q
  step_renamed q (Back i) b =
      ap (λ (l : List ℕ). back (map f q) (head? (above_in place (f i) l))) (r.kids_are q b.picks)
      ∙ ap (λ (l : List ℕ). back (map f q) (head? l)) (above_renamed i (kids q) b.phase (r.inside q)) ∙ back_renamed f q (above i (kids q))
  step_renamed q Ended b = refl

  pub moves_renamed : (s : State) → Below n s.picks s.phase → move_in place kids' (renamed f s) ≡ renamed_move f (move kids s)
  moves_renamed s b = step_renamed s.picks s.phase b

-- ---- many moves: mv' makes the moves of mv, renamed, in the states that `good` holds of, which mv keeps
pub record Follows (f : ℕ → ℕ) (good : State → Type 0) (mv mv' : State → Move) : Type 0 where
  pub stays : (s : State) → good s → good (mv s).next
  pub same_move : (s : State) → good s → mv' (renamed f s) ≡ renamed_move f (mv s)

-- and what is handed out is the same
pub record SameOut (f : ℕ → ℕ) (good : State → Type 0) (mv : State → Move) (out out' : List ℕ → List ℕ) : Type 0 where
  pub same_out : (s : State) → good s → (p : List ℕ) → (mv s).given ≡ hands p → out' (map f p) ≡ out p

pub any_out : (f : ℕ → ℕ) (good : State → Type 0) (mv : State → Move) (out : List ℕ → List ℕ) → SameOut f good mv (λ p. out (map f p)) out
any_out f good mv out = record { same_out = λ s h p e. refl }

module _ {f : ℕ → ℕ} {good : State → Type 0} {mv mv' : State → Move} (w : Follows f good mv mv') where
  pub after_renamed : (k : ℕ) (s : State) → good s → after_by mv' k (renamed f s) ≡ renamed f (after_by mv k s)
  after_renamed zero s h = refl
  after_renamed (suc k) s h = ap (λ (m : Move). after_by mv' k m.next) (w.same_move s h) ∙ after_renamed k (mv s).next (w.stays s h)

  module _ {out out' : List ℕ → List ℕ} (u : SameOut f good mv out out') where
    pub carry-renamed : (b : ℕ) (s : State) → good s → carry_by mv' out' b (renamed f s) ≡ renamed_call f (carry_by mv out b s)
    carry-renamed zero s h = refl
    carry-renamed (suc b) s h =
        ap (λ (m : Move). proceed_by mv' out' (carry_by mv' out' b) m.given m.next) (w.same_move s h)
        ∙ go (mv s).given refl (carry-renamed b (mv s).next (w.stays s h))
      where
        go : (g : Given) → (mv s).given ≡ g → carry_by mv' out' b (renamed f (mv s).next) ≡ renamed_call f (carry_by mv out b (mv s).next)
            → proceed_by mv' out' (carry_by mv' out' b) (renamed_given f g) (renamed f (mv s).next)
            ≡ renamed_call f (proceed_by mv out (carry_by mv out b) g (mv s).next)
        go nothing e ih = ap (λ (c : Call). result c.answer (suc c.moves) c.next) ih
        go (hands p) e ih = ap (λ (x : List ℕ). result (handed x) 1 (renamed f (mv s).next)) (u.same_out s h p e)
        go ends e ih = refl

    carry-stays : (b : ℕ) (s : State) → good s → good (carry_by mv out b s).next
    carry-stays zero s h = h
    carry-stays (suc b) s h = go (mv s).given (w.stays s h) (carry-stays b (mv s).next (w.stays s h))
      where
        go : (g : Given) → good (mv s).next → good (carry_by mv out b (mv s).next).next → good (proceed_by mv out (carry_by mv out b) g (mv s).next).next
        go nothing a ih = ih
        go (hands p) a ih = a
        go ends a ih = a

    pub call_stays : (b : ℕ) (s : State) → good s → good (call_by mv out b s).next
    unfolding call_by
    call_stays b s h = go (ltb most_budget b)
      where
        go : (x : Bool) → good (cond x (result (refused 18) 0 s) (carry_by mv out b s)).next
        go true = h
        go false = carry-stays b s h

    pub call-renamed : (b : ℕ) (s : State) → good s → call_by mv' out' b (renamed f s) ≡ renamed_call f (call_by mv out b s)
    unfolding call_by
    call-renamed b s h = go (ltb most_budget b)
      where
        go : (x : Bool) → cond x (result (refused 18) 0 (renamed f s)) (carry_by mv' out' b (renamed f s))
            ≡ renamed_call f (cond x (result (refused 18) 0 s) (carry_by mv out b s))
        go true = refl
        go false = carry-renamed b s h

    pub calls-renamed : (bs : List ℕ) (s : State) → good s → calls_by mv' out' bs (renamed f s) ≡ map (renamed_call f) (calls_by mv out bs s)
    calls-renamed [] s h = refl
    calls-renamed (b ∷ bs) s h =
        ap (λ (c : Call). c ∷ calls_by mv' out' bs c.next) (call-renamed b s h)
        ∙ ap (λ (l : List Call). renamed_call f (call_by mv out b s) ∷ l) (calls-renamed bs (call_by mv out b s).next (call_stays b s h))

    pub state-renamed : (bs : List ℕ) (s : State) → good s → state_by mv' out' bs (renamed f s) ≡ renamed f (state_by mv out bs s)
    state-renamed [] s h = refl
    state-renamed (b ∷ bs) s h =
        ap (λ (c : Call). state_by mv' out' bs c.next) (call-renamed b s h) ∙ state-renamed bs (call_by mv out b s).next (call_stays b s h)

-- ---- the same of runs that omit, which keep the same of what is handed out
module _ {f : ℕ → ℕ} {good : State → Type 0} {mv mv' : State → Move} (w : Follows f good mv mv') (out out' : List ℕ → List ℕ) (keep keep' : List ℕ → Bool)
    (same : (s : State) → good s → (p : List ℕ) → (mv s).given ≡ hands p → keep' (out' (map f p)) ≡ keep (out p)) where
  pub keeping_follows : Follows f good (move_keeping mv out keep) (move_keeping mv' out' keep')
  keeping_follows = record {
    stays = w.stays;
    same_move = λ s h. ap (λ (m : Move). gives (taken out' keep' m.given) m.next) (w.same_move s h)
        ∙ ap (λ (g : Given). gives g (renamed f (mv s).next)) (kept-given s h (mv s).given refl);
  }
    where
      kept-given : (s : State) → good s → (g : Given) → (mv s).given ≡ g → taken out' keep' (renamed_given f g) ≡ renamed_given f (taken out keep g)
      kept-given s h nothing e = refl
      kept-given s h (hands p) e = rw (same s h p e) (go (keep (out p)))
        where
          go : (x : Bool) → cond x (hands (map f p)) nothing ≡ renamed_given f (cond x (hands p) nothing)
          go true = refl
          go false = refl
      kept-given s h ends e = refl

pub keeping_out : {f : ℕ → ℕ} {good : State → Type 0} {mv : State → Move} {out out' : List ℕ → List ℕ} (keep : List ℕ → Bool)
    → SameOut f good mv out out' → SameOut f good (move_keeping mv out keep) out out'
keeping_out {f} {good} {mv} {out} {out'} keep u = record { same_out = λ s h p e. outs s h p (mv s).given refl e }
  where
    outs : (s : State) → good s → (p : List ℕ) (g : Given) → (mv s).given ≡ g → taken out keep g ≡ hands p → out' (map f p) ≡ out p
    outs s h p nothing e d = clash cc
    outs s h p (hands q) e d = go (keep (out q)) d
      where
        go : (x : Bool) → cond x (hands q) nothing ≡ hands p → out' (map f p) ≡ out p
        go true z = let y : q ≡ p = cc in rw (← y) (u.same_out s h q e)
        go false z = clash cc
    outs s h p ends e d = clash cc

-- ---- a renamed list of calls
module _ (f : ℕ → ℕ) where
  pub handouts_renamed : (cs : List Call) → handouts (map (renamed_call f) cs) ≡ handouts cs
  handouts_renamed [] = refl
  handouts_renamed (c ∷ cs) = ap (answered c.answer) (handouts_renamed cs)

  pub moves_until_renamed : (stops : Reply → Bool) (cs : List Call) → moves_until stops (map (renamed_call f) cs) ≡ moves_until stops cs
  moves_until_renamed stops [] = refl
  moves_until_renamed stops (c ∷ cs) = ap (λ (k : ℕ). c.moves + cond (stops c.answer) 0 k) (moves_until_renamed stops cs)

  -- a call of it is a call renamed, and what comes before and after is
  pub record SplitAt (cs sooner later : List Call) (c : Call) : Type 0 where
    pub sooner' : List Call
    pub later' : List Call
    pub call' : Call
    pub parts : cs ≡ sooner' ++ (call' ∷ later')
    pub is_call : renamed_call f call' ≡ c
    pub is_later : map (renamed_call f) later' ≡ later

  pub split_renamed : (cs sooner later : List Call) (c : Call) → map (renamed_call f) cs ≡ sooner ++ (c ∷ later) → SplitAt cs sooner later c
  split_renamed [] [] later c e = clash cc
  split_renamed [] (x ∷ sooner) later c e = clash cc
  split_renamed (d ∷ cs) [] later c e =
      record { sooner' = []; later' = cs; call' = d; parts = refl; is_call = let z : renamed_call f d ≡ c = cc in z; is_later = cc }
  split_renamed (d ∷ cs) (x ∷ sooner) later c e =
      let r = split_renamed cs sooner later c (cc) in
      record {
        sooner' = d ∷ r.sooner';
        later' = r.later';
        call' = r.call';
        parts = ap (λ (l : List Call). d ∷ l) r.parts;
        is_call = r.is_call;
        is_later = r.is_later;
      }
