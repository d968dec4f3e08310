-- Runs that omit: the sets handed out, followed by the kept ones still to come, are the kept ones of the leaves in
-- order, after every call. So a list of calls hands out a front of them (`kept_front`), and all of them once a call
-- has answered end (`kept_complete`); some list of calls reaches that (`kept_ends`). A run with nothing to omit makes
-- the calls of rules 1 to 5 (`all_kept`). Of one call, from any state that fits: `call_kept`; that calls of one move
-- each reach an end, wherever the moves do: `ends_from`. What a call reports of its moves is in Reports.antt, for any
-- rule for moves.
use mathlib.Core.Path.{◌≡◌, refl, ap, sym, ◌∙◌}
use mathlib.Core.Logic.{◌⊎◌, inl, inr}
use mathlib.Core.Bool.{Bool, true, false, cond}
use mathlib.Core.List.Memᴰ
use mathlib.Core.List.{List, [], ◌∷◌, ◌++◌, append-nil, map, Memᴰ}
use Prim.Native.Nat.{ℕ, zero, suc}
use native.Mathlib.Nat.{sub-zero}
use lib.Dec.{ltb}
use Rattle.rules.specs.Machine.{Ended, State, Given, nothing, hands, ends, Move, at, fresh}
use Rattle.rules.specs.ByNumber.{move, after}
use Rattle.rules.specs.Calls.{refused, end, Call, result, most_budget, answered, handouts, proceed_by, carry_by, call_by, calls_by, state_by}
use Rattle.rules.specs.ByNumber.{proceed, carry, call, calls_from}
use Rattle.rules.specs.Keeping.{taken, move_keeping, kept_sets}
use Rattle.rules.specs.private.Fitting.{Fits}
use Rattle.rules.proofs.Trees.{Tree, leaves}
use Rattle.rules.proofs.Progress.{rest, listed, move_rest, move_fits}
use Rattle.rules.proofs.Calls.{Closes, Closed, answered_append, move_closes, call_law}
use Rattle.rules.proofs.Reach.{reachable}
use Rattle.rules.proofs.Kept.{kept_yes, kept_no}

module _ (kids : List ℕ → List ℕ) (out : List ℕ → List ℕ) (keep : List ℕ → Bool) (n : ℕ) (t : Tree kids n) where
  abbrev mv : State → Move
  mv = move_keeping (move kids) out keep

  -- the leaves, and the kept sets, still to come
  abbrev to_come : State → List (List ℕ)
  to_come s = rest kids n s.picks s.phase

  pub ahead : State → List (List ℕ)
  ahead s = kept_sets keep (map out (to_come s))

  pub ahead_is : (s : State) → ahead s ≡ kept_sets keep (map out (to_come s))
  unfolding ahead
  ahead_is s = refl

  ahead_same : (s s' : State) → to_come s' ≡ to_come s → ahead s' ≡ ahead s
  unfolding ahead
  ahead_same s s' e = ap (λ (x : List (List ℕ)). kept_sets keep (map out x)) e

  ahead_yes : (s s' : State) (p : List ℕ) → p ∷ to_come s' ≡ to_come s → keep (out p) ≡ true → out p ∷ ahead s' ≡ ahead s
  unfolding ahead
  ahead_yes s s' p e d = sym (kept_yes keep (out p) (map out (to_come s')) d) ∙ ap (λ (x : List (List ℕ)). kept_sets keep (map out x)) e

  ahead_no : (s s' : State) (p : List ℕ) → p ∷ to_come s' ≡ to_come s → keep (out p) ≡ false → ahead s' ≡ ahead s
  unfolding ahead
  ahead_no s s' p e d = sym (kept_no keep (out p) (map out (to_come s')) d) ∙ ap (λ (x : List (List ℕ)). kept_sets keep (map out x)) e

  -- ---- one call
  pub record KeptLaw (s : State) (c : Call) : Type 0 where
    pub fits : Fits kids c.next.picks c.next.phase
    pub keeps : answered c.answer (ahead c.next) ≡ ahead s
    pub closed : Closed c.answer c.next

  carry_law : (b : ℕ) (s : State) → Fits kids s.picks s.phase → KeptLaw s (carry_by mv out b s)
  carry_law zero s h = record { fits = h; keeps = refl; closed = tt }
  carry_law (suc b) s h =
      go (carry_law b s' fit) (move kids s).given (move_rest kids n t s.picks s.phase h) (move_closes kids n t s.picks s.phase h)
    where
      s' : State
      s' = (move kids s).next

      fit : Fits kids s'.picks s'.phase
      fit = move_fits kids n t s.picks s.phase h

      go : KeptLaw s' (carry_by mv out b s') → (g : Given) → listed g (to_come s') ≡ to_come s → Closes g s'
          → KeptLaw s (proceed_by mv out (carry_by mv out b) (taken out keep g) s')
      go m nothing l c = record { fits = m.fits; keeps = m.keeps ∙ ahead_same s s' l; closed = m.closed }
      go m ends l c = record { fits = fit; keeps = ahead_same s s' l; closed = c }
      go m (hands p) l c = split (keep (out p)) refl
        where
          split : (k : Bool) → keep (out p) ≡ k → KeptLaw s (proceed_by mv out (carry_by mv out b) (cond k (hands p) nothing) s')
          split true d = record { fits = fit; keeps = ahead_yes s s' p l d; closed = tt }
          split false d = record { fits = m.fits; keeps = m.keeps ∙ ahead_no s s' p l d; closed = m.closed }

  pub call_kept : (b : ℕ) (s : State) → Fits kids s.picks s.phase → KeptLaw s (call_by mv out b s)
  unfolding call_by
  call_kept b s h = go (ltb most_budget b)
    where
      go : (x : Bool) → KeptLaw s (cond x (result (refused 18) 0 s) (carry_by mv out b s))
      go true = record { fits = h; keeps = refl; closed = tt }
      go false = carry_law b s h

  -- ---- a list of calls
  calls_keep : (bs : List ℕ) (s : State) → Fits kids s.picks s.phase → handouts (calls_by mv out bs s) ++ ahead (state_by mv out bs s) ≡ ahead s
  calls_keep [] s h = refl
  calls_keep (b ∷ bs) s h =
      let l = call_kept b s h in
      answered_append (call_by mv out b s).answer _ _ ∙
      (ap (answered (call_by mv out b s).answer) (calls_keep bs (call_by mv out b s).next l.fits) ∙ l.keeps)

  ahead-fresh : ahead fresh ≡ kept_sets keep (map out (leaves kids n []))
  unfolding ahead
  ahead-fresh = simp (append-nil, sub-zero)

  pub ahead_ended : ahead (at [] Ended) ≡ []
  unfolding ahead
  ahead_ended = refl

  pub kept_front : (bs : List ℕ) → (l : List (List ℕ)) × (handouts (calls_by mv out bs fresh) ++ l ≡ kept_sets keep (map out (leaves kids n [])))
  kept_front bs = (ahead (state_by mv out bs fresh), calls_keep bs fresh tt ∙ ahead-fresh)

  stays_ended : (bs : List ℕ) → state_by mv out bs (at [] Ended) ≡ at [] Ended
  unfolding call_by
  stays_ended [] = refl
  stays_ended (b ∷ bs) = rw (again (ltb most_budget b) b) (stays_ended bs)
    where
      again : (x : Bool) (b : ℕ) → (cond x (result (refused 18) 0 (at [] Ended)) (carry_by mv out b (at [] Ended))).next ≡ at [] Ended
      again true b = refl
      again false zero = refl
      again false (suc b) = refl

  end_after : (bs : List ℕ) (s : State) → Fits kids s.picks s.phase → (c : Call) → Memᴰ c (calls_by mv out bs s) → c.answer ≡ end
      → state_by mv out bs s ≡ at [] Ended
  end_after [] s h c m e = absurd (Memᴰ.not-nil m)
  end_after (b ∷ bs) s h c m e = go (λ k. end_after bs (call_by mv out b s).next (call_kept b s h).fits c k e) (Memᴰ.cases_cons m)
    where
      go : (Memᴰ c (calls_by mv out bs (call_by mv out b s).next) → state_by mv out bs (call_by mv out b s).next ≡ at [] Ended)
          → (c ≡ call_by mv out b s) ⊎ Memᴰ c (calls_by mv out bs (call_by mv out b s).next) → state_by mv out bs (call_by mv out b s).next ≡ at [] Ended
      go on (inl q) =
          let a : (call_by mv out b s).answer ≡ end = sym (ap (λ (x : Call). x.answer) q) ∙ e in
          let z : (call_by mv out b s).next ≡ at [] Ended = rw a at (call_kept b s h).closed in
          rw z (stays_ended bs)
      go on (inr k) = on k

  pub kept_complete : (bs : List ℕ) (c : Call) → Memᴰ c (calls_by mv out bs fresh) → c.answer ≡ end
      → handouts (calls_by mv out bs fresh) ≡ kept_sets keep (map out (leaves kids n []))
  kept_complete bs c m e =
      let k : handouts (calls_by mv out bs fresh) ++ [] ≡ kept_sets keep (map out (leaves kids n [])) =
      rw (end_after bs fresh tt c m e, ahead_ended) at (calls_keep bs fresh tt ∙ ahead-fresh) in
      rw append-nil at k

  -- ---- the run ends: one move a call is enough
  abbrev pub single : ℕ → List ℕ
  single zero = []
  single (suc k) = 1 ∷ single k

  one_move : (s : State) → (call_by mv out 1 s).next ≡ (move kids s).next
  unfolding call_by
  one_move s = go (taken out keep (move kids s).given)
    where
      go : (g : Given) → (proceed_by mv out (carry_by mv out 0) g (move kids s).next).next ≡ (move kids s).next
      go nothing = refl
      go (hands p) = refl
      go ends = refl

  ended_once : (call_by mv out 1 (at [] Ended)).answer ≡ end
  unfolding call_by
  ended_once = refl

  pub ends_from : (k : ℕ) (s : State) → after kids k s ≡ at [] Ended → (c : Call) × Memᴰ c (calls_by mv out (single (suc k)) s) × (c.answer ≡ end)
  ends_from zero s e = (call_by mv out 1 s, Memᴰ.head refl, rw e ended_once)
  ends_from (suc k) s e =
      let r = ends_from k (call_by mv out 1 s).next (rw (one_move s) e) in
      (r.0, Memᴰ.tail r.1, r.2)

  pub kept_ends : (bs : List ℕ) × (c : Call) × Memᴰ c (calls_by mv out bs fresh) × (c.answer ≡ end)
  kept_ends =
      let k = (reachable kids n t (at [] Ended)).1 refl in
      let r = ends_from k.count fresh k.leads in
      (single (suc k.count), r.0, r.1, r.2)

  -- ---- a run with nothing to omit
  -- every leaf still to come is kept
  abbrev Kept : State → Type 0
  Kept s = (p : List ℕ) → Memᴰ p (to_come s) → keep (out p) ≡ true

  carry_all : (b : ℕ) (s : State) → Fits kids s.picks s.phase → Kept s → (carry_by mv out b s ≡ carry kids out b s) × Kept (carry kids out b s).next
  carry_all zero s h a = (refl, a)
  carry_all (suc b) s h a = go (move kids s).given (move_rest kids n t s.picks s.phase h) (carry_all b s' (move_fits kids n t s.picks s.phase h))
    where
      s' : State
      s' = (move kids s).next

      later : (g : Given) → listed g (to_come s') ≡ to_come s → Kept s'
      later nothing l p m = a p (rw l at m)
      later (hands q) l p m = a p (rw l at (Memᴰ.tail {x = q} m))
      later ends l p m = a p (rw l at m)

      go : (g : Given) → listed g (to_come s') ≡ to_come s → (Kept s' → (carry_by mv out b s' ≡ carry kids out b s') × Kept (carry kids out b s').next)
          → (proceed_by mv out (carry_by mv out b) (taken out keep g) s' ≡ proceed kids out (carry kids out b) g s') × Kept
          (proceed kids out (carry kids out b) g s').next
      go nothing l on = let r = on (later nothing l) in (ap (λ (c : Call). result c.answer (suc c.moves) c.next) r.0, r.1)
      go (hands p) l on = let m : Memᴰ p (p ∷ to_come s') = Memᴰ.head refl in (rw (a p (rw l at m)), later (hands p) l)
      go ends l on = (refl, later ends l)

  call_all : (b : ℕ) (s : State) → Fits kids s.picks s.phase → Kept s → (call_by mv out b s ≡ call kids out b s) × Kept (call kids out b s).next
  unfolding call_by
  call_all b s h a = go (ltb most_budget b)
    where
      go : (x : Bool) → (cond x (result (refused 18) 0 s) (carry_by mv out b s) ≡ cond x (result (refused 18) 0 s) (carry kids out b s))
          × Kept (cond x (result (refused 18) 0 s) (carry kids out b s)).next
      go true = (refl, a)
      go false = carry_all b s h a

  calls_all : (bs : List ℕ) (s : State) → Fits kids s.picks s.phase → Kept s → calls_by mv out bs s ≡ calls_from kids out bs s
  calls_all [] s h a = refl
  calls_all (b ∷ bs) s h a =
      let c = call_all b s h a in
      rw c.0 (ap (λ (l : List Call). call kids out b s ∷ l) (calls_all bs (call kids out b s).next (call_law kids out n t b s h).fits c.1))

  pub all_kept : ((p : List ℕ) → Memᴰ p (leaves kids n []) → keep (out p) ≡ true) → (bs : List ℕ) → calls_by mv out bs fresh ≡ calls_from kids out bs fresh
  all_kept a bs = calls_all bs fresh tt (λ p m. a p (rw fresh-leaves at m))
    where
      fresh-leaves : to_come fresh ≡ leaves kids n []
      fresh-leaves = simp (append-nil, sub-zero)
