-- The laws of one move and of one call, and what a list of calls hands out, in how many moves.
--
-- In order: the cost of a state, which a move that gives nothing lowers, so that it bounds the moves to the next
-- hand-out or end (`cost`, `cost_lap`); the law of a move and of a call, a refused one too
-- (`call_law`); the sets handed out, followed by those still to come, are those of the leaves in
-- order (`calls_front`, `calls_complete`); the two limits (`calls_start`, `calls_gap`), and that no end comes before
-- the first hand-out (`start_same`).
--
-- Elsewhere: what a call reports of its moves, Reports.antt; that calls reach an end, Ends.antt.
use mathlib.Core.Path.{◌≡◌, refl, ap, sym, ◌∙◌}
use mathlib.Core.Logic.{◌⊎◌, inl, inr}
use mathlib.Core.Bool.{Bool, true, false, cond}
use mathlib.Core.Option.{Option, none, some}
use mathlib.Core.List.Memᴰ
use mathlib.Core.List.{List, [], ◌∷◌, ◌++◌, head?, append-nil, map, Memᴰ}
use Prim.Native.Nat.{ℕ, zero, suc, ◌+◌, ◌-◌, ◌*◌, ◌≤◌, ◌<◌}
use native.Mathlib.Nat.{sub-zero}
use native.Mathlib.Omega.{arith}
use lib.Dec.{ltb}
use lib.ListN.{length}
use borrow.Author.Tests.{lt-ltb, le-ltb}
use Rattle.basics.proofs.Clash.{clash}
use Rattle.rules.specs.Machine.{cut_last, Phase, Down, Handed, Back, Ended, State, Given, nothing, hands, ends, at, fresh, take_back, down, back}
use Rattle.rules.specs.ByNumber.{above}
use Rattle.rules.specs.Machine.{Move}
use Rattle.rules.specs.ByNumber.{step, move}
use Rattle.rules.specs.Calls.{Reply, refused, spent, handed, end, Call, result, most_budget, answered, handouts, moves_until, is_hand_out, is_hand_out_or_end}
use Rattle.rules.specs.Calls.{carry_by, call_by}
use Rattle.rules.specs.ByNumber.{proceed, carry, call, calls_from, calls, state_after}
use Rattle.rules.specs.private.Fitting.{Fits}
use Rattle.rules.proofs.Trees.{by_last, cut_snoc, length_snoc, Tree, leaves, kid_fits}
use Rattle.rules.proofs.Progress.{rest, listed, move_rest, move_fits}

-- a move that gives nothing leads to a lower cost
abbrev Costs : Given → ℕ → ℕ → Type 0
Costs nothing c d = suc c ≤ d
Costs (hands p) c d = Unit {0}
Costs ends c d = Unit {0}

-- a move that ends leads to the end
abbrev pub Closes : Given → State → Type 0
Closes nothing s = Unit {0}
Closes (hands p) s = Unit {0}
Closes ends s = s ≡ at [] Ended

-- k moves, from a state of cost d to one of cost c
abbrev pub Paid : Reply → ℕ → ℕ → ℕ → Type 0
Paid (refused j) k c d = k + c ≤ d
Paid spent k c d = k + c ≤ d
Paid (handed x) k c d = k ≤ d
Paid end k c d = k ≤ d

abbrev pub Closed : Reply → State → Type 0
Closed (refused j) s = Unit {0}
Closed spent s = Unit {0}
Closed (handed x) s = Unit {0}
Closed end s = s ≡ at [] Ended

-- how many moves at most lead to the next hand-out or end, with it
abbrev pub cost : ℕ → List ℕ → Phase → ℕ
cost n p Down = suc (n - length p)
cost n p Handed = suc (n + length p)
cost n p (Back g) = suc (n + length p)
cost n p Ended = 1

pub cost_pos : (n : ℕ) (p : List ℕ) (f : Phase) → 1 ≤ cost n p f
cost_pos n p Down = omega arith
cost_pos n p Handed = omega arith
cost_pos n p (Back g) = omega arith
cost_pos n p Ended = omega arith

-- ---- one move
module _ (kids : List ℕ → List ℕ) (n : ℕ) where
  record MoveLaw (s : State) (g : Given) (s' : State) : Type 0 where
    fits : Fits kids s'.picks s'.phase
    keeps : listed g (rest kids n s'.picks s'.phase) ≡ rest kids n s.picks s.phase
    costs : Costs g (cost n s'.picks s'.phase) (cost n s.picks s.phase)
    closes : Closes g s'

module _ (kids : List ℕ → List ℕ) (n : ℕ) (t : Tree kids n) where
  pub cost_lap : (p : List ℕ) (f : Phase) → Fits kids p f → cost n p f ≤ 2 * n + 1
  cost_lap p Down h = omega arith
  cost_lap p Handed h = omega (arith, t.depth p h.0)
  cost_lap p (Back g) h = omega (arith, t.depth p h.0)
  cost_lap p Ended h = omega arith

  take_costs : (p : List ℕ)
      → Costs (take_back (cut_last p)).given (cost n (take_back (cut_last p)).next.picks (take_back (cut_last p)).next.phase) (suc (n + length p))
  take_costs p =
      by_last
      (λ (p : List ℕ).
      Costs (take_back (cut_last p)).given (cost n (take_back (cut_last p)).next.picks (take_back (cut_last p)).next.phase) (suc (n + length p)))
      tt
      (λ p g _. rw (cut_snoc p g) (omega (arith, length_snoc p g)))
      p

  move_costs : (p : List ℕ) (f : Phase) → Fits kids p f
      → Costs (step kids p f).given (cost n (step kids p f).next.picks (step kids p f).next.phase) (cost n p f)
  move_costs p Down v = go (kids p) refl
    where
      go : (k : List ℕ) → kids p ≡ k
          → Costs (down p (head? k)).given (cost n (down p (head? k)).next.picks (down p (head? k)).next.phase) (suc (n - length p))
      go [] e = tt
      go (g ∷ gs) e = omega (arith, length_snoc p g, kid_fits kids n t p g v (rw e (Memᴰ.head refl)))
  move_costs p Handed h = take_costs p
  move_costs p (Back g) h = go (above g (kids p))
    where
      go : (l : List ℕ) → Costs (back p (head? l)).given (cost n (back p (head? l)).next.picks (back p (head? l)).next.phase) (suc (n + length p))
      go [] = take_costs p
      go (x ∷ xs) = omega (arith, length_snoc p x, kid_fits kids n t p g h.0 h.1)
  move_costs p Ended h = tt

  take_closes : (p : List ℕ) → Closes (take_back (cut_last p)).given (take_back (cut_last p)).next
  take_closes p = by_last (λ (p : List ℕ). Closes (take_back (cut_last p)).given (take_back (cut_last p)).next) refl (λ p g _. rw (cut_snoc p g) tt) p

  pub move_closes : (p : List ℕ) (f : Phase) → Fits kids p f → Closes (step kids p f).given (step kids p f).next
  move_closes p Down v = go (kids p)
    where
      go : (k : List ℕ) → Closes (down p (head? k)).given (down p (head? k)).next
      go [] = tt
      go (g ∷ gs) = tt
  move_closes p Handed h = take_closes p
  move_closes p (Back g) h = go (above g (kids p))
    where
      go : (l : List ℕ) → Closes (back p (head? l)).given (back p (head? l)).next
      go [] = take_closes p
      go (x ∷ xs) = tt
  move_closes p Ended h = ap (λ (q : List ℕ). at q Ended) h

  move_law : (s : State) → Fits kids s.picks s.phase → MoveLaw kids n s (move kids s).given (move kids s).next
  move_law s h = record {
    fits = move_fits kids n t s.picks s.phase h;
    keeps = move_rest kids n t s.picks s.phase h;
    costs = move_costs s.picks s.phase h;
    closes = move_closes s.picks s.phase h;
  }

-- ---- one call
module _ (mv : State → Move) (out : List ℕ → List ℕ) where
  pub above_by : (b : ℕ) (s : State) → most_budget < b → call_by mv out b s ≡ result (refused 18) 0 s
  unfolding call_by
  above_by b s l = rw (lt-ltb most_budget b l)

  pub within_by : (b : ℕ) (s : State) → b ≤ most_budget → call_by mv out b s ≡ carry_by mv out b s
  unfolding call_by
  within_by b s l = rw (le-ltb most_budget b l)

module _ (kids : List ℕ → List ℕ) (out : List ℕ → List ℕ) where
  module _ (n : ℕ) where
    -- the sets still to be handed out
    abbrev pub ahead : State → List (List ℕ)
    ahead s = map out (rest kids n s.picks s.phase)

    pub record CallLaw (s : State) (c : Call) : Type 0 where
      pub fits : Fits kids c.next.picks c.next.phase
      pub keeps : answered c.answer (ahead c.next) ≡ ahead s
      pub paid : Paid c.answer c.moves (cost n c.next.picks c.next.phase) (cost n s.picks s.phase)
      pub closed : Closed c.answer c.next

-- no end, and Down again where no hand-out came
abbrev StaysDown : Reply → State → Type 0
StaysDown (refused j) s = (p : List ℕ) × (s ≡ at p Down)
StaysDown spent s = (p : List ℕ) × (s ≡ at p Down)
StaysDown (handed x) s = Unit {0}
StaysDown end s = ⊥

module _ (kids : List ℕ → List ℕ) (out : List ℕ → List ℕ) where
  carry_down : (b : ℕ) (p : List ℕ) → StaysDown (carry kids out b (at p Down)).answer (carry kids out b (at p Down)).next
  carry_down zero p = (p, refl)
  carry_down (suc b) p = go (head? (kids p)) (λ q. carry_down b q)
    where
      after : Option ℕ → Call
      after o = proceed kids out (carry kids out b) (down p o).given (down p o).next

      go : (o : Option ℕ) → ((q : List ℕ) → StaysDown (carry kids out b (at q Down)).answer (carry kids out b (at q Down)).next)
          → StaysDown (after o).answer (after o).next
      go (some g) on = on (p ++ (g ∷ []))
      go none on = tt

  call_down : (b : ℕ) (p : List ℕ) → StaysDown (call kids out b (at p Down)).answer (call kids out b (at p Down)).next
  unfolding call_by
  call_down b p = go (ltb most_budget b)
    where
      answers : Bool → Call
      answers x = cond x (result (refused 18) 0 (at p Down)) (carry kids out b (at p Down))

      go : (x : Bool) → StaysDown (answers x).answer (answers x).next
      go true = (p, refl)
      go false = carry_down b p

paid_one : (a : Reply) (k c d d' : ℕ) → suc d' ≤ d → Paid a k c d' → Paid a (suc k) c d
paid_one (refused j) k c d d' l h = omega arith
paid_one spent k c d d' l h = omega arith
paid_one (handed x) k c d d' l h = omega arith
paid_one end k c d d' l h = omega arith

pub answered_append : (a : Reply) (l m : List (List ℕ)) → answered a l ++ m ≡ answered a (l ++ m)
answered_append (refused j) l m = refl
answered_append spent l m = refl
answered_append (handed x) l m = refl
answered_append end l m = refl

module _ (kids : List ℕ → List ℕ) (out : List ℕ → List ℕ) (n : ℕ) (t : Tree kids n) where
  carry_law : (b : ℕ) (s : State) → Fits kids s.picks s.phase → CallLaw kids out n s (carry kids out b s)
  carry_law zero s h = record { fits = h; keeps = refl; paid = omega arith; closed = tt }
  carry_law (suc b) s h = go (λ (s' : State). carry_law b s') (move kids s).given (move kids s).next (move_law kids n t s h)
    where
      go : ((s' : State) → Fits kids s'.picks s'.phase → CallLaw kids out n s' (carry kids out b s')) → (g : Given) (s' : State) → MoveLaw kids n s g s'
          → CallLaw kids out n s (proceed kids out (carry kids out b) g s')
      go more nothing s' l =
          let m = more s' l.fits in
          record {
            fits = m.fits;
            keeps = m.keeps ∙ ap (map out) l.keeps;
            paid = paid_one (carry kids out b s').answer (carry kids out b s').moves _ _ _ l.costs m.paid;
            closed = m.closed;
          }
      go more (hands p) s' l = record { fits = l.fits; keeps = ap (map out) l.keeps; paid = omega (arith, cost_pos n s.picks s.phase); closed = tt }
      go more ends s' l = record { fits = l.fits; keeps = ap (map out) l.keeps; paid = omega (arith, cost_pos n s.picks s.phase); closed = l.closes }

  pub call_law : (b : ℕ) (s : State) → Fits kids s.picks s.phase → CallLaw kids out n s (call kids out b s)
  unfolding call_by
  call_law b s h = go (ltb most_budget b)
    where
      go : (x : Bool) → CallLaw kids out n s (cond x (result (refused 18) 0 s) (carry kids out b s))
      go true = record { fits = h; keeps = refl; paid = omega arith; closed = tt }
      go false = carry_law b s h

  -- ---- a list of calls: what it hands out, and what is then still to come
  calls_keep : (bs : List ℕ) (s : State) → Fits kids s.picks s.phase
      → handouts (calls_from kids out bs s) ++ ahead kids out n (state_after kids out bs s) ≡ ahead kids out n s
  calls_keep [] s h = refl
  calls_keep (b ∷ bs) s h =
      let l = call_law b s h in
      answered_append (call kids out b s).answer _ _
      ∙ (ap (answered (call kids out b s).answer) (calls_keep bs (call kids out b s).next l.fits) ∙ l.keeps)

  pub ahead-fresh : ahead kids out n fresh ≡ map out (leaves kids n [])
  ahead-fresh = simp (append-nil, sub-zero)

  -- the sets handed out are a front of those of the leaves
  pub calls_front : (bs : List ℕ) → (l : List (List ℕ)) × (handouts (calls kids out bs) ++ l ≡ map out (leaves kids n []))
  calls_front bs = (ahead kids out n (state_after kids out bs fresh), calls_keep bs fresh tt ∙ ahead-fresh)

  stays_ended : (bs : List ℕ) → state_after kids out bs (at [] Ended) ≡ at [] Ended
  unfolding call_by
  stays_ended [] = refl
  stays_ended (b ∷ bs) = rw (again (ltb most_budget b) b) (stays_ended bs)
    where
      again : (x : Bool) (b : ℕ) → (cond x (result (refused 18) 0 (at [] Ended)) (carry kids out b (at [] Ended))).next ≡ at [] Ended
      again true b = refl
      again false zero = refl
      again false (suc b) = refl

  end_after : (bs : List ℕ) (s : State) → Fits kids s.picks s.phase → (c : Call) → Memᴰ c (calls_from kids out bs s) → c.answer ≡ end
      → state_after kids out bs s ≡ at [] Ended
  end_after [] s h c m e = absurd (Memᴰ.not-nil m)
  end_after (b ∷ bs) s h c m e = go (λ k. end_after bs (call kids out b s).next (call_law b s h).fits c k e) (Memᴰ.cases_cons m)
    where
      go : (Memᴰ c (calls_from kids out bs (call kids out b s).next) → state_after kids out bs (call kids out b s).next ≡ at [] Ended)
          → (c ≡ call kids out b s) ⊎ Memᴰ c (calls_from kids out bs (call kids out b s).next)
          → state_after kids out bs (call kids out b s).next ≡ at [] Ended
      go on (inl q) =
          let a : (call kids out b s).answer ≡ end = sym (ap (λ (x : Call). x.answer) q) ∙ e in
          let z : (call kids out b s).next ≡ at [] Ended = rw a at (call_law b s h).closed in
          rw z (stays_ended bs)
      go on (inr k) = on k

  -- and once a call has answered `end`, they are all of them
  pub calls_complete : (bs : List ℕ) (c : Call) → Memᴰ c (calls kids out bs) → c.answer ≡ end → handouts (calls kids out bs) ≡ map out (leaves kids n [])
  calls_complete bs c m e =
      let k : handouts (calls kids out bs) ++ [] ≡ map out (leaves kids n []) = rw (end_after bs fresh tt c m e) at (calls_keep bs fresh tt ∙ ahead-fresh) in
      rw append-nil at k

  -- ---- the moves to the next hand-out or end
  moves_cost : (bs : List ℕ) (s : State) → Fits kids s.picks s.phase → moves_until is_hand_out_or_end (calls_from kids out bs s) ≤ cost n s.picks s.phase
  moves_cost [] s h = omega arith
  moves_cost (b ∷ bs) s h =
      let l = call_law b s h in
      go (call kids out b s).answer (call kids out b s).moves _ _ _ l.paid (moves_cost bs (call kids out b s).next l.fits)
    where
      go : (a : Reply) (k c d more : ℕ) → Paid a k c d → more ≤ c → k + cond (is_hand_out_or_end a) 0 more ≤ d
      go (refused j) k c d more p m = omega arith
      go spent k c d more p m = omega arith
      go (handed x) k c d more p m = omega arith
      go end k c d more p m = omega arith

  -- from the start no end comes before the first hand-out
  start_same : (bs : List ℕ) (p : List ℕ)
      → moves_until is_hand_out (calls_from kids out bs (at p Down)) ≡ moves_until is_hand_out_or_end (calls_from kids out bs (at p Down))
  start_same [] p = refl
  start_same (b ∷ bs) p = go (call kids out b (at p Down)).answer (call kids out b (at p Down)).next (call_down kids out b p) (start_same bs)
    where
      first : ℕ
      first = (call kids out b (at p Down)).moves

      go : (a : Reply) (s : State) → StaysDown a s
          → ((q : List ℕ) → moves_until is_hand_out (calls_from kids out bs (at q Down)) ≡ moves_until is_hand_out_or_end (calls_from kids out bs (at q Down)))
          → first + cond (is_hand_out a) 0 (moves_until is_hand_out (calls_from kids out bs s))
          ≡ first + cond (is_hand_out_or_end a) 0 (moves_until is_hand_out_or_end (calls_from kids out bs s))
      go (refused j) s d on = rw d.1 (ap (λ (m : ℕ). first + m) (on d.0))
      go spent s d on = rw d.1 (ap (λ (m : ℕ). first + m) (on d.0))
      go (handed x) s d on = refl
      go end s d on = absurd d

  pub calls_start : (bs : List ℕ) → moves_until is_hand_out (calls kids out bs) ≤ n + 1
  calls_start bs = rw (start_same bs []) (omega (arith, moves_cost bs fresh tt))

  gap_from : (bs : List ℕ) (s : State) → Fits kids s.picks s.phase → (sooner later : List Call) (c : Call)
      → calls_from kids out bs s ≡ sooner ++ (c ∷ later) → moves_until is_hand_out_or_end later ≤ 2 * n + 1
  gap_from [] s h [] later c e = clash cc
  gap_from [] s h (d ∷ ds) later c e = clash cc
  gap_from (b ∷ bs) s h [] later c e =
      let q : calls_from kids out bs (call kids out b s).next ≡ later = cc in
      let f : Fits kids (call kids out b s).next.picks (call kids out b s).next.phase = (call_law b s h).fits in
      rw (← q) (omega (arith, moves_cost bs (call kids out b s).next f, cost_lap kids n t (call kids out b s).next.picks (call kids out b s).next.phase f))
  gap_from (b ∷ bs) s h (d ∷ ds) later c e =
      gap_from bs (call kids out b s).next (call_law b s h).fits ds later c (cc)

  pub calls_gap : (bs : List ℕ) (sooner later : List Call) (c : Call) → calls kids out bs ≡ sooner ++ (c ∷ later) → moves_until is_hand_out_or_end later ≤ 2 * n + 1
  calls_gap bs = gap_from bs fresh tt
