-- A machine that is called on ends: a call with a budget of 2 n + 1 moves or more hands out or ends, so one such call more than there are
-- leaves makes some call answer `end`. So what calls hand out is not only a front of the leaves but, in the end, all of them.
use mathlib.Core.Path.{◌≡◌, refl, ap}
use mathlib.Core.Logic.{◌≢◌}
use mathlib.Core.List.{List, [], ◌∷◌, Memᴰ}
use Prim.Native.Nat.{ℕ, ◌+◌, ◌*◌, ◌≤◌, ◌<◌}
use native.Mathlib.Omega.{arith}
use lib.ListN.{length, length-map}
use Rattle.rules.specs.Sequences.{All}
use Rattle.rules.specs.Machine.{State, fresh}
use Rattle.rules.specs.Calls.{Reply, refused, spent, handed, end, Call, most_budget}
use Rattle.rules.specs.ByNumber.{call, calls_from, calls}
use Rattle.rules.specs.private.Fitting.{Fits}
use Rattle.rules.proofs.Trees.{Tree, leaves}
use Rattle.rules.proofs.Calls.{Paid, cost, cost_pos, cost_lap, ahead, call_law, ahead-fresh}
use Rattle.rules.proofs.Reports.{call_only18, call_spent}

-- a budget that is not refused, and enough for the next hand-out or end
pub record Enough (n b : ℕ) : Type 0 where
  pub low : 2 * n + 1 ≤ b
  pub high : b ≤ most_budget

-- one of these calls answered end
abbrev pub Ended : List Call → Type 0
Ended cs = (c : Call) × Memᴰ c cs × (c.answer ≡ end)

module _ (kids : List ℕ → List ℕ) (out : List ℕ → List ℕ) (n : ℕ) (t : Tree kids n) where
  call_enough : (b : ℕ) (s : State) → Fits kids s.picks s.phase → Enough n b → (call kids out b s).answer ≢ spent
  call_enough b s h l e =
      let c : Call = call kids out b s in
      let p : Paid spent c.moves (cost n c.next.picks c.next.phase) (cost n s.picks s.phase) = rw e at (call_law kids out n t b s h).paid in
      let spent_all : c.moves ≡ b = ((call_spent kids out b s l.high).only e).0 in
      omega (arith, l.low, spent_all, cost_lap kids n t s.picks s.phase h, cost_pos n c.next.picks c.next.phase)

  pub end_from : (bs : List ℕ) (s : State) → Fits kids s.picks s.phase → All (Enough n) bs → length (ahead kids out n s) < length bs
      → Ended (calls_from kids out bs s)
  end_from [] s h a l = absurd (omega arith)
  end_from (b ∷ bs) s h a l = go (end_from bs (call kids out b s).next (call_law kids out n t b s h).fits a.1) (call kids out b s).answer refl
    where
      go : (length (ahead kids out n (call kids out b s).next) < length bs → Ended (calls_from kids out bs (call kids out b s).next))
          → (x : Reply) → (call kids out b s).answer ≡ x → Ended (calls_from kids out (b ∷ bs) s)
      go on (refused k) e = absurd ((call_only18 kids out b s).else a.0.high k e)
      go on spent e = absurd (call_enough b s h a.0 e)
      go on (handed p) e =
          let k : p ∷ ahead kids out n (call kids out b s).next ≡ ahead kids out n s = rw e at (call_law kids out n t b s h).keeps in
          let x = on (omega (arith, ap length k)) in
          (x.0, Memᴰ.tail (x.1), x.2)
      go on end e = (call kids out b s, Memᴰ.head refl, e)

  -- with enough calls, one ends, and the sets handed out are those of all the leaves
  pub calls_end : (bs : List ℕ) → All (Enough n) bs → length (leaves kids n []) < length bs → Ended (calls kids out bs)
  calls_end bs a l = end_from bs fresh tt a (omega (arith, ap length (ahead-fresh kids out n t), length-map (leaves kids n []) out))
