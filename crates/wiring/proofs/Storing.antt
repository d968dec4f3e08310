-- The order, pair by pair: what is stored and what is still to be stored are the order (`Putting`). One law for the start, for each thing that a turn
-- asks or does, and for the end.
use mathlib.Core.Path.{◌≡◌, sym, ap, ◌∙◌, subst}
use mathlib.Core.List.{List, [], ◌∷◌}
use Prim.Native.Nat.{ℕ, suc, ◌+◌, ◌^◌, ◌≤◌, ◌<◌}
use native.Mathlib.Numerals.{add-one}
use native.Mathlib.Omega.{arith}
use lib.ListN.{length, take, set, length-set}
use lib.Seq.{sets, length-sets, get_or-take, take-set-lt}
use Rattle.sets.specs.Sets.{join}
use Rattle.sets.specs.First.{With}
use Rattle.sets.proofs.OnePlace.{with_of, with_unique}
use Rattle.table.specs.Pairs.{row}
use Rattle.pairs.specs.PairOrder.{Pair}
use Rattle.pair_orders.specs.Adding.{with_pair, FirstOrder, pair_bytes}
use Rattle.pair_orders.proofs.Adding.{plus_is, with_within}
use Rattle.pair_orders.proofs.Orders.{next_unique, not_whole, first_unique}
use Rattle.wiring.specs.private.Steps.{Between, Waiting, NextPlace, StoresOrder}

-- the rows are those of s and of the pairs stored so far, the buffer l has become m, and the next pair goes to the place at
pub record Putting (x s : List ℕ) (n bytes : ℕ) (l rows m : List ℕ) (at : ℕ) : Type 0 where
  pub order : List Pair
  pub first : FirstOrder (take n x) (take n s) order
  pub left : List Pair
  pub rest : FirstOrder (take n x) (take n rows) left
  pub between : Between x rows n
  pub stored : sets m at (pair_bytes left) ≡ sets l 0 (pair_bytes order)
  pub place : at + length (pair_bytes left) ≡ bytes
  pub room : bytes ≤ length l
  pub same : length m ≡ length l

module _ (x s : List ℕ) (n bytes : ℕ) (l rows m : List ℕ) (at : ℕ) (p : Putting x s n bytes l rows m at) where
  -- ---- a turn: a pair is left
  module _ (h : at < bytes) where
    waits : (left : List Pair) → FirstOrder (take n x) (take n rows) left → at + length (pair_bytes left) ≡ bytes → ¬ (take n rows ≡ take n x)
    waits [] f e = absurd (omega arith)
    waits (q ∷ qs) f e = not_whole (take n x) (take n rows) q f.0.can

    pub putting-waits : Waiting x rows n
    putting-waits = record { between = p.between; missing = waits p.left p.rest p.place }

    two : (left : List Pair) → at + length (pair_bytes left) ≡ bytes → at + 2 ≤ bytes
    two [] e = absurd (omega arith)
    two (q ∷ qs) e = omega arith

    pub putting-room : at + 2 ≤ length m
    putting-room = omega (arith, two p.left p.place, p.room, p.same)

    -- the pair that comes next is the first of those left
    module _ (i k new : ℕ) (m' : List ℕ) (q : NextPlace x rows n i k) (w : With (row rows i) k new) (e : m' ≡ sets m at ((i + 1) ∷ (k + 1) ∷ [])) where
      added : take n (set rows i new) ≡ with_pair (take n rows) (suc i, suc k)
      added =
          take-set-lt n rows i new q.row ∙ ap (set (take n rows) i) value
          ∙ sym (plus_is (take n rows) i k)
        where
          value : new ≡ join (row (take n rows) i) (2 ^ k)
          value =
              with_unique (row rows i) k new (join (row rows i) (2 ^ k)) w (with_of (row rows i) k q.case)
              ∙ ap (λ (r : ℕ). join r (2 ^ k)) (sym (get_or-take n rows i 0 q.row))

      between' : Between x (set rows i new) n
      between' =
          let b = p.between in
          record {
            few = b.few;
            length_outer = b.length_outer;
            length_inner = length-set rows i new ∙ b.length_inner;
            outer = b.outer;
            inner = rw added q.next.can.chain;
            within = rw added (with_within (take n x) (take n rows) b.within (suc i, suc k) q.next.can.inside);
            cases = b.cases;
          }

      -- one pair less is left
      record Less (left : List Pair) : Type 0 where
        less : List Pair
        rest : FirstOrder (take n x) (take n (set rows i new)) less
        front : pair_bytes left ≡ (i + 1) ∷ (k + 1) ∷ pair_bytes less

      one_less : (left : List Pair) → FirstOrder (take n x) (take n rows) left → at + length (pair_bytes left) ≡ bytes → Less left
      one_less [] f d = absurd (omega arith)
      one_less (z ∷ zs) f d = record {
        less = zs;
        rest = rw added (subst (λ (y : Pair). FirstOrder (take n x) (with_pair (take n rows) y) zs) (sym same) f.1);
        front = rw (add-one i, add-one k, ← same);
      }
        where
          same : ◌≡◌ {A = Pair} (suc i, suc k) z
          same = next_unique (take n x) (take n rows) (suc i, suc k) z q.next f.0

      pub putting-more : Putting x s n bytes l (set rows i new) m' (at + 2)
      putting-more =
          let z = one_less p.left p.rest p.place in
          let both : suc (suc at) ≡ at + 2 = omega arith in
          record {
            order = p.order;
            first = p.first;
            left = z.less;
            rest = z.rest;
            between = between';
            stored =
                ap (λ (o : List ℕ). sets o (at + 2) (pair_bytes z.less)) e
                ∙ ap (λ (a : ℕ). sets (sets m at ((i + 1) ∷ (k + 1) ∷ [])) a (pair_bytes z.less)) (sym both) ∙ sym (ap (sets m at) z.front) ∙ p.stored;
            place = omega (arith, p.place, ap length z.front);
            room = p.room;
            same = ap length e ∙ length-sets m at ((i + 1) ∷ (k + 1) ∷ []) ∙ p.same;
          }

  -- ---- the end: no pair is left
  pub putting_done : bytes ≤ at → StoresOrder (take n x) (take n s) l m
  putting_done h ps f =
      none p.left p.place p.stored ∙ ap (λ (qs : List Pair). sets l 0 (pair_bytes qs)) (first_unique (take n x) p.order ps (take n s) p.first f)
    where
      none : (left : List Pair) → at + length (pair_bytes left) ≡ bytes → sets m at (pair_bytes left) ≡ sets l 0 (pair_bytes p.order)
          → m ≡ sets l 0 (pair_bytes p.order)
      none [] e d = d
      none (q ∷ qs) e d = absurd (omega arith)
