-- Orders between a chain s and a chain x that contains it: the order asked for exists (`first_exists`) and no other list is it (`first_unique`), and
-- so an order exists between any two such chains: the two claims of R-9 (`order_claims`). An order has as many pairs as are missing
-- (`order_count`).
use mathlib.Core.Path.{◌≡◌, refl, sym, ap, subst}
use mathlib.Core.Logic.{◌⊎◌, inl, inr}
use mathlib.Core.List.{List, [], ◌∷◌}
use Prim.Native.Nat.{ℕ, ◌+◌}
use native.Mathlib.Omega.{arith}
use lib.ListN.{length}
use Rattle.table.specs.Pairs.{Has, Within}
use Rattle.table.specs.Chains.{IsChain}
use Rattle.pairs.specs.PairOrder.{Pair, PairBefore}
use Rattle.pairs.proofs.Pairs.{pair_irrefl, pair_trans}
use Rattle.pair_orders.specs.Adding.{with_pair, CanCome, Next, Order, FirstOrder, OrderClaims}
use Rattle.pair_orders.specs.private.Growing.{pairs_in}
use Rattle.pair_orders.proofs.Adding.{with_length, with_within}
use Rattle.pair_orders.proofs.OneMore.{some_cases, maximal_iff}
use Rattle.pair_orders.proofs.Counting.{with_count}
use Rattle.pair_orders.proofs.Greedy.{greedy_order, greedy-order}

-- ---- there is one
pub first_exists : (x s : List ℕ) → IsChain x → IsChain s → Within x s → (ps : List Pair) × FirstOrder x s ps
first_exists x s h c w = let k = some_cases x in (greedy_order k.0 x s, greedy-order k.0 x k.1 h s w c)

pub first_order : (x : List ℕ) (ps : List Pair) (s : List ℕ) → FirstOrder x s ps → Order x s ps
first_order x [] s o = o
first_order x (p ∷ ps) s o = (o.0.can, first_order x ps (with_pair s p) o.1)

pub order_claims : OrderClaims
order_claims = record {
  exists = λ x s h c w. let o = first_exists x s h c w in (o.0, first_order x o.0 s o.1);
  maximal = maximal_iff;
}

-- ---- there is one only
pub next_unique : (x s : List ℕ) (p q : Pair) → Next x s p → Next x s q → p ≡ q
next_unique x s p q a b = go (a.first q b.can) (b.first p a.can)
  where
    go : (q ≡ p) ⊎ PairBefore p q → (p ≡ q) ⊎ PairBefore q p → p ≡ q
    go (inl e) k = sym e
    go (inr e) (inl k) = k
    go (inr e) (inr k) = absurd (pair_irrefl p (pair_trans p q p e k))

-- where a pair can come next, the chain is not x
pub not_whole : (x s : List ℕ) (p : Pair) → CanCome x s p → ¬ (s ≡ x)
not_whole x s p k e = k.missing (subst (λ (y : List ℕ). Has y p.0 p.1) (sym e) k.inside)

pub first_unique : (x : List ℕ) (ps qs : List Pair) (s : List ℕ) → FirstOrder x s ps → FirstOrder x s qs → ps ≡ qs
first_unique x [] [] s a b = refl
first_unique x [] (q ∷ qs) s a b = absurd (not_whole x s q b.0.can a)
first_unique x (p ∷ ps) [] s a b = absurd (not_whole x s p a.0.can b)
first_unique x (p ∷ ps) (q ∷ qs) s a b =
    let e : p ≡ q = next_unique x s p q a.0 b.0 in
    let d : ps ≡ qs = first_unique x ps qs (with_pair s p) a.1 (subst (λ (z : Pair). FirstOrder x (with_pair s z) qs) (sym e) b.1) in
    cc

-- ---- it has as many pairs as are missing
pub order_count : (x : List ℕ) (ps : List Pair) (s : List ℕ) → Within x s → Order x s ps → pairs_in x (length x) ≡ pairs_in s (length s) + length ps
order_count x [] s w o = omega (arith, ap (λ (y : List ℕ). pairs_in y (length y)) o)
order_count x (p ∷ ps) s w o =
    omega (
      arith,
      with_count x s w p o.0,
      ap (pairs_in (with_pair s p)) (with_length x s w p o.0.inside),
      order_count x ps (with_pair s p) (with_within x s w p o.0.inside) o.1,
    )
