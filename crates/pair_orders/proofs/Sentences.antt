-- What a reader finds in the claims of R-9, sentence by sentence: between two chains an order of the missing pairs exists (`order_between`), and a chain is
-- a maximal one exactly when no single pair of the table can be added (`maximal_exactly`).
use mathlib.Core.Logic.{◌↔◌}
use mathlib.Core.List.{List, Memᴰ}
use Prim.Native.Nat.{ℕ}
use Rattle.table.specs.Pairs.{Has, Within}
use Rattle.table.specs.Chains.{IsChain, IsMaximal}
use Rattle.pairs.specs.PairOrder.{Pair}
use Rattle.pair_orders.specs.Adding.{with_pair, Order, OrderClaims}
use Rattle.pair_orders.proofs.Members.{order_members}

-- "such an order exists between any two chains of which one contains the other": it has every missing pair and no other
pub order_between : OrderClaims → (x s : List ℕ) → IsChain x → IsChain s → Within x s
    → (ps : List Pair) × Order x s ps × ((p : Pair) → Memᴰ p ps ↔ (Has x p.0 p.1 × (¬ Has s p.0 p.1)))
order_between a x s h c w = let o = a.exists x s h c w in (o.0, o.1, order_members x o.0 s w o.1)

-- "a chain is a ladder exactly when no single table pair can be added"
pub maximal_exactly : OrderClaims → (r s : List ℕ) → Within r s → IsChain s
    → IsMaximal r s ↔ ((g c : ℕ) → Has r g c → ¬ Has s g c → ¬ IsChain (with_pair s (g, c)))
maximal_exactly a r s w c = (
  λ m g d h n k. (a.maximal r s w c).0 m (g, d) (record { inside = h; missing = n; chain = k }),
  λ f. (a.maximal r s w c).1 (λ p k. f p.0 p.1 k.inside k.missing k.chain),
)
