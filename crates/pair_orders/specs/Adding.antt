-- Orders (02, R-9: "an order of the missing pairs such that after each of them the set is still a chain; of the pairs that can come next within
-- the ladder, the first by gauge, then case"). *Ladder* is 02's word for a maximal chain. s is the chain and x the chain that contains it, a
-- maximal one or not, both as lists of rows; a pair is the gauge's number and the case's, both from 1.
--
-- In order: one pair more, and the pair that comes next; orders, the one that is asked for (`FirstOrder`), and its bytes; the two claims of R-9.
--
-- Elsewhere, in proofs/: that the order asked for exists and is one only, `first_exists` and `first_unique` (Orders); that an order has
-- each missing pair, each once, `order_members` and `order_distinct` (Members); known orders (Samples).
use Rattle.std.specs.Prelude.{◌≡◌, ◌⊎◌, ◌↔◌, List, [], ◌∷◌, ℕ, ◌-◌, ◌^◌, set}
use Rattle.sets.specs.Sets.{join}
use Rattle.table.specs.Pairs.{row, Has, Within}
use Rattle.table.specs.Chains.{IsChain, IsMaximal}
use Rattle.pairs.specs.PairOrder.{Pair, PairBefore}

-- ---- one pair more
-- the set s and the pair p
unfoldable pub with_pair : List ℕ → Pair → List ℕ
with_pair s p = set s (p.0 - 1) (join (row s (p.0 - 1)) (2 ^ (p.1 - 1)))

-- p can come next within x: it is a pair of x, it is missing from s, and s with it is a chain
pub record CanCome (x s : List ℕ) (p : Pair) : Type 0 where
  pub inside : Has x p.0 p.1
  pub missing : ¬ Has s p.0 p.1
  pub chain : IsChain (with_pair s p)

-- "of the pairs that can come next within the ladder, the first by gauge, then case"
pub record Next (x s : List ℕ) (p : Pair) : Type 0 where
  pub can : CanCome x s p
  pub first : (q : Pair) → CanCome x s q → (q ≡ p) ⊎ PairBefore p q

-- ---- orders
-- the pairs of the list can come one after the other, and with all of them s is x
abbrev pub Order : List ℕ → List ℕ → List Pair → Type 0
Order x s [] = s ≡ x
Order x s (p ∷ ps) = CanCome x s p × Order x (with_pair s p) ps

-- the same, and each of them is the first that can come
abbrev pub FirstOrder : List ℕ → List ℕ → List Pair → Type 0
FirstOrder x s [] = s ≡ x
FirstOrder x s (p ∷ ps) = Next x s p × FirstOrder x (with_pair s p) ps

-- "as two bytes a pair, gauge then case"
abbrev pub pair_bytes : List Pair → List ℕ
pair_bytes [] = []
pair_bytes (p ∷ ps) = p.0 ∷ p.1 ∷ pair_bytes ps

-- ---- "Show that such an order exists between any two chains of which one contains the other, and hence that a chain is a ladder exactly when no
-- single table pair can be added."
pub record OrderClaims : Type 0 where
  pub exists : (x s : List ℕ) → IsChain x → IsChain s → Within x s → (ps : List Pair) × Order x s ps
  pub maximal : (r s : List ℕ) → Within r s → IsChain s → IsMaximal r s ↔ ((p : Pair) → ¬ CanCome r s p)
