-- An order has the missing pairs (`order_members`), each once (`order_distinct`).
use mathlib.Core.Path.{◌≡◌, sym, ap, ap₂, subst}
use mathlib.Core.Logic.{◌⊎◌, inl, inr, ◌↔◌, ◌≢◌}
use mathlib.Core.List.Memᴰ
use mathlib.Core.List.{List, [], ◌∷◌, Memᴰ}
use Prim.Native.Nat.{ℕ}
use native.Mathlib.Decide.{ℕ_discrete}
use Rattle.table.specs.Pairs.{Has, Within}
use Rattle.rules.specs.Sequences.{Sorted}
use Rattle.rules.proofs.Sequences.{All_of}
use Rattle.pairs.specs.PairOrder.{Pair}
use Rattle.pair_orders.specs.Adding.{with_pair, CanCome, Order}
use Rattle.pair_orders.proofs.Adding.{with_pair_lem, with_keeps, with_only, with_within}

pair_dec : (p q : Pair) → Dec (p ≡ q)
pair_dec p q = go (ℕ_discrete p.0 q.0) (ℕ_discrete p.1 q.1)
  where
    go : Dec (p.0 ≡ q.0) → Dec (p.1 ≡ q.1) → Dec (p ≡ q)
    go (yes a) (yes b) = yes (ap₂ (λ (g c : ℕ). (g, c)) a b)
    go (yes a) (no b) = no (λ e. b (ap (λ (z : Pair). z.1) e))
    go (no a) b = no (λ e. a (ap (λ (z : Pair). z.0) e))

-- a pair of x that s lacks
abbrev pub Missing : List ℕ → List ℕ → Pair → Type 0
Missing x s p = Has x p.0 p.1 × (¬ Has s p.0 p.1)

pub order_members : (x : List ℕ) (ps : List Pair) (s : List ℕ) → Within x s → Order x s ps → (p : Pair) → Memᴰ p ps ↔ Missing x s p
order_members x [] s w o p =
    (λ m. absurd (Memᴰ.not-nil m), λ k. absurd (k.1 (subst (λ (y : List ℕ). Has y p.0 p.1) (sym o) k.0)))
order_members x (q ∷ ps) s w o p = go (order_members x ps (with_pair s q) (with_within x s w q o.0.inside) o.1 p)
  where
    k : CanCome x s q
    k = o.0

    go : Memᴰ p ps ↔ Missing x (with_pair s q) p → Memᴰ p (q ∷ ps) ↔ Missing x s p
    go ih = (λ m. out (Memᴰ.cases_cons m), λ t. back t (pair_dec p q))
      where
        out : (p ≡ q) ⊎ Memᴰ p ps → Missing x s p
        out (inl e) = subst (Missing x s) (sym e) (k.inside, k.missing)
        out (inr m) = ((ih.0 m).0, λ t. (ih.0 m).1 (with_keeps x s w q k.inside p.0 p.1 t))

        back : Missing x s p → Dec (p ≡ q) → Memᴰ p (q ∷ ps)
        back t (yes e) = Memᴰ.head e
        back t (no e) = Memᴰ.tail (ih.1 (t.0, λ u. other (with_only x s w q k.inside p.0 p.1 u)))
          where
            other : Has s p.0 p.1 ⊎ ((p.0 ≡ q.0) × (p.1 ≡ q.1)) → ⊥
            other (inl u) = t.1 u
            other (inr d) = e (ap₂ (λ (g c : ℕ). (g, c)) d.0 d.1)

pub order_distinct : (x : List ℕ) (ps : List Pair) (s : List ℕ) → Within x s → Order x s ps → Sorted (λ (p q : Pair). p ≢ q) ps
order_distinct x [] s w o = tt
order_distinct x (p ∷ ps) s w o = (
  All_of (λ (q : Pair). p ≢ q) ps (λ q m e.
      ((order_members x ps (with_pair s p) v o.1 q).0 m).1
      (subst (λ (z : Pair). Has (with_pair s p) z.0 z.1) e (with_pair_lem x s w p o.0.inside))),
  order_distinct x ps (with_pair s p) v o.1,
)
  where
    v : Within x (with_pair s p)
    v = with_within x s w p o.0.inside
