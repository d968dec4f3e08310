-- The pair that comes next: the first row that can take a case (`row_found`), and the lowest case that it can take (`case-found`, `next-pair`).
use mathlib.Core.Path.{◌≡◌, refl, sym, ap, ap₂, ◌∙◌}
use mathlib.Core.Logic.{◌⊎◌, inl, inr}
use mathlib.Core.Bool.{Bool, true, false}
use mathlib.Core.List.{List}
use Prim.Native.Nat.{ℕ, suc, ◌<◌}
use native.Mathlib.Decide.{ℕ_discrete, dec_lt}
use native.Mathlib.Omega.{arith}
use lib.Dec.{T}
use lib.ListN.{length}
use Rattle.sets.specs.Sets.{bit}
use Rattle.table.specs.Pairs.{row, Within, Cases}
use Rattle.table.specs.Chains.{IsChain}
use Rattle.table.proofs.Places.{by_place_lem}
use Rattle.search.specs.Finding.{FirstOf}
use Rattle.pairs.specs.PairOrder.{Pair, PairBefore}
use Rattle.pair_orders.specs.Adding.{CanCome, Next}
use Rattle.pair_orders.specs.private.Growing.{takes, Full, FirstRow}
use Rattle.pair_orders.proofs.Taking.{true-false, takes_taken, taken_takes, in_rows, can_take, come_takes}
use Rattle.pair_orders.proofs.OneMore.{one_more}

module _ (x s : List ℕ) (w : Within x s) (c : IsChain s) where
  abbrev n : ℕ
  n = length s

  -- ---- the pair that comes next: the first row that can take a case, and the lowest case that it can take
  pub row_found : IsChain x → (i : ℕ) → FirstRow x s n i → ¬ (s ≡ x) → i < n
  row_found h i f d = go (dec_lt i n) (one_more x s w c h)
    where
      none : ¬ (i < n) → (p : Pair) → CanCome x s p → ⊥
      none l p k = by_place_lem x (λ g e. CanCome x s (g, e) → ⊥) at p.0 p.1 k.inside k
        where
          at : (j m : ℕ) → T (bit (row x j) m) → CanCome x s (suc j, suc m) → ⊥
          at j m t k =
              true-false (sym (taken_takes x s n j m (come_takes x s w c j m k)) ∙ f.least j (omega (arith, in_rows x s w c j m t, f.few)) m)

      go : Dec (i < n) → (s ≡ x) ⊎ ((p : Pair) × CanCome x s p) → i < n
      go (yes l) r = l
      go (no l) (inl e) = absurd (d e)
      go (no l) (inr q) = absurd (none l q.0 q.1)

  module _ (v : ℕ) (cases : Cases v x) (i : ℕ) (f : FirstRow x s n i) (l : i < n) (k : ℕ) (g : FirstOf (takes x s n i) 0 v k) where
    pub case-found : k < v
    case-found = go (dec_lt k v)
      where
        -- no case past the last is taken
        past : (m : ℕ) → (b : Bool) → takes x s n i m ≡ b → m < v ⊎ (b ≡ false)
        past m true e = inl (cases i m (takes_taken x s n i m e).inside)
        past m false e = inr refl

        none : ¬ (k < v) → Full x s n i
        none d m = at (past m (takes x s n i m) refl)
          where
            at : m < v ⊎ (takes x s n i m ≡ false) → takes x s n i m ≡ false
            at (inl b) = g.least m (omega arith) (omega (arith, g.none (omega arith)))
            at (inr b) = b

        go : Dec (k < v) → k < v
        go (yes d) = d
        go (no d) = absurd (f.found l (none d))

    pub next-pair : Next x s (suc i, suc k)
    next-pair = record {
      can = can_take x s w c i k (takes_taken x s n i k (g.found case-found).1);
      first = λ q h. by_place_lem x P after q.0 q.1 h.inside h;
    }
      where
        P : ℕ → ℕ → Type 0
        P a b = CanCome x s (a, b) → (◌≡◌ {A = Pair} (a, b) (suc i, suc k)) ⊎ PairBefore (suc i, suc k) (a, b)

        after : (j m : ℕ) → T (bit (row x j) m) → P (suc j) (suc m)
        after j m t h = go (dec_lt j i) (ℕ_discrete j i) (dec_lt m k) (ℕ_discrete m k)
          where
            here : takes x s n j m ≡ true
            here = taken_takes x s n j m (come_takes x s w c j m h)

            go : Dec (j < i) → Dec (j ≡ i) → Dec (m < k) → Dec (m ≡ k)
                → (◌≡◌ {A = Pair} (suc j, suc m) (suc i, suc k)) ⊎ PairBefore (suc i, suc k) (suc j, suc m)
            go (yes a) b d e = absurd (true-false (sym here ∙ f.least j a m))
            go (no a) (no b) d e = inr (inl (omega arith))
            go (no a) (yes b) (yes d) e =
                absurd (true-false (sym here ∙ ap (λ (j : ℕ). takes x s n j m) b ∙ g.least m (omega arith) d))
            go (no a) (yes b) (no d) (yes e) = inl (ap₂ (λ (y z : ℕ). (suc y, suc z)) b e)
            go (no a) (yes b) (no d) (no e) = inr (inr (omega arith, omega arith))
