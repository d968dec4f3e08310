-- The order that R-9 asks for, computed: each time the first row that can take a case, and the lowest case that it can take. v is a number of cases that
-- bounds those of x. That the list computed is the order asked for is `greedy-order`.
use mathlib.Core.Path.{◌≡◌, refl, sym, ap, ◌∙◌, subst}
use mathlib.Core.Bool.{Bool, true, false}
use mathlib.Core.List.{List, [], ◌∷◌}
use Prim.Native.Nat.{ℕ, zero, suc, ◌+◌, ◌-◌, ◌≤◌, ◌<◌}
use native.Mathlib.Decide.{dec_lt}
use native.Mathlib.Omega.{arith}
use lib.Dec.{ltb}
use lib.ListN.{length}
use borrow.Author.Tests.{ltb-true, ltb-false}
use Rattle.table.specs.Pairs.{Within, Cases}
use Rattle.table.specs.Chains.{IsChain}
use Rattle.search.specs.Finding.{FirstOf}
use Rattle.pairs.specs.PairOrder.{Pair}
use Rattle.pair_orders.specs.Adding.{with_pair, Next, FirstOrder}
use Rattle.pair_orders.specs.private.Growing.{takes, Full, FirstRow, pairs_in}
use Rattle.pair_orders.proofs.Adding.{with_length, with_within}
use Rattle.pair_orders.proofs.Taking.{true-false, takes_taken}
use Rattle.pair_orders.proofs.NextPair.{row_found, next-pair}
use Rattle.pair_orders.proofs.Counting.{with_count, count_mono, count_whole}

-- the lowest number below n at which f holds, or n where there is none
unfoldable pub lowest_of : (ℕ → Bool) → ℕ → ℕ
lowest_of f zero = 0
lowest_of f (suc n) = elim (f 0) [ true ↦ 0 | false ↦ suc (lowest_of (λ i. f (suc i)) n) ]

-- the first row that can take a case, and the pair that comes next
unfoldable pub next_row : ℕ → List ℕ → List ℕ → ℕ
next_row v x s = lowest_of (λ i. ltb (lowest_of (takes x s (length s) i) v) v) (length s)

unfoldable pub next_pair : ℕ → List ℕ → List ℕ → Pair
next_pair v x s = (suc (next_row v x s), suc (lowest_of (takes x s (length s) (next_row v x s)) v))

-- the first m pairs of the order
unfoldable pub greedy : ℕ → List ℕ → ℕ → List ℕ → List Pair
greedy v x zero s = []
greedy v x (suc m) s = next_pair v x s ∷ greedy v x m (with_pair s (next_pair v x s))

-- all of it: as many as are missing
unfoldable pub greedy_order : ℕ → List ℕ → List ℕ → List Pair
greedy_order v x s = greedy v x (pairs_in x (length x) - pairs_in s (length s)) s

-- ---- the lowest number is the lowest
lowest_here : (f : ℕ → Bool) (n : ℕ) → f 0 ≡ true → lowest_of f (suc n) ≡ 0
unfolding lowest_of
lowest_here f n e = rw (e, lowest_of)

lowest_later : (f : ℕ → Bool) (n : ℕ) → f 0 ≡ false → lowest_of f (suc n) ≡ suc (lowest_of (λ i. f (suc i)) n)
unfolding lowest_of
lowest_later f n e = rw (e, lowest_of)

lowest_none : (f : ℕ → Bool) → lowest_of f 0 ≡ 0
unfolding lowest_of
lowest_none f = refl

-- r is the lowest
record IsLowest (f : ℕ → Bool) (n r : ℕ) : Type 0 where
  few : r ≤ n
  least : (i : ℕ) → i < r → f i ≡ false
  found : r < n → f r ≡ true

lowest_is : (f : ℕ → Bool) (n : ℕ) → IsLowest f n (lowest_of f n)
lowest_is f zero =
    subst (IsLowest f 0) (sym (lowest_none f)) (record { few = omega arith; least = λ i l. absurd (omega arith); found = λ l. absurd (omega arith) })
lowest_is f (suc n) = go (f 0) refl (lowest_is (λ i. f (suc i)) n)
  where
    go : (b : Bool) → f 0 ≡ b → IsLowest (λ i. f (suc i)) n (lowest_of (λ i. f (suc i)) n) → IsLowest f (suc n) (lowest_of f (suc n))
    go true e h =
        subst (IsLowest f (suc n)) (sym (lowest_here f n e)) (record { few = omega arith; least = λ i l. absurd (omega arith); found = λ l. e })
    go false e h =
        subst (IsLowest f (suc n)) (sym (lowest_later f n e))
        (record { few = omega (arith, h.few); least = λ i l. at i l; found = λ l. h.found (omega arith) })
      where
        at : (i : ℕ) → i < suc (lowest_of (λ i. f (suc i)) n) → f i ≡ false
        at zero l = e
        at (suc i) l = h.least i (omega arith)

lowest_first : (f : ℕ → Bool) (n : ℕ) → FirstOf f 0 n (lowest_of f n)
lowest_first f n =
    let h = lowest_is f n in
    record { least = λ i a l. h.least i l; found = λ l. (omega arith, h.found l); none = λ l. omega (arith, h.few) }

module _ (v : ℕ) (x : List ℕ) (cases : Cases v x) where
  first_row : (s : List ℕ) → FirstRow x s (length s) (next_row v x s)
  unfolding next_row
  first_row s = record { few = h.few; least = λ j l. full j (ltb-false _ _ (h.least j l)); found = λ l. some (h.found l) }
    where
      n : ℕ
      n = length s

      test : ℕ → Bool
      test i = ltb (lowest_of (takes x s n i) v) v

      h : IsLowest test n (lowest_of test n)
      h = lowest_is test n

      full : (j : ℕ) → v ≤ lowest_of (takes x s n j) v → Full x s n j
      full j b k = go (dec_lt k v) (takes x s n j k) refl
        where
          go : Dec (k < v) → (t : Bool) → takes x s n j k ≡ t → takes x s n j k ≡ false
          go (yes l) t e = (lowest_is (takes x s n j) v).least k (omega arith)
          go (no l) true e = absurd (l (cases j k (takes_taken x s n j k e).inside))
          go (no l) false e = e

      some : test (lowest_of test n) ≡ true → ¬ Full x s n (lowest_of test n)
      some e f =
          let i : ℕ = lowest_of test n in
          true-false (sym ((lowest_is (takes x s n i) v).found (ltb-true (lowest_of (takes x s n i) v) v e)) ∙ f (lowest_of (takes x s n i) v))

  module _ (h : IsChain x) where
    next-is : (s : List ℕ) → Within x s → IsChain s → ¬ (s ≡ x) → Next x s (next_pair v x s)
    unfolding next_pair
    next-is s w c d =
        let f = first_row s in
        next-pair x s w c v cases (next_row v x s) f (row_found x s w c h (next_row v x s) f d) (lowest_of (takes x s (length s) (next_row v x s)) v)
        (lowest_first (takes x s (length s) (next_row v x s)) v)

    -- m pairs are missing from s
    abbrev Missing : ℕ → List ℕ → Type 0
    Missing m s = pairs_in x (length x) ≡ pairs_in s (length s) + m

    greedy-from : (m : ℕ) (s : List ℕ) → Within x s → IsChain s → Missing m s → FirstOrder x s (greedy v x m s)
    unfolding greedy
    greedy-from zero s w c e = count_whole x s w h c (omega arith)
    greedy-from (suc m) s w c e =
        (next, greedy-from m (with_pair s (next_pair v x s)) (with_within x s w (next_pair v x s) next.can.inside) next.can.chain fewer)
      where
        next : Next x s (next_pair v x s)
        next = next-is s w c (λ d. omega (arith, ap (λ (y : List ℕ). pairs_in y (length y)) d))

        fewer : Missing m (with_pair s (next_pair v x s))
        fewer =
            omega (
              arith,
              with_count x s w (next_pair v x s) next.can,
              ap (pairs_in (with_pair s (next_pair v x s))) (with_length x s w (next_pair v x s) next.can.inside),
            )

    pub greedy-order : (s : List ℕ) → Within x s → IsChain s → FirstOrder x s (greedy_order v x s)
    unfolding greedy_order
    greedy-order s w c = greedy-from (pairs_in x (length x) - pairs_in s (length s)) s w c (omega (arith, count_mono x s w))
