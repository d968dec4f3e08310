-- The pair that comes next, as the code finds it in 64 rows: the tests look at the first n rows alone, so they are the same of these (`same_takes`). The
-- first row that can take a case is one of them (`row_in`), and with the lowest case that it can take it is the pair that comes next
-- (`next_place`): there are such a row and such a case (`row_some`, `case_some`).
use mathlib.Core.Path.{◌≡◌, refl, sym, ap, ap₂, ◌∙◌}
use mathlib.Core.Bool.{Bool, ◌&&◌, not}
use mathlib.Core.List.{List}
use Prim.Native.Nat.{ℕ, zero, suc, ◌<◌}
use native.Mathlib.Omega.{arith}
use lib.ListN.{length, take}
use lib.Seq.{get_or-take, length-take-le}
use Rattle.std.specs.Prelude.{Option, Some, None}
use Rattle.std.specs.Option.{IsSome}
use Rattle.sets.specs.Sets.{bit}
use Rattle.sets.specs.Lists.{all_below}
use Rattle.table.specs.Pairs.{row}
use Rattle.search.specs.Finding.{FirstOf}
use Rattle.pair_orders.specs.private.Growing.{spares, allowed, Room, beyond, takes, FirstRow}
use Rattle.pair_orders.proofs.NextPair.{row_found, case-found, next-pair}
use Rattle.wiring.specs.private.Steps.{Between, NextPlace, place_or}
use Rattle.wiring.proofs.Rows.{room_takes}

-- tests that agree below n
all_same : (f g : ℕ → Bool) (n : ℕ) → ((j : ℕ) → j < n → f j ≡ g j) → all_below f n ≡ all_below g n
unfolding all_below
all_same f g zero h = refl
all_same f g (suc n) h = ap₂ (λ (a b : Bool). a && b) (all_same f g n (λ j l. h j (omega arith))) (h n (omega arith))

module _ (x s : List ℕ) (n : ℕ) (b : Between x s n) where
  pub size : length (take n s) ≡ n
  size = length-take-le n s (omega (arith, b.few, b.length_inner))

  row-take : (rows : List ℕ) (i : ℕ) → i < n → row (take n rows) i ≡ row rows i
  row-take rows i l = get_or-take n rows i 0 l

  same_takes : (i k : ℕ) → i < n → takes (take n x) (take n s) (length (take n s)) i k ≡ takes x s n i k
  unfolding takes allowed
  same_takes i k l =
      ap (λ (m : ℕ). takes (take n x) (take n s) m i k) size
      ∙ ap₂ (λ (p q : Bool). p && q)
      (ap₂ (λ (p q : Bool). p && q) (ap (λ (r : ℕ). bit r k) (row-take x i l))
      (all_same (λ j. spares (row (take n s) i) (row (take n s) j) k) (λ j. spares (row s i) (row s j) k) n (λ j m.
      ap₂ (λ (p q : ℕ). spares p q k) (row-take s i l) (row-take s j m))))
      (ap (λ (r : ℕ). not (bit r k)) (row-take s i l))

  module _ (i : ℕ) (f : FirstRow x s n i) where
    first-row : FirstRow (take n x) (take n s) (length (take n s)) i
    first-row = record {
      few = omega (arith, f.few, size);
      least = λ j l k. same_takes j k (omega (arith, f.few)) ∙ f.least j l k;
      found = λ l h. let m : i < n = omega (arith, size) in f.found m (λ k. sym (same_takes i k m) ∙ h k);
    }

    row-in-rows : ¬ (take n s ≡ take n x) → i < length (take n s)
    row-in-rows d = row_found (take n x) (take n s) b.within b.inner b.outer i first-row d

    pub row_in : ¬ (take n s ≡ take n x) → i < n
    row_in d = omega (arith, row-in-rows d, size)

    pub next_place : ¬ (take n s ≡ take n x) → (wide : ℕ) → Room s (row x i) i n wide → (k : ℕ) → FirstOf (beyond wide (row s i)) 0 64 k → NextPlace x s n i k
    next_place d wide r k g = record {
      row = row_in d;
      case = case-found (take n x) (take n s) b.within b.inner 64 b.cases i first-row (row-in-rows d) k lowest;
      next = next-pair (take n x) (take n s) b.within b.inner 64 b.cases i first-row (row-in-rows d) k lowest;
    }
      where
        same : (j : ℕ) → takes (take n x) (take n s) (length (take n s)) i j ≡ beyond wide (row s i) j
        same j = same_takes i j (row_in d) ∙ sym (room_takes x s n i wide r j)

        lowest : FirstOf (takes (take n x) (take n s) (length (take n s)) i) 0 64 k
        lowest = record {
          least = λ j l m. same j ∙ g.least j l m;
          found = λ l. ((g.found l).0, same k ∙ (g.found l).1);
          none = g.none;
        }

    pub case_some : ¬ (take n s ≡ take n x) → (wide : ℕ) → Room s (row x i) i n wide → (r : Option ℕ) → FirstOf (beyond wide (row s i)) 0 64 (place_or 64 r) → IsSome r
    case_some d wide room (Some k) g = refl
    case_some d wide room None g = absurd (omega (arith, (next_place d wide room 64 g).case))

  pub row_some : ¬ (take n s ≡ take n x) → (r : Option ℕ) → FirstRow x s n (place_or n r) → IsSome r
  row_some d (Some i) f = refl
  row_some d None f = absurd (omega (arith, row_in n f d))
