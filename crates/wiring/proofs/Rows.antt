-- What each answer and each turn of the steps on rows says of the tests that they compute: one law for each.
--
-- In order: the room of a row, which `judge::widest` gives; a place of one set beyond another; the first row that can take a case; the pairs counted.
use mathlib.Core.Path.{◌≡◌, refl, sym, ap, ◌∙◌}
use mathlib.Core.Bool.{Bool, true, false, not, ◌&&◌, ◌||◌, cond, and-true, and-false, and_assoc}
use mathlib.Core.Logic.{◌⊎◌, inl, inr}
use mathlib.Core.List.{List}
use Prim.Native.Nat.{ℕ, zero, suc, ◌+◌, ◌≤◌, ◌<◌}
use native.Mathlib.Numerals.{add-one}
use native.Mathlib.Decide.{ℕ_discrete}
use native.Mathlib.Omega.{arith}
use lib.Count.{ones}
use lib.Dec.{T}
use Rattle.sets.specs.Sets.{bit, meet, ◌⊆◌, is_subset, is_proper_subset}
use Rattle.sets.specs.Lists.{all_below}
use Rattle.sets.proofs.Tests.{test, is_true, is_false, and_i}
use Rattle.sets.proofs.Order.{sub_bit, bits_sub, bit-meet, subset_is, not_subset}
use Rattle.table.specs.Pairs.{row}
use Rattle.judge.specs.WidestRows.{narrowed, widest, widest_of}
use Rattle.judge.proofs.RowLoops.{widest_in}
use Rattle.pair_orders.specs.private.Growing.{spares, allowed, Room, beyond, takes, Full, FirstRow, pairs_in}
use Rattle.pair_orders.proofs.Taking.{true-false}

-- ---- the widest that a row can be is its room: bit by bit
narrowed-bit : (wide own other k : ℕ) → bit (narrowed wide own other) k ≡ (bit wide k && spares own other k)
unfolding narrowed spares
narrowed-bit wide own other k = go (is_proper_subset own other)
  where
    go : (b : Bool) → bit (cond b (meet wide other) wide) k ≡ (bit wide k && (not b || bit other k))
    go true = bit-meet wide other k
    go false = sym (and-true (bit wide k))

widest-bit : (s : List ℕ) (most i k n : ℕ) → bit (widest s most i n) k ≡ (bit most k && allowed s i k n)
unfolding widest allowed all_below
widest-bit s most i k zero = sym (and-true (bit most k))
widest-bit s most i k (suc n) =
    narrowed-bit (widest s most i n) (row s i) (row s n) k ∙ ap (λ (b : Bool). b && spares (row s i) (row s n) k) (widest-bit s most i k n)
    ∙ and_assoc (bit most k) (allowed s i k n) (spares (row s i) (row s n) k)

pub widest_room : (s : List ℕ) (most i n wide : ℕ) → i < n → n ≤ 64 → wide ≡ widest_of s most i n → Room s most i n wide
widest_room s most i n wide l m e = record {
  bits = λ k. ap (λ (x : ℕ). bit x k) (e ∙ widest_in s most i n (omega arith) m) ∙ widest-bit s most i k n;
}

-- ---- a place of one set beyond another
pub beyond_out : (wide own k : ℕ) (t : Bool) → t ≡ bit wide k → t ≡ false → false ≡ beyond wide own k
unfolding beyond
beyond_out wide own k t e d = rw (← e, d)

pub beyond_in : (wide own k : ℕ) (t u : Bool) → t ≡ bit wide k → t ≡ true → u ≡ bit own k → not u ≡ beyond wide own k
unfolding beyond
beyond_in wide own k t u e d f = rw (← e, d, ← f)

-- what a row can take is its room beyond its own cases
pub room_takes : (x s : List ℕ) (n i wide : ℕ) → Room s (row x i) i n wide → (k : ℕ) → beyond wide (row s i) k ≡ takes x s n i k
unfolding beyond takes
room_takes x s n i wide r k = ap (λ (b : Bool). b && not (bit (row s i) k)) (r.bits k)

-- ---- the first row that can take a case
module _ (x s : List ℕ) (n i wide : ℕ) (r : Room s (row x i) i n wide) (t : Bool) (e : t ≡ is_subset wide (row s i)) where
  pub row_full : t ≡ true → Full x s n i
  unfolding beyond
  row_full d k = sym (room_takes x s n i wide r k) ∙ go (test (bit wide k))
    where
      sub : wide ⊆ row s i
      sub = subset_is wide (row s i) (sym e ∙ d)

      go : T (bit wide k) ⊎ T (not (bit wide k)) → beyond wide (row s i) k ≡ false
      go (inl u) =
          ap (λ (b : Bool). bit wide k && not b) (is_true (bit (row s i) k) (sub_bit wide (row s i) k sub u)) ∙ and-false (bit wide k)
      go (inr u) = ap (λ (b : Bool). b && not (bit (row s i) k)) (is_false (bit wide k) u)

  pub row_grows : t ≡ false → ¬ Full x s n i
  unfolding beyond
  row_grows d f = not_subset wide (row s i) (sym e ∙ d) (bits_sub wide (row s i) (λ k u. at k u (test (bit (row s i) k))))
    where
      at : (k : ℕ) → T (bit wide k) → T (bit (row s i) k) ⊎ T (not (bit (row s i) k)) → T (bit (row s i) k)
      at k u (inl v) = v
      at k u (inr v) =
          absurd (true-false (sym (is_true (bit wide k && not (bit (row s i) k)) (and_i (bit wide k) (not (bit (row s i) k)) u v))
          ∙ room_takes x s n i wide r k ∙ f k))

-- the rows passed can take none
abbrev pub Passed : List ℕ → List ℕ → ℕ → ℕ → Type 0
Passed x s n i = (j : ℕ) → j < i → Full x s n j

pub passed_more : (x s : List ℕ) (n i : ℕ) → Passed x s n i → Full x s n i → Passed x s n (i + 1)
passed_more x s n i p f j l = go (ℕ_discrete j i)
  where
    go : Dec (j ≡ i) → Full x s n j
    go (yes e) = rw e f
    go (no e) = p j (omega arith)

pub row_found : (x s : List ℕ) (n i : ℕ) → i < n → Passed x s n i → ¬ Full x s n i → FirstRow x s n i
row_found x s n i l p f = record { few = omega arith; least = p; found = λ b. f }

-- ---- the pairs counted
pub pairs_none : (s : List ℕ) → 0 ≡ pairs_in s 0
unfolding pairs_in
pairs_none s = refl

pub pairs_more : (s : List ℕ) (i total c : ℕ) → total ≡ pairs_in s i → c ≡ ones (row s i) → total + c ≡ pairs_in s (i + 1)
unfolding pairs_in
pairs_more s i total c e d = rw (add-one i, ← e, ← d)
