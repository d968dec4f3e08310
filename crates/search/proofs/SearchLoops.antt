-- What each answer and each turn says of the tests in specs/Finding.antt.
use mathlib.Core.Path.{◌≡◌, refl, sym, ap, ◌∙◌}
use mathlib.Core.Bool.{Bool, true, false, not}
use mathlib.Core.List.{List}
use Prim.Native.Nat.{ℕ, ◌≤◌, ◌<◌, min}
use native.Mathlib.Nat.{min-eq_left}
use native.Mathlib.Decide.{ℕ_discrete, dec_lt}
use native.Mathlib.Omega.{arith}
use lib.Bits.{bit_and}
use lib.Dec.{T, ltb}
use borrow.Author.Tests.{lt-ltb, le-ltb, eq-eqb, ne_eqb}
use Rattle.basics.proofs.Clash.{clash}
use Rattle.sets.specs.Sets.{meet, is_subset}
use Rattle.sets.specs.Lists.{all_below}
use Rattle.sets.proofs.Tabulated.{all_at, all_of, all_fails, all_done}
use Rattle.sets.proofs.Order.{sub_zero, subset_is, zero_sub}
use Rattle.table.specs.Pairs.{row}
use Rattle.search.specs.Finding.{remainder_in, blocks, candidate_in, FirstOf}

-- ---- blocks

pub zero_blocks : (x : ℕ) (b : Bool) → ¬ (x ≡ 0) → blocks x 0 b ≡ false
unfolding blocks
zero_blocks x b ne = rw (none (is_subset x 0) refl)
  where
    none : (y : Bool) → is_subset x 0 ≡ y → is_subset x 0 ≡ false
    none true e = absurd (ne (sub_zero x (subset_is x 0 e)))
    none false e = e

-- ---- a candidate
pub past_places : (unpicked : List ℕ) (left n g most : ℕ) → most ≡ min n 64 → most ≤ g → false ≡ candidate_in unpicked left n g
unfolding candidate_in
past_places unpicked left n g most e h = rw (le-ltb g (min n 64) (omega arith))

-- the place i does not rule out g
abbrev pub passes : List ℕ → ℕ → ℕ → ℕ → Bool
passes unpicked left g i = not (blocks (remainder_in unpicked left g) (remainder_in unpicked left i) (ltb i g))

module _ (unpicked : List ℕ) (left n g most : ℕ) (m : most ≡ min n 64) (h : g < most) where
  abbrev own : ℕ
  own = bit_and (row unpicked g) left

  pub empty_remainder : own ≡ 0 → false ≡ candidate_in unpicked left n g
  unfolding candidate_in meet
  empty_remainder e = rw (lt-ltb g (min n 64) (omega arith), eq-eqb own 0 e)

  candidate_by_lem : (own ≡ 0 → ⊥) → candidate_in unpicked left n g ≡ all_below (passes unpicked left g) (min n 64)
  unfolding candidate_in meet
  candidate_by_lem e = rw (lt-ltb g (min n 64) (omega arith), ne_eqb own 0 e)

  pub blocked : (own ≡ 0 → ⊥) → (i : ℕ) (t : Bool) → i < most → t ≡ blocks own (bit_and (row unpicked i) left) (ltb i g) → t ≡ true
      → false ≡ candidate_in unpicked left n g
  unfolding meet
  blocked e i t l d s = all_fails (passes unpicked left g) (min n 64) i false (omega arith) (ap not (sym s ∙ d)) refl ∙ sym (candidate_by_lem e)

  pub unblocked : (own ≡ 0 → ⊥) → (i : ℕ) → all_below (passes unpicked left g) i ≡ true → i ≡ most → true ≡ candidate_in unpicked left n g
  unblocked e i a d = all_done (passes unpicked left g) i (min n 64) a (d ∙ m) ∙ sym (candidate_by_lem e)

-- ---- the lowest
pub first_none : (f : ℕ → Bool) (from n g r : ℕ) → n ≤ g → ((i : ℕ) → from ≤ i → i < g → f i ≡ false) → r ≡ n → FirstOf f from n r
first_none f from n g r h below e = record { least = λ i a b. below i a (omega arith); found = λ k. absurd (omega arith); none = λ k. e }

-- one number only is the lowest, or none is
pub lowest_unique : (f : ℕ → Bool) (from n r q : ℕ) → FirstOf f from n r → FirstOf f from n q → r ≡ q
lowest_unique f from n r q a b = go (dec_lt r q) (dec_lt q r)
  where
    short : (x y : ℕ) → FirstOf f from n x → FirstOf f from n y → x < y → ⊥
    short x y c d l = out (dec_lt x n)
      where
        out : Dec (x < n) → ⊥
        out (yes h) = let e : true ≡ false = sym (c.found h).1 ∙ d.least x (c.found h).0 l in clash cc
        out (no h) = omega (arith, c.none (omega arith), d.none (omega arith))

    go : Dec (r < q) → Dec (q < r) → r ≡ q
    go (yes l) m = absurd (short r q a b l)
    go (no l) (yes m) = absurd (short q r b a m)
    go (no l) (no m) = omega arith

-- places past the first n, where nothing is, change nothing
pub candidate_more : (unpicked : List ℕ) (left n g : ℕ) → n ≤ 64 → ((i : ℕ) → n ≤ i → row unpicked i ≡ 0)
    → candidate_in unpicked left 64 g ≡ candidate_in unpicked left n g
unfolding meet
candidate_more u left n g few past = go (dec_lt g n) (ℕ_discrete (bit_and (row u g) left) 0)
  where
    few-is : n ≡ min n 64
    few-is = sym (min-eq_left few)

    none : n ≤ g → bit_and (row u g) left ≡ 0
    none l = ap (λ (x : ℕ). meet x left) (past g l) ∙ zero_sub left

    zeros : bit_and (row u g) left ≡ 0 → Dec (g < 64) → false ≡ candidate_in u left 64 g
    zeros z (yes l) = empty_remainder u left 64 g 64 refl l z
    zeros z (no l) = past_places u left 64 g 64 refl (omega arith)

    go : Dec (g < n) → Dec (bit_and (row u g) left ≡ 0) → candidate_in u left 64 g ≡ candidate_in u left n g
    go (no l) d = sym (zeros (none (omega arith)) (dec_lt g 64)) ∙ past_places u left n g n few-is (omega arith)
    go (yes l) (yes z) = sym (zeros z (dec_lt g 64)) ∙ empty_remainder u left n g n few-is l z
    go (yes l) (no z) =
        candidate_by_lem u left 64 g 64 refl (omega arith) z
        ∙ same (all_below (passes u left g) 64) (all_below (passes u left g) n)
        (λ t. all_of (passes u left g) n (λ i h. all_at (passes u left g) 64 i t (omega arith)))
        (λ t. all_of (passes u left g) 64 (λ i h. pass i t (dec_lt i n)))
        ∙ ap (all_below (passes u left g)) few-is ∙ sym (candidate_by_lem u left n g n few-is l z)
      where
        same : (x y : Bool) → (T x → T y) → (T y → T x) → x ≡ y
        same true true a b = refl
        same true false a b = absurd (a tt)
        same false true a b = absurd (b tt)
        same false false a b = refl

        pass : (i : ℕ) → T (all_below (passes u left g) n) → Dec (i < n) → T (passes u left g i)
        pass i t (yes h) = all_at (passes u left g) n i t h
        pass i t (no h) = rw (passes-zero) tt
          where
            passes-zero : passes u left g i ≡ true
            passes-zero =
                ap not (ap (λ (x : ℕ). blocks (bit_and (row u g) left) x (ltb i g)) (ap (λ (x : ℕ). meet x left) (past i (omega arith)) ∙ zero_sub left)
                ∙ zero_blocks (bit_and (row u g) left) (ltb i g) z)
