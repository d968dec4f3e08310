-- The set of the unpicked gauges: a candidate is one of them, and picking it leaves one fewer, with its row gone from theirs. The first n
-- places are n.
use mathlib.Core.Path.{◌≡◌, refl, sym, ap, ◌∙◌}
use mathlib.Core.Bool.{Bool, true, false}
use mathlib.Core.List.{List}
use Prim.Native.Nat.{ℕ, zero, suc, ◌-◌, ◌/◌, ◌%◌, ◌^◌, ◌≤◌, ◌<◌}
use native.Mathlib.Nat.{pow-suc}
use native.Mathlib.Decide.{dec_lt}
use native.Mathlib.Omega.{arith}
use lib.Bits.{bit_and}
use lib.Count.{ones, ones_step, ones-ones}
use lib.ListN.{length, set}
use borrow.Author.Tests.{eqb-true}
use Rattle.sets.specs.Sets.{bit, meet, lowest}
use Rattle.sets.specs.First.{Without}
use Rattle.sets.proofs.Digits.{bit_zero, bit-suc}
use Rattle.sets.proofs.Masks.{lowest_up}
use Rattle.sets.proofs.OnePlace.{large, without_of}
use Rattle.sets.proofs.Order.{eq_of_bits, zero_sub}
use Rattle.table.specs.Pairs.{row}
use Rattle.table.proofs.Places.{row_past}
use Rattle.search.specs.Finding.{within}
use Rattle.search.proofs.SearchLoops.{past_places, empty_remainder}
use Rattle.search.proofs.Within.{yes_no_lem, row_in, within_without, of_absent}
use Rattle.count.specs.private.Below.{is_candidate}

-- a place that is taken out was one of them
ones_minus : (a k : ℕ) → bit a k ≡ true → ones a ≡ suc (ones (a - 2 ^ k))
ones_minus a zero h =
    let e : a % 2 ≡ 1 = eqb-true (a % 2) 1 (sym (bit_zero a) ∙ h) in
    let d : (a - 1) / 2 ≡ a / 2 = omega arith in
    omega (arith, ones_step a, ones_step (a - 1), ap ones d)
ones_minus a (suc k) h =
    let l : 2 ^ suc k ≤ a = large a (suc k) h in
    let d : (a - 2 ^ suc k) / 2 ≡ a / 2 - 2 ^ k = omega (arith, pow-suc 2 k) in
    let m : (a - 2 ^ suc k) % 2 ≡ a % 2 = omega (arith, pow-suc 2 k) in
    omega (arith, ones_step a, ones_step (a - 2 ^ suc k), ap ones d, ones_minus (a / 2) k (sym (bit-suc a k) ∙ h))

ones_without : (a k r : ℕ) → bit a k ≡ true → Without a k r → ones a ≡ suc (ones r)
ones_without a k r h w = ones_minus a k h ∙ ap (λ (x : ℕ). suc (ones x)) (eq_of_bits (a - 2 ^ k) r (λ i. (without_of a k h).bits i ∙ sym (w.bits i)))

pub ones-lowest : (n : ℕ) → n ≤ 64 → ones (lowest n) ≡ n
ones-lowest n h = ap ones (lowest_up n h) ∙ ones-ones n

-- a candidate is unpicked
module _ (rows : List ℕ) (s left g : ℕ) (l : g < 64) (e : is_candidate (within s rows) left g ≡ true) where
  unpicked_here : bit s g ≡ true
  unpicked_here = go (bit s g) refl
    where
      go : (b : Bool) → bit s g ≡ b → bit s g ≡ true
      go true h = h
      go false h = yes_no_lem (is_candidate (within s rows) left g) e (sym (of_absent rows s left g h))

  pub some_unpicked : 1 ≤ ones s
  some_unpicked = omega (arith, ones_minus s g unpicked_here)

  -- it is picked, so that r is left of the set s
  pub one_fewer : (r : ℕ) → Without s g r → ones s ≡ suc (ones r)
  one_fewer r w = ones_without s g r unpicked_here w

  pub rows_fewer : (r : ℕ) → Without s g r → within r rows ≡ set (within s rows) g 0
  rows_fewer r w = within_without s g r rows l w

  pub own_row : row (within s rows) g ≡ row rows g
  own_row = row_in s rows g l unpicked_here

-- a candidate has a row
pub candidate_inside : (u : List ℕ) (left g : ℕ) → is_candidate u left g ≡ true → g < length u
unfolding meet
candidate_inside u left g e = go (dec_lt g (length u)) (dec_lt g 64)
  where
    clear : length u ≤ g → bit_and (row u g) left ≡ 0
    clear l = ap (λ (x : ℕ). meet x left) (row_past u g l) ∙ zero_sub left

    go : Dec (g < length u) → Dec (g < 64) → g < length u
    go (yes l) d = l
    go (no l) (yes d) = yes_no_lem (is_candidate u left g) e (sym (empty_remainder u left 64 g 64 refl d (clear (omega arith))))
    go (no l) (no d) = yes_no_lem (is_candidate u left g) e (sym (past_places u left 64 g 64 refl (omega arith)))
