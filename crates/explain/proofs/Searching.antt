-- The code's loop: the search through the first `count` picks in their array, from each place on (`Ahead`).
use mathlib.Core.Path.{◌≡◌, sym, ap, ◌∙◌}
use mathlib.Core.Bool.{Bool, true, false}
use mathlib.Core.List.{List}
use Prim.Native.Nat.{ℕ, ◌+◌, ◌-◌, ◌≤◌, ◌<◌}
use native.Mathlib.Omega.{arith}
use lib.ListN.{length, get_or, take}
use lib.Seq.{length-take-le, get_or-take}
use Rattle.sets.specs.Sets.{bit}
use Rattle.explain.specs.private.Asking.{Numbered, row_has, found_in}
use Rattle.explain.proofs.Picks.{from, turn-own, turn-lacks, turn_on, turn_end}

module _ (rows : List ℕ) (k : ℕ) (picks : List ℕ) (count own : ℕ) where
  -- what is found from place i on is what is found at all
  abbrev pub Ahead : ℕ → Type 0
  Ahead i = from (row_has rows k) own (take count picks) i ≡ found_in rows k picks count own

  module _ (n : Numbered picks count) where
    size : length (take count picks) ≡ count
    size = length-take-le count picks (omega (arith, n.few, n.size))

    -- a turn: the pick x at place i
    module _ (i : ℕ) (l : i < count) (a : Ahead i) (x : ℕ) (is : x ≡ get_or picks i 0) where
      at_place : get_or (take count picks) i 0 ≡ x
      at_place = get_or-take count picks i 0 l ∙ sym is

      low : i < length (take count picks)
      low = omega (arith, size)

      pub found-own : x ≡ own → 0 ≡ found_in rows k picks count own
      found-own e = turn-own (row_has rows k) own (take count picks) i low (at_place ∙ e) ∙ a

      module _ (other : x ≡ own → ⊥) (b : Bool) (has : b ≡ bit (get_or rows (x - 1) 0) k) where
        another : get_or (take count picks) i 0 ≡ own → ⊥
        another d = other (sym at_place ∙ d)

        pub found-lacking : b ≡ false → x ≡ found_in rows k picks count own
        found-lacking e =
            sym at_place ∙ turn-lacks (row_has rows k) own (take count picks) i low another (ap (row_has rows k) at_place ∙ sym has ∙ e) ∙ a

        pub found-on : b ≡ true → Ahead (i + 1)
        found-on e = turn_on (row_has rows k) own (take count picks) i low another (ap (row_has rows k) at_place ∙ sym has ∙ e) ∙ a

    pub found_none : (i : ℕ) → count ≤ i → Ahead i → 0 ≡ found_in rows k picks count own
    found_none i l a = turn_end (row_has rows k) own (take count picks) i (omega (arith, size)) ∙ a
