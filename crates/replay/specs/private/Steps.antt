-- What the steps of the pass say of one another: a pick beside the picks before it, and an unpicked gauge beside all
-- of them. The theory is proofs/Replaying.antt of crate `lists`.
use Rattle.std.specs.Prelude.{◌≡◌, Bool, true, false, Option, Some, None, List, ℕ, ◌≤◌}
use Rattle.std.specs.Int.Bits.{bit_and}
use Rattle.sets.specs.Sets.{bit}
use Rattle.table.specs.Pairs.{row}

-- a gauge that has all left cases left the same as the last picks, and comes after the last
abbrev pub Goes : ℕ → ℕ → ℕ → ℕ → ℕ → Type 0
Goes row before left last g = (bit_and row before ≡ left) × (last ≤ g)

pub record Judges (row own before left last g : ℕ) (r : Option ℕ) : Type 0 where
  pub fewer : (b : ℕ) → r ≡ Some b → ¬ (own ≡ left) → b ≡ left
  pub twin : (b : ℕ) → r ≡ Some b → own ≡ left → (b ≡ before) × Goes row before left last g
  pub no : r ≡ None → (own ≡ left) × (Goes row before left last g → ⊥)

pub record Against (row left before last h : ℕ) (t : Bool) : Type 0 where
  pub yes : t ≡ true → (bit_and row left ≡ left) × (Goes row before left last h → ⊥)
  pub no : t ≡ false → bit_and row left ≡ left → Goes row before left last h

pub record NoneAgainst (rows : List ℕ) (unpicked left before last : ℕ) (t : Bool) : Type 0 where
  pub yes : t ≡ true → (h : ℕ) → bit unpicked h ≡ true → bit_and (row rows h) left ≡ left → Goes (row rows h) before left last h
  pub no : t ≡ false → (h : ℕ) × (bit unpicked h ≡ true) × (bit_and (row rows h) left ≡ left) × (Goes (row rows h) before left last h → ⊥)
