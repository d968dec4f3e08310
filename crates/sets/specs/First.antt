-- The lowest place of a set, the set without it, and a set changed at one place or cut at one: each says what the answer is for every set
-- and every place, and leaves one answer (`first_unique` and its like in proofs/OnePlace.antt).
use Rattle.std.specs.Prelude.{◌≡◌, true, false, not, ◌&&◌, ◌||◌, ℕ, ◌≤◌, ◌<◌, eqb, leb}
use Rattle.std.specs.Int.Count.{count_trailing_zeros}
use Rattle.sets.specs.Sets.{bit}

-- r is the lowest place of a, which has one
pub record Lowest (a r : ℕ) : Type 0 where
  pub below : r < 64
  pub here : bit a r ≡ true
  pub none : (k : ℕ) → k < r → bit a k ≡ false

-- r is the lowest place of a, or 64 where a is empty; the logic's count of trailing zeros
pub record First (a r : ℕ) : Type 0 where
  pub counted : r ≡ count_trailing_zeros 64 a
  pub some : ¬ (a ≡ 0) → Lowest a r
  pub none : a ≡ 0 → r ≡ 64

-- r is the set a without its lowest place; the empty set has none
pub record Rest (a r : ℕ) : Type 0 where
  pub bits : (k : ℕ) → bit r k ≡ (bit a k && not (eqb k (count_trailing_zeros 64 a)))
  pub fewer : ¬ (a ≡ 0) → r < a

-- k is the lowest place of a, which has one, and r is a without it: a loop over the places of a goes on so
pub record Next (a k r : ℕ) : Type 0 where
  pub some : ¬ (a ≡ 0)
  pub first : First a k
  pub rest : Rest a r

-- r is the set a without place k
pub record Without (a k r : ℕ) : Type 0 where
  pub bits : (i : ℕ) → bit r i ≡ (bit a i && not (eqb i k))

-- r is the set a with place k, where that is one of the 64, else a
pub record Added (a k r : ℕ) : Type 0 where
  pub bits : (i : ℕ) → bit r i ≡ (bit a i || eqb i k)

pub record With (a k r : ℕ) : Type 0 where
  pub inside : k < 64 → Added a k r
  pub past : 64 ≤ k → r ≡ a

-- r is the set a from place k on
pub record Upper (a k r : ℕ) : Type 0 where
  pub bits : (i : ℕ) → bit r i ≡ (leb k i && bit a i)
