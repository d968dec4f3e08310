-- The order that a listing asks for, and the sum that bench/plain.rs takes too: it depends on every row of each ladder and on their order.
--
-- In order: the numbers of an order; a ladder as one number; the sum with it.
use Rattle.std.specs.Prelude.{Bool, cond, List, ◌++◌, ℕ, zero, suc, ◌*◌, ◌%◌, ◌^◌, min, take, drop, reverse}
use Rattle.std.specs.List.{slice_index}
use Rattle.std.specs.Int.Bits.{bit_xor}
use Rattle.preference.specs.Preferences.{plain_numbers}
use Rattle.samples.specs.Xorshift.{step}

-- 1, 2, 3, .., of so many numbers, at most 64, or from the last to the first, padded with zeros
unfoldable pub numbers : ℕ → Bool → List ℕ
numbers n backward =
    cond backward (reverse (take (min n 64) (plain_numbers n)) ++ drop (min n 64) (plain_numbers n)) (plain_numbers n)

-- the first n rows as one number: each is shifted by another multiple of 7, so that gauges and cases cannot be mistaken for each other
unfoldable pub folded : ℕ → List ℕ → ℕ
folded zero rows = 0
folded (suc i) rows = bit_xor (folded i rows) (slice_index rows i * 2 ^ (i * 7 % 64) % 2 ^ 64)

-- one step on, and a ladder taken in
abbrev pub summed : ℕ → ℕ → ℕ
summed sum ladder = bit_xor (step sum) ladder
