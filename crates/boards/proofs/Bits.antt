-- The bits of a board are those of its rows (`bit-board`), it has 8 for each row (`board_lt`), and its rows can be read again (`row-board`).
use mathlib.Core.Path.{◌≡◌, sym, ap, ◌∙◌}
use mathlib.Core.List.{List, [], ◌∷◌}
use Prim.Native.Nat.{ℕ, zero, suc, ◌+◌, ◌*◌, ◌/◌, ◌%◌, ◌^◌, ◌≤◌, ◌<◌}
use native.Mathlib.Nat.{zero-div, div-one, lt_of_lt_of_le}
use native.Mathlib.Omega.{arith}
use lib.Dec.{eqb}
use lib.Arith.{digits_lt}
use lib.Bits.{block_half, block_odd}
use lib.ListN.{length}
use lib.Pow.{pow-add, pow_mono, shr-shr, high, low}
use Rattle.sets.specs.Sets.{bit}
use Rattle.sets.proofs.Digits.{bit_zero, bit-suc}
use Rattle.sets.proofs.OnePlace.{none_in}
use Rattle.table.specs.Pairs.{row}
use Rattle.boards.specs.Boards.{board}

-- ---- the bits of two blocks
low_bit : (n hi lo k : ℕ) → k < n → bit (hi * 2 ^ n + lo) k ≡ bit lo k
low_bit zero hi lo k l = absurd (omega arith)
low_bit (suc n) hi lo zero l = bit_zero (hi * 2 ^ suc n + lo) ∙ ap (λ (x : ℕ). eqb x 1) (block_odd hi n lo) ∙ sym (bit_zero lo)
low_bit (suc n) hi lo (suc k) l =
    bit-suc (hi * 2 ^ suc n + lo) k ∙ ap (λ (x : ℕ). bit x k) (block_half hi n lo) ∙ low_bit n hi (lo / 2) k (omega arith) ∙ sym (bit-suc lo k)

high_bit : (n hi lo k : ℕ) → lo < 2 ^ n → bit (hi * 2 ^ n + lo) (n + k) ≡ bit hi k
unfolding bit
high_bit n hi lo k l = ap (λ (x : ℕ). eqb (x % 2) 1) (sym (shr-shr (hi * 2 ^ n + lo) n k) ∙ ap (λ (x : ℕ). x / 2 ^ k) (high hi n l))

-- ---- the number of a set
-- every row has its cases among the first 8
abbrev pub Small : List ℕ → Type 0
Small x = (i : ℕ) → row x i < 2 ^ 8

pub bit-board : (x : List ℕ) → Small x → (i k : ℕ) → k < 8 → bit (board x) (8 * i + k) ≡ bit (row x i) k
unfolding board
bit-board [] h i k l = none_in (8 * i + k) ∙ sym (none_in k)
bit-board (a ∷ x) h zero k l = let e : 8 * 0 + k ≡ k = omega arith in ap (bit (board x * 2 ^ 8 + a)) e ∙ low_bit 8 (board x) a k l
bit-board (a ∷ x) h (suc i) k l =
    let e : 8 * suc i + k ≡ 8 + (8 * i + k) = omega arith in
    ap (bit (board x * 2 ^ 8 + a)) e ∙ high_bit 8 (board x) a (8 * i + k) (h 0) ∙ bit-board x (λ j. h (suc j)) i k l

board_lt : (x : List ℕ) → Small x → board x < 2 ^ (8 * length x)
unfolding board
board_lt [] h = omega arith
board_lt (a ∷ x) h =
    let e : 8 * suc (length x) ≡ 8 * length x + 8 = omega arith in
    let b : board x < 2 ^ (8 * length x) = board_lt x (λ j. h (suc j)) in
    rw (e, pow-add 2 (8 * length x) 8) (digits_lt b (h 0))

pub board_fits : (x : List ℕ) → Small x → length x ≤ 8 → board x < 2 ^ 64
board_fits x h l = lt_of_lt_of_le (board_lt x h) (pow_mono {i = 8 * length x} {j = 64} (omega arith))

pub row-board : (x : List ℕ) → Small x → (i : ℕ) → board x / 2 ^ (8 * i) % 2 ^ 8 ≡ row x i
unfolding board
row-board [] h i = rw (zero-div (2 ^ (8 * i)))
row-board (a ∷ x) h zero = ap (λ (y : ℕ). y % 2 ^ 8) (div-one (board x * 2 ^ 8 + a)) ∙ low (board x) 8 (h 0)
row-board (a ∷ x) h (suc i) =
    let e : 8 * suc i ≡ 8 + 8 * i = omega arith in
    ap (λ (n : ℕ). (board x * 2 ^ 8 + a) / 2 ^ n % 2 ^ 8) e
    ∙ ap (λ (y : ℕ). y % 2 ^ 8) (sym (shr-shr (board x * 2 ^ 8 + a) 8 (8 * i)) ∙ ap (λ (y : ℕ). y / 2 ^ (8 * i)) (high (board x) 8 (h 0)))
    ∙ row-board x (λ j. h (suc j)) i
