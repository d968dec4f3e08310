-- One row, counted by its bits: as many pairs as bits, and each line two bytes beside its numbers, the digits of the gauge, and two digits
-- of the case, or one for the cases 1 to 9 (`row_totals`). The sum over the rows is in Counting.antt. At the end the places of a row, in turn.
-- Pins, which nothing else cites: `next_unique`, `next_some`.
use Prim.Native.Nat.{ℕ, zero, suc, ◌+◌, ◌-◌, ◌*◌, ◌/◌, ◌%◌, ◌^◌, ◌≤◌, ◌<◌}
use mathlib.Core.Path.{◌≡◌, refl, ap, sym, ◌∙◌}
use mathlib.Core.Logic.{⊎_elim}
use native.Mathlib.Omega.{arith}
use native.Mathlib.Numerals.{add-one}
use native.Mathlib.Nat.{pow-suc, add-mul, one-mul}
use lib.Count.{ones, ones_step, ones-le}
use lib.Pow.{mod-pow-add}
use lib.ListN.{length}
use Rattle.sets.specs.First.{Next}
use Rattle.sets.proofs.OnePlace.{first_unique, rest_unique}
use Rattle.table.specs.declared.Gauge.{Gauge}
use Rattle.file_writer.specs.Writing.{digits, case_of, row_pairs, pair_text, lines_of}
use Rattle.file_writer.specs.private.StoreSteps.{Width, IsTotals}
use Rattle.file_writer.proofs.Decimals.{lt_or_le, width_one, width_two}
use Rattle.file_writer.proofs.PairLines.{line_length, by_low, row_none}

-- how many of the first k places of b are set
low : ℕ → ℕ → ℕ
low zero b = 0
low (suc k) b = b % 2 + low k (b / 2)

ones_none : (b : ℕ) → b ≡ 0 → ones b ≡ 0
ones_none b e = omega (arith, ones-le 0 b (omega arith))

low_none : (k b : ℕ) → b ≡ 0 → low k b ≡ 0
unfolding low
low_none zero b e = refl
low_none (suc k) b e = omega (arith, low_none k (b / 2) (omega arith))

low_is : (k b : ℕ) → ones (b % 2 ^ k) ≡ low k b
unfolding low
low_is zero b = ones_none (b % 2 ^ 0) (omega arith)
low_is (suc k) b =
    let e : b % 2 ^ suc k ≡ (b / 2 % 2 ^ k) * 2 + b % 2 = rw (← add-one k) (mod-pow-add b k 1) in
    let x : b % 2 ^ suc k / 2 ≡ b / 2 % 2 ^ k = omega arith in
    let y : b % 2 ^ suc k % 2 ≡ b % 2 = omega arith in
    ones_step (b % 2 ^ suc k) ∙ rw (x, y, low_is k (b / 2))

-- as many pairs as bits
row_count : (g : Gauge) (n c b : ℕ) → b < 2 ^ n → length (row_pairs g n c b) ≡ ones b
row_count g zero c b l = ap length (row_none g zero c b (omega arith)) ∙ sym (ones_none b (omega arith))
row_count g (suc n) c b l =
    by_low (λ ps. length ps ≡ ones b) g n c b
    (λ e. omega (arith, ones_step b, row_count g n (suc c) (b / 2) (omega (arith, pow-suc 2 n))))
    (λ e. omega (arith, ones_step b, row_count g n (suc c) (b / 2) (omega (arith, pow-suc 2 n))))

-- the cases of one digit still to come, from case c on
low_short : (c b : ℕ) → c ≤ 9 → low (10 - c) b ≡ b % 2 + low (10 - suc c) (b / 2)
unfolding low
low_short c b h = let e : 10 - c ≡ suc (10 - suc c) = omega arith in rw e

low_long : (c b : ℕ) → 10 ≤ c → low (10 - c) b ≡ 0
unfolding low
low_long c b h = let e : 10 - c ≡ 0 = omega arith in rw e

one_more_lem : (x y : ℕ) → (1 + x) * y ≡ y + x * y
one_more_lem x y = add-mul 1 x y ∙ rw (one-mul y)

-- the bytes of a row's lines: by the bytes of its other lines, where the lowest bit is clear, and where it is set
module _ (g : Gauge) (c b more : ℕ) (h : c < 100) (ih : more + low (10 - suc c) (b / 2) ≡ ones (b / 2) * (length (digits g.0) + 4)) where
  bytes_even : (b % 2 ≡ 1 → ⊥) → more + low (10 - c) b ≡ ones b * (length (digits g.0) + 4)
  bytes_even e =
      let o : ones b ≡ ones (b / 2) = omega (arith, ones_step b) in
      let k : low (10 - c) b ≡ low (10 - suc c) (b / 2) =
      ⊎_elim (λ s. omega (arith, low_short c b (omega arith))) (λ s. omega (arith, low_long c b s, low_long (suc c) (b / 2) (omega arith))) (lt_or_le c 10) in
      rw (o, k) ih

  bytes_odd : b % 2 ≡ 1 → length (digits g.0) + length (digits c) + 2 + more + low (10 - c) b ≡ ones b * (length (digits g.0) + 4)
  bytes_odd e =
      let o : ones b ≡ 1 + ones (b / 2) = omega (arith, ones_step b) in
      rw o
      (⊎_elim (λ s. omega (arith, one_more_lem (ones (b / 2)) (length (digits g.0) + 4), low_short c b (omega arith), width_one c s))
      (λ s. omega (
        arith,
        one_more_lem (ones (b / 2)) (length (digits g.0) + 4),
        low_long c b s,
        low_long (suc c) (b / 2) (omega arith),
        width_two c s (omega arith),
      ))
      (lt_or_le c 10))

row_bytes : (g : Gauge) (n c b : ℕ) → b < 2 ^ n → c + n ≤ 100
    → length (lines_of pair_text (row_pairs g n c b)) + low (10 - c) b ≡ ones b * (length (digits g.0) + 4)
row_bytes g zero c b l h =
    let z : b ≡ 0 = omega arith in
    rw (row_none g zero c b z, low_none (10 - c) b z, ones_none b z) (omega arith)
row_bytes g (suc n) c b l h =
    let rest = lines_of pair_text (row_pairs g n (suc c) (b / 2)) in
    let ih = row_bytes g n (suc c) (b / 2) (omega (arith, pow-suc 2 n)) (omega arith) in
    by_low (λ ps. length (lines_of pair_text ps) + low (10 - c) b ≡ ones b * (length (digits g.0) + 4)) g n c b
    (λ e. rw (line_length g (case_of c) rest) (bytes_odd g c b (length rest) (omega arith) ih e))
    (bytes_even g c b (length rest) (omega arith) ih)

-- ---- as the code counts it
module _ (g : Gauge) (b width count short : ℕ) (l : b < 2 ^ 64) (w : Width g.0 width) (x : count ≡ ones b) (y : short ≡ ones (b % 512)) where
  bytes : length (lines_of pair_text (row_pairs g 64 1 b)) + short ≡ count * (width + 4)
  bytes =
      rw (x, y, w.is, low_is 9 b) (row_bytes g 64 1 b l (omega arith))

  pub row_short : short ≤ count * (width + 4)
  row_short = omega (arith, bytes)

  pub row_totals : IsTotals pair_text (row_pairs g 64 1 b) (record { count = count; size = count * (width + 4) - short })
  row_totals = record { pairs = x ∙ sym (row_count g 64 1 b l); bytes = omega (arith, bytes) }

-- ---- the places of a row, as `sets::Places` gives them: one place at a time and what is left without it, and none of an empty row
pub next_unique : (a k r j s : ℕ) → Next a k r → Next a j s → (k ≡ j) × (r ≡ s)
next_unique a k r j s n m = (first_unique a k j n.first m.first, rest_unique a r s n.rest m.rest)

pub next_some : (k r : ℕ) → ¬ Next 0 k r
next_some k r n = n.some refl
