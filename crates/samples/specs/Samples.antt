-- The table of a shape, a start and a density (02, R-13: "Step once before each place, by gauge, then case; the pair is present when the low
-- 8 bits are below the density", "10 for the shape, then 28: the start is zero or the density above 256").
--
-- In order: rows; refusals; the table and the answer; what the table is, pair by pair (`SampleClaims`, proved in proofs/Places.antt).
use Rattle.std.specs.Prelude.{◌≡◌, ◌↔◌, ◌&&◌, not, cond, List, [], ◌∷◌, ℕ, zero, suc, ◌+◌, ◌*◌, ◌-◌, ◌%◌, ◌<◌, ◌≤◌, eqb, leb, ltb}
use Rattle.table.specs.declared.Table.{Table}
use Rattle.refusals.specs.Answers.{Answer, answer}
use Rattle.table.specs.Pairs.{Has}
use Rattle.table.specs.Tables.{Legal, in_range, padded, blank_table}
use Rattle.samples.specs.Xorshift.{step, after}

-- 1 where the pair of a place is present, 0 where it is not; x is the state there
abbrev pub present : ℕ → ℕ → ℕ
present density x = cond (ltb (x % 256) density) 1 0

-- a row of n cases, made from the state x on; its first case is bit 0
unfoldable pub sample_row : ℕ → ℕ → ℕ → ℕ
sample_row density zero x = 0
sample_row density (suc n) x = present density (step x) + sample_row density n (step x) * 2

-- the rows of g gauges and l cases, made from the state x on
unfoldable pub sample_rows : ℕ → ℕ → ℕ → ℕ → List ℕ
sample_rows density l zero x = []
sample_rows density l (suc g) x = sample_row density l x ∷ sample_rows density l g (after l x)

-- 02's number for a shape, and for a start and a density, or 0
unfoldable pub shape_refusal : ℕ → ℕ → ℕ
shape_refusal g l = cond (in_range 64 g && in_range 64 l) 0 10

unfoldable pub input_refusal : ℕ → ℕ → ℕ
input_refusal start density = cond (not (eqb start 0) && leb density 256) 0 28

-- the first of two that is not 0
abbrev pub first_of : ℕ → ℕ → ℕ
first_of a b = cond (eqb a 0) b a

unfoldable pub sample_refusal : ℕ → ℕ → ℕ → ℕ → ℕ
sample_refusal g l start density = first_of (shape_refusal g l) (input_refusal start density)

-- the table whose numbers nothing refuses
abbrev pub sampled : ℕ → ℕ → ℕ → ℕ → Table
sampled g l start density = record { gauges = g; cases = l; rows = padded (sample_rows density l g start) }

-- the table, or 10 or 28 and the blank table
abbrev pub sample_table : ℕ → ℕ → ℕ → ℕ → Answer Table
sample_table g l start density = answer (sample_refusal g l start density) (sampled g l start density) blank_table

-- ---- of every table that is made: it is legal; the state after (i - 1) L + c steps decides the pair i:c, and there is no pair outside the shape; density
-- 0 gives no pair, 256 every pair
pub record SampleClaims (g l start density : ℕ) : Type 0 where
  pub legal : sample_refusal g l start density ≡ 0 → Legal (sampled g l start density)
  pub place : (i c : ℕ) → 1 ≤ i → i ≤ g → 1 ≤ c → c ≤ l
      → Has (sampled g l start density).rows i c ↔ after ((i - 1) * l + c) start % 256 < density
  pub shape : (i c : ℕ) → Has (sampled g l start density).rows i c → (i ≤ g) × (c ≤ l)
  pub none : (i c : ℕ) → ¬ Has (sampled g l start 0).rows i c
  pub every : (i c : ℕ) → 1 ≤ i → i ≤ g → 1 ≤ c → c ≤ l → Has (sampled g l start 256).rows i c
