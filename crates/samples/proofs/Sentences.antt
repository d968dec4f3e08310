-- What a reader finds in the claims of R-13, sentence by sentence: of the generator (`step_injective`, `step_onto`, `never_zero`), and of a table that is
-- made (`sample_taken`, `sample_pairs`, `densities`).
use mathlib.Core.Path.{◌≡◌, sym, ap, ◌∙◌}
use mathlib.Core.Logic.{◌↔◌}
use Prim.Native.Nat.{ℕ, ◌+◌, ◌*◌, ◌-◌, ◌%◌, ◌^◌, ◌≤◌, ◌<◌}
use Rattle.table.specs.Pairs.{Has}
use Rattle.table.specs.Tables.{table_refusal}
use Rattle.table.proofs.Legality.{legal_passes}
use Rattle.samples.specs.Xorshift.{step, unstep, after, StepClaims}
use Rattle.samples.specs.Samples.{sample_refusal, sampled, SampleClaims}
use Rattle.samples.proofs.Reversal.{unstep_lt}

-- ---- "a step can be reversed": no two states lead to one, and one leads to every state
pub step_injective : StepClaims → (x y : ℕ) → x < 2 ^ 64 → y < 2 ^ 64 → step x ≡ step y → x ≡ y
step_injective c x y h k e = sym (c.undone x h) ∙ ap unstep e ∙ c.undone y k

pub step_onto : StepClaims → (y : ℕ) → y < 2 ^ 64 → (x : ℕ) × (x < 2 ^ 64) × (step x ≡ y)
step_onto c y h = (unstep y, unstep_lt y h, c.redone y h)

-- "the state never becomes zero"
pub never_zero : StepClaims → (n start : ℕ) → start < 2 ^ 64 → ¬ (start ≡ 0) → ¬ (after n start ≡ 0)
never_zero c n start h z = c.nonzero n start h z

-- ---- a table that is made is one that 10 and 11 do not refuse
pub sample_taken : (g l start density : ℕ) → SampleClaims g l start density → sample_refusal g l start density ≡ 0 → table_refusal (sampled g l start density) ≡ 0
sample_taken g l start density s z = legal_passes (sampled g l start density) (s.legal z)

-- "Step once before each place, by gauge, then case; the pair is present when the low 8 bits are below the density"; there is no pair outside the shape
pub sample_pairs : (g l start density : ℕ) → SampleClaims g l start density → (i c : ℕ)
    → Has (sampled g l start density).rows i c ↔ ((1 ≤ i) × (i ≤ g) × (1 ≤ c) × (c ≤ l) × (after ((i - 1) * l + c) start % 256 < density))
sample_pairs g l start density s i c = (
  λ h. let o = s.shape i c h in (h.gauge, o.0, h.case, o.1, (s.place i c h.gauge o.0 h.case o.1).0 h),
  λ w. (s.place i c w.0 w.1 w.2 w.3).1 w.4,
)

-- "a density from 0 to 256": 0 gives no pair, 256 every pair of the shape
pub densities : (g l start density : ℕ) → SampleClaims g l start density → (i c : ℕ)
    → (¬ Has (sampled g l start 0).rows i c) × (1 ≤ i → i ≤ g → 1 ≤ c → c ≤ l → Has (sampled g l start 256).rows i c)
densities g l start density s i c = (s.none i c, s.every i c)
