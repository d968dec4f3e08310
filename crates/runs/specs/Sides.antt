-- The side of a table by its mark (`side_of`), with which what is said of both sides is said once; and the checks of a value that must be in one phase
-- (`ChecksAt`).
use Rattle.std.specs.Prelude.{◌≡◌, Bool, true, false, List, ℕ, ◌<◌}
use Rattle.table.specs.declared.Table.{Table}
use Rattle.rules.specs.Machine.{Phase, at}
use Rattle.lists.specs.Lists.{Side, gauge_side, case_side}
use Rattle.runs.specs.Paused.{Value}
use Rattle.runs.specs.Calling.{value_refusal, PausedAt}

-- the side that a mark names: true for the cases
abbrev pub side_of : Bool → Table → Side
side_of false = gauge_side
side_of true = case_side

-- ---- the checks of a value
-- n is the number with which the value v is refused where its phase must be f, or 0: 10 and 11 for the table, then 27
-- for the preference, then 15 for a value that no number of moves leads to, and for another phase
pub record ChecksAt (side : Table → Side) (v : Value) (f : Phase) (n : ℕ) : Type 0 where
  pub table : 0 < value_refusal side v → n ≡ value_refusal side v
  pub value : value_refusal side v ≡ 0 → ((p : List ℕ) → PausedAt side v (at p f) → ⊥) → n ≡ 15
  pub stands : value_refusal side v ≡ 0 → (p : List ℕ) → PausedAt side v (at p f) → n ≡ 0
