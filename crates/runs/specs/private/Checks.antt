-- What the checks of a value say, before it is known which phase is asked for.
use Rattle.std.specs.Prelude.{◌≡◌, Bool, true, false, ℕ, ◌<◌}
use Rattle.table.specs.declared.Table.{Table}
use Rattle.rules.specs.Machine.{Phase, Down, Handed, Back, Ended, State}
use Rattle.lists.specs.Lists.{Side}
use Rattle.runs.specs.Paused.{Value}
use Rattle.runs.specs.Calling.{value_refusal, PausedAt}

abbrev pub is_down : Phase → Bool
is_down Down = true
is_down Handed = false
is_down (Back k) = false
is_down Ended = false

abbrev pub is_handed : Phase → Bool
is_handed Down = false
is_handed Handed = true
is_handed (Back k) = false
is_handed Ended = false

-- n is the number for the value v, or 0, where `fits` tells whether its phase is the one asked for
pub record ChecksPhase (side : Table → Side) (v : Value) (fits : Bool) (n : ℕ) : Type 0 where
  pub table : 0 < value_refusal side v → n ≡ value_refusal side v
  pub value : value_refusal side v ≡ 0 → ((s : State) → PausedAt side v s → ⊥) → n ≡ 15
  pub other : fits ≡ false → value_refusal side v ≡ 0 → n ≡ 15
  pub stands : fits ≡ true → value_refusal side v ≡ 0 → (s : State) → PausedAt side v s → n ≡ 0
