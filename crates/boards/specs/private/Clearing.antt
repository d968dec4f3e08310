-- The places of a board that another has not, as code takes them: `a & !b`.
use Rattle.std.specs.Prelude.{ℕ, ◌-◌, ◌^◌}
use Rattle.sets.specs.Sets.{meet}

unfoldable pub minus : ℕ → ℕ → ℕ
minus a b = meet a (2 ^ 64 - 1 - b)
