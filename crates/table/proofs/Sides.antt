-- Which side is which: turned round together in the code and in its clauses, each would stand for the other.
--
-- Pins, which nothing else cites: `sides_as_named`.
use mathlib.Core.Path.{◌≡◌, refl}
use mathlib.Core.Bool.{true, false}
use Rattle.table.specs.contracts.GaugeSide.TheImpl.{ghosts as gauges}
use Rattle.table.specs.contracts.CaseSide.TheImpl.{ghosts as cases}

pub sides_as_named : (gauges.CASES ≡ false) × (cases.CASES ≡ true)
sides_as_named = (refl, refl)
