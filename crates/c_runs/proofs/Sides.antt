-- What both sides come with on every table of 64 rows, over which the laws here are proved once (`Startable`).
use mathlib.Core.Path.{◌≡◌}
use mathlib.Core.Bool.{Bool, true, false}
use mathlib.Core.List.{List}
use Prim.Native.Nat.{ℕ, ◌-◌, ◌≤◌}
use native.Mathlib.Omega.{arith}
use lib.ListN.{length, take, length-map, length-take}
use Rattle.table.specs.declared.Table.{Table}
use Rattle.lists.specs.Lists.{Side, gauge_side, case_side}
use Rattle.runs.specs.Sides.{side_of}
use Rattle.runs.proofs.Demands.{Started, StartsAll}
use Rattle.runs.proofs.Starting.{gauge_started, case_started}

abbrev pub Startable : (Table → Side) → Type 0
Startable side = (t : Table) → length t.rows ≡ 64 → StartsAll side t

pub gauges_start : Startable gauge_side
gauges_start = gauge_started

pub cases_start : Startable case_side
cases_start = case_started

pub side_start_lem : (b : Bool) → Startable (side_of b)
side_start_lem false = gauge_started
side_start_lem true = case_started

-- an arrangement of a side is in 64 numbers, and so the side has at most 64
pub few : (side : Table → Side) (t : Table) (k : List ℕ) → length k ≡ 64 → Started side t k → (side t).count ≤ 64
few side t k long g =
    omega (arith, g.arranged.size, length-map (take (side t).count k) (λ x. x - 1), length-take (side t).count k, long)
