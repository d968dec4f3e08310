-- `essentials::conflict_rows` meets its contract: the rows passed are as the definition says.
use native.Mathlib.Omega.{arith}
use Rattle.sets.proofs.Tabulated.{filled_all}
use Rattle.essentials.specs.private.Unions.{conflict_rows}
use Rattle.essentials.proofs.conflict_rows.Goals as goal

pub returns : goal.returns
unfolding conflict_rows
returns c = filled_all _ c.loop-i.invariant (omega arith)
