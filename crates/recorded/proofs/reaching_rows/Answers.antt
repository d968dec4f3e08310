-- `recorded::reaching_rows` meets its contract: the first `i` rows are made.
use native.Mathlib.Omega.{arith}
use Rattle.sets.proofs.Tabulated.{filled_all}
use Rattle.recorded.proofs.reaching_rows.Goals as goal

pub returns : goal.returns
returns c = filled_all c.loop-i.i c.loop-i.invariant (omega arith)
