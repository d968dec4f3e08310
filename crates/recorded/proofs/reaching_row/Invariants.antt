-- `recorded::reaching_row` meets its contract: the set so far is that of the places below `k`.
use Prim.Native.Nat.{◌+◌, ◌*◌}
use Rattle.recorded.specs.Tests.{reading, reaches}
use Rattle.recorded.proofs.Turns.{Below}
use Rattle.recorded.proofs.reaching_row.Given as goal

abbrev pub invariant-loop-k : goal.invariant-loop-k
invariant-loop-k l = Below (λ j. reaches l.cutoff l.row j (reading l.readings (l.i * 64 + j))) l.set l.k
