-- `recorded::reaching_rows` meets its contract: the first `i` rows are made.
use Rattle.sets.proofs.Tabulated.{Filled}
use Rattle.table.specs.Pairs.{row}
use Rattle.recorded.specs.Tests.{row_at}
use Rattle.recorded.proofs.reaching_rows.Given as goal

abbrev pub invariant-loop-i : goal.invariant-loop-i
invariant-loop-i l = Filled (λ j. row_at l.cutoff (row l.entries j) l.readings j) 64 l.rows l.i
