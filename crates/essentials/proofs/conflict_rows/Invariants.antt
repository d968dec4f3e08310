-- `essentials::conflict_rows` meets its contract: the rows passed are as the definition says.
use Prim.Native.Nat.{ℕ}
use Rattle.sets.proofs.Tabulated.{Filled}
use Rattle.table.specs.Pairs.{row}
use Rattle.essentials.specs.private.Unions.{conflict_row}
use Rattle.essentials.proofs.conflict_rows.Given as goal

abbrev pub invariant-loop-i : goal.invariant-loop-i
invariant-loop-i l = Filled (λ (j : ℕ). conflict_row (row l.rows j) (row l.rows l.g) l.k) 64 l.found l.i
