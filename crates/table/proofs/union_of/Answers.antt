-- `table::union_of` meets its contract: what is seen is the union of the rows passed.
use native.Mathlib.Omega.{arith}
use Rattle.table.proofs.Unions.{union_start, union_more, union_done}
use Rattle.table.proofs.union_of.Goals as goal

pub loop-i-init : goal.loop-i-init
loop-i-init c = (omega arith, omega arith, union_start _ _)

pub loop-i-preserved : goal.loop-i-preserved
loop-i-preserved c = let l = c.loop-i in (omega arith, omega arith, union_more _ _ l.i _ l.invariant.0 l.invariant.2)

pub returns : goal.returns
returns c = union_done _ _ _ _ c.loop-i.i _ c.at_most_rows-i-end.ensures c.loop-i.invariant.1 c.loop-i-test.false c.loop-i.invariant.2
