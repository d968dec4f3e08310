-- `transpose::FirstRows::put_columns` meets its contract: the columns below `k` are put.
use Prim.Native.Nat.{◌*◌}
use Rattle.transpose.specs.Places.{places}
use Rattle.transpose.specs.private.Puts.{Putting}
use Rattle.transpose.proofs.FirstRows.put_columns.Given as goal

abbrev pub invariant-loop-q : goal.invariant-loop-q
invariant-loop-q l = Putting (places l.self.many l.self.rows.now) l.initial.out l.at (4 * l.q) l.out

abbrev pub invariant-loop-k : goal.invariant-loop-k
invariant-loop-k l = Putting (places l.self.many l.self.rows.now) l.fn.out l.at l.k l.out
