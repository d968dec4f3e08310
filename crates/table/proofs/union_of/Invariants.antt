-- `table::union_of` meets its contract: what is seen is the union of the rows passed.
use Prim.Native.Nat.{◌≤◌, ◌-◌}
use Rattle.std.specs.Prelude.{◌≡◌}
use Rattle.table.specs.Unions.{union_from}
use Rattle.table.proofs.union_of.Given as goal

abbrev pub invariant-loop-i : goal.invariant-loop-i
invariant-loop-i l = (l.from ≤ l.i) × (l.i - l.from ≤ l.i-end - l.from) × (l.seen ≡ union_from l.rows l.from (l.i - l.from))
