-- `essentials::GaugeRows::unions` meets its contract: the unions of the rows passed are stored.
use Rattle.essentials.specs.private.Unions.{Stored}
use Rattle.essentials.proofs.GaugeRows.unions.Given as goal

abbrev pub invariant-loop-i : goal.invariant-loop-i
invariant-loop-i l = Stored l.self.rows.now l.self.n l.i l.store
