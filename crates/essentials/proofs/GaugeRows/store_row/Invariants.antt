-- `essentials::GaugeRows::store_row` meets its contract: the unions of the places passed are stored, and those of the rows before are kept.
use Rattle.essentials.proofs.Storing.{Storing}
use Rattle.essentials.proofs.GaugeRows.store_row.Given as goal

abbrev pub invariant-loop-k : goal.invariant-loop-k
invariant-loop-k l = Storing l.self.rows.now l.self.n l.i l.store (l.k-iterator).0
