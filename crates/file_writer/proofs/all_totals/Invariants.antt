-- `file_writer::all_totals` meets its contract: at each row the pairs counted and those to come are the pairs of the table (`Counting`).
use Prim.Native.Nat.{◌≤◌}
use Rattle.file_writer.specs.Writing.{gauge_of}
use Rattle.file_writer.specs.TestFiles.{entry_text}
use Rattle.file_writer.specs.private.StoreSteps.{pairs_at}
use Rattle.file_writer.proofs.Counting.{Counting}
use Rattle.file_writer.proofs.all_totals.Given as goal

abbrev pub invariant-loop-i : goal.invariant-loop-i
invariant-loop-i l = (l.i ≤ l.gauges) × Counting (entry_text l.entries.kind l.entries.readings.now) (pairs_at (gauge_of l.gauges) l.rows 0) l.count l.size (pairs_at (gauge_of l.gauges) l.rows l.i)
