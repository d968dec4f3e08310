-- `file_writer::put_rows` meets its contract: at each row what is stored and what is still to be stored are the lines of the rows (`Writing`).
use Prim.Native.Nat.{◌≤◌}
use Rattle.file_writer.specs.Writing.{gauge_of}
use Rattle.file_writer.specs.private.StoreSteps.{rows_from}
use Rattle.file_writer.proofs.Stores.{Writing}
use Rattle.file_writer.proofs.put_rows.Given as goal

abbrev pub invariant-loop-i : goal.invariant-loop-i
invariant-loop-i l = (l.i ≤ l.most) × Writing l.initial.out l.at (rows_from l.entries.kind l.entries.readings.now (gauge_of l.most) l.rows 0) l.out l.p (rows_from l.entries.kind l.entries.readings.now (gauge_of l.most) l.rows l.i)
