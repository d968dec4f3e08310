-- `file_reader::read_entries` meets its contract: what is still to be read, from the entries so far, is what the first entry line started with. In
-- the answers `h` is the test for a repeated entry, `k` where the entry was taken apart, `l` the loop's end.
use Prim.Native.Nat.{◌≤◌, ◌+◌, ◌-◌}
use mathlib.Core.Path.{◌≡◌}
use lib.ListN.{length, drop}
use Rattle.file_text.specs.Lines.{lines}
use Rattle.recorded.specs.Tests.{no_readings}
use Rattle.file_reader.specs.private.Reading.{read_entries}
use Rattle.file_reader.specs.private.Stopping.{stop_entries}
use Rattle.table.specs.Tables.{no_rows}
use Rattle.file_reader.proofs.read_entries.Given as goal

abbrev pub invariant-loop-at : goal.invariant-loop-at
invariant-loop-at l =
    (read_entries l.shape.kind l.shape.gauges l.shape.cases l.left l.rows l.values (lines (drop l.at l.file)) ≡ read_entries l.shape.kind l.shape.gauges l.shape.cases l.shape.count no_rows no_readings (lines (drop l.from l.file)))
    × (stop_entries l.shape.kind l.shape.gauges l.shape.cases l.left l.rows l.line (lines (drop l.at l.file)) ≡ stop_entries l.shape.kind l.shape.gauges l.shape.cases l.shape.count no_rows l.number (lines (drop l.from l.file)))
    × (l.line ≤ l.at + 2)

abbrev pub decreases-loop-at : goal.decreases-loop-at
decreases-loop-at l = length l.file - l.at
