-- `file_reader::read_head` meets its contract: what is still to be read is what the first line behind the banner started with.
use Prim.Native.Nat.{◌≤◌, ◌+◌, ◌-◌}
use mathlib.Core.Path.{◌≡◌}
use lib.ListN.{length, drop}
use Rattle.file_text.specs.Lines.{lines}
use Rattle.file_reader.specs.private.Reading.{read_head}
use Rattle.file_reader.specs.private.Stopping.{stop_head}
use Rattle.file_reader.proofs.read_head.Given as goal

abbrev pub invariant-loop-at : goal.invariant-loop-at
invariant-loop-at l =
    (read_head l.kind (lines (drop l.at l.file)) ≡ read_head l.kind (lines (drop l.from l.file)))
    × (stop_head l.kind l.line (lines (drop l.at l.file)) ≡ stop_head l.kind l.number (lines (drop l.from l.file)))
    × (l.line ≤ l.at + 2)

abbrev pub decreases-loop-at : goal.decreases-loop-at
decreases-loop-at l = length l.file - l.at
