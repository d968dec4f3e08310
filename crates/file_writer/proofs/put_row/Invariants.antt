-- `file_writer::put_row` meets its contract: at each turn what is stored and what is still to be stored are the lines of the row (`Writing`),
-- and the lowest case left is the next to be written (`row_first`).
use Rattle.file_writer.specs.Writing.{lines_of, row_pairs}
use Rattle.file_writer.specs.TestFiles.{entry_text}
use Rattle.file_writer.proofs.Stores.{Writing}
use Rattle.file_writer.proofs.put_row.Given as goal

abbrev pub invariant-loop-k : goal.invariant-loop-k
invariant-loop-k l =
    Writing l.initial.out l.at (lines_of (entry_text l.entries.kind l.entries.readings.now) (row_pairs l.g 64 1 l.row)) l.out l.p
    (lines_of (entry_text l.entries.kind l.entries.readings.now) (row_pairs l.g 64 1 (l.k-iterator).0))
