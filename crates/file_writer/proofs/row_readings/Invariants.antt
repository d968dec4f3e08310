-- `file_writer::row_readings` meets its contract: at each turn the bytes counted and those of the readings to come are those of the row's readings
-- (`Valuing`), and the lowest case left is the next to be counted.
use Rattle.file_writer.specs.Writing.{row_pairs}
use Rattle.file_writer.proofs.Readings.{Valuing}
use Rattle.file_writer.proofs.row_readings.Given as goal

abbrev pub invariant-loop-k : goal.invariant-loop-k
invariant-loop-k l = Valuing l.readings (row_pairs l.g 64 1 l.row) l.size (row_pairs l.g 64 1 (l.k-iterator).0)
