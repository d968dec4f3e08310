-- `file_entries::word_end` meets its contract: no byte from the start up to here is blank.
use Rattle.file_entries.proofs.Words.{Running}
use Rattle.file_entries.proofs.word_end.Given as goal

abbrev pub invariant-loop-i : goal.invariant-loop-i
invariant-loop-i l = Running l.line l.at l.i
