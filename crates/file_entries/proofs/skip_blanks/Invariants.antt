-- `file_entries::skip_blanks` meets its contract: the words from here on are those from the start on.
use Rattle.file_entries.proofs.Words.{Skipping}
use Rattle.file_entries.proofs.skip_blanks.Given as goal

abbrev pub invariant-loop-i : goal.invariant-loop-i
invariant-loop-i l = Skipping l.line l.at l.i
