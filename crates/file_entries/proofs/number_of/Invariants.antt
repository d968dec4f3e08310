-- `file_entries::number_of` meets its contract: the digits so far and those still to come are the field's number (`Digiting`).
use Rattle.file_entries.proofs.Signs.{Digiting}
use Rattle.file_entries.proofs.number_of.Given as goal

abbrev pub invariant-loop-i : goal.invariant-loop-i
invariant-loop-i l = Digiting l.word l.i l.v
