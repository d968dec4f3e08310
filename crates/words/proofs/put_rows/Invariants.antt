-- `words::put_rows` meets its contract: the rows passed are stored.
use lib.ListN.{take}
use Rattle.words.specs.Layouts.{Put}
use Rattle.words.proofs.put_rows.Given as goal

abbrev pub invariant-loop-i : goal.invariant-loop-i
invariant-loop-i l = Put l.initial.out l.at (take l.i l.rows) l.out
