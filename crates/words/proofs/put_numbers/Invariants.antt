-- `words::put_numbers` meets its contract: the numbers passed are stored.
use lib.ListN.{take}
use Rattle.words.specs.Layouts.{Put}
use Rattle.words.proofs.put_numbers.Given as goal

abbrev pub invariant-loop-i : goal.invariant-loop-i
invariant-loop-i l = Put l.initial.out l.at (take l.i l.numbers) l.out
