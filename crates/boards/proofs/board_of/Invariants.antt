-- `boards::board_of` meets its contract: each turn puts one row more below the board (`Packed`).
use Rattle.boards.proofs.Packing.{Packed}
use Rattle.boards.proofs.board_of.Given as goal

abbrev pub invariant-loop-i : goal.invariant-loop-i
invariant-loop-i l = Packed l.rows l.i l.board
