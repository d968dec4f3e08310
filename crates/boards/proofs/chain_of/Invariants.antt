-- `boards::chain_of` meets its contract: each turn reads one row more (`Read`).
use Rattle.boards.proofs.Packing.{Read}
use Rattle.boards.proofs.chain_of.Given as goal

abbrev pub invariant-loop-i : goal.invariant-loop-i
invariant-loop-i l = Read l.board l.i l.left l.rows
