-- `boards::board_of` meets its contract: each turn puts one row more below the board (`Packed`).
use native.Mathlib.Omega.{arith}
use Rattle.boards.proofs.Packing.{packed_start, packed-fits, packed-turn}
use Rattle.boards.proofs.board_of.Goals as goal

pub loop-i-init : goal.loop-i-init
loop-i-init c = packed_start _

pub overflow_mul-board : goal.overflow_mul-board
overflow_mul-board c = omega (arith, packed-fits _ _ _ c.loop-i.invariant c.loop-i-test.true)

pub overflow_add-board : goal.overflow_add-board
overflow_add-board c = omega (arith, packed-fits _ _ _ c.loop-i.invariant c.loop-i-test.true)

pub loop-i-preserved : goal.loop-i-preserved
loop-i-preserved c = packed-turn _ _ _ c.loop-i.invariant c.loop-i-test.true
