-- `boards::chain_of` meets its contract: each turn reads one row more (`Read`).
use Rattle.boards.proofs.Packing.{read_start, read_turn}
use Rattle.boards.proofs.chain_of.Goals as goal

pub loop-i-init : goal.loop-i-init
loop-i-init c = read_start _

pub loop-i-preserved : goal.loop-i-preserved
loop-i-preserved c = read_turn _ _ _ _ c.loop-i.invariant c.loop-i-test.true
