-- `preference::gather` meets its contract: the first rows are gathered, and the others are empty.
use Rattle.std.proofs.Common.{arith}
use Rattle.preference.proofs.Gathering.{gathered_none, gathered_all}
use Rattle.preference.proofs.gather.Goals as goal

pub loop-i-init : goal.loop-i-init
loop-i-init c = gathered_none _ _

pub returns : goal.returns
returns c = gathered_all _ _ _ c.loop-i.i _ c.loop-i.invariant (omega arith)
