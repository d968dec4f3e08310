-- `preference::renumber` meets its contract: the first numbers are renumbered.
use Rattle.std.proofs.Common.{arith}
use Rattle.preference.proofs.Gathering.{renumbered_all}
use Rattle.preference.proofs.renumber.Goals as goal

pub returns : goal.returns
returns c = renumbered_all _ _ _ _ c.loop-i.i c.loop-i.invariant (omega arith)
