-- `preference::zeros_from` meets its contract: what was passed is zero.
use Rattle.std.proofs.Common.{arith}
use Rattle.preference.proofs.Placing.{zeros_fail, zeros_pass}
use Rattle.preference.proofs.zeros_from.Goals as goal

pub returns-then-order-i-ne0 : goal.returns-then-order-i-ne0
returns-then-order-i-ne0 c = zeros_fail _ _ c.loop-i.i (omega arith) (omega arith) c.if-order-i-ne0.true

pub returns : goal.returns
returns c = zeros_pass _ _ c.loop-i.i (omega arith) c.loop-i.invariant
