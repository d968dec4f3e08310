-- `preference::is_plain` meets its contract: the numbers passed that differ are counted.
use Rattle.preference.proofs.PlainOrder.{Counted}
use Rattle.preference.proofs.is_plain.Given as goal

abbrev pub invariant-loop-i : goal.invariant-loop-i
invariant-loop-i l = Counted l.n l.order l.strays l.i
