-- `count::count_below`: each turn of its loop adds the count below one candidate (`Turn`); the gauges not yet picked fall.
use Rattle.std.proofs.Common.{◌-◌}
use Rattle.std.specs.Int.Count.{ones}
use Rattle.count.proofs.Turns.{Turn}
use Rattle.count.proofs.+count_below.Given as goal

abbrev pub decreases-count_below : goal.decreases-count_below
decreases-count_below l = ones l.unpicked

abbrev pub invariant-loop-g : goal.invariant-loop-g
invariant-loop-g l = Turn l.rows l.unpicked l.left l.budget l.ladders l.calls l.g

abbrev pub decreases-loop-g : goal.decreases-loop-g
decreases-loop-g l = 64 - l.g
