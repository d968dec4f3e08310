-- The measures of the cycle: `cover_left` and `next_ladder` fall on k and on the ladders still to come: with n ladders, k * (n + 2) for an uncovered set, and for
-- the ladders from place i on, under which k more may be tried, k * (n + 2) + (n - i + 1).
use Rattle.std.proofs.Common.{◌+◌, ◌-◌, ◌*◌, length}
use Rattle.cover_search.proofs.+cover_left_next_ladder.Given as goal

abbrev pub decreases-cover_left : goal.decreases-cover_left
decreases-cover_left l = l.k * (length l.ladders.now + 2)

abbrev pub decreases-next_ladder : goal.decreases-next_ladder
decreases-next_ladder l = l.step.k * (length l.ladders.now + 2) + (length l.ladders.now - l.i + 1)
