-- `sets::rest` meets its contract: the empty set stays empty, and `a & (a - 1)` is any other without its lowest place.
use Rattle.sets.specs.Sets.{meet}
use Rattle.sets.proofs.LowestPlace.{rest_of_lem}
use Rattle.sets.proofs.OnePlace.{rest_none}
use Rattle.sets.proofs.rest.Goals as goal

pub returns-then-a-eq0 : goal.returns-then-a-eq0
returns-then-a-eq0 c = rest_none c.args.a c.if-a-eq0.true

pub returns : goal.returns
unfolding meet
returns c = rest_of_lem c.args.a c.ranges.a.fits c.if-a-eq0.false
