-- `sets::with` meets its contract: below the 64th place the code's number is the union with that place, past it the set itself.
use Rattle.sets.specs.Sets.{join}
use Rattle.sets.proofs.OnePlace.{power, with_of}
use Rattle.sets.proofs.with.Goals as goal

pub returns : goal.returns
unfolding join
returns c = rw (power _ c.if-k-ge-PLACES.false) (with_of _ _ c.if-k-ge-PLACES.false)
