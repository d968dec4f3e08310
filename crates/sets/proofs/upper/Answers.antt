-- `sets::upper` meets its contract: shifted out and in again, no place from k on changes.
use Rattle.sets.proofs.OnePlace.{shifted, upper_of, upper_past}
use Rattle.sets.proofs.upper.Goals as goal

pub returns-then-k-ge-PLACES : goal.returns-then-k-ge-PLACES
returns-then-k-ge-PLACES c = upper_past _ _ c.ranges.a.fits c.if-k-ge-PLACES.true

pub returns : goal.returns
returns c = rw (shifted c.args.a c.args.k c.ranges.a.fits) (upper_of _ _)
