-- `sets::first` meets its contract: `trailing_zeros` counts the places below the lowest, all 64 of the empty set.
use Rattle.sets.proofs.LowestPlace.{first_of_lem}
use Rattle.sets.proofs.first.Goals as goal

pub returns : goal.returns
returns c = first_of_lem c.args.a c.ranges.a.fits
