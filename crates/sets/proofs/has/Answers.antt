-- `sets::has` meets its contract: past the 64th place a 64-bit number has no bit, below it the code's test is the definition's.
use mathlib.Core.Path.{refl, sym}
use Rattle.sets.specs.Sets.{bit}
use Rattle.sets.proofs.Masks.{bit_past}
use Rattle.sets.proofs.has.Goals as goal

pub returns-then-k-ge-PLACES : goal.returns-then-k-ge-PLACES
returns-then-k-ge-PLACES c = sym (bit_past _ _ c.ranges.a.fits c.if-k-ge-PLACES.true)

pub returns : goal.returns
unfolding bit
returns c = refl
