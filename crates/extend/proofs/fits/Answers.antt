-- `extend::fits` meets its contract: each answer computes from the test that led to it.
use Rattle.extend.proofs.PickLoops.{fits_not, fits_candidate}
use Rattle.extend.proofs.fits.Goals as goal

pub returns-then-not-subset : goal.returns-then-not-subset
returns-then-not-subset c = fits_not _ _ _ _ _ _ c.subset.ensures c.if-not-subset.true

pub returns : goal.returns
returns c = fits_candidate _ _ _ _ _ _ c.subset.ensures c.if-not-subset.false _ c.is_candidate_of.ensures
