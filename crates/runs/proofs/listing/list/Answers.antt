-- `runs::listing::list` meets its contract: what the checks let pass are the calls (`list-went`).
use mathlib.Core.Path.{refl}
use Rattle.runs.proofs.Batching.{list-went}
use Rattle.runs.proofs.listing.list.Goals as goal

pub returns : goal.returns
returns c = list-went _ _ _ _ _ _ _ _ c.in_ok-at.ensures _ _ _ _ _ refl _ _ _ _ c.list_on-tally.ensures
