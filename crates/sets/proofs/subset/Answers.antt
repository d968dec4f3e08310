-- `sets::subset` meets its contract: the code's test is the definition's.
use mathlib.Core.Path.{refl}
use Rattle.sets.specs.Sets.{meet, is_subset}
use Rattle.sets.proofs.subset.Goals as goal

pub returns : goal.returns
unfolding is_subset meet
returns c = refl
