-- `trials::propose` meets its contract: the chain has the shape of the flipped table, and the effect is what it is over that.
use Rattle.trials.proofs.Effects.{shaped_of}
use Rattle.trials.proofs.propose.Goals as goal

pub effect_on-effect-requires : goal.effect_on-effect-requires
effect_on-effect-requires c = shaped_of _ _ _ c.requires.0 _ c.flip-new.ensures _ c.requires.1
