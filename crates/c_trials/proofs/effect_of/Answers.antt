-- `c_trials::effect_of` meets its contract.
use Rattle.c_trials.proofs.Serving.{effect_still, effect_chain, effect_not}
use Rattle.c_trials.proofs.effect_of.Goals as goal

pub returns-then-word-eq1 : goal.returns-then-word-eq1
returns-then-word-eq1 c = effect_still _ c.if-word-eq1.true

pub returns-then-word-eq2 : goal.returns-then-word-eq2
returns-then-word-eq2 c = effect_chain _ c.if-word-eq1.false c.if-word-eq2.true

pub returns : goal.returns
returns c = effect_not _ c.if-word-eq1.false c.if-word-eq2.false
