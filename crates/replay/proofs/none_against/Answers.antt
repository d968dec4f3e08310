-- `replay::none_against` meets its contract: no place passed is against the picks.
use Rattle.replay.proofs.Judging.{none_all}
use Rattle.replay.proofs.none_against.Goals as goal

pub returns : goal.returns
returns c = none_all _ _ _ _ _ _ c.loop-h.invariant c.in-None.ensures.steps.0
