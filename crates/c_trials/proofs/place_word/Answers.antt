-- `c_trials::place_word` meets its contract.
use Rattle.c_trials.proofs.Serving.{place_low, place_high, place_is}
use Rattle.c_trials.proofs.place_word.Goals as goal

pub returns-then-effect-lt1 : goal.returns-then-effect-lt1
returns-then-effect-lt1 c = place_low _ _ c.if-effect-lt1.true

pub returns-then-effect-gt3 : goal.returns-then-effect-gt3
returns-then-effect-gt3 c = place_high _ _ c.if-effect-lt1.false c.if-effect-gt3.true

pub returns : goal.returns
returns c = place_is _ _ c.if-effect-lt1.false c.if-effect-gt3.false
