-- `run_words::phase_of` meets its contract.
use mathlib.Core.Path.{ap, ◌∙◌}
use Rattle.rules.specs.Machine.{Back}
use Rattle.run_words.proofs.Reading.{phase_down, phase_handed, phase_ended, phase_back}
use Rattle.run_words.proofs.phase_of.Goals as goal

pub returns-then-mark-eq-DOWN : goal.returns-then-mark-eq-DOWN
returns-then-mark-eq-DOWN g c = phase_down _ _ c.if-mark-eq-DOWN.true

pub returns-then-mark-eq-HANDED : goal.returns-then-mark-eq-HANDED
returns-then-mark-eq-HANDED g c = phase_handed _ _ c.if-mark-eq-DOWN.false c.if-mark-eq-HANDED.true

pub returns-then-mark-eq-ENDED : goal.returns-then-mark-eq-ENDED
returns-then-mark-eq-ENDED g c = phase_ended _ _ c.if-mark-eq-DOWN.false c.if-mark-eq-HANDED.false c.if-mark-eq-ENDED.true

pub returns : goal.returns
returns g c = ap Back c.from_number.ensures ∙ phase_back _ _ c.if-mark-eq-DOWN.false c.if-mark-eq-HANDED.false c.if-mark-eq-ENDED.false
