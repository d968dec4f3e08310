-- `run_words::is_value` meets its contract: a law for each return.
use Rattle.run_words.proofs.Reading.{other_side, other_phase, other-omit, is-back, is-other}
use Rattle.run_words.proofs.is_value.Goals as goal

pub returns-then-word_at-side : goal.returns-then-word_at-side
returns-then-word_at-side c = other_side _ _ _ c.word_at.ensures c.if-word_at-side.true

pub returns-then-phase-gt-ENDED : goal.returns-then-phase-gt-ENDED
returns-then-phase-gt-ENDED c = other_phase _ _ _ c.word_at.ensures c.if-word_at-side.false _ c.word_at-phase.ensures c.if-phase-gt-ENDED.true

pub returns-then-word_at-gt1 : goal.returns-then-word_at-gt1
returns-then-word_at-gt1 c =
    other-omit _ _ _ c.word_at.ensures c.if-word_at-side.false _ c.word_at-phase.ensures c.if-phase-gt-ENDED.false _ c.word_at-2.ensures
    c.if-word_at-gt1.true

pub returns-then-phase-eq-BACK : goal.returns-then-phase-eq-BACK
returns-then-phase-eq-BACK c =
    is-back _ _ _ c.word_at.ensures c.if-word_at-side.false _ c.word_at-phase.ensures c.if-phase-gt-ENDED.false _ c.word_at-2.ensures c.if-word_at-gt1.false
    c.if-phase-eq-BACK.true

pub returns : goal.returns
returns c =
    is-other _ _ _ c.word_at.ensures c.if-word_at-side.false _ c.word_at-phase.ensures c.if-phase-gt-ENDED.false _ c.word_at-2.ensures c.if-word_at-gt1.false
    c.if-phase-eq-BACK.false _ c.word_at-3.ensures
