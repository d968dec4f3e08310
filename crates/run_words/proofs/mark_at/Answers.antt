-- `run_words::mark_at` meets its contract.
use Rattle.run_words.proofs.Reading.{mark_other, mark_is}
use Rattle.run_words.proofs.mark_at.Goals as goal

pub returns-then-not-is_value : goal.returns-then-not-is_value
returns-then-not-is_value c = mark_other _ _ _ c.is_value.ensures c.if-not-is_value.true

pub returns : goal.returns
returns c = mark_is _ _ _ c.is_value.ensures c.if-not-is_value.false _ _ c.word_at.ensures c.word_at-2.ensures
