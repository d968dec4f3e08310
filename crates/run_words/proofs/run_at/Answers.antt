-- `run_words::run_at` meets its contract: part by part.
use mathlib.Core.Path.{◌∙◌}
use Rattle.run_words.proofs.Reading.{value_is}
use Rattle.run_words.proofs.run_at.Goals as goal

pub returns : goal.returns
returns g c =
    value_is g.S.Side.CASES _ _ _ _ _ _ _ _ _ c.table_at-table.ensures (c.new-order.ensures ∙ c.numbers_at.ensures) (c.new-picks.ensures ∙ c.numbers_at-2.ensures)
    c.word_at.ensures c.side_number.ensures c.mark_at-mark.ensures c.phase_of.ensures c.word_at-2.ensures
