-- `samples::sample_rows` meets its contract: the rows so far and those still to be made are all rows, padded with
-- zeros (`MakingRows`).
use Rattle.samples.proofs.Rows.{rows_more, rows_done}
use Rattle.samples.proofs.sample_rows.Goals as goal

pub loop-i-preserved : goal.loop-i-preserved
loop-i-preserved c = rows_more c.loop-i.invariant c.loop-i-test.true c.requires.0 c.sample_row-one.ensures

pub returns : goal.returns
returns c = rows_done c.loop-i.invariant c.loop-i-test.false
