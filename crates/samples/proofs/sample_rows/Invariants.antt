-- `samples::sample_rows` meets its contract: the rows so far and those still to be made are all rows, padded with
-- zeros (`MakingRows`).
use Rattle.samples.proofs.Rows.{MakingRows}
use Rattle.samples.proofs.sample_rows.Given as goal

abbrev pub invariant-loop-i : goal.invariant-loop-i
invariant-loop-i l = MakingRows l.density l.cases l.gauges l.start l.rows l.state l.i
