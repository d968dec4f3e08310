-- `samples::sample_row` meets its contract: the row so far and the row still to be made are the whole row (`Making`).
use Rattle.samples.proofs.Turns.{Making}
use Rattle.samples.proofs.sample_row.Given as goal

abbrev pub invariant-loop-c : goal.invariant-loop-c
invariant-loop-c l = Making l.density l.cases l.start l.row l.state l.c
