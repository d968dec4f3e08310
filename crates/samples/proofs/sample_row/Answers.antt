-- `samples::sample_row` meets its contract: the row so far and the row still to be made are the whole row (`Making`).
use Rattle.std.proofs.Common.{refl}
use Rattle.samples.proofs.Turns.{making_pair, making_skip, making_done}
use Rattle.samples.proofs.sample_row.Goals as goal
use Rattle.samples.proofs.sample_row.Goals.{then-next-density, else-next-density}

pub loop-c-preserved : goal.loop-c-preserved
loop-c-preserved c = elim c.if-next-density.branch [
  | then-next-density w ↦ rw w.row-is (making_pair c.loop-c.invariant c.loop-c-test.true c.requires c.step-next.ensures.value w.if-next-density.true)
  | else-next-density w ↦ rw w.row-is (making_skip c.loop-c.invariant c.loop-c-test.true c.step-next.ensures.value w.if-next-density.false)
]

pub returns : goal.returns
returns c = making_done c.loop-c.invariant c.loop-c-test.false refl
