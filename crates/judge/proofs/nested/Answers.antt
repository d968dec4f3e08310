-- `judge::nested` meets its contract: each answer computes from the inclusions that led to it.
use Rattle.judge.specs.private.RowTests.{nested}
use Rattle.judge.proofs.nested.Goals as goal

pub returns-then-subset : goal.returns-then-subset
unfolding nested
returns-then-subset c = rw (← c.subset.ensures, c.if-subset.true)

pub returns-else-subset : goal.returns-else-subset
unfolding nested
returns-else-subset c = rw (← c.subset.ensures, c.if-subset.false) c.subset-else-subset.ensures
