-- `judge::narrowed` meets its contract: each answer computes from the tests that led to it.
use Rattle.judge.proofs.RowLoops.{narrow_out, narrow_same, narrow_in}
use Rattle.judge.proofs.narrowed.Goals as goal

pub returns-then-not-subset : goal.returns-then-not-subset
returns-then-not-subset c = narrow_out _ _ _ _ c.subset.ensures c.if-not-subset.true

pub returns-then-own-other : goal.returns-then-own-other
returns-then-own-other c = narrow_same _ _ _ _ c.subset.ensures c.if-not-subset.false c.if-own-other.true

pub returns : goal.returns
returns c = narrow_in _ _ _ _ c.subset.ensures c.if-not-subset.false c.if-own-other.false
