-- `ladders::number` meets its contract: the digits taken so far and those still to come are the word's number (`Taken`).
use Rattle.ladders.proofs.Words.{taken_more, number_bad, number_above, number_taken}
use Rattle.ladders.proofs.number.Goals as goal

pub returns-then-d-gt9 : goal.returns-then-d-gt9
returns-then-d-gt9 c = number_bad _ _ _ _ c.loop-byte.invariant c.loop-byte-test.true c.digit_of-d.ensures c.if-d-gt9.true

pub loop-byte-preserved : goal.loop-byte-preserved
loop-byte-preserved c = taken_more _ _ _ _ c.loop-byte.invariant c.loop-byte-test.true c.digit_of-d.ensures c.if-d-gt9.false _ c.more-n.ensures

pub returns-then-n-gt-MOST_CUTOFF : goal.returns-then-n-gt-MOST_CUTOFF
returns-then-n-gt-MOST_CUTOFF c = number_above _ _ _ c.loop-byte.invariant c.loop-byte-test.false c.if-n-gt-MOST_CUTOFF.true

pub returns : goal.returns
returns c = number_taken _ _ _ c.loop-byte.invariant c.loop-byte-test.false c.if-n-gt-MOST_CUTOFF.false
