-- `file_entries::number_of` meets its contract: the digits so far and those still to come are the field's number (`Digiting`).
use Rattle.file_entries.proofs.Signs.{digits_more}
use Rattle.file_entries.proofs.number_of.Goals as goal

pub loop-i-preserved : goal.loop-i-preserved
loop-i-preserved c = digits_more _ _ _ _ c.loop-i.invariant c.loop-i-test.true c.digit_of-d.ensures c.if-d-gt9.false
