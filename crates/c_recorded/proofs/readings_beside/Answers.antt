-- `c_recorded::readings_beside` meets its contract: the readings of the slice, or the stray one.
use Rattle.c_recorded.proofs.Reading.{beside_none}
use Rattle.c_recorded.proofs.readings_beside.Goals as goal

pub returns : goal.returns
returns c = beside_none c.args.word c.args.v.now _ c.is_kind.ensures c.if-is_kind.false
