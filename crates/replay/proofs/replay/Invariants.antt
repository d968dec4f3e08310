-- `replay::replay` meets its contract: the picks passed are as `Going` says, one that cannot have been made fails its
-- test, and at the end no unpicked gauge is against them.
use Rattle.replay.proofs.Going.{Low, Going}
use Rattle.replay.proofs.replay.Given as goal

abbrev pub invariant-loop-i : goal.invariant-loop-i
invariant-loop-i l = Low l.unpicked × Going l.n l.rows l.picks l.unpicked l.left l.before l.last l.i
