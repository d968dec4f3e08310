-- `replay::none_against` meets its contract: no place passed is against the picks.
use Rattle.search.proofs.Within.{Passed}
use Rattle.replay.proofs.Judging.{Quiet}
use Rattle.replay.proofs.none_against.Given as goal

abbrev pub invariant-loop-h : goal.invariant-loop-h
invariant-loop-h l = Passed (Quiet l.rows l.unpicked l.left l.before l.last) l.unpicked (l.h-iterator).0
