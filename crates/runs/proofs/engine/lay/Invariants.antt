-- `runs::engine::lay` meets its contract: the chain of the picks passed is laid (`Laid`).
use Rattle.runs.specs.private.Working.{Laying}
use Rattle.runs.proofs.Laying.{Laid}
use Rattle.runs.proofs.engine.lay.Given as goal

abbrev pub invariant-loop-i : goal.invariant-loop-i
invariant-loop-i l = (h : Laying l.work.n l.work.rows.now l.picks l.count) → Laid l.work.n l.work.rows.now l.picks l.count l.work.sized h l.chain l.left l.i
