-- `runs::Run::check_handed` meets its contract: the checks, at its phase.
use Rattle.runs.specs.Paused.{value_of}
use Rattle.runs.specs.Sides.{side_of}
use Rattle.runs.proofs.PhaseChecks.{checks_handed}
use Rattle.runs.proofs.paused.Run.check_handed.Goals as goal

pub returns : goal.returns
returns g c =
    checks_handed (side_of g.S.Side.CASES) (value_of g.S.Side.number c.args.self) _ c.is_handed.result c.is_handed.ensures c.check_phase.ensures
