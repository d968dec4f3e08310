-- `runs::Run::check_down` meets its contract: the checks, at its phase.
use Rattle.runs.specs.Paused.{value_of}
use Rattle.runs.specs.Sides.{side_of}
use Rattle.runs.proofs.PhaseChecks.{checks_down}
use Rattle.runs.proofs.paused.Run.check_down.Goals as goal

pub returns : goal.returns
returns g c =
    checks_down (side_of g.S.Side.CASES) (value_of g.S.Side.number c.args.self) _ c.is_down.result c.is_down.ensures c.check_phase.ensures
