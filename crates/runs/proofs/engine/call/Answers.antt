-- `runs::engine::call` meets its contract: what the checks let pass is one call that is not written (`call_went`).
use mathlib.Core.Path.{refl}
use Rattle.runs.proofs.Carrying.{call_went}
use Rattle.runs.proofs.engine.call.Goals as goal

pub returns : goal.returns
returns c =
    call_went _ _ _ _ _ _ _ _ c.in_ok-at.ensures _ refl _ _ _ _
    (record { comes = c.list_on-tally.ensures.one refl; holds = c.list_on-tally.ensures.holds })
