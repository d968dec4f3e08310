-- `essentials::GaugeRows::store_row` meets its contract: the unions of the places passed are stored, and those of the rows before are kept.
use Rattle.essentials.proofs.Storing.{storing_all}
use Rattle.essentials.proofs.GaugeRows.store_row.Goals as goal

pub returns : goal.returns
returns c = storing_all _ _ _ _ _ c.loop-k.invariant c.in-None.ensures.steps.0
