-- `essentials::GaugeRows::union_against` meets its contract: after `i` rows it is the union of these.
use Rattle.essentials.proofs.RowLaws.{against_none, against_more}
use Rattle.essentials.proofs.GaugeRows.union_against.Goals as goal

pub loop-i-init : goal.loop-i-init
loop-i-init c = against_none _ _ _

pub loop-i-preserved : goal.loop-i-preserved
loop-i-preserved c = against_more _ _ _ _ _ _ c.loop-i.invariant c.join_row-seen.ensures
