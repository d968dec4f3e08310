-- `essentials::PairUnions::outdone` meets its contract: no row passed has such a pair.
use Rattle.essentials.proofs.Outdoing.{row_passed, no_row}
use Rattle.essentials.proofs.PairUnions.outdone.Goals as goal

pub loop-h-preserved : goal.loop-h-preserved
loop-h-preserved c = row_passed _ _ _ c.args.self.ready _ _ c.requires _ _ c.loop-h.invariant c.outdone_in.ensures c.if-outdone_in.false

pub returns : goal.returns
returns c = no_row _ _ _ c.args.self.ready _ _ c.requires _ c.loop-h.invariant c.loop-h-test.false
