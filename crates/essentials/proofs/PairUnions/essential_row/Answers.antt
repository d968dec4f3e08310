-- `essentials::PairUnions::essential_row` meets its contract: of the places passed, those kept are the essential pairs.
use Rattle.sets.specs.First.{Next}
use Rattle.essentials.proofs.Outdoing.{keeping_in, keeping_all}
use Rattle.essentials.proofs.PairUnions.essential_row.Goals as goal

pub loop-k-preserved : goal.loop-k-preserved
loop-k-preserved c =
    let next : Next c.loop-k.k-iterator.0 c.in-Some.k c.next.new.self.0 = c.in-Some.ensures.steps in
    keeping_in _ _ _ _ _ _ _ c.loop-k.invariant next.first.counted (next.first.some next.some) next.rest c.outdone.ensures c.if-outdone.false

pub returns : goal.returns
returns c = keeping_all _ _ _ _ c.loop-k.invariant c.in-None.ensures.steps.0
