-- `essentials::PairUnions::outdone_in` meets its contract: of the places that the loop passed none has conflicts that strictly contain those of the pair.
use Rattle.sets.specs.First.{Next}
use Rattle.essentials.proofs.Outdoing.{not_within, place_found, place-passed, none_found}
use Rattle.essentials.proofs.PairUnions.outdone_in.Goals as goal

pub returns-then-not-subset : goal.returns-then-not-subset
returns-then-not-subset c = not_within _ _ _ c.args.self.ready _ _ c.requires.0 _ c.requires.1 _ c.subset.ensures c.if-not-subset.true

pub returns-then-not-included : goal.returns-then-not-included
returns-then-not-included c =
    let next : Next c.loop-d.d-iterator.0 c.in-Some.d c.next.new.self.0 = c.in-Some.ensures.steps in
    place_found _ _ _ c.args.self.ready _ _ c.requires.0 _ c.requires.1 _ c.subset.ensures c.if-not-subset.false _
    c.minus-places.ensures _ _ _ c.loop-d.invariant (next.first.some next.some) c.included.ensures
    c.if-not-included.true

pub loop-d-preserved : goal.loop-d-preserved
loop-d-preserved c =
    let next : Next c.loop-d.d-iterator.0 c.in-Some.d c.next.new.self.0 = c.in-Some.ensures.steps in
    place-passed _ _ _ c.args.self.ready _ _ c.requires.0 _ c.requires.1 _ c.subset.ensures c.if-not-subset.false _
    c.minus-places.ensures _ _ _ _ c.loop-d.invariant next.first.counted (next.first.some next.some) next.rest c.included.ensures
    c.if-not-included.false

pub returns : goal.returns
returns c =
    none_found _ _ _ c.args.self.ready _ _ c.requires.0 _ c.requires.1 _ c.subset.ensures c.if-not-subset.false _
    c.minus-places.ensures _ c.loop-d.invariant c.in-None.ensures.steps.0
