-- `search::stands` meets its contract: no place of the set that was passed rules the gauge out.
use Rattle.sets.specs.First.{Next}
use Rattle.search.proofs.Within.{passed_all, of_empty, of_blocked, of_clear}
use Rattle.search.proofs.stands.Goals as goal

pub returns-then-own-eq0 : goal.returns-then-own-eq0
returns-then-own-eq0 c = of_empty _ _ _ _ c.requires.0 c.requires.1 c.if-own-eq0.true

pub returns-then-blocks : goal.returns-then-blocks
returns-then-blocks c =
    let next : Next c.loop-h.h-iterator.0 c.in-Some.h c.next.new.self.0 = c.in-Some.ensures.steps in
    let l = next.first.some next.some in
    of_blocked _ _ _ _ c.requires.0 c.requires.1 c.if-own-eq0.false _ _ l.below (c.loop-h.invariant.within _ l.here) c.blocks-in-loop-h.ensures
    c.if-blocks.true

pub returns : goal.returns
returns c = of_clear _ _ _ _ c.requires.0 c.requires.1 c.if-own-eq0.false (passed_all _ _ _ c.loop-h.invariant c.in-None.ensures.steps.0)
