-- `search::next_candidate_of` meets its contract: no place passed is a candidate.
use Rattle.sets.specs.First.{Next}
use Rattle.search.proofs.Within.{search_found, search_none}
use Rattle.search.proofs.next_candidate_of.Goals as goal

pub returns-then-stands : goal.returns-then-stands
returns-then-stands c =
    let next : Next c.loop-g.g-iterator.0 c.in-Some.g c.next.new.self.0 = c.in-Some.ensures.steps in
    search_found _ _ _ _ _ c.upper-places.ensures _ _ _ c.loop-g.invariant (next.first.some next.some) c.stands.ensures c.if-stands.true

pub returns : goal.returns
returns c = search_none _ _ _ _ _ c.upper-places.ensures _ c.loop-g.invariant c.in-None.ensures.steps.0
