-- `runs::engine::step` meets its contract: each phase makes the move that its rule says.
use mathlib.Core.Path.{refl}
use native.Mathlib.Omega.{arith}
use Rattle.runs.proofs.Stepping.{down-room, down-on, down_out, back-room, back-pick, back_none, stepped_as}
use Rattle.runs.proofs.engine.step.Goals as goal

pub pick-requires : goal.pick-requires
pick-requires c = down-room _ _ _ _ _ c.args.work.now.sized c.requires _ _ c.next_candidate_of-g.ensures c.in-Down.is c.if-g-lt-PLACES.true

pub returns-then-g-lt-PLACES : goal.returns-then-g-lt-PLACES
returns-then-g-lt-PLACES c =
    down-on _ _ _ _ _ c.args.work.now.sized c.requires _ _ c.next_candidate_of-g.ensures c.in-Down.is refl
    c.if-g-lt-PLACES.true _ _ _ c.pick.ensures.unpicked_after
    c.pick.ensures.chain_after c.pick.ensures.picks_after c.pick.ensures.value

pub pick-requires-then-g-lt-PLACES-2 : goal.pick-requires-then-g-lt-PLACES-2
pick-requires-then-g-lt-PLACES-2 c =
    back-room _ _ _ _ _ c.args.work.now.sized c.requires _ _ c.next_candidate_of-g-in-Back.ensures c.in-Back.is
    c.if-g-lt-PLACES-2.true

pub returns-then-g-lt-PLACES-2 : goal.returns-then-g-lt-PLACES-2
returns-then-g-lt-PLACES-2 c =
    back-pick _ _ _ _ _ c.args.work.now.sized c.requires _ _ c.next_candidate_of-g-in-Back.ensures c.in-Back.is
    c.if-g-lt-PLACES-2.true _ _ _ c.pick-then-g-lt-PLACES-2.ensures.unpicked_after
    c.pick-then-g-lt-PLACES-2.ensures.chain_after c.pick-then-g-lt-PLACES-2.ensures.picks_after c.pick-then-g-lt-PLACES-2.ensures.value

pub returns-else-g-lt-PLACES : goal.returns-else-g-lt-PLACES
returns-else-g-lt-PLACES c = down_out _ _ _ _ _ c.args.work.now.sized c.requires _ _ c.next_candidate_of-g.ensures c.in-Down.is refl (λ l. omega arith)

pub returns-else-g-lt-PLACES-2 : goal.returns-else-g-lt-PLACES-2
returns-else-g-lt-PLACES-2 c =
    let m = c.in-Back.is in
    stepped_as _ _ _ _ _ _ _ (back_none _ _ _ _ _ c.args.work.now.sized c.requires _ _ c.next_candidate_of-g-in-Back.ensures m (λ l. omega arith))
    c.take_back-in-Back.ensures
