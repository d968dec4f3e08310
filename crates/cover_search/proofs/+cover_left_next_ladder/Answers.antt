-- The cycle of `cover_search::cover_left`, one for each uncovered set, and `cover_search::next_ladder`, one for each next ladder: a law of Steps.antt for each
-- return.
use Rattle.std.proofs.Common.{ap, arith, not}
use Rattle.sets.specs.Sets.{meet}
use Rattle.boards.specs.private.Clearing.{minus}
use Rattle.cover_search.proofs.Steps.{left_empty, none_allowed, first-pair, ladders_over, ladder-skipped, none_left}
use Rattle.cover_search.proofs.Steps.{ladder-spent, ladder-covers, ladder-nothing}
use Rattle.cover_search.proofs.+cover_left_next_ladder.Goals as goal

pub cover_left-returns-then-left-eq0 : goal.cover_left-returns-then-left-eq0
cover_left-returns-then-left-eq0 t c = left_empty _ _ _ _ _ _ c.if-left-eq0.true

pub cover_left-returns-then-k-eq0 : goal.cover_left-returns-then-k-eq0
cover_left-returns-then-k-eq0 t c = none_allowed _ _ _ _ _ _ _ c.first-first.ensures c.if-left-eq0.false c.if-k-eq0.true

pub cover_left-returns : goal.cover_left-returns
cover_left-returns t c =
    first-pair _ _ _ _ _ _ _ c.first-first.ensures c.if-left-eq0.false c.if-k-eq0.false _ _ c.next_ladder.ensures

-- no ladder is left
pub next_ladder-returns-then-ladders-i : goal.next_ladder-returns-then-ladders-i
next_ladder-returns-then-ladders-i t c = ladders_over _ _ _ _ _ _ _ _ c.if-ladders-i.true

-- a ladder without the first uncovered pair
pub next_ladder-returns-then-not-has : goal.next_ladder-returns-then-not-has
next_ladder-returns-then-not-has t c =
    ladder-skipped _ _ _ _ _ _ _ _ c.if-ladders-i.false _ c.has.ensures (ap not c.if-not-has.true) _ _ c.next_ladder.ensures

-- nothing is left of the budget
pub next_ladder-returns-then-budget-eq0 : goal.next_ladder-returns-then-budget-eq0
next_ladder-returns-then-budget-eq0 t c =
    none_left c.args.ladders.now c.args.i c.args.step.first c.args.step.left c.args.step.k c.args.step.at c.args.budget c.args.cover.now c.if-ladders-i.false _ c.has.ensures
    (ap not c.if-not-has.false) (omega (arith, c.type_inv.ladders c.args.i)) c.if-budget-eq0.true

-- what the search under the ladder found
pub next_ladder-returns-in-Cover : goal.next_ladder-returns-in-Cover
unfolding minus meet
next_ladder-returns-in-Cover t c =
    ladder-covers c.args.ladders.now c.args.i c.args.step.first c.args.step.left c.args.step.k c.args.step.at c.args.budget c.args.cover.now c.if-ladders-i.false _ c.has.ensures
    (ap not c.if-not-has.false) (omega (arith, c.type_inv.ladders c.args.i)) c.if-budget-eq0.false _ _ c.cover_left-below.ensures _ _ c.in-Cover.is

pub next_ladder-returns-in-Nothing : goal.next_ladder-returns-in-Nothing
unfolding minus meet
next_ladder-returns-in-Nothing t c =
    ladder-nothing c.args.ladders.now c.args.i c.args.step.first c.args.step.left c.args.step.k c.args.step.at c.args.budget c.args.cover.now c.if-ladders-i.false _ c.has.ensures
    (ap not c.if-not-has.false) (omega (arith, c.type_inv.ladders c.args.i)) c.if-budget-eq0.false _ _ c.cover_left-below.ensures _ c.in-Nothing.is _ _
    c.next_ladder-in-Nothing.ensures

pub next_ladder-returns-in-Spent : goal.next_ladder-returns-in-Spent
unfolding minus meet
next_ladder-returns-in-Spent t c =
    ladder-spent c.args.ladders.now c.args.i c.args.step.first c.args.step.left c.args.step.k c.args.step.at c.args.budget c.args.cover.now c.if-ladders-i.false _ c.has.ensures
    (ap not c.if-not-has.false) (omega (arith, c.type_inv.ladders c.args.i)) c.if-budget-eq0.false _ _ c.cover_left-below.ensures c.in-Spent.is
