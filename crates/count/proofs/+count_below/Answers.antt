-- `count::count_below` meets its contract: each turn of its loop adds the count below one candidate (`Turn`).
use Rattle.std.proofs.Common.{◌≡◌, arith, rules, None}
use Rattle.count.proofs.Turns.{leaf, turn_first, turn_last, turn-full, turn-falls, turn-spent, turn-calls, turn-fewer, turn-next}
use Rattle.count.proofs.+count_below.Goals as goal

-- the first search, and a leaf
pub returns-then-g-ge-PLACES : goal.returns-then-g-ge-PLACES
returns-then-g-ge-PLACES t c = leaf _ _ _ _ _ c.next_candidate_of-g.ensures c.requires c.if-g-ge-PLACES.true

pub loop-g-init : goal.loop-g-init
loop-g-init t c = turn_first _ _ _ _ _ c.next_candidate_of-g.ensures c.requires c.if-g-ge-PLACES.false

-- a turn: the budget is used up, or one gauge fewer
pub returns-then-calls-budget : goal.returns-then-calls-budget
returns-then-calls-budget t c = turn-full c.loop-g.invariant c.loop-g-test.true c.if-calls-budget.true

pub count_below-requires : goal.count_below-requires
count_below-requires t c = (
  omega (arith, c.decreases, turn-falls c.loop-g.invariant c.loop-g-test.true c.without-fewer.ensures),
  omega (arith, c.loop-g.invariant.most, c.if-calls-budget.false),
)

-- what came back
pub returns-in_err-tally : goal.returns-in_err-tally
returns-in_err-tally t c =
    let e : c.from_residual.result ≡ None = search rules in
    rw e (turn-spent c.loop-g.invariant c.loop-g-test.true c.without-fewer.ensures c.count_below.ensures c.in_err-tally.was)

pub overflow_add-ladders : goal.overflow_add-ladders
overflow_add-ladders t c = omega (
  arith,
  c.ranges.budget,
  turn-calls c.loop-g.invariant c.loop-g-test.true c.without-fewer.ensures c.count_below.ensures c.in_ok-tally.was,
  turn-fewer c.loop-g.invariant c.loop-g-test.true c.without-fewer.ensures c.count_below.ensures c.in_ok-tally.was,
)

pub overflow_add-calls : goal.overflow_add-calls
overflow_add-calls t c = omega (
  arith,
  c.ranges.budget,
  turn-calls c.loop-g.invariant c.loop-g-test.true c.without-fewer.ensures c.count_below.ensures c.in_ok-tally.was,
)

-- the next candidate, or the end
pub loop-g-preserved : goal.loop-g-preserved
loop-g-preserved t c =
    turn-next c.loop-g.invariant c.loop-g-test.true c.without-fewer.ensures c.count_below.ensures c.in_ok-tally.was c.next_candidate_of-g-in-loop-g.ensures

pub returns : goal.returns
returns t c = turn_last c.loop-g.invariant c.loop-g-test.false
