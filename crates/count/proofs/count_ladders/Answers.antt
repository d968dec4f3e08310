-- `count::count_ladders` meets its contract: a refused table or order by its number, 18, no budget, or what the
-- recursive step gave on the rows as the order has them.
use Rattle.std.proofs.Common.{sym, rules}
use Rattle.count.proofs.Answers.{Given, counts_large, counts-none, counts_whole, counts-spent}
use Rattle.count.proofs.count_ladders.Goals as goal

pub returns-then-budget-gt-MOST_CALLS : goal.returns-then-budget-gt-MOST_CALLS
returns-then-budget-gt-MOST_CALLS c =
    let given : Given c.args.t c.args.order.numbers = record { size = search rules; long = search rules; passes = sym c.in_ok-check.ensures } in
    counts_large _ _ _ given c.if-budget-gt-MOST_CALLS.true

pub returns-then-budget-eq0 : goal.returns-then-budget-eq0
returns-then-budget-eq0 c =
    let given : Given c.args.t c.args.order.numbers = record { size = search rules; long = search rules; passes = sym c.in_ok-check.ensures } in
    counts-none _ _ _ given c.if-budget-gt-MOST_CALLS.false c.if-budget-eq0.true

pub returns-in-Some : goal.returns-in-Some
returns-in-Some c =
    let given : Given c.args.t c.args.order.numbers = record { size = search rules; long = search rules; passes = sym c.in_ok-check.ensures } in
    counts_whole _ _ _ given c.if-budget-gt-MOST_CALLS.false _ _ _ c.lowest.ensures c.gather-rows.ensures
    c.count_below.ensures c.in-Some.tally c.in-Some.is

pub returns-in-None : goal.returns-in-None
returns-in-None c =
    let given : Given c.args.t c.args.order.numbers = record { size = search rules; long = search rules; passes = sym c.in_ok-check.ensures } in
    counts-spent _ _ _ given c.if-budget-gt-MOST_CALLS.false _ _ _ c.lowest.ensures c.gather-rows.ensures
    c.count_below.ensures c.in-None.is
