-- `extend::first_rows` meets its contract: each turn makes the next pick of `grow`, and the rows are the chain of the picks.
use native.Mathlib.Omega.{arith}
use borrow.Author.Rules.{rules}
use Rattle.extend.proofs.Picking.{picked_all, picked-end, picked_next}
use Rattle.extend.proofs.Answers.{Given, first_turn, last_turn}
use Rattle.extend.proofs.first_rows.Goals as goal

pub loop-turn-init : goal.loop-turn-init
loop-turn-init c =
    let given : Given c.args.t c.args.s = record { facts = c.requires.0; chain = c.requires.1; size = search rules; size_chain = search rules } in
    first_turn _ _ given _ _ c.lowest-unpicked.ensures c.lowest-left.ensures

pub returns-in_default : goal.returns-in_default
returns-in_default c =
    let given : Given c.args.t c.args.s = record { facts = c.requires.0; chain = c.requires.1; size = search rules; size_chain = search rules } in
    last_turn _ _ given _
    (picked-end _ _ _ _ _ _ _ _ _ c.loop-turn.invariant _ _ c.union_of-all_owed.ensures c.in_default.ensures
    c.loop-turn-test.true (omega arith))

pub loop-turn-preserved : goal.loop-turn-preserved
loop-turn-preserved c =
    picked_next _ _ _ _ _ _ _ _ _ c.loop-turn.invariant _ _ c.union_of-all_owed.ensures c.in-Some.ensures.1
    c.loop-turn-test.true c.in-Some.ensures.0 _ c.without-unpicked.ensures

pub returns : goal.returns
returns c =
    let given : Given c.args.t c.args.s = record { facts = c.requires.0; chain = c.requires.1; size = search rules; size_chain = search rules } in
    last_turn _ _ given _ (picked_all _ _ _ _ _ _ _ _ _ c.loop-turn.invariant (omega arith))
