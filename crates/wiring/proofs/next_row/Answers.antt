-- `wiring::next_row` meets its contract: the rows passed can take none.
use Rattle.table.specs.Pairs.{row}
use Rattle.pair_orders.specs.private.Growing.{Room}
use Rattle.wiring.proofs.Rows.{widest_room, passed_more, row_full, row_grows, row_found}
use Rattle.wiring.proofs.next_row.Goals as goal

pub returns-then-not-subset : goal.returns-then-not-subset
returns-then-not-subset c =
    let room : Room c.args.rows.now (row c.args.outer.now c.loop-i.i) c.loop-i.i c.args.n c.widest-wide.result = widest_room _ _ _ _ _ c.loop-i-test.true c.requires c.widest-wide.ensures in
    row_found _ _ _ _ c.loop-i-test.true c.loop-i.invariant
    (row_grows _ _ _ _ _ room _ c.subset.ensures c.if-not-subset.true)

pub loop-i-preserved : goal.loop-i-preserved
loop-i-preserved c =
    let room : Room c.args.rows.now (row c.args.outer.now c.loop-i.i) c.loop-i.i c.args.n c.widest-wide.result = widest_room _ _ _ _ _ c.loop-i-test.true c.requires c.widest-wide.ensures in
    passed_more _ _ _ _ c.loop-i.invariant (row_full _ _ _ _ _ room _ c.subset.ensures c.if-not-subset.false)
