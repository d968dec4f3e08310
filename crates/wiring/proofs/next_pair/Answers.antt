-- `wiring::next_pair` meets its contract: the first row that can take a case is one of the first n (`row_in`).
use Prim.Native.Nat.{◌<◌, ◌≤◌}
use native.Mathlib.Omega.{arith}
use Rattle.pair_orders.specs.private.Growing.{FirstRow, beyond}
use Rattle.search.specs.Finding.{FirstOf}
use Rattle.table.specs.Pairs.{row}
use Rattle.wiring.proofs.Rows.{widest_room}
use Rattle.wiring.proofs.Placing.{row_in, row_some, case_some, next_place}
use Rattle.wiring.proofs.next_pair.Goals as goal

pub unwrap-i-requires : goal.unwrap-i-requires
unwrap-i-requires c = row_some _ _ _ c.requires.between c.requires.missing _ c.next_row.ensures

pub bounds-outer-i : goal.bounds-outer-i
bounds-outer-i c =
    let first : FirstRow c.args.outer.now c.args.rows.now c.args.n c.unwrap-i.result = rw c.unwrap-i.ensures at c.next_row.ensures in
    omega (arith, row_in _ _ _ c.requires.between _ first c.requires.missing, c.requires.between.few)

pub bounds-rows-i : goal.bounds-rows-i
bounds-rows-i c =
    let first : FirstRow c.args.outer.now c.args.rows.now c.args.n c.unwrap-i.result = rw c.unwrap-i.ensures at c.next_row.ensures in
    omega (arith, row_in _ _ _ c.requires.between _ first c.requires.missing, c.requires.between.few)

pub unwrap-k-requires : goal.unwrap-k-requires
unwrap-k-requires c =
    let first : FirstRow c.args.outer.now c.args.rows.now c.args.n c.unwrap-i.result = rw c.unwrap-i.ensures at c.next_row.ensures in
    let low : c.unwrap-i.result < c.args.n = row_in _ _ _ c.requires.between _ first c.requires.missing in
    let few : c.args.n ≤ 64 = c.requires.between.few in
    case_some _ _ _ c.requires.between _ first c.requires.missing _ (widest_room _ _ _ _ _ low few c.widest-free.ensures) _ c.lowest_beyond.ensures

pub returns : goal.returns
returns c =
    let first : FirstRow c.args.outer.now c.args.rows.now c.args.n c.unwrap-i.result = rw c.unwrap-i.ensures at c.next_row.ensures in
    let low : c.unwrap-i.result < c.args.n = row_in _ _ _ c.requires.between _ first c.requires.missing in
    let few : c.args.n ≤ 64 = c.requires.between.few in
    let lowest : FirstOf (beyond c.widest-free.result (row c.args.rows.now c.unwrap-i.result)) 0 64 c.unwrap-k.result = rw c.unwrap-k.ensures at c.lowest_beyond.ensures in
    next_place _ _ _ c.requires.between _ first c.requires.missing _ (widest_room _ _ _ _ _ low few c.widest-free.ensures) _ lowest
