-- `wiring::put_order` meets its contract: at each turn what is stored and what is still to be stored are the order (`Putting`).
use mathlib.Core.Path.{◌≡◌}
use Prim.Native.Nat.{◌≤◌, ◌+◌, ◌*◌}
use native.Mathlib.Omega.{arith}
use lib.ListN.{length}
use Rattle.wiring.specs.private.Steps.{NextPlace}
use Rattle.wiring.proofs.Storing.{putting-waits, putting-room, putting-more, putting_done}
use Rattle.wiring.proofs.put_order.Goals as goal

pub next_pair-next-requires : goal.next_pair-next-requires
next_pair-next-requires c = putting-waits _ _ _ _ _ _ _ _ c.loop-turn.invariant (omega arith)

pub put_pair-requires : goal.put_pair-requires
put_pair-requires c =
    let found : NextPlace c.args.outer.now c.loop-turn.rows c.args.n c.next_pair-next.result.row c.next_pair-next.result.bit = c.next_pair-next.ensures in
    let few : c.args.n ≤ 64 = c.loop-turn.invariant.between.few in
    let room : 2 * c.loop-turn.turn + 2 ≤ length c.loop-turn.out = putting-room _ _ _ _ _ _ _ _ c.loop-turn.invariant (omega arith) in
    (room, omega (arith, found.row, few), omega (arith, found.case))

pub loop-turn-preserved : goal.loop-turn-preserved
loop-turn-preserved c =
    let found : NextPlace c.args.outer.now c.loop-turn.rows c.args.n c.next_pair-next.result.row c.next_pair-next.result.bit = c.next_pair-next.ensures in
    let e : 2 * (c.loop-turn.turn + 1) ≡ 2 * c.loop-turn.turn + 2 = omega arith in
    rw e (putting-more _ _ _ _ _ _ _ _ c.loop-turn.invariant (omega arith) _ _ _ _ found c.with.ensures c.put_pair.ensures)

pub returns : goal.returns
returns c = putting_done _ _ _ _ _ _ _ _ c.loop-turn.invariant (omega arith)
