-- `wiring::write_order` meets its contract: the pairs are counted before a byte is stored, and each return has its law.
use Prim.Native.Nat.{◌+◌, ◌-◌}
use mathlib.Core.Path.{◌≡◌, refl}
use native.Mathlib.Omega.{arith}
use lib.ListN.{length}
use borrow.Author.Rules.{rules}
use Rattle.std.specs.Prelude.{Err}
use Rattle.pair_orders.specs.private.Growing.{pairs_in}
use Rattle.pair_orders.proofs.Orders.{order_claims}
use Rattle.wiring.proofs.Answers.{Plan, plan, plan-ready, wires_refused, wires-short, wires-written}
use Rattle.wiring.proofs.write_order.Goals as goal

pub returns-in_err-check : goal.returns-in_err-check
returns-in_err-check c =
    let up : c.from_residual.result ≡ Err c.in_err-check.field-0.0 = search rules in
    record {
      wires = rw up (wires_refused _ _ _ _ _ c.in_err-check.ensures c.in_err-check.field-0.0 refl);
      claims = order_claims;
    }

pub pairs_in-requires : goal.pairs_in-requires
pairs_in-requires c =
    let table-size : length c.args.t.rows ≡ 64 = search rules in
    let chain-size : length c.args.s.rows ≡ 64 = search rules in
    let ladder-size : length c.args.ladder.rows ≡ 64 = search rules in
    let planned : Plan c.args.t c.args.s c.args.ladder = plan _ _ _ table-size chain-size ladder-size _ c.in_ok-check.ensures refl in
    planned.between.few

pub pairs_in-requires-2 : goal.pairs_in-requires-2
pairs_in-requires-2 c =
    let table-size : length c.args.t.rows ≡ 64 = search rules in
    let chain-size : length c.args.s.rows ≡ 64 = search rules in
    let ladder-size : length c.args.ladder.rows ≡ 64 = search rules in
    let planned : Plan c.args.t c.args.s c.args.ladder = plan _ _ _ table-size chain-size ladder-size _ c.in_ok-check.ensures refl in
    planned.between.few

pub overflow_sub-count : goal.overflow_sub-count
overflow_sub-count c =
    let table-size : length c.args.t.rows ≡ 64 = search rules in
    let chain-size : length c.args.s.rows ≡ 64 = search rules in
    let ladder-size : length c.args.ladder.rows ≡ 64 = search rules in
    let planned : Plan c.args.t c.args.s c.args.ladder = plan _ _ _ table-size chain-size ladder-size _ c.in_ok-check.ensures refl in
    omega (arith, planned.count, c.pairs_in.ensures.0, c.pairs_in-2.ensures.0)

pub returns-then-out-size : goal.returns-then-out-size
returns-then-out-size c =
    let table-size : length c.args.t.rows ≡ 64 = search rules in
    let chain-size : length c.args.s.rows ≡ 64 = search rules in
    let ladder-size : length c.args.ladder.rows ≡ 64 = search rules in
    let planned : Plan c.args.t c.args.s c.args.ladder = plan _ _ _ table-size chain-size ladder-size _ c.in_ok-check.ensures refl in
    let counted : pairs_in c.args.ladder.rows c.args.t.gauges ≡ pairs_in c.args.s.rows c.args.t.gauges + (c.pairs_in.result - c.pairs_in-2.result) = omega (arith, planned.count, c.pairs_in.ensures.0, c.pairs_in-2.ensures.0) in
    record {
      wires = wires-short _ _ _ _ _ c.in_ok-check.ensures refl planned _ counted c.if-out-size.true;
      claims = order_claims;
    }

pub put_order-requires : goal.put_order-requires
put_order-requires c =
    let table-size : length c.args.t.rows ≡ 64 = search rules in
    let chain-size : length c.args.s.rows ≡ 64 = search rules in
    let ladder-size : length c.args.ladder.rows ≡ 64 = search rules in
    let planned : Plan c.args.t c.args.s c.args.ladder = plan _ _ _ table-size chain-size ladder-size _ c.in_ok-check.ensures refl in
    let counted : pairs_in c.args.ladder.rows c.args.t.gauges ≡ pairs_in c.args.s.rows c.args.t.gauges + (c.pairs_in.result - c.pairs_in-2.result) = omega (arith, planned.count, c.pairs_in.ensures.0, c.pairs_in-2.ensures.0) in
    plan-ready _ _ _ _ _ c.in_ok-check.ensures refl planned _ counted c.if-out-size.false

pub returns : goal.returns
returns c =
    let table-size : length c.args.t.rows ≡ 64 = search rules in
    let chain-size : length c.args.s.rows ≡ 64 = search rules in
    let ladder-size : length c.args.ladder.rows ≡ 64 = search rules in
    let planned : Plan c.args.t c.args.s c.args.ladder = plan _ _ _ table-size chain-size ladder-size _ c.in_ok-check.ensures refl in
    let counted : pairs_in c.args.ladder.rows c.args.t.gauges ≡ pairs_in c.args.s.rows c.args.t.gauges + (c.pairs_in.result - c.pairs_in-2.result) = omega (arith, planned.count, c.pairs_in.ensures.0, c.pairs_in-2.ensures.0) in
    record {
      wires = wires-written _ _ _ _ _ c.in_ok-check.ensures refl planned _ counted c.if-out-size.false _
          c.put_order.ensures;
      claims = order_claims;
    }
