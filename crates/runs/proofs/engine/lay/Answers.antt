-- `runs::engine::lay` meets its contract: the chain of the picks passed is laid (`Laid`).
use Prim.Native.Nat.{◌≤◌, ◌<◌, ◌-◌}
use native.Mathlib.Omega.{arith}
use Rattle.runs.proofs.Laying.{Laid, laid_none, laid-number, laid_more, laid_all}
use Rattle.runs.proofs.engine.lay.Goals as goal

pub loop-i-init : goal.loop-i-init
loop-i-init c h = laid_none _ _ _ _ _ h

pub overflow_sub-g : goal.overflow_sub-g
overflow_sub-g c =
    let w = c.args.work.now in
    let laid : Laid w.n w.rows.now c.args.picks.now c.args.count w.sized c.requires c.loop-i.chain c.loop-i.left c.loop-i.i = c.loop-i.invariant c.requires in
    let number : (1 ≤ c.from-g.result) × (c.from-g.result - 1 < 64) = laid-number _ _ _ _ _ _ _ _ _ c.loop-i-test.true laid _ c.from-g.ensures in
    omega (arith, number)

pub bounds-work-g : goal.bounds-work-g
bounds-work-g c =
    let w = c.args.work.now in
    let laid : Laid w.n w.rows.now c.args.picks.now c.args.count w.sized c.requires c.loop-i.chain c.loop-i.left c.loop-i.i = c.loop-i.invariant c.requires in
    let number : (1 ≤ c.from-g.result) × (c.from-g.result - 1 < 64) = laid-number _ _ _ _ _ _ _ _ _ c.loop-i-test.true laid _ c.from-g.ensures in
    omega (arith, number)

pub bounds-chain-g : goal.bounds-chain-g
bounds-chain-g c =
    let w = c.args.work.now in
    let laid : Laid w.n w.rows.now c.args.picks.now c.args.count w.sized c.requires c.loop-i.chain c.loop-i.left c.loop-i.i = c.loop-i.invariant c.requires in
    let number : (1 ≤ c.from-g.result) × (c.from-g.result - 1 < 64) = laid-number _ _ _ _ _ _ _ _ _ c.loop-i-test.true laid _ c.from-g.ensures in
    omega (arith, number)

pub loop-i-preserved : goal.loop-i-preserved
loop-i-preserved c h = laid_more _ _ _ _ _ h _ _ _ c.loop-i-test.true (c.loop-i.invariant h) _ c.from-g.ensures

pub returns : goal.returns
returns c =
    let w = c.args.work.now in
    let laid : Laid w.n w.rows.now c.args.picks.now c.args.count w.sized c.requires c.loop-i.chain c.loop-i.left c.loop-i.i = c.loop-i.invariant c.requires in
    laid_all _ _ _ _ _ _ _ _ _ c.loop-i-test.false laid
