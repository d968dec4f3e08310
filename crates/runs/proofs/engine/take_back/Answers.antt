-- `runs::engine::take_back` meets its contract: without picks the end, else the last pick is taken back (`back_on`).
use mathlib.Core.Path.{refl}
use native.Mathlib.Omega.{arith}
use Rattle.runs.proofs.Stepping.{back_end, LastFacts, last-facts, back-number, back_on}
use Rattle.runs.proofs.engine.take_back.Goals as goal

pub returns-then-count-eq0 : goal.returns-then-count-eq0
returns-then-count-eq0 c = back_end _ _ _ _ _ c.args.work.now.sized c.requires.0 c.requires.1 c.if-count-eq0.true

pub overflow_sub-g : goal.overflow_sub-g
overflow_sub-g c =
    let w = c.args.work.now in
    let k = c.args.walk.now in
    let facts : (LastFacts w.n w.rows.now k.chain k.picks c.args.at w.sized c.requires.0 c.requires.1 (omega arith)) =
    last-facts _ _ _ _ _ w.sized c.requires.0 c.requires.1 (omega arith) in
    omega (arith, facts, c.args.work.now.sized.few)

pub bounds-walk-g : goal.bounds-walk-g
bounds-walk-g c =
    let w = c.args.work.now in
    let k = c.args.walk.now in
    let facts : (LastFacts w.n w.rows.now k.chain k.picks c.args.at w.sized c.requires.0 c.requires.1 (omega arith)) =
    last-facts _ _ _ _ _ w.sized c.requires.0 c.requires.1 (omega arith) in
    omega (arith, facts, c.args.work.now.sized.few)

pub left_after-left-requires : goal.left_after-left-requires
left_after-left-requires c = back-number _ _ _ _ _ c.args.work.now.sized c.requires.0 c.requires.1 (omega arith) _ _ _ refl refl refl

pub returns : goal.returns
returns c = back_on _ _ _ _ _ c.args.work.now.sized c.requires.0 c.requires.1 (omega arith) _ _ _ refl refl refl _ _ c.with.ensures c.left_after-left.ensures
