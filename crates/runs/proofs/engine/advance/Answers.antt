-- `runs::engine::advance` meets its contract: the moves made are the first of the budget (`Ahead`).
use Rattle.runs.proofs.Advancing.{turn_on, turn-out, turn-past, turn-over}
use Rattle.runs.proofs.engine.advance.Goals as goal

pub loop-moves-preserved-in-On : goal.loop-moves-preserved-in-On
loop-moves-preserved-in-On c = turn_on _ _ _ _ _ _ _ _ _ _ c.loop-moves.invariant.1 c.loop-moves-test.true _ _ c.in-On.is c.step-made.ensures

pub returns-then-hands_over : goal.returns-then-hands_over
returns-then-hands_over c =
    turn-out _ _ _ _ _ _ _ _ _ _ c.loop-moves.invariant.1 c.loop-moves-test.true c.args.work.now.sized _ _ c.in-Out.is
    c.step-made.ensures _ c.hands_over.ensures c.if-hands_over.true

pub loop-moves-preserved : goal.loop-moves-preserved
loop-moves-preserved c =
    turn-past _ _ _ _ _ _ _ _ _ _ c.loop-moves.invariant.1 c.loop-moves-test.true c.args.work.now.sized _ _ c.in-Out.is
    c.step-made.ensures _ c.hands_over.ensures c.if-hands_over.false

pub returns-in-Over : goal.returns-in-Over
returns-in-Over c = turn-over _ _ _ _ _ _ _ _ _ _ c.loop-moves.invariant.1 c.loop-moves-test.true _ _ c.in-Over.is c.step-made.ensures
