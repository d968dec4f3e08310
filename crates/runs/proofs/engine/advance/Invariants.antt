-- `runs::engine::advance` meets its contract: the moves made are the first of the budget (`Ahead`).
use Prim.Native.Nat.{◌-◌}
use Rattle.runs.specs.private.Working.{state_of, Ahead}
use Rattle.runs.specs.private.Core.{rule_of, HoldsOn}
use Rattle.runs.proofs.engine.advance.Given as goal

abbrev pub invariant-loop-moves : goal.invariant-loop-moves
invariant-loop-moves l =
    HoldsOn l.work l.walk l.spot
    × Ahead (rule_of l.work) l.budget l.moves (state_of l.initial.walk.picks l.initial.spot) (state_of l.walk.picks l.spot)

abbrev pub decreases-loop-moves : goal.decreases-loop-moves
decreases-loop-moves l = l.budget - l.moves
