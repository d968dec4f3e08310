-- `runs::engine::filled` meets its contract: what was counted is the number of the places passed that are not zero.
use mathlib.Core.Path.{◌≡◌}
use Rattle.runs.specs.private.Working.{filled}
use Rattle.runs.proofs.engine.filled.Given as goal

abbrev pub invariant-loop-i : goal.invariant-loop-i
invariant-loop-i l = l.seen ≡ filled l.picks l.i
