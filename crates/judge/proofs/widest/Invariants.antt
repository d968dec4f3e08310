-- `judge::widest` meets its contract: after `j` rows it is the definition's widest row over these.
use mathlib.Core.Path.{◌≡◌}
use Rattle.judge.specs.WidestRows.{widest}
use Rattle.judge.proofs.widest.Given as goal

abbrev pub invariant-loop-j : goal.invariant-loop-j
invariant-loop-j l = l.wide ≡ widest l.rows l.most l.i l.j
