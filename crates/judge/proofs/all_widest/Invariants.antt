-- `judge::all_widest` meets its contract: the test holds at each row passed.
use Prim.Native.Nat.{ℕ}
use mathlib.Core.Path.{◌≡◌}
use mathlib.Core.Bool.{true}
use lib.Dec.{eqb}
use Rattle.sets.specs.Lists.{all_below}
use Rattle.table.specs.Pairs.{row}
use Rattle.judge.specs.WidestRows.{widest}
use Rattle.judge.proofs.all_widest.Given as goal

abbrev pub invariant-loop-i : goal.invariant-loop-i
invariant-loop-i l = all_below (λ (k : ℕ). eqb (widest l.rows (row l.outer k) k l.n) (row l.rows k)) l.i ≡ true
