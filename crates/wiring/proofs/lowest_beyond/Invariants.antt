-- `wiring::lowest_beyond` meets its contract: no place passed is beyond.
use Prim.Native.Nat.{ℕ, ◌≤◌, ◌<◌}
use mathlib.Core.Path.{◌≡◌}
use mathlib.Core.Bool.{false}
use Rattle.pair_orders.specs.private.Growing.{beyond}
use Rattle.wiring.proofs.lowest_beyond.Given as goal

abbrev pub invariant-loop-k : goal.invariant-loop-k
invariant-loop-k l = (i : ℕ) → 0 ≤ i → i < l.k → beyond l.wide l.own i ≡ false
