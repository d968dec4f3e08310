-- `wiring::pairs_in` meets its contract: after `i` rows it is the number of their pairs, at most 64 each.
use Prim.Native.Nat.{◌≤◌, ◌*◌}
use mathlib.Core.Path.{◌≡◌}
use Rattle.pair_orders.specs.private.Growing.{pairs_in}
use Rattle.wiring.proofs.pairs_in.Given as goal

abbrev pub invariant-loop-i : goal.invariant-loop-i
invariant-loop-i l = (l.total ≡ pairs_in l.rows l.i) × (l.total ≤ 64 * l.i)
