-- `runs::engine::apart` meets its contract: the rows passed have nothing in common.
use mathlib.Core.Path.{◌≡◌}
use mathlib.Core.Bool.{true}
use lib.Bits.{bit_and}
use lib.Dec.{eqb}
use lib.ListN.{get_or}
use Rattle.sets.specs.Lists.{all_below}
use Rattle.runs.proofs.engine.apart.Given as goal

abbrev pub invariant-loop-i : goal.invariant-loop-i
invariant-loop-i l = all_below (λ k. eqb (bit_and (get_or l.chain k 0) (get_or l.wanted k 0)) 0) l.i ≡ true
