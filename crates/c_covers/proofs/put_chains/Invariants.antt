-- `c_covers::put_chains` meets its contract: the chains passed are put.
use Prim.Native.Nat.{◌+◌, ◌*◌}
use mathlib.Core.Path.{◌≡◌}
use lib.ListN.{take}
use Rattle.c_covers.specs.Serving.{PutChains}
use Rattle.c_covers.proofs.put_chains.Given as goal

abbrev pub invariant-loop-s : goal.invariant-loop-s
invariant-loop-s l = (l.at ≡ 3 + 65 * l.s-index) × PutChains l.initial.out 3 (take l.s-index l.s-items) l.out
