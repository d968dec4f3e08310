-- `blocks::put_ladders` meets its contract: after each turn the files of the ladders passed are there.
use mathlib.Core.Path.{◌≡◌}
use Prim.Native.Nat.{◌-◌}
use Rattle.blocks.proofs.OneTurn.{Passed}
use Rattle.blocks.proofs.put_ladders.Given as goal

abbrev pub invariant-loop-ladder : goal.invariant-loop-ladder
invariant-loop-ladder l = (l.g ≡ l.gauges) × Passed l.gauges l.cases l.many l.words l.initial.out l.at l.out l.place l.from (l.many - l._ladder)
