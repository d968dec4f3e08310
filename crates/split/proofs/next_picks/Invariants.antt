-- `split::next_picks` meets its contract: a number of the order is found or passed over (`found-one`, `found_none`), until none is left
-- (`found_all`).
use Prim.Native.Nat.{◌≤◌}
use Rattle.runs.specs.Paused.{value_of}
use Rattle.runs.specs.Sides.{side_of}
use Rattle.split.proofs.Finding.{SoFar}
use Rattle.split.proofs.next_picks.Given as goal

abbrev pub invariant-loop-i : goal.invariant-loop-i
invariant-loop-i g l = (l.found ≤ l.i) × SoFar (side_of g.S.Side.CASES) (value_of g.S.Side.number l.p) l.picks l.found l.i
