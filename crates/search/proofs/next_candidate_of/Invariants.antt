-- `search::next_candidate_of` meets its contract: no place passed is a candidate.
use mathlib.Core.Path.{◌≡◌}
use mathlib.Core.Bool.{false}
use Prim.Native.Nat.{ℕ}
use Rattle.search.specs.Finding.{candidate_in, within}
use Rattle.search.proofs.Within.{Passed}
use Rattle.search.proofs.next_candidate_of.Given as goal

abbrev pub invariant-loop-g : goal.invariant-loop-g
invariant-loop-g l = Passed (λ (i : ℕ). candidate_in (within l.set l.rows) l.left 64 i ≡ false) l.places (l.g-iterator).0
