-- `essentials::PairUnions::outdone_in` meets its contract: of the places that the loop passed none has conflicts that strictly contain those of the pair.
use Prim.Native.Nat.{ℕ, suc}
use Rattle.conflicts.specs.Conflicts.{StrictlyContains}
use Rattle.essentials.proofs.Storing.{Passed}
use Rattle.essentials.proofs.PairUnions.outdone_in.Given as goal

abbrev pub invariant-loop-d : goal.invariant-loop-d
invariant-loop-d l = Passed (λ (d : ℕ). StrictlyContains l.self.rows.now (suc l.h) (suc d) (suc l.g) (suc l.k) → ⊥) l.places (l.d-iterator).0
