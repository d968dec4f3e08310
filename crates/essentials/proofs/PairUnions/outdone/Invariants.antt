-- `essentials::PairUnions::outdone` meets its contract: no row passed has such a pair.
use Prim.Native.Nat.{ℕ, ◌<◌}
use Rattle.essentials.specs.private.Unions.{OutdoneIn}
use Rattle.essentials.proofs.PairUnions.outdone.Given as goal

abbrev pub invariant-loop-h : goal.invariant-loop-h
invariant-loop-h l = (j : ℕ) → j < l.h → OutdoneIn l.self.rows.now l.g l.k j → ⊥
