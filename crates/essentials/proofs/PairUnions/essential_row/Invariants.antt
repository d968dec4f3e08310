-- `essentials::PairUnions::essential_row` meets its contract: of the places passed, those kept are the essential pairs.
use Rattle.essentials.proofs.Outdoing.{Keeping}
use Rattle.essentials.proofs.PairUnions.essential_row.Given as goal

abbrev pub invariant-loop-k : goal.invariant-loop-k
invariant-loop-k l = Keeping l.self.rows.now l.g l.kept (l.k-iterator).0
