-- `essentials::minus` meets its contract.
use Rattle.essentials.proofs.RowLaws.{without_is}
use Rattle.essentials.proofs.minus.Goals as goal

pub returns : goal.returns
returns c = without_is _ _
