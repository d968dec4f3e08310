-- `table::same_rows` meets its contract: arrays of 64 rows are one exactly when each of their rows is.
use borrow.Author.Rules.{rules}
use Rattle.table.proofs.Agreement.{same_of_one}
use Rattle.table.proofs.same_rows.Goals as goal

pub returns : goal.returns
returns c = same_of_one _ _ _ (search rules) (search rules) (search rules)
