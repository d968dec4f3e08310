-- `table::rows_within` meets its contract: what the chain tests of each pair of rows is what the definition says of them.
use mathlib.Core.Path.{sym, ◌∙◌}
use borrow.Author.Rules.{rules}
use Rattle.table.proofs.CheckLoops.{rows_within_zip}
use Rattle.table.proofs.rows_within.Goals as goal

pub returns : goal.returns
returns c = c.each_within.ensures ∙ sym (rows_within_zip _ _ (search rules))
