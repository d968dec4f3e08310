-- `recorded::table_at` has the claims: they are the definition's.
use borrow.Author.Rules.{rules}
use mathlib.Core.Path.{sym}
use Rattle.std.specs.Prelude.{Ok}
use Rattle.refusals.proofs.Answering.{answer_given}
use Rattle.recorded.proofs.Checking.{cutoff_in}
use Rattle.recorded.proofs.Cutoffs.{cutoff_claims}
use Rattle.recorded.proofs.table_at.Goals as goal

pub returns-clause-claims : goal.returns-clause-claims
returns-clause-claims c =
    let t = c.args.t in
    cutoff_claims t (search rules) (search rules) c.args.cutoff (Ok record { gauges = t.gauges; cases = t.cases; rows = c.rows_at-rows.result })
    (rw c.rows_at-rows.ensures
    (answer_given _ _ _ (sym (cutoff_in _ _ _ 0 c.in_range.ensures c.if-not-in_range.false c.in_ok-check_test.ensures))))
