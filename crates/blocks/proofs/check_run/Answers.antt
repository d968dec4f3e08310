-- `blocks::check_run` meets its contract: a call of budget 0 refuses exactly the values that a run call refuses.
use mathlib.Core.Path.{◌≡◌, refl, sym, ap, subst}
use borrow.Author.Rules.{rules}
use Rattle.std.proofs.Common.{Err}
use Rattle.refusals.specs.Answers.{verdict}
use Rattle.runs.specs.Paused.{gauge_value}
use Rattle.runs.proofs.Answered.{called_of_both}
use Rattle.blocks.specs.private.Turning.{Checked}
use Rattle.blocks.proofs.OneTurn.{checked_refused}
use Rattle.blocks.proofs.check_run.Goals as goal

pub returns-in_err-call : goal.returns-in_err-call
returns-in_err-call c =
    let e : c.from_residual.result ≡ Err c.in_err-call.field-0.0 = search rules in
    subst (Checked (gauge_value c.args.run)) (sym (ap verdict e))
    (checked_refused (gauge_value c.args.run) _ (called_of_both _ _ _ _ c.in_err-call.ensures.either) _ refl)
