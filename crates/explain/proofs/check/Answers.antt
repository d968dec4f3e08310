-- `explain::check` meets its contract: a refusal of the value (`asks_refused`), and else the pair (`asks_pair`).
use mathlib.Core.Path.{◌≡◌, sym, ap, ◌∙◌, subst}
use mathlib.Core.Bool.{Bool, cond}
use borrow.Author.Rules.{rules}
use Rattle.std.proofs.Common.{Err}
use Rattle.refusals.specs.Answers.{verdict}
use Rattle.refusals.proofs.Answering.{number_pos}
use Rattle.rules.specs.Machine.{Handed}
use Rattle.conflicts.specs.Tests.{has_pair}
use Rattle.runs.specs.Paused.{value_of}
use Rattle.runs.specs.Sides.{side_of, ChecksAt}
use Rattle.explain.specs.private.Asking.{AsksAt}
use Rattle.explain.proofs.Answers.{has_is, same_test, asks_refused, asks_pair}
use Rattle.explain.proofs.check.Goals as goal

pub returns-then-not-has : goal.returns-then-not-has
returns-then-not-has g c =
    let checks : ChecksAt (side_of g.S.Side.CASES) (value_of g.S.Side.number c.args.p) Handed 0 = subst (ChecksAt (side_of g.S.Side.CASES) (value_of g.S.Side.number c.args.p) Handed) (ap verdict c.in_ok-check_handed.was) c.check_handed.ensures in
    let told : (has_pair c.args.p.table.rows c.args.g.0 c.args.c.0) ≡ c.has.result = same_test _ (has_pair c.args.p.table.rows c.args.g.0 c.args.c.0) c.has.result (has_is _ _ _) c.has.ensures in
    asks_pair (side_of g.S.Side.CASES) (value_of g.S.Side.number c.args.p) (has_pair c.args.p.table.rows c.args.g.0 c.args.c.0) 19
    (sym (ap (λ (b : Bool). cond b 0 19) (told ∙ c.if-not-has.true))) checks

pub returns : goal.returns
returns g c =
    let checks : ChecksAt (side_of g.S.Side.CASES) (value_of g.S.Side.number c.args.p) Handed 0 = subst (ChecksAt (side_of g.S.Side.CASES) (value_of g.S.Side.number c.args.p) Handed) (ap verdict c.in_ok-check_handed.was) c.check_handed.ensures in
    let told : (has_pair c.args.p.table.rows c.args.g.0 c.args.c.0) ≡ c.has.result = same_test _ (has_pair c.args.p.table.rows c.args.g.0 c.args.c.0) c.has.result (has_is _ _ _) c.has.ensures in
    asks_pair (side_of g.S.Side.CASES) (value_of g.S.Side.number c.args.p) (has_pair c.args.p.table.rows c.args.g.0 c.args.c.0) 0
    (sym (ap (λ (b : Bool). cond b 0 19) (told ∙ c.if-not-has.false))) checks

pub returns-in_err-check_handed : goal.returns-in_err-check_handed
returns-in_err-check_handed g c =
    let e : c.from_residual.result ≡ Err c.in_err-check_handed.field-0.0 = search rules in
    subst (AsksAt (side_of g.S.Side.CASES) (value_of g.S.Side.number c.args.p) (has_pair c.args.p.table.rows c.args.g.0 c.args.c.0)) (sym (ap verdict e))
    (asks_refused (side_of g.S.Side.CASES) (value_of g.S.Side.number c.args.p) (has_pair c.args.p.table.rows c.args.g.0 c.args.c.0) _
    (number_pos c.in_err-check_handed.field-0.0)
    (subst (ChecksAt (side_of g.S.Side.CASES) (value_of g.S.Side.number c.args.p) Handed) (ap verdict c.in_err-check_handed.was) c.check_handed.ensures))
