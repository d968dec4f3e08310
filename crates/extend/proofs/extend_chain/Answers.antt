-- `extend::extend_chain` meets its contract: each answer is that of the check or of the judgement that led to it.
use Rattle.std.proofs.Common.{◌≡◌, ◌∙◌, ap, refl, sym, rules, Ok, Err, true}
use Rattle.refusals.proofs.Answering.{verdict_refused}
use Rattle.extend.proofs.Answers.{extends_first, judged_passes, judged_chain, extends_refused, extends_no_chain, extends_grown}
use Rattle.extend.proofs.extend_chain.Goals as goal

pub returns-in_err-check : goal.returns-in_err-check
returns-in_err-check c =
    let why = c.in_err-check.field-0.0 in
    let e : c.from_residual.result ≡ Err why = search rules in
    rw e (extends_first _ _ _ why _ (verdict_refused _ _ _ c.in_err-check.was c.check.ensures) refl)

pub returns-in_err-judge_chain : goal.returns-in_err-judge_chain
returns-in_err-judge_chain c =
    let why = c.in_err-judge_chain.field-0.0 in
    let e : c.from_residual-in_err-judge_chain.result ≡ Err why = search rules in
    rw e (extends_refused _ _ _ (sym c.in_ok-check.ensures) _ c.judge_chain.ensures why _ c.in_err-judge_chain.was refl)

pub returns-then-not-branch : goal.returns-then-not-branch
returns-then-not-branch c =
    extends_no_chain _ _ _ (sym c.in_ok-check.ensures) _ c.judge_chain.ensures _
    (c.in_ok-judge_chain.was ∙ ap Ok c.if-not-branch.true) refl

pub first_by_place-rows-requires : goal.first_by_place-rows-requires
first_by_place-rows-requires c =
    let p = sym c.in_ok-check.ensures in
    let d = c.judge_chain.ensures in
    let judged : c.judge_chain.result ≡ Ok true = c.in_ok-judge_chain.was ∙ ap Ok c.if-not-branch.false in
    (judged_passes _ _ _ p _ d judged, judged_chain _ _ _ p _ d judged)

pub returns : goal.returns
returns c =
    let judged : c.judge_chain.result ≡ Ok true = c.in_ok-judge_chain.was ∙ ap Ok c.if-not-branch.false in
    extends_grown _ _ _ (sym c.in_ok-check.ensures) _ c.judge_chain.ensures _ judged c.first_by_place-rows.ensures
