-- `trials::trial` meets its contract: the place is checked after the table, the judge refuses and decides for the chain, and a proposal is made.
use mathlib.Core.Path.{◌≡◌, ◌∙◌, sym, ap, refl}
use mathlib.Core.Bool.{true}
use borrow.Author.Rules.{rules}
use lib.ListN.{length}
use Rattle.std.specs.Prelude.{Ok, Err}
use Rattle.trials.specs.Trials.{place_refusal, proposed}
use Rattle.trials.proofs.Answers.{placed_of, tried_place, yes_passed, tried-judged, tried-lesser, tried-unfit}
use Rattle.trials.proofs.trial.Goals as goal

pub returns-in_err-check_place : goal.returns-in_err-check_place
returns-in_err-check_place c =
    let up : c.from_residual.result ≡ Err c.in_err-check_place.field-0.0 = search rules in
    tried_place _ _ _ _ _ c.in_err-check_place.field-0.0 c.in_err-check_place.ensures (ap proposed up)

pub returns-in_err-maximal : goal.returns-in_err-maximal
returns-in_err-maximal c =
    let passed : place_refusal c.args.t c.args.g.0 c.args.c.0 ≡ 0 = sym c.in_ok-check_place.ensures in
    let up : c.from_residual-in_err-maximal.result ≡ Err c.in_err-maximal.field-0.0 = search rules in
    tried-unfit _ _ _ _ passed _ c.judge_maximal.ensures _ c.in_err-maximal.field-0.0 c.in_err-maximal.was (ap proposed up)

pub returns-then-not-maximal : goal.returns-then-not-maximal
returns-then-not-maximal c =
    let passed : place_refusal c.args.t c.args.g.0 c.args.c.0 ≡ 0 = sym c.in_ok-check_place.ensures in
    tried-lesser _ _ _ _ passed _ c.judge_maximal.ensures _ (c.in_ok-maximal.was ∙ ap Ok c.if-not-maximal.true) refl

pub propose-requires : goal.propose-requires
propose-requires c =
    let passed : place_refusal c.args.t c.args.g.0 c.args.c.0 ≡ 0 = sym c.in_ok-check_place.ensures in
    let table-size : length c.args.t.rows ≡ 64 = search rules in
    let judged : c.judge_maximal.result ≡ Ok true = c.in_ok-maximal.was ∙ ap Ok c.if-not-maximal.false in
    (placed_of _ _ _ table-size passed, yes_passed _ _ _ _ passed _ c.judge_maximal.ensures judged)

pub returns : goal.returns
returns c =
    let passed : place_refusal c.args.t c.args.g.0 c.args.c.0 ≡ 0 = sym c.in_ok-check_place.ensures in
    let judged : c.judge_maximal.result ≡ Ok true = c.in_ok-maximal.was ∙ ap Ok c.if-not-maximal.false in
    tried-judged _ _ _ _ passed _ c.judge_maximal.ensures _ judged (refl, c.propose.ensures)
