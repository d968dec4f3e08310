-- `trials::effect_on` meets its contract: the judge's answer over the table tells the effect.
use mathlib.Core.Path.{◌≡◌, ◌∙◌, ap}
use borrow.Author.Rules.{rules}
use lib.ListN.{length}
use Rattle.std.specs.Prelude.{Ok}
use Rattle.trials.proofs.Effects.{effect-no, effect-refused}
use Rattle.trials.proofs.effect_on.Goals as goal

pub returns-in-Ok-false : goal.returns-in-Ok-false
returns-in-Ok-false c =
    let table-size : length c.args.u.rows ≡ 64 = search rules in
    let chain-size : length c.args.s.rows ≡ 64 = search rules in
    effect-no _ _ c.requires table-size chain-size _ c.judge_maximal.ensures (c.in-Ok-false.is ∙ ap Ok c.in-Ok-false.field-0-test)

pub returns-in-Err : goal.returns-in-Err
returns-in-Err c =
    let table-size : length c.args.u.rows ≡ 64 = search rules in
    let chain-size : length c.args.s.rows ≡ 64 = search rules in
    effect-refused _ _ c.requires table-size chain-size _ c.judge_maximal.ensures _ c.in-Err.is
