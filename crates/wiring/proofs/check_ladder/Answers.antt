-- `wiring::check_ladder` meets its contract: each answer is that of the judgement, and of the rows compared.
use Rattle.std.proofs.Common.{◌≡◌, ◌∙◌, ap, true, length, rules}
use Rattle.std.specs.Prelude.{Ok, Err}
use Rattle.judge.proofs.Verdicts.{few_gauges}
use Rattle.wiring.proofs.Checking.{ladder_refused, ladder_no, ladder-lacks, ladder-yes}
use Rattle.wiring.proofs.check_ladder.Goals as goal

pub returns-in_err-maximal : goal.returns-in_err-maximal
returns-in_err-maximal c =
    let up : c.from_residual.result ≡ Err c.in_err-maximal.field-0.0 = search rules in
    rw up (ladder_refused _ _ _ _ c.judge_maximal.ensures c.in_err-maximal.field-0.0 c.in_err-maximal.was)

pub returns-then-not-maximal : goal.returns-then-not-maximal
returns-then-not-maximal c = ladder_no _ _ _ _ c.judge_maximal.ensures (c.in_ok-maximal.was ∙ ap Ok c.if-not-maximal.true)

pub contains-requires : goal.contains-requires
contains-requires c =
    let table-size : length c.args.t.rows ≡ 64 = search rules in
    let chain-size : length c.args.s.rows ≡ 64 = search rules in
    few_gauges _ _ c.requires table-size chain-size

pub returns-then-contains : goal.returns-then-contains
returns-then-contains c =
    let table-size : length c.args.t.rows ≡ 64 = search rules in
    let chain-size : length c.args.s.rows ≡ 64 = search rules in
    let ladder-size : length c.args.ladder.rows ≡ 64 = search rules in
    let judged : c.judge_maximal.result ≡ Ok true = c.in_ok-maximal.was ∙ ap Ok c.if-not-maximal.false in
    ladder-yes _ _ _ _ c.judge_maximal.ensures judged table-size chain-size ladder-size c.requires _
    c.contains.ensures c.if-contains.true

pub returns : goal.returns
returns c =
    let table-size : length c.args.t.rows ≡ 64 = search rules in
    let chain-size : length c.args.s.rows ≡ 64 = search rules in
    let ladder-size : length c.args.ladder.rows ≡ 64 = search rules in
    let judged : c.judge_maximal.result ≡ Ok true = c.in_ok-maximal.was ∙ ap Ok c.if-not-maximal.false in
    ladder-lacks _ _ _ _ c.judge_maximal.ensures judged table-size chain-size ladder-size c.requires _
    c.contains.ensures c.if-contains.false
