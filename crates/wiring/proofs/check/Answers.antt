-- `wiring::check` meets its contract: each answer is that of the judgement, or of the check of the ladder.
use mathlib.Core.Path.{◌≡◌, ◌∙◌, ap}
use borrow.Author.Rules.{rules}
use Rattle.std.specs.Prelude.{Ok, Err}
use Rattle.wiring.proofs.Checking.{chain_refused, chain_no, chain_yes}
use Rattle.wiring.proofs.check.Goals as goal

pub returns-in_err-chain : goal.returns-in_err-chain
returns-in_err-chain c =
    let up : c.from_residual.result ≡ Err c.in_err-chain.field-0.0 = search rules in
    rw up (chain_refused _ _ _ _ c.judge_chain.ensures c.in_err-chain.field-0.0 c.in_err-chain.was)

pub returns-then-not-chain : goal.returns-then-not-chain
returns-then-not-chain c = chain_no _ _ _ _ c.judge_chain.ensures (c.in_ok-chain.was ∙ ap Ok c.if-not-chain.true)

pub returns : goal.returns
returns c = chain_yes _ _ _ _ c.judge_chain.ensures (c.in_ok-chain.was ∙ ap Ok c.if-not-chain.false) _ c.check_ladder.ensures
