-- `judge::judge_chain` meets its contract: the check refuses by its number, and the test of nested rows decides a chain.
use mathlib.Core.Path.{◌≡◌, sym}
use borrow.Author.Rules.{rules}
use lib.ListN.{length}
use Rattle.std.proofs.Common.{length-take-le}
use Rattle.table.specs.Tables.{chain_refusal}
use Rattle.judge.proofs.Verdicts.{few_rows, chain_judged}
use Rattle.judge.proofs.judge_chain.Goals as goal

pub slice_bounds-pairs-end : goal.slice_bounds-pairs-end
slice_bounds-pairs-end c =
    let passed : chain_refusal c.args.t c.args.s ≡ 0 = sym c.in_ok-check_chain.ensures in
    let table-size : length c.args.t.rows ≡ 64 = search rules in
    let chain-size : length c.args.s.rows ≡ 64 = search rules in
    few_rows _ _ passed table-size chain-size

pub slice_bounds-all_nested-end : goal.slice_bounds-all_nested-end
slice_bounds-all_nested-end c =
    let passed : chain_refusal c.args.t c.args.s ≡ 0 = sym c.in_ok-check_chain.ensures in
    let table-size : length c.args.t.rows ≡ 64 = search rules in
    let chain-size : length c.args.s.rows ≡ 64 = search rules in
    sym (length-take-le _ _ (few_rows _ _ passed table-size chain-size))

pub returns : goal.returns
returns c =
    let passed : chain_refusal c.args.t c.args.s ≡ 0 = sym c.in_ok-check_chain.ensures in
    let table-size : length c.args.t.rows ≡ 64 = search rules in
    let chain-size : length c.args.s.rows ≡ 64 = search rules in
    chain_judged _ _ passed table-size chain-size _ c.all_nested.ensures
