-- `judge::judge_maximal` meets its contract: the check refuses by its number, and the tests of nested and of widest rows decide.
use mathlib.Core.Path.{◌≡◌, sym}
use native.Mathlib.Omega.{arith}
use borrow.Author.Rules.{rules}
use lib.ListN.{length}
use Rattle.std.proofs.Common.{length-take-le}
use Rattle.table.specs.Tables.{chain_refusal}
use Rattle.judge.proofs.Verdicts.{few_rows, maximal_no_chain, maximal_judged}
use Rattle.judge.proofs.judge_maximal.Goals as goal

pub slice_bounds-rows-end : goal.slice_bounds-rows-end
slice_bounds-rows-end c =
    let passed : chain_refusal c.args.t c.args.s ≡ 0 = sym c.in_ok-check_chain.ensures in
    let table-size : length c.args.t.rows ≡ 64 = search rules in
    let chain-size : length c.args.s.rows ≡ 64 = search rules in
    few_rows _ _ passed table-size chain-size

pub slice_bounds-all_nested-end : goal.slice_bounds-all_nested-end
slice_bounds-all_nested-end c =
    let passed : chain_refusal c.args.t c.args.s ≡ 0 = sym c.in_ok-check_chain.ensures in
    let table-size : length c.args.t.rows ≡ 64 = search rules in
    let chain-size : length c.args.s.rows ≡ 64 = search rules in
    sym (length-take-le _ _ (few_rows _ _ passed table-size chain-size))

pub returns-then-not-all_nested : goal.returns-then-not-all_nested
returns-then-not-all_nested c =
    let passed : chain_refusal c.args.t c.args.s ≡ 0 = sym c.in_ok-check_chain.ensures in
    let table-size : length c.args.t.rows ≡ 64 = search rules in
    let chain-size : length c.args.s.rows ≡ 64 = search rules in
    maximal_no_chain _ _ passed table-size chain-size _ c.all_nested.ensures c.if-not-all_nested.true

pub all_widest-requires : goal.all_widest-requires
all_widest-requires c =
    let passed : chain_refusal c.args.t c.args.s ≡ 0 = sym c.in_ok-check_chain.ensures in
    let table-size : length c.args.t.rows ≡ 64 = search rules in
    let chain-size : length c.args.s.rows ≡ 64 = search rules in
    omega (arith, few_rows c.args.t c.args.s passed table-size chain-size)

pub returns : goal.returns
returns c =
    let passed : chain_refusal c.args.t c.args.s ≡ 0 = sym c.in_ok-check_chain.ensures in
    let table-size : length c.args.t.rows ≡ 64 = search rules in
    let chain-size : length c.args.s.rows ≡ 64 = search rules in
    maximal_judged _ _ passed table-size chain-size _ _ c.all_nested.ensures c.if-not-all_nested.false c.all_widest.ensures
