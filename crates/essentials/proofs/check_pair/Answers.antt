-- `essentials::check_pair` meets its contract: the table's own refusals first, then whether it has the pair.
use mathlib.Core.Path.{◌≡◌, sym}
use lib.ListN.{length}
use Rattle.std.specs.Prelude.{Err}
use borrow.Author.Rules.{rules}
use Rattle.table.specs.Tables.{table_refusal}
use Rattle.essentials.proofs.Answers.{pair_refused, pair-absent, pair-present}
use Rattle.essentials.proofs.check_pair.Goals as goal

pub returns-in_err-check_table : goal.returns-in_err-check_table
returns-in_err-check_table c =
    let up : c.from_residual.result ≡ Err c.in_err-check_table.field-0.0 = search rules in
    rw up (pair_refused _ _ _ _ c.in_err-check_table.ensures)

pub returns-then-not-has : goal.returns-then-not-has
returns-then-not-has c =
    let rows-length : length c.args.table.rows ≡ 64 = search rules in
    let passed : table_refusal c.args.table ≡ 0 = sym c.in_ok-check_table.ensures in
    pair-absent _ _ _ rows-length passed _ c.has.ensures
    c.if-not-has.true

pub returns : goal.returns
returns c =
    let rows-length : length c.args.table.rows ≡ 64 = search rules in
    let passed : table_refusal c.args.table ≡ 0 = sym c.in_ok-check_table.ensures in
    pair-present _ _ _ rows-length passed _ c.has.ensures
    c.if-not-has.false
