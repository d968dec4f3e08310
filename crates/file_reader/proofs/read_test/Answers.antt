-- `file_reader::read_test` meets its contract: each return has its law of `Answered`.
use mathlib.Core.Path.{◌≡◌, ap, ◌∙◌}
use borrow.Author.Rules.{rules}
use Rattle.std.specs.Prelude.{Err}
use Rattle.file_reader.specs.Promises.{recording}
use Rattle.file_reader.proofs.Answered.{cutoff_refused, file-refused, table_given, file-given}
use Rattle.file_reader.proofs.Promising.{test_of_file}
use Rattle.file_reader.proofs.read_test.Goals as goal

pub returns-then-not-in_range : goal.returns-then-not-in_range
returns-then-not-in_range c =
    test_of_file c.args.file.now c.args.cutoff _ (cutoff_refused c.args.file.now c.args.cutoff _ c.in_range.ensures c.if-not-in_range.true)

pub returns-in_err-test : goal.returns-in_err-test
returns-in_err-test c =
    let raised : c.from_residual.result ≡ Err c.in_err-test.field-0.0.why = search rules in
    test_of_file c.args.file.now c.args.cutoff _
    (ap recording raised
    ∙ file-refused c.args.file.now c.args.cutoff _ c.in_range.ensures c.if-not-in_range.false c.read_recorded.result c.read_recorded.ensures.answer
    c.in_err-test.was)

pub unwrap-table-requires : goal.unwrap-table-requires
unwrap-table-requires c =
    table_given c.args.file.now c.args.cutoff _ c.in_range.ensures c.if-not-in_range.false c.read_recorded.result c.read_recorded.ensures.answer
    c.in_ok-test.was c.table_at.result c.table_at.ensures.result_value

pub returns : goal.returns
returns c =
    test_of_file c.args.file.now c.args.cutoff _
    (file-given c.args.file.now c.args.cutoff _ c.in_range.ensures c.if-not-in_range.false c.read_recorded.result c.read_recorded.ensures.answer
    c.in_ok-test.was c.table_at.result _ c.table_at.ensures.result_value c.unwrap-table.ensures)
