-- `file_reader::read` meets its contract: the table's pairs are the entries of the test, and a refusal goes up.
use mathlib.Core.Path.{◌≡◌, ap, ◌∙◌}
use borrow.Author.Rules.{rules}
use Rattle.std.specs.Prelude.{Err}
use Rattle.table.specs.Tables.{made}
use Rattle.file_reader.proofs.Answered.{pairs-refused, pairs-given}
use Rattle.file_reader.proofs.Promising.{table_of_file}
use Rattle.file_reader.proofs.read.Goals as goal

pub returns-in_err-test : goal.returns-in_err-test
returns-in_err-test c =
    let raised : c.from_residual.result ≡ Err c.in_err-test.field-0.0.why = search rules in
    table_of_file c.args.file.now _
    (ap made raised ∙ pairs-refused c.args.file.now c.read_recorded.result c.read_recorded.ensures.answer c.in_err-test.was)

pub returns : goal.returns
returns c = table_of_file c.args.file.now _ (pairs-given c.args.file.now c.read_recorded.result c.read_recorded.ensures.answer c.in_ok-test.was)
