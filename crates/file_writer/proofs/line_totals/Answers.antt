-- `file_writer::line_totals` meets its contract: the lines of the pairs, and in an integer file their readings too (`integer_totals`).
use native.Mathlib.Omega.{arith}
use Rattle.file_writer.specs.Writing.{row_pairs}
use Rattle.file_writer.proofs.PairLines.{row_few}
use Rattle.file_writer.proofs.Readings.{integer_totals, lines_few, values_few}
use borrow.Author.Rules.{rules}
use Rattle.file_writer.specs.private.StoreSteps.{Suits}
use Rattle.file_writer.proofs.line_totals.Goals as goal

pub overflow_add-result : goal.overflow_add-result
overflow_add-result c =
    let suits : Suits c.args.entries.now.kind c.args.entries.now.readings.now = search rules in
    let ps = row_pairs c.args.g 64 1 c.args.row in
    omega (
      arith,
      c.row_totals-pairs.ensures.bytes,
      c.row_readings-more.ensures,
      lines_few ps,
      values_few c.args.entries.now.readings.now (suits.small c.in-Integer.is) ps,
      row_few c.args.g 64 1 c.args.row,
    )

pub returns-in-Integer : goal.returns-in-Integer
returns-in-Integer c = integer_totals _ c.args.entries.now.readings.now _ _ c.row_totals-pairs.ensures _ c.in-Integer.is c.row_readings-more.ensures
