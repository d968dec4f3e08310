-- `file_writer::row_totals` meets its contract: the bits of a row count its pairs, and the cases of one digit what their lines lack (`row_totals`).
use Prim.Native.Nat.{◌^◌, ◌<◌}
use native.Mathlib.Omega.{arith}
use Rattle.file_writer.proofs.RowSizes.{row_short, row_totals}
use Rattle.file_writer.proofs.row_totals.Goals as goal

pub overflow_sub-result : goal.overflow_sub-result
overflow_sub-result c =
    let word : c.args.row < 2 ^ 64 = omega arith in
    row_short c.args.g c.args.row _ _ _ word c.number_width-width.ensures c.count-count.ensures c.count-short.ensures

pub returns : goal.returns
returns c =
    let word : c.args.row < 2 ^ 64 = omega arith in
    row_totals c.args.g c.args.row _ _ _ word c.number_width-width.ensures c.count-count.ensures c.count-short.ensures
