-- `file_writer::all_totals` meets its contract: at each row the pairs counted and those to come are the pairs of the table (`Counting`).
use Prim.Native.Nat.{◌+◌}
use mathlib.Core.Path.{◌≡◌}
use native.Mathlib.Omega.{arith}
use Rattle.file_writer.specs.Writing.{gauge_of}
use Rattle.file_writer.specs.TestFiles.{entry_text}
use Rattle.file_writer.specs.private.StoreSteps.{Suits, pairs_at}
use Rattle.file_writer.proofs.Counting.{Counting, Small, counting_row, counting_rows_done, counting_small}
use borrow.Author.Rules.{rules}
use lib.ListN.{length}
use Rattle.file_writer.proofs.all_totals.Goals as goal

pub overflow_add-count : goal.overflow_add-count
overflow_add-count c =
    let suits : Suits c.args.entries.now.kind c.args.entries.now.readings.now = search rules in
    let rows-length : length c.args.t.rows ≡ 64 = search rules in
    let next : Counting (entry_text c.args.entries.now.kind c.args.entries.now.readings.now) (pairs_at (gauge_of c.args.t.gauges) c.args.t.rows 0) (c.loop-i.count + c.line_totals-one.result.count) (c.loop-i.size + c.line_totals-one.result.size) (pairs_at (gauge_of c.args.t.gauges) c.args.t.rows (c.loop-i.i + 1)) = counting_row (entry_text c.args.entries.now.kind c.args.entries.now.readings.now) _ _ _ c.loop-i.invariant.1 c.loop-i-test.true (omega (arith, rows-length)) c.line_totals-one.ensures in
    let small : Small (c.loop-i.count + c.line_totals-one.result.count) (c.loop-i.size + c.line_totals-one.result.size) = counting_small c.args.entries.now.kind c.args.entries.now.readings.now suits (gauge_of c.args.t.gauges) c.args.t.rows next c.requires in
    omega (arith, small)

pub overflow_add-size : goal.overflow_add-size
overflow_add-size c =
    let suits : Suits c.args.entries.now.kind c.args.entries.now.readings.now = search rules in
    let rows-length : length c.args.t.rows ≡ 64 = search rules in
    let next : Counting (entry_text c.args.entries.now.kind c.args.entries.now.readings.now) (pairs_at (gauge_of c.args.t.gauges) c.args.t.rows 0) (c.loop-i.count + c.line_totals-one.result.count) (c.loop-i.size + c.line_totals-one.result.size) (pairs_at (gauge_of c.args.t.gauges) c.args.t.rows (c.loop-i.i + 1)) = counting_row (entry_text c.args.entries.now.kind c.args.entries.now.readings.now) _ _ _ c.loop-i.invariant.1 c.loop-i-test.true (omega (arith, rows-length)) c.line_totals-one.ensures in
    let small : Small (c.loop-i.count + c.line_totals-one.result.count) (c.loop-i.size + c.line_totals-one.result.size) = counting_small c.args.entries.now.kind c.args.entries.now.readings.now suits (gauge_of c.args.t.gauges) c.args.t.rows next c.requires in
    omega (arith, small)

pub loop-i-preserved : goal.loop-i-preserved
loop-i-preserved c =
    let rows-length : length c.args.t.rows ≡ 64 = search rules in
    let next : Counting (entry_text c.args.entries.now.kind c.args.entries.now.readings.now) (pairs_at (gauge_of c.args.t.gauges) c.args.t.rows 0) (c.loop-i.count + c.line_totals-one.result.count) (c.loop-i.size + c.line_totals-one.result.size) (pairs_at (gauge_of c.args.t.gauges) c.args.t.rows (c.loop-i.i + 1)) = counting_row (entry_text c.args.entries.now.kind c.args.entries.now.readings.now) _ _ _ c.loop-i.invariant.1 c.loop-i-test.true (omega (arith, rows-length)) c.line_totals-one.ensures in
    (omega arith, next)

pub returns : goal.returns
returns c = counting_rows_done (entry_text c.args.entries.now.kind c.args.entries.now.readings.now) _ _ _ c.loop-i.invariant.1 c.loop-i-test.false
