-- `file_writer::put_rows` meets its contract: at each row what is stored and what is still to be stored are the lines of the rows (`Writing`).
use mathlib.Core.Path.{◌≡◌}
use lib.ListN.{length}
use native.Mathlib.Omega.{arith}
use Rattle.file_writer.specs.Writing.{gauge_of}
use Rattle.file_writer.proofs.Stores.{writing_step, writing_done}
use Rattle.file_writer.proofs.PairLines.{rows_end, rows_next, rows_room}
use borrow.Author.Rules.{rules}
use Rattle.file_writer.proofs.put_rows.Goals as goal

pub put_row-p-requires : goal.put_row-p-requires
put_row-p-requires c =
    let rows-length : length c.args.rows ≡ 64 = search rules in
    let room = rows_room c.args.entries.now.kind c.args.entries.now.readings.now (gauge_of c.args.gauges.0) _ _ c.loop-i.invariant.1 c.loop-i-test.true
    (omega (arith, rows-length)) c.requires.1 in
    (omega arith, omega arith, room)

pub loop-i-preserved : goal.loop-i-preserved
loop-i-preserved c =
    let rows-length : length c.args.rows ≡ 64 = search rules in
    let next =
    rows_next c.args.entries.now.kind c.args.entries.now.readings.now (gauge_of c.args.gauges.0) c.args.rows c.loop-i.i
    c.loop-i-test.true
    (omega (arith, rows-length)) in
    (omega arith, writing_step c.loop-i.invariant.1 next c.put_row-p.ensures)

pub returns : goal.returns
returns c = writing_done c.loop-i.invariant.1 (rows_end c.args.entries.now.kind c.args.entries.now.readings.now _ _ _ c.loop-i-test.false)
