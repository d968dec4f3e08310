-- `file_writer::put_row` meets its contract: at each turn what is stored and what is still to be stored are the lines of the row (`Writing`),
-- and the lowest case left is the next to be written (`row_first`).
use native.Mathlib.Omega.{arith}
use Rattle.sets.specs.First.{Next}
use Rattle.file_writer.specs.TestFiles.{entry_text}
use Rattle.file_writer.proofs.Stores.{writing_step, writing_done}
use Rattle.file_writer.proofs.PairLines.{row_first, row_room, row_end}
use Rattle.file_writer.proofs.put_row.Goals as goal

pub put_entry-p-requires : goal.put_entry-p-requires
put_entry-p-requires c =
    let next : Next c.loop-k.k-iterator.0 c.in-Some.k c.next.new.self.0 = c.in-Some.ensures.steps in
    let lowest = next.first.some next.some in
    let room = row_room _ _ _ _ next.first.counted lowest next.rest (entry_text c.args.entries.now.kind c.args.entries.now.readings.now) c.loop-k.invariant c.requires.2 in
    (c.requires.0, c.requires.1, omega arith, omega (arith, lowest), room)

pub loop-k-preserved : goal.loop-k-preserved
loop-k-preserved c =
    let next : Next c.loop-k.k-iterator.0 c.in-Some.k c.next.new.self.0 = c.in-Some.ensures.steps in
    writing_step c.loop-k.invariant
    (row_first _ _ _ _ next.first.counted (next.first.some next.some) next.rest (entry_text c.args.entries.now.kind c.args.entries.now.readings.now)) c.put_entry-p.ensures

pub returns : goal.returns
returns c = writing_done c.loop-k.invariant (row_end (entry_text c.args.entries.now.kind c.args.entries.now.readings.now) _ _ c.in-None.ensures.steps.0)
