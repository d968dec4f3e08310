-- `file_writer::put_entry` meets its contract: the line is a pair, and in an integer file a pair and its reading (`integer_line`).
use mathlib.Core.Path.{◌≡◌, ◌∙◌}
use mir.Facts.{to_z-of_z}
use mir.Syntax.{w32}
use mir.Val.{to_z, of_z}
use Rattle.file_writer.specs.TestFiles.{value_at}
use Rattle.file_writer.specs.private.StoreSteps.{pair_at}
use Rattle.file_writer.proofs.Readings.{integer_line}
use Rattle.file_writer.proofs.Stores.{wrote_both}
use borrow.Author.Rules.{sfits_of}
use Rattle.file_writer.proofs.put_entry.Goals as goal

pub returns-in-Integer : goal.returns-in-Integer
returns-in-Integer c =
    let value : to_z w32 (of_z w32 c.reading_at.result) ≡ value_at c.args.entries.now.readings.now (pair_at c.args.g c.args.c) = to_z-of_z {w = mir.Syntax.w32} (sfits_of c.reading_at.type_inv) ∙ c.reading_at.ensures in
    rw (integer_line _ c.args.entries.now.readings.now c.args.g c.args.c c.in-Integer.is, ← value)
    (wrote_both c.put_pair-p.ensures c.put_reading.ensures)
