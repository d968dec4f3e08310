-- `file_writer::reading_at` meets its contract: the place is that of the gauge and the case.
use borrow.Author.Rules.{rules}
use mir.Facts.{to_z-of_z}
use Rattle.file_writer.proofs.reading_at.Goals as goal

pub returns : goal.returns
returns c = to_z-of_z {w = mir.Syntax.w32} (search rules)
