-- `file_reader::locate` meets its contract: reading stops at the first failing line.
use mathlib.Core.Path.{◌∙◌, ap, sym}
use Rattle.file_reader.specs.private.Gathering.{stopped}
use Rattle.file_reader.proofs.Promising.{line_of_file}
use Rattle.file_reader.proofs.locate.Goals as goal

pub returns-in-Ok : goal.returns-in-Ok
returns-in-Ok c = line_of_file _ _ _ (ap stopped (sym c.in-Ok.is) ∙ c.read_recorded.ensures.line)

pub returns-in-Err : goal.returns-in-Err
returns-in-Err c = line_of_file _ _ _ (ap stopped (sym c.in-Err.is) ∙ c.read_recorded.ensures.line)
