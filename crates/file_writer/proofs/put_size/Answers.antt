-- `file_writer::put_size` meets its contract: the line is three fields, one behind the other.
use Rattle.file_writer.proofs.Stores.{wrote_both}
use Rattle.file_writer.proofs.put_size.Goals as goal

pub returns : goal.returns
returns c = wrote_both c.put_place-p.ensures (wrote_both c.put_place-q.ensures c.put_field.ensures)
