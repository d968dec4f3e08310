-- `file_writer::put_pair` meets its contract: the line is two fields, one behind the other.
use Rattle.file_writer.proofs.Stores.{wrote_both}
use Rattle.file_writer.proofs.put_pair.Goals as goal

pub returns : goal.returns
returns c = wrote_both c.put_place-p.ensures c.put_place.ensures
