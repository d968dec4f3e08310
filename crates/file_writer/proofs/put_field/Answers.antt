-- `file_writer::put_field` meets its contract: a number, and then one byte more.
use Rattle.file_writer.proofs.Stores.{wrote_store}
use Rattle.file_writer.proofs.put_field.Goals as goal

pub returns : goal.returns
returns c = wrote_store c.put_number-q.ensures _
