-- `file_writer::put_file` meets its contract: the file is its banner's line, its size line and its pairs, one behind the other.
use Rattle.file_writer.proofs.Stores.{wrote_both}
use Rattle.file_writer.proofs.put_file.Goals as goal

pub returns : goal.returns
returns c = wrote_both c.put_banner-p.ensures (wrote_both c.put_size-q.ensures c.put_rows.ensures)
