-- `file_writer::put_bytes` meets its contract: the bytes are copied as one run.
use native.Mathlib.Omega.{arith}
use Rattle.file_writer.proofs.Stores.{wrote_run}
use Rattle.file_writer.proofs.put_bytes.Goals as goal

pub returns : goal.returns
returns c = wrote_run _ c.args.at _ _ _ c.requires c.copy_from_slice.ensures.after (omega arith)
