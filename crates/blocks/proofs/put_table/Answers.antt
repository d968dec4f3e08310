-- `blocks::put_table` meets its contract: what the writer says of the part of the buffer that it is lent, said of the whole buffer.
use mathlib.Core.Path.{sym, ap, ◌∙◌}
use Rattle.file_writer.specs.Writing.{written}
use Rattle.blocks.proofs.OneTurn.{put_refused}
use Rattle.blocks.proofs.put_table.Goals as goal

pub returns-in-Err : goal.returns-in-Err
returns-in-Err c =
    put_refused c.args.t c.args.out.now c.args.at c.requires c.in-Err.field-0 _
    (sym (ap written c.in-Err.is) ∙ c.write.ensures.result_value)
