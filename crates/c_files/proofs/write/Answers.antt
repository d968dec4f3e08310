-- `c_files::write` meets its contract: the writer's promise of the table that the words read as.
use Rattle.file_writer.specs.Writing.{written}
use Rattle.words.proofs.Serving.{long_two}
use Rattle.c_files.proofs.Serving.{writes_done}
use Rattle.c_files.proofs.write.Goals as goal

pub returns : goal.returns
returns c =
    let a = c.args in
    writes_done a.table.now _ c.table_at-t.ensures a.bytes.now _ a.length.now
    (long_two c.if-table-lt-TABLE.false c.if-length-lt-LENGTH.false) (written c.write-written.result) c.write-written.ensures.result_value c.write-written.ensures.buffer _
    c.written_number-n.ensures _ _ c.if-n-ne0.false c.written_length.ensures c.put_word.ensures
