-- `c_recorded::write_test` meets its contract: the writer's promise of the test that the slices read as.
use Rattle.file_writer.specs.Writing.{written}
use Rattle.words.proofs.Serving.{long}
use Rattle.c_recorded.proofs.Serving.{writes_done, told_not, neither}
use Rattle.c_recorded.proofs.write_test.Goals as goal

pub returns : goal.returns
returns c =
    let a = c.args in
    writes_done a.test.now a.readings.now _ c.test_at-t.ensures a.bytes.now _ a.length.now
    (neither (told_not _ c.too_short.ensures c.if-too_short.false) (long c.if-length-lt-ONE.false)) (written c.write_test-written.result)
    c.write_test-written.ensures.result_value c.write_test-written.ensures.buffer _ c.written_number-n.ensures _ _ c.if-n-ne0.false c.written_length.ensures
    c.put_word.ensures
