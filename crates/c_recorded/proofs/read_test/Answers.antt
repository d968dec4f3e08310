-- `c_recorded::read_test` meets its contract: the reader's answer, put part by part.
use mathlib.Core.Path.{refl}
use native.Mathlib.Omega.{arith}
use Rattle.std.specs.Prelude.{Ok, Err}
use Rattle.refusals.proofs.Answering.{number_pos}
use Rattle.file_reader.specs.Promises.{recording}
use Rattle.words.proofs.Serving.{long, long_two}
use Rattle.c_recorded.proofs.Serving.{reads-refused, reads-done, neither}
use Rattle.c_recorded.proofs.read_test.Goals as goal

pub returns-in-Err : goal.returns-in-Err
returns-in-Err c =
    reads-refused _ _ _ _ _ (neither (long_two c.if-test-lt-TEST.false c.if-readings-lt-READINGS.false) (long c.if-table-lt-TABLE.false))
    (recording (Err c.in-Err.why)) c.in-Err.ensures _ c.number.ensures (λ z. omega (arith, number_pos c.in-Err.why))

pub returns-in-Ok : goal.returns-in-Ok
returns-in-Ok c =
    reads-done _ _ _ _ _ (neither (long_two c.if-test-lt-TEST.false c.if-readings-lt-READINGS.false) (long c.if-table-lt-TABLE.false))
    (recording (Ok c.in-Ok.recording)) c.in-Ok.ensures 0 refl _ _ _ refl c.put_test.ensures c.put_readings.ensures c.put_table.ensures
