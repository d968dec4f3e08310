-- `transpose::FirstRows::column` meets its contract: the number so far is the column of the rows passed.
use Rattle.std.proofs.Common.{arith}
use Rattle.transpose.proofs.Columns.{gathered_none, gathered-more, gathered-room}
use Rattle.transpose.proofs.FirstRows.column.Goals as goal

pub loop-i-init : goal.loop-i-init
loop-i-init c = gathered_none _ _ _ c.args.self.few

pub overflow_mul-set : goal.overflow_mul-set
overflow_mul-set c = record {
  fits =
      omega (
        arith,
        gathered-room c.args.self.many c.args.k c.args.self.rows.now c.args.self.few c.loop-i.i c.loop-i.set c.loop-i-test.true c.loop-i.auto.i c.loop-i.invariant,
      );
}

pub overflow_add-set : goal.overflow_add-set
overflow_add-set c = record { fits = gathered-room _ _ _ c.args.self.few _ _ c.loop-i-test.true c.loop-i.auto.i c.loop-i.invariant }

pub loop-i-preserved : goal.loop-i-preserved
loop-i-preserved c = gathered-more _ _ _ c.args.self.few _ _ c.loop-i-test.true c.loop-i.auto.i c.loop-i.invariant
