-- `transpose::FirstRows::four_columns` meets its contract: the four numbers so far are the columns of the rows passed.
use Rattle.std.proofs.Common.{arith}
use Rattle.transpose.proofs.Columns.{fours_none, fours-more, fours-room, gathered-room}
use Rattle.transpose.proofs.FirstRows.four_columns.Goals as goal

pub loop-i-init : goal.loop-i-init
loop-i-init c = fours_none _ _ _ c.args.self.few

pub overflow_mul-a : goal.overflow_mul-a
overflow_mul-a c = record {
  fits =
      omega (
        arith,
        gathered-room c.args.self.many c.args.k c.args.self.rows.now c.args.self.few c.loop-i.i c.loop-i.a c.loop-i-test.true c.loop-i.auto.i c.loop-i.invariant.first,
      );
}

pub overflow_add-a : goal.overflow_add-a
overflow_add-a c = record { fits = gathered-room _ _ _ c.args.self.few _ _ c.loop-i-test.true c.loop-i.auto.i c.loop-i.invariant.first }

pub overflow_mul-b : goal.overflow_mul-b
overflow_mul-b c = record {
  fits =
      omega (
        arith,
        fours-room c.args.self.many c.args.k c.args.self.rows.now c.args.self.few c.loop-i.i c.loop-i-test.true c.loop-i.auto.i 1 c.loop-i.b c.loop-i.invariant.second,
      );
}

pub overflow_add-b : goal.overflow_add-b
overflow_add-b c = record { fits = fours-room _ _ _ c.args.self.few _ c.loop-i-test.true c.loop-i.auto.i 1 _ c.loop-i.invariant.second }

pub overflow_mul-c : goal.overflow_mul-c
overflow_mul-c c = record {
  fits =
      omega (
        arith,
        fours-room c.args.self.many c.args.k c.args.self.rows.now c.args.self.few c.loop-i.i c.loop-i-test.true c.loop-i.auto.i 2 c.loop-i.c c.loop-i.invariant.third,
      );
}

pub overflow_add-c : goal.overflow_add-c
overflow_add-c c = record { fits = fours-room _ _ _ c.args.self.few _ c.loop-i-test.true c.loop-i.auto.i 2 _ c.loop-i.invariant.third }

pub overflow_mul-d : goal.overflow_mul-d
overflow_mul-d c = record {
  fits =
      omega (
        arith,
        fours-room c.args.self.many c.args.k c.args.self.rows.now c.args.self.few c.loop-i.i c.loop-i-test.true c.loop-i.auto.i 3 c.loop-i.d c.loop-i.invariant.fourth,
      );
}

pub overflow_add-d : goal.overflow_add-d
overflow_add-d c = record { fits = fours-room _ _ _ c.args.self.few _ c.loop-i-test.true c.loop-i.auto.i 3 _ c.loop-i.invariant.fourth }

pub loop-i-preserved : goal.loop-i-preserved
loop-i-preserved c = fours-more _ _ _ c.args.self.few _ c.loop-i-test.true c.loop-i.auto.i _ _ _ _ c.loop-i.invariant
