-- `file_writer::put_place` meets its contract: one digit or two, and then the byte behind them (`place_one`, `place_two`).
use native.Mathlib.Omega.{arith}
use lib.ListN.{length-set}
use Rattle.file_writer.proofs.Stores.{field_one, field_two, place_one, place_two}
use Rattle.file_writer.proofs.put_place.Goals as goal

pub bounds-out-at-then-n-lt10 : goal.bounds-out-at-then-n-lt10
bounds-out-at-then-n-lt10 c = simp length-set (omega (arith, field_one c.args.n c.args.end c.if-n-lt10.true))

pub returns-then-n-lt10 : goal.returns-then-n-lt10
returns-then-n-lt10 c = place_one _ _ _ _ c.if-n-lt10.true

pub bounds-out-at-3 : goal.bounds-out-at-3
bounds-out-at-3 c = simp length-set (omega (arith, field_two c.args.n c.args.end c.if-n-lt10.false c.requires.0))

pub bounds-out-at-4 : goal.bounds-out-at-4
bounds-out-at-4 c = simp length-set (omega (arith, field_two c.args.n c.args.end c.if-n-lt10.false c.requires.0))

pub returns : goal.returns
returns c = place_two _ _ _ _ c.if-n-lt10.false c.requires.0
