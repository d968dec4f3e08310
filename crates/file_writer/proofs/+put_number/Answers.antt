-- `file_writer::put_number` meets its contract: one digit, or the number without its last digit and then that digit.
use native.Mathlib.Omega.{arith}
use Rattle.file_writer.proofs.Stores.{wrote_short, wrote_long, wrote_length}
use Rattle.file_writer.proofs.Decimals.{decimal_some, digits_long_length}
use Rattle.file_writer.proofs.+put_number.Goals as goal

pub bounds-out-at : goal.bounds-out-at
bounds-out-at t c = omega (arith, decimal_some 8 c.args.n)

pub returns-then-n-lt10 : goal.returns-then-n-lt10
returns-then-n-lt10 t c = wrote_short c.if-n-lt10.true

pub put_number-p-requires : goal.put_number-p-requires
put_number-p-requires t c =
    let d = digits_long_length c.args.n c.if-n-lt10.false c.requires.0 in
    (omega (arith, c.if-n-lt10.false, c.decreases), (omega (arith, c.requires), omega (arith, d, c.requires.1)))

pub bounds-out-p : goal.bounds-out-p
bounds-out-p t c =
    let d = digits_long_length c.args.n c.if-n-lt10.false c.requires.0 in
    omega (arith, d, c.put_number-p.ensures.place, wrote_length c.put_number-p.ensures, c.requires.1)

pub overflow_add-result-2 : goal.overflow_add-result-2
overflow_add-result-2 t c =
    let d = digits_long_length c.args.n c.if-n-lt10.false c.requires.0 in
    omega (arith, d, c.put_number-p.ensures.place, wrote_length c.put_number-p.ensures, c.requires.1)

pub returns : goal.returns
returns t c = wrote_long c.if-n-lt10.false c.requires.0 c.put_number-p.ensures
