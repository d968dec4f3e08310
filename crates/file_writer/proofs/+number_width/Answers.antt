-- `file_writer::number_width` meets its contract: one digit, or the digits of the number without its last and one more.
use Rattle.file_writer.proofs.Decimals.{width_short, width_long}
use Rattle.file_writer.proofs.+number_width.Goals as goal

pub returns-then-n-lt10 : goal.returns-then-n-lt10
returns-then-n-lt10 t c = width_short _ c.if-n-lt10.true

pub returns : goal.returns
returns t c = width_long _ _ c.if-n-lt10.false c.requires c.number_width.ensures
