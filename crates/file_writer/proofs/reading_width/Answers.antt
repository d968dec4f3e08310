-- `file_writer::reading_width` meets its contract: the digits of the magnitude, and the sign of a negative reading (`text_minus`, `text_plain`).
use mathlib.Core.Path.{◌≡◌, ap, ◌∙◌}
use native.Mathlib.Omega.{arith}
use lib.IntN.{nat_abs}
use lib.ListN.{length}
use mir.Facts.{to_z-of_z}
use Rattle.file_writer.proofs.Readings.{text_minus, text_plain}
use Rattle.file_writer.proofs.reading_width.Goals as goal

pub returns-then-v-lt0 : goal.returns-then-v-lt0
returns-then-v-lt0 c =
    let size_is : c.magnitude.result ≡ nat_abs c.args.v = c.magnitude.ensures ∙ ap nat_abs (to_z-of_z c.ranges.v) in
    omega (arith, c.number_width-width.ensures.is, ap length (text_minus _ _ (to_z-of_z c.ranges.v) _ size_is c.if-v-lt0.true))

pub returns : goal.returns
returns c =
    let size_is : c.magnitude.result ≡ nat_abs c.args.v = c.magnitude.ensures ∙ ap nat_abs (to_z-of_z c.ranges.v) in
    omega (arith, c.number_width-width.ensures.is, ap length (text_plain _ _ (to_z-of_z c.ranges.v) _ size_is c.if-v-lt0.false))
