-- `file_writer::put_reading` meets its contract: a sign where the reading is negative, and then its magnitude and the LF.
use mathlib.Core.Path.{◌≡◌, ap, ◌∙◌}
use mathlib.Core.List.{◌∷◌}
use native.Mathlib.Omega.{arith}
use lib.IntN.{nat_abs}
use lib.ListN.{length, length-set}
use mir.Facts.{to_z-of_z}
use Rattle.file_writer.specs.private.StoreSteps.{reading_bytes, field_bytes}
use Rattle.file_writer.proofs.Readings.{text_minus, text_plain}
use Rattle.file_writer.proofs.Stores.{wrote_both, wrote_byte}
use Rattle.file_writer.proofs.put_reading.Goals as goal

pub put_field-requires : goal.put_field-requires
put_field-requires c =
    let size_is : c.magnitude-size.result ≡ nat_abs c.args.v = c.magnitude-size.ensures ∙ ap nat_abs (to_z-of_z c.ranges.v) in
    let minus-bytes : reading_bytes c.args.v ≡ 45 ∷ field_bytes c.magnitude-size.result 10 = rw (text_minus _ _ (to_z-of_z c.ranges.v) _ size_is c.if-v-lt0.true) in
    (omega (arith, size_is, c.requires.0), rw length-set (omega (arith, ap length minus-bytes, c.requires.1)))

pub returns-then-v-lt0 : goal.returns-then-v-lt0
returns-then-v-lt0 c =
    let size_is : c.magnitude-size.result ≡ nat_abs c.args.v = c.magnitude-size.ensures ∙ ap nat_abs (to_z-of_z c.ranges.v) in
    let minus-bytes : reading_bytes c.args.v ≡ 45 ∷ field_bytes c.magnitude-size.result 10 = rw (text_minus _ _ (to_z-of_z c.ranges.v) _ size_is c.if-v-lt0.true) in
    rw minus-bytes (wrote_both (wrote_byte c.args.out.now c.args.at 45) c.put_field.ensures)

pub put_field-requires-2 : goal.put_field-requires-2
put_field-requires-2 c =
    let size_is : c.magnitude-size.result ≡ nat_abs c.args.v = c.magnitude-size.ensures ∙ ap nat_abs (to_z-of_z c.ranges.v) in
    let plain-bytes : reading_bytes c.args.v ≡ field_bytes c.magnitude-size.result 10 = rw (text_plain _ _ (to_z-of_z c.ranges.v) _ size_is c.if-v-lt0.false) in
    (omega (arith, size_is, c.requires.0), omega (arith, ap length plain-bytes, c.requires.1))

pub returns : goal.returns
returns c =
    let size_is : c.magnitude-size.result ≡ nat_abs c.args.v = c.magnitude-size.ensures ∙ ap nat_abs (to_z-of_z c.ranges.v) in
    let plain-bytes : reading_bytes c.args.v ≡ field_bytes c.magnitude-size.result 10 = rw (text_plain _ _ (to_z-of_z c.ranges.v) _ size_is c.if-v-lt0.false) in
    rw plain-bytes c.put_field-2.ensures
