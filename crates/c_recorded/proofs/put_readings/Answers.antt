-- `c_recorded::put_readings` meets its contract: the readings passed are stored.
use borrow.Author.Rules.{rules, sfits_of}
use mir.Facts.{to_z-of_z}
use native.Mathlib.Omega.{arith}
use mathlib.Core.Path.{◌≡◌}
use lib.ListN.{length}
use Rattle.c_recorded.proofs.Readings.{put_more}
use Rattle.std.proofs.Common.{w32}
use Rattle.c_recorded.proofs.put_readings.Goals as goal

pub loop-i-preserved : goal.loop-i-preserved
loop-i-preserved c =
    let size : length c.args.readings ≡ 4096 = search rules in
    put_more c.args.readings c.loop-i.i c.loop-i.invariant (omega (arith, size)) (to_z-of_z {w = mir.Syntax.w32} (sfits_of c.v-1.given)) c.put_reading.ensures
