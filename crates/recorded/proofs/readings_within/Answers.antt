-- `recorded::readings_within` meets its contract: a reading out of range decides.
use Rattle.std.proofs.Common.{rules, ◌≡◌, refl, nat_abs, false}
use Rattle.sets.proofs.Tabulated.{all_fails}
use Rattle.recorded.specs.Tests.{reading}
use Rattle.recorded.proofs.Turns.{within_no}
use Rattle.recorded.proofs.readings_within.Goals as goal

pub returns-then-magnitude-gt-MOST_READING : goal.returns-then-magnitude-gt-MOST_READING
returns-then-magnitude-gt-MOST_READING c =
    let p = c.loop-p.p in
    let vs = c.args.readings.now in
    let told : c.magnitude.result ≡ nat_abs (reading vs p) = search rules in
    all_fails _ 4096 p false c.loop-p-test.true (within_no vs p _ told c.if-magnitude-gt-MOST_READING.true) refl
