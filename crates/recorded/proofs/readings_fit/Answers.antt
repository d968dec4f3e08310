-- `recorded::readings_fit` meets its contract: a reading that does not fit decides.
use Rattle.std.proofs.Common.{rules, ◌≡◌, ◌/◌, ◌%◌}
use Rattle.sets.proofs.Tabulated.{all_fails}
use Rattle.table.specs.Pairs.{row}
use Rattle.recorded.specs.Tests.{place_fits, reading}
use Rattle.recorded.proofs.Turns.{fits_place}
use Rattle.recorded.proofs.readings_fit.Goals as goal

pub returns-then-not-place_fits : goal.returns-then-not-place_fits
returns-then-not-place_fits c =
    let p = c.loop-p.p in
    let vs = c.args.readings.now in
    let told : c.place_fits.result ≡ place_fits (row c.args.rows.now (p / 64)) (p % 64) (reading vs p) = search rules in
    all_fails _ 4096 p _ c.loop-p-test.true (fits_place c.args.rows.now vs p _ told) c.if-not-place_fits.true
