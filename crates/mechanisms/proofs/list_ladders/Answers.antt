-- `mechanisms::list_ladders` meets its contract: each turn has one ladder more (`ListingFrom`).
use Rattle.std.proofs.Common.{◌≡◌, ◌+◌, arith, false, Ok}
use Rattle.rules.specs.Machine.{fresh}
use Rattle.preference.specs.Preferences.{plain_numbers}
use Rattle.runs.specs.Paused.{gauge_value, start_of, paused}
use Rattle.mechanisms.proofs.Listing.{started, start_given, listing_turn, listing-stops, listing-passes}
use Rattle.mechanisms.proofs.list_ladders.Goals as goal

-- the run is over
pub returns-in_default : goal.returns-in_default
returns-in_default c =
    let began : gauge_value c.unwrap-run.result ≡ paused c.args.t (plain_numbers c.args.t.gauges) false fresh =
    started c.args.t c.requires.small_table _ c.plain.ensures (start_of (λ x. x.0) (Ok c.unwrap-run.result)) (rw c.unwrap-run.ensures at c.start.ensures.result_value) in
    listing-stops _ _ _ _ c.loop-n.invariant c.args.t c.requires.small_table began c.in_default.ensures

-- one ladder more
pub loop-n-preserved : goal.loop-n-preserved
loop-n-preserved c = listing_turn _ _ _ _ c.loop-n.invariant _ _ c.in-Some.ensures c.loop-n-test.true

-- after 1,024
pub returns-in-None : goal.returns-in-None
returns-in-None c =
    let began : gauge_value c.unwrap-run.result ≡ paused c.args.t (plain_numbers c.args.t.gauges) false fresh =
    started c.args.t c.requires.small_table _ c.plain.ensures (start_of (λ x. x.0) (Ok c.unwrap-run.result)) (rw c.unwrap-run.ensures at c.start.ensures.result_value) in
    let e : c.loop-n.n ≡ 1024 = omega arith in
    rw (← e) (listing-stops _ _ _ _ c.loop-n.invariant c.args.t c.requires.small_table began c.in-None.ensures)

pub returns-in-Some-next_ladder : goal.returns-in-Some-next_ladder
returns-in-Some-next_ladder c =
    let began : gauge_value c.unwrap-run.result ≡ paused c.args.t (plain_numbers c.args.t.gauges) false fresh =
    started c.args.t c.requires.small_table _ c.plain.ensures (start_of (λ x. x.0) (Ok c.unwrap-run.result)) (rw c.unwrap-run.ensures at c.start.ensures.result_value) in
    let e : c.loop-n.n + 1 ≡ 1025 = omega arith in
    rw (← e) (listing-passes _ _ _ _ c.loop-n.invariant c.args.t c.requires.small_table began _ _ c.in-Some-next_ladder.ensures c.loop-n-test.false)

-- the start is not refused
pub unwrap-run-requires : goal.unwrap-run-requires
unwrap-run-requires c = start_given c.args.t c.requires.small_table _ c.plain.ensures c.start.result c.start.ensures.result_value
