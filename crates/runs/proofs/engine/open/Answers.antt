-- `runs::engine::open` meets its contract: each test that fails is 15 or 18, and else the spot holds.
use mathlib.Core.Path.{◌≡◌, sym, ◌∙◌}
use borrow.Author.Rules.{rules}
use lib.ListN.{length}
use native.Mathlib.Omega.{arith}
use Rattle.runs.proofs.Opening.{open_filled, open-replay, open-phase, Passed, may_lay, open_budget, open-spot}
use Rattle.runs.proofs.engine.open.Goals as goal

pub returns-then-filled-asked : goal.returns-then-filled-asked
returns-then-filled-asked c =
    let picks-length : length c.args.picks.now ≡ 64 = search rules in
    open_filled _ _ _ _ _ c.args.asked.budget c.args.work.now.sized picks-length _ _ c.filled.ensures c.if-filled-asked.true

pub returns-in_default : goal.returns-in_default
returns-in_default c =
    let picks-length : length c.args.picks.now ≡ 64 = search rules in
    open-replay _ _ _ _ _ c.args.asked.budget c.args.work.now.sized picks-length _ _ c.replay.ensures c.in_default.is

pub returns-then-not-phase_fits : goal.returns-then-not-phase_fits
returns-then-not-phase_fits c =
    let picks-length : length c.args.picks.now ≡ 64 = search rules in
    open-phase _ _ _ _ _ c.args.asked.budget c.args.work.now.sized picks-length _ _ c.replay.ensures _ c.in-Some.is _
    c.phase_fits.ensures c.if-not-phase_fits.true

pub returns-then-asked-gt-MOST_BUDGET : goal.returns-then-asked-gt-MOST_BUDGET
returns-then-asked-gt-MOST_BUDGET c =
    let picks-length : length c.args.picks.now ≡ 64 = search rules in
    let passed : (Passed c.args.work.now.n c.args.work.now.rows.now c.args.picks.now c.args.asked.count c.args.asked.mode c.in-Some.seen) = record {
      sized = c.args.work.now.sized;
      places = picks-length;
      full = sym c.filled.ensures ∙ c.if-filled-asked.false;
      made = c.replay.ensures.yes _ c.in-Some.is;
      phase = c.phase_fits.ensures.yes c.if-not-phase_fits.false;
    } in
    open_budget _ _ _ _ _ _ _ passed _ (omega (arith, c.if-asked-gt-MOST_BUDGET.true))

pub lay-requires : goal.lay-requires
lay-requires c =
    let picks-length : length c.args.picks.now ≡ 64 = search rules in
    let passed : (Passed c.args.work.now.n c.args.work.now.rows.now c.args.picks.now c.args.asked.count c.args.asked.mode c.in-Some.seen) = record {
      sized = c.args.work.now.sized;
      places = picks-length;
      full = sym c.filled.ensures ∙ c.if-filled-asked.false;
      made = c.replay.ensures.yes _ c.in-Some.is;
      phase = c.phase_fits.ensures.yes c.if-not-phase_fits.false;
    } in
    may_lay _ _ _ _ _ c.args.asked.budget _ passed

pub returns : goal.returns
returns c =
    let picks-length : length c.args.picks.now ≡ 64 = search rules in
    let passed : (Passed c.args.work.now.n c.args.work.now.rows.now c.args.picks.now c.args.asked.count c.args.asked.mode c.in-Some.seen) = record {
      sized = c.args.work.now.sized;
      places = picks-length;
      full = sym c.filled.ensures ∙ c.if-filled-asked.false;
      made = c.replay.ensures.yes _ c.in-Some.is;
      phase = c.phase_fits.ensures.yes c.if-not-phase_fits.false;
    } in
    open-spot _ _ _ _ _ _ _ passed _ c.lay.ensures (omega (arith, c.if-asked-gt-MOST_BUDGET.false))
