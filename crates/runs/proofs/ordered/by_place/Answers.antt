-- `runs::ordered::by_place` meets its contract: the core's call on the gathered rows and the picks by place is the call by place, its picks and chain
-- by number again (`arranged-carried`), or its refusal (`arranged-stopped`).
use mathlib.Core.Path.{◌≡◌, refl, sym, subst}
use borrow.Author.Rules.{rules}
use lib.ListN.{length}
use Rattle.std.proofs.Common.{Err}
use Rattle.runs.specs.Paused.{mode_phase}
use Rattle.runs.specs.private.Working.{Sized, omits, wanted_in}
use Rattle.runs.proofs.Ordering.{arranged_sized, arranged-stopped, arranged-carried}
use Rattle.runs.proofs.ordered.by_place.Goals as goal

pub call_arranged-requires : goal.call_arranged-requires
call_arranged-requires c =
    let w = c.args.work.now in
    let order-length : length c.args.order.now ≡ 64 = search rules in
    subst (Sized w.n) (sym c.gather-arranged.ensures) (arranged_sized w.n w.rows.now c.args.order.now w.sized order-length c.requires.0)

pub returns-in_err-report : goal.returns-in_err-report
returns-in_err-report c =
    let w = c.args.work.now in
    let e : c.from_residual.result ≡ Err c.in_err-report.field-0.0 = search rules in
    let order-length : length c.args.order.now ≡ 64 = search rules in
    let picks-length : length c.args.walk.now.picks ≡ 64 = search rules in
    rw e
    (arranged-stopped w.n w.rows.now c.args.order.now w.sized order-length c.requires.0 (omits w.wanted)
    (wanted_in w.wanted) c.args.walk.now.picks c.args.asked.count (mode_phase c.args.asked.mode) _ c.args.asked.budget c.args.places.now _ _
    w.long picks-length c.requires.1 c.gather-arranged.ensures c.renumber-made.ensures c.renumbered-mode.ensures _ _ _ _ _ c.in_err-report.ensures)

pub returns : goal.returns
returns c =
    let w = c.args.work.now in
    let order-length : length c.args.order.now ≡ 64 = search rules in
    let picks-length : length c.args.walk.now.picks ≡ 64 = search rules in
    arranged-carried w.n w.rows.now c.args.order.now w.sized order-length c.requires.0 (omits w.wanted)
    (wanted_in w.wanted) c.args.walk.now.picks c.args.asked.count (mode_phase c.args.asked.mode) _ c.args.asked.budget c.args.places.now _ _
    w.long picks-length c.requires.1 c.gather-arranged.ensures c.renumber-made.ensures c.renumbered-mode.ensures _ _ _ _ _ _
    c.in_ok-report.ensures c.gather-walk.ensures c.renumber-walk.ensures refl refl refl c.renumbered.ensures
