-- `runs::listing::by_place` meets its contract: the batch on the gathered rows and the picks by place is the batch by place, its picks by number again
-- (`arranged_list`), or its refusal (`arranged_stopped`).
use mathlib.Core.Path.{◌≡◌, refl, sym, ◌∙◌, subst}
use lib.ListN.{length}
use Rattle.std.proofs.Common.{Err}
use Rattle.runs.specs.Paused.{mode_phase}
use Rattle.runs.specs.private.Working.{Sized, omits, wanted_in}
use Rattle.runs.proofs.Ordering.{arranged_sized, gathered_size, gathered_moves}
use Rattle.runs.proofs.Batching.{arranged_stopped, arranged_list}
use borrow.Author.Rules.{rules}
use Rattle.runs.proofs.listing.by_place.Goals as goal

pub invariant_of-arranged : goal.invariant_of-arranged
invariant_of-arranged c =
    let w = c.args.work.now in
    let order-length : length c.args.order.now ≡ 64 = search rules in
    record {
      sized = subst (Sized w.n) (sym c.gather-rows.ensures) (arranged_sized w.n w.rows.now c.args.order.now w.sized order-length c.requires.0);
      long = gathered_size w.wanted w.n c.args.order.now c.as_ref-wanted.result (c.as_ref-wanted.ensures.value ∙ c.gather_wanted-gathered.ensures);
      some = w.some;
      few = w.few;
    }

pub returns-in_err-tally : goal.returns-in_err-tally
returns-in_err-tally c =
    let w = c.args.work.now in
    let e : c.from_residual.result ≡ Err c.in_err-tally.field-0.0 = search rules in
    let order-length : length c.args.order.now ≡ 64 = search rules in
    let picks-length : length c.args.picks.now ≡ 64 = search rules in
    rw e
    (arranged_stopped w.n w.rows.now c.args.order.now w.sized order-length c.requires.0 w.turned
    (omits w.wanted) (wanted_in w.wanted) c.args.picks.now c.args.asked.count (mode_phase c.args.asked.mode) _ c.args.asked.budget w.gauges _
    c.args.places.now _ _ _ w.long picks-length c.requires.1 c.gather-rows.ensures refl c.renumber-made.ensures
    c.renumbered-mode.ensures _ _ _ _ _
    (rw (gathered_moves _ w.wanted w.n c.args.order.now c.as_ref-wanted.result (c.as_ref-wanted.ensures.value ∙ c.gather_wanted-gathered.ensures)) at c.in_err-tally.ensures))

pub returns : goal.returns
returns c =
    let w = c.args.work.now in
    let order-length : length c.args.order.now ≡ 64 = search rules in
    let picks-length : length c.args.picks.now ≡ 64 = search rules in
    arranged_list w.n w.rows.now c.args.order.now w.sized order-length c.requires.0 w.turned
    (omits w.wanted) (wanted_in w.wanted) c.args.picks.now c.args.asked.count (mode_phase c.args.asked.mode) _ c.args.asked.budget w.gauges _
    c.args.places.now _ _ _ w.long picks-length c.requires.1 c.gather-rows.ensures refl c.renumber-made.ensures
    c.renumbered-mode.ensures _ _ _ _ _ _
    (rw (gathered_moves _ w.wanted w.n c.args.order.now c.as_ref-wanted.result (c.as_ref-wanted.ensures.value ∙ c.gather_wanted-gathered.ensures)) at c.in_ok-tally.ensures)
    c.renumber.ensures refl refl refl refl c.renumbered.ensures
