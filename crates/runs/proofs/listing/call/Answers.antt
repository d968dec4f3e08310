-- `runs::listing::call` meets its contract: the plain order goes straight to the core (`plain_list`), what is no
-- arrangement is refused (`refused_list`), and any other order goes by place.
use mathlib.Core.Path.{◌≡◌}
use borrow.Author.Rules.{rules}
use lib.ListN.{length}
use Rattle.preference.proofs.Placing.{places_are, places_none}
use Rattle.runs.proofs.Batching.{plain_list, refused_list}
use Rattle.runs.proofs.listing.call.Goals as goal

pub returns-then-is_plain : goal.returns-then-is_plain
returns-then-is_plain c =
    let order-length : length c.args.order.now ≡ 64 = search rules in
    plain_list _ _ c.args.order.now c.args.work.now.sized order-length _ c.is_plain.ensures c.if-is_plain.true _ _ _ _ _ _ _ _ _ _ _ _ _ c.list.ensures

pub returns-in_default : goal.returns-in_default
returns-in_default c = refused_list _ _ _ _ _ _ _ _ _ _ _ _ (places_none _ _ _ c.place_all.ensures c.in_default.is)

pub by_place-requires : goal.by_place-requires
by_place-requires c = places_are _ _ _ c.place_all.ensures c.in-Some.is
