-- `runs::ordered::by_order` meets its contract: what is no arrangement is refused (`refused-order`), and an order goes by place.
use Rattle.preference.proofs.Placing.{places_are, places_none}
use Rattle.runs.proofs.Ordering.{refused_order}
use Rattle.runs.proofs.ordered.by_order.Goals as goal

pub returns-in_default : goal.returns-in_default
returns-in_default c = refused_order _ _ _ _ _ _ _ _ _ _ (places_none _ _ _ c.place_all.ensures c.in_default.is)

pub by_place-requires : goal.by_place-requires
by_place-requires c = places_are _ _ _ c.place_all.ensures c.in-Some.is
