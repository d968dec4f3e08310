-- `preference::check_order` meets its contract.
use Rattle.preference.proofs.Placing.{order_refused, order_passes}
use Rattle.preference.proofs.check_order.Goals as goal

pub returns-in-Some : goal.returns-in-Some
returns-in-Some c = order_passes _ _ _ c.place_all.ensures c.in-Some.is

pub returns-in-None : goal.returns-in-None
returns-in-None c = order_refused _ _ _ c.place_all.ensures c.in-None.is
