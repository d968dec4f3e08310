-- `runs::ordered::call` meets its contract: the plain order goes straight to the core (`plain_call`), and any other by order.
use mathlib.Core.Path.{◌≡◌}
use borrow.Author.Rules.{rules}
use lib.ListN.{length}
use Rattle.runs.proofs.Ordering.{plain_call}
use Rattle.runs.proofs.ordered.call.Goals as goal

pub returns-then-is_plain : goal.returns-then-is_plain
returns-then-is_plain c =
    let order-length : length c.args.order.now ≡ 64 = search rules in
    plain_call _ _ c.args.order.now c.args.work.now.sized order-length _ c.is_plain.ensures c.if-is_plain.true _ _ _ _ _ _ _ _ _ c.call.ensures
