-- `split::try_pick` meets its contract: without room, or for too large a number, there is no candidate (`no_room`, `too_large`); else the checks of
-- the value with one pick more tell (`not_taken`, `is-taken`). Run calls from either value list its part (`lists_part`, `lists_blank`).
use mathlib.Core.Path.{◌≡◌, ap, subst}
use Prim.Native.Nat.{◌≤◌}
use borrow.Author.Rules.{rules}
use lib.ListN.{length}
use Rattle.refusals.specs.Answers.{verdict}
use Rattle.rules.specs.Machine.{Down}
use Rattle.runs.specs.Paused.{Value, value_of}
use Rattle.runs.specs.Calling.{value_refusal}
use Rattle.runs.specs.Sides.{side_of, ChecksAt}
use Rattle.runs.proofs.Demands.{Starts}
use Rattle.runs.proofs.Marked.{side_started, side_few}
use Rattle.split.specs.private.Trying.{one_more}
use Rattle.split.proofs.Trying.{refused_pos, no_room, too_large, not_taken, is-taken}
use Rattle.split.proofs.PartRuns.{lists_part, lists_blank}
use Rattle.split.proofs.try_pick.Goals as goal

pub returns-then-p-ge-PLACES-clause-tried_at : goal.returns-then-p-ge-PLACES-clause-tried_at
returns-then-p-ge-PLACES-clause-tried_at g c =
    let rows-length : length c.args.p.table.rows ≡ 64 = search rules in
    let order-length : length c.args.p.order.numbers ≡ 64 = search rules in
    let starts : Starts (side_of g.S.Side.CASES) (value_of g.S.Side.number c.args.p) = side_started g.S.Side.CASES (value_of g.S.Side.number c.args.p) rows-length order-length in
    let few : value_refusal (side_of g.S.Side.CASES) (value_of g.S.Side.number c.args.p) ≡ 0 → (side_of g.S.Side.CASES c.args.p.table).count ≤ 64 = side_few g.S.Side.CASES (value_of g.S.Side.number c.args.p) starts in
    no_room (side_of g.S.Side.CASES) (value_of g.S.Side.number c.args.p) starts few c.args.g c.if-p-ge-PLACES.true

pub returns-then-g-gt-PLACES-clause-tried_at : goal.returns-then-g-gt-PLACES-clause-tried_at
returns-then-g-gt-PLACES-clause-tried_at g c =
    let rows-length : length c.args.p.table.rows ≡ 64 = search rules in
    let order-length : length c.args.p.order.numbers ≡ 64 = search rules in
    let starts : Starts (side_of g.S.Side.CASES) (value_of g.S.Side.number c.args.p) = side_started g.S.Side.CASES (value_of g.S.Side.number c.args.p) rows-length order-length in
    let few : value_refusal (side_of g.S.Side.CASES) (value_of g.S.Side.number c.args.p) ≡ 0 → (side_of g.S.Side.CASES c.args.p.table).count ≤ 64 = side_few g.S.Side.CASES (value_of g.S.Side.number c.args.p) starts in
    too_large (side_of g.S.Side.CASES) (value_of g.S.Side.number c.args.p) starts few c.args.g c.if-g-gt-PLACES.true

pub returns-in-Err-clause-tried_at : goal.returns-in-Err-clause-tried_at
returns-in-Err-clause-tried_at g c =
    let rows-length : length c.args.p.table.rows ≡ 64 = search rules in
    let order-length : length c.args.p.order.numbers ≡ 64 = search rules in
    let starts : Starts (side_of g.S.Side.CASES) (value_of g.S.Side.number c.args.p) = side_started g.S.Side.CASES (value_of g.S.Side.number c.args.p) rows-length order-length in
    let few : value_refusal (side_of g.S.Side.CASES) (value_of g.S.Side.number c.args.p) ≡ 0 → (side_of g.S.Side.CASES c.args.p.table).count ≤ 64 = side_few g.S.Side.CASES (value_of g.S.Side.number c.args.p) starts in
    let checks : ChecksAt (side_of g.S.Side.CASES) (one_more (value_of g.S.Side.number c.args.p) c.args.g) Down (verdict c.check_down.result) =
    subst (λ (v : Value). ChecksAt (side_of g.S.Side.CASES) v Down (verdict c.check_down.result)) c.one_more-next.ensures c.check_down.ensures in
    not_taken (side_of g.S.Side.CASES) (value_of g.S.Side.number c.args.p) starts few c.args.g c.if-p-ge-PLACES.false _ checks (refused_pos _ _ c.in-Err.is)

pub returns-in-Ok-clause-tried_at : goal.returns-in-Ok-clause-tried_at
returns-in-Ok-clause-tried_at g c =
    let rows-length : length c.args.p.table.rows ≡ 64 = search rules in
    let order-length : length c.args.p.order.numbers ≡ 64 = search rules in
    let starts : Starts (side_of g.S.Side.CASES) (value_of g.S.Side.number c.args.p) = side_started g.S.Side.CASES (value_of g.S.Side.number c.args.p) rows-length order-length in
    let few : value_refusal (side_of g.S.Side.CASES) (value_of g.S.Side.number c.args.p) ≡ 0 → (side_of g.S.Side.CASES c.args.p.table).count ≤ 64 = side_few g.S.Side.CASES (value_of g.S.Side.number c.args.p) starts in
    let checks : ChecksAt (side_of g.S.Side.CASES) (one_more (value_of g.S.Side.number c.args.p) c.args.g) Down (verdict c.check_down.result) =
    subst (λ (v : Value). ChecksAt (side_of g.S.Side.CASES) v Down (verdict c.check_down.result)) c.one_more-next.ensures c.check_down.ensures in
    is-taken (side_of g.S.Side.CASES) (value_of g.S.Side.number c.args.p) starts few c.args.g c.if-p-ge-PLACES.false _ checks (ap verdict c.in-Ok.is) _ c.one_more-next.ensures

pub returns-then-p-ge-PLACES-clause-lists : goal.returns-then-p-ge-PLACES-clause-lists
returns-then-p-ge-PLACES-clause-lists g c = lists_blank g.S.Side.CASES

pub returns-then-g-gt-PLACES-clause-lists : goal.returns-then-g-gt-PLACES-clause-lists
returns-then-g-gt-PLACES-clause-lists g c = lists_blank g.S.Side.CASES

pub returns-in-Err-clause-lists : goal.returns-in-Err-clause-lists
returns-in-Err-clause-lists g c = lists_blank g.S.Side.CASES

pub returns-in-Ok-clause-lists : goal.returns-in-Ok-clause-lists
returns-in-Ok-clause-lists g c =
    let rows-length : length c.one_more-next.result.table.rows ≡ 64 = search rules in
    let order-length : length c.one_more-next.result.order.numbers ≡ 64 = search rules in
    let v : Value = value_of g.S.Side.number c.one_more-next.result in
    lists_part (side_of g.S.Side.CASES) v (side_started g.S.Side.CASES v rows-length order-length)
