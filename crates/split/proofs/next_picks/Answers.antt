-- `split::next_picks` meets its contract: a number of the order is found or passed over (`found-one`, `found_none`), until none is left
-- (`found_all`).
use mathlib.Core.Path.{◌≡◌, ap, subst}
use mathlib.Core.List.{List}
use Prim.Native.Nat.{ℕ, ◌≤◌, ◌<◌}
use native.Mathlib.Omega.{arith}
use borrow.Author.Rules.{rules}
use lib.ListN.{length, get_or}
use Rattle.runs.specs.Calling.{value_refusal}
use Rattle.runs.specs.Paused.{value_of}
use Rattle.runs.specs.Sides.{side_of}
use Rattle.runs.proofs.Demands.{Starts}
use Rattle.runs.proofs.Marked.{side_started, side_few}
use Rattle.split.specs.private.Trying.{TakesAt}
use Rattle.split.proofs.Finding.{found_nothing, found-one, found_none, found_all}
use Rattle.split.proofs.next_picks.Goals as goal
use Rattle.split.proofs.next_picks.Goals.{then-takes_pick, else-takes_pick}

pub loop-i-init : goal.loop-i-init
loop-i-init g c = (omega arith, found_nothing (side_of g.S.Side.CASES) (value_of g.S.Side.number c.args.p))

pub loop-i-preserved : goal.loop-i-preserved
loop-i-preserved g c =
    let order-length : length c.args.p.order.numbers ≡ 64 = search rules in
    let rows-length : length c.args.p.table.rows ≡ 64 = search rules in
    let starts : Starts (side_of g.S.Side.CASES) (value_of g.S.Side.number c.args.p) = side_started g.S.Side.CASES (value_of g.S.Side.number c.args.p) rows-length order-length in
    let few : value_refusal (side_of g.S.Side.CASES) (value_of g.S.Side.number c.args.p) ≡ 0 → ((side_of g.S.Side.CASES) c.args.p.table).count ≤ 64 = side_few g.S.Side.CASES (value_of g.S.Side.number c.args.p) starts in
    let below : c.loop-i.i < ((side_of g.S.Side.CASES) c.args.p.table).count = omega (arith, c.loop-i-test.true, c.min-i-end.ensures, c.requires.0) in
    let number : get_or c.args.order.now c.loop-i.i 0 ≡ get_or c.args.p.order.numbers c.loop-i.i 0 = ap (λ (l : List ℕ). get_or l c.loop-i.i 0) c.requires.1 in
    elim c.if-takes_pick.branch [
      | then-takes_pick w ↦ rw (w.picks-is, w.found-is) (
        omega (arith, c.loop-i.invariant.0),
        found-one (side_of g.S.Side.CASES) (value_of g.S.Side.number c.args.p) starts few order-length c.loop-i.picks c.loop-i.found c.loop-i.i below c.loop-i.invariant.1
            _ number (subst (TakesAt (side_of g.S.Side.CASES) (value_of g.S.Side.number c.args.p) _) w.if-takes_pick.true c.takes_pick.ensures)
            (omega (arith, c.loop-i.invariant.0, c.loop-i-test.true, c.min-i-end.ensures)),
      )
      | else-takes_pick w ↦ rw (w.picks-is, w.found-is) (
        omega (arith, c.loop-i.invariant.0),
        found_none (side_of g.S.Side.CASES) (value_of g.S.Side.number c.args.p) starts few order-length c.loop-i.picks c.loop-i.found c.loop-i.i below c.loop-i.invariant.1
            _ number (subst (TakesAt (side_of g.S.Side.CASES) (value_of g.S.Side.number c.args.p) _) w.if-takes_pick.false c.takes_pick.ensures),
      )
    ]

pub returns : goal.returns
returns g c =
    let order-length : length c.args.p.order.numbers ≡ 64 = search rules in
    let rows-length : length c.args.p.table.rows ≡ 64 = search rules in
    let starts : Starts (side_of g.S.Side.CASES) (value_of g.S.Side.number c.args.p) = side_started g.S.Side.CASES (value_of g.S.Side.number c.args.p) rows-length order-length in
    let few : value_refusal (side_of g.S.Side.CASES) (value_of g.S.Side.number c.args.p) ≡ 0 → ((side_of g.S.Side.CASES) c.args.p.table).count ≤ 64 = side_few g.S.Side.CASES (value_of g.S.Side.number c.args.p) starts in
    found_all (side_of g.S.Side.CASES) (value_of g.S.Side.number c.args.p) starts few order-length c.loop-i.picks c.loop-i.found c.loop-i.i c.loop-i.invariant.1
    (λ z. omega (arith, few z, c.loop-i-test.false, c.min-i-end.ensures, c.requires.0))
