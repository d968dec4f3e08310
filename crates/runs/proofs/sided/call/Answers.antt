-- `runs::sided::call` meets its contract: the moves under the order are the run's, at the side (`carried_by`).
use mathlib.Core.Path.{refl, sym, ◌∙◌}
use mathlib.Core.Bool.{false}
use Rattle.basics.proofs.Clash.{clash}
use Rattle.runs.specs.Sides.{side_of}
use Rattle.runs.proofs.SideRows.{given_works, sized_as}
use Rattle.runs.proofs.Wanting.{carried_by}
use Rattle.runs.proofs.sided.call.Goals as goal

pub call_omitting-requires : goal.call_omitting-requires
call_omitting-requires g c = (c.if-on.true, c.side_count-n.ensures c.args.on.now.table.now.rows)

pub invariant_of-by_cases : goal.invariant_of-by_cases
invariant_of-by_cases g c =
    let t = c.args.on.now.table.now in
    let own = sized_as g.S.Side.CASES t _ (c.side_count-n.ensures t.rows) c.side_rows-own.ensures in
    record {
      sized = own;
      long = refl;
      some = c.args.on.now.legal.gauges_low;
      few = c.args.on.now.legal.gauges_high;
    }

pub returns-then-CASES : goal.returns-then-CASES
returns-then-CASES g c =
    let t = c.args.on.now.table.now in
    carried_by t (side_of g.S.Side.CASES t) _ _ _ (c.side_count-n.ensures t.rows) c.side_rows-own.ensures _ false c.if-on.false
    (λ x. clash cc) _ _ _ _ _ _ _ _ c.call.ensures

pub invariant_of-by_gauges : goal.invariant_of-by_gauges
invariant_of-by_gauges g c =
    let t = c.args.on.now.table.now in
    let own = sized_as g.S.Side.CASES t _ (c.side_count-n.ensures t.rows)
    (given_works g.S.Side.CASES t c.args.on.now.legal (sym c.CASES.ensures ∙ c.if-CASES.false)) in
    record {
      sized = own;
      long = refl;
      some = c.args.on.now.legal.gauges_low;
      few = c.args.on.now.legal.gauges_high;
    }

pub returns : goal.returns
returns g c =
    let t = c.args.on.now.table.now in
    carried_by t (side_of g.S.Side.CASES t) _ _ _ (c.side_count-n.ensures t.rows)
    (given_works g.S.Side.CASES t c.args.on.now.legal (sym c.CASES.ensures ∙ c.if-CASES.false)) _ false c.if-on.false (λ x. clash cc) _ _ _ _ _ _ _ _
    c.call-2.ensures
