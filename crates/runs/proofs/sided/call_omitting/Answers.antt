-- `runs::sided::call_omitting` meets its contract: the moves under the order are those of a run that omits, by the essential pairs (`carried_by`).
use mathlib.Core.Bool.{true}
use mathlib.Core.Path.{◌≡◌}
use borrow.Author.Rules.{rules}
use lib.ListN.{length}
use Rattle.runs.specs.Sides.{side_of}
use Rattle.runs.proofs.SideRows.{sized_as}
use Rattle.runs.proofs.Wanting.{carried_by}
use Rattle.runs.proofs.sided.call_omitting.Goals as goal

pub invariant_of-work : goal.invariant_of-work
invariant_of-work g c =
    let wanted-length : length c.wanted_rows-essential.result ≡ 64 = search rules in
    record {
      sized = sized_as g.S.Side.CASES c.args.on.now.table.now _ c.requires.1 c.side_rows-own.ensures;
      long = wanted-length;
      some = c.args.on.now.legal.gauges_low;
      few = c.args.on.now.legal.gauges_high;
    }

pub returns : goal.returns
returns g c =
    carried_by c.args.on.now.table.now (side_of g.S.Side.CASES c.args.on.now.table.now) _ _ _ c.requires.1 c.side_rows-own.ensures _ true c.requires.0
    (λ x. c.wanted_rows-essential.ensures) _ _ _ _ _ _ _ _ c.call.ensures
