-- `runs::sided::list` meets its contract: the moves and the ladders of the core are the run's (`listed_by`, `side_out`).
use mathlib.Core.Path.{◌≡◌, sym}
use borrow.Author.Rules.{rules}
use lib.ListN.{length}
use Rattle.runs.specs.Sides.{side_of}
use Rattle.runs.specs.private.Working.{wanted_in}
use Rattle.runs.proofs.SideRows.{sized_as, side_out, wants_where}
use Rattle.runs.proofs.BatchSides.{listed_by}
use Rattle.runs.proofs.sided.list.Goals as goal

pub invariant_of-work : goal.invariant_of-work
invariant_of-work g c =
    let t = c.args.on.now.table.now in
    let wanted-length : length (wanted_in c.as_ref-wanted.result) ≡ 64 = search rules in
    record {
      sized = sized_as g.S.Side.CASES t _ (c.side_count-n.ensures t.rows) c.side_rows-own.ensures;
      long = wanted-length;
      some = c.args.on.now.legal.gauges_low;
      few = c.args.on.now.legal.gauges_high;
    }

pub returns : goal.returns
returns g c =
    let t = c.args.on.now.table.now in
    let wants = wants_where c.args.on.now.omit t (side_of g.S.Side.CASES t) c.as_ref-wanted.result (rw (sym c.as_ref-wanted.ensures.value) at c.wanted_where-pairs.ensures) in
    rw (sym wants.0)
    (listed_by t (side_of g.S.Side.CASES t) _ _ _ (c.side_count-n.ensures t.rows) c.side_rows-own.ensures _
    wants.1 c.CASES.result _ _ (λ p. rw c.CASES.ensures (side_out g.S.Side.CASES t c.args.on.now.legal p)) _ _ _ _ _ _ _ _ _
    c.call.ensures)
