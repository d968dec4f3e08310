-- `runs::sided::side_rows` meets its contract: the table's rows turned, or as they are (`turned_works`, `given_works`).
use mathlib.Core.Path.{sym, ◌∙◌}
use Rattle.runs.proofs.SideRows.{turned_works, given_works}
use Rattle.runs.proofs.sided.side_rows.Goals as goal

pub returns-then-CASES : goal.returns-then-CASES
returns-then-CASES g c = turned_works g.S.Side.CASES c.args.on.now.table.now c.args.on.now.legal (sym c.CASES.ensures ∙ c.if-CASES.true) _ c.transposed.ensures

pub returns : goal.returns
returns g c = given_works g.S.Side.CASES c.args.on.now.table.now c.args.on.now.legal (sym c.CASES.ensures ∙ c.if-CASES.false)
