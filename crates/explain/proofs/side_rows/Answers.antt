-- `explain::side_rows` meets its contract: the table's rows, or these exchanged.
use mathlib.Core.Path.{sym, ◌∙◌}
use Rattle.explain.proofs.Answers.{turned_rows, given_rows}
use Rattle.explain.proofs.side_rows.Goals as goal

pub returns-then-CASES : goal.returns-then-CASES
returns-then-CASES g c = turned_rows g.S.Side.CASES c.args.t (sym c.CASES.ensures ∙ c.if-CASES.true) c.transposed.result c.transposed.ensures

pub returns : goal.returns
returns g c = given_rows g.S.Side.CASES c.args.t (sym c.CASES.ensures ∙ c.if-CASES.false)
