-- `runs::sided::wanted_rows` meets its contract: the essential pairs, turned where the rows are (`turned_wants`, `given_wants`).
use mathlib.Core.Path.{sym, ◌∙◌}
use Rattle.table.proofs.Legality.{legal_passes}
use Rattle.essentials.proofs.Answers.{found_ok}
use Rattle.runs.proofs.SideRows.{turned_wants, given_wants}
use Rattle.runs.proofs.sided.wanted_rows.Goals as goal

pub unwrap-requires : goal.unwrap-requires
unwrap-requires g c = found_ok _ (c.essential_rows.ensures.refusal ∙ legal_passes _ c.args.on.now.legal)

pub returns-then-CASES : goal.returns-then-CASES
returns-then-CASES g c =
    let found = rw c.unwrap.ensures at c.essential_rows.ensures in
    turned_wants g.S.Side.CASES c.args.on.now.table.now c.args.on.now.legal (sym c.CASES.ensures ∙ c.if-CASES.true) _ found _ c.transposed.ensures

pub returns : goal.returns
returns g c =
    let found = rw c.unwrap.ensures at c.essential_rows.ensures in
    given_wants g.S.Side.CASES c.args.on.now.table.now c.args.on.now.legal (sym c.CASES.ensures ∙ c.if-CASES.false) _ found
