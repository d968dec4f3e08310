-- `runs::Run::call` meets its contract: what the core's call was told, as the answer of the run (`side_refused`, `side_handed`, `side_spent`, `side_over`).
use mathlib.Core.Path.{◌≡◌, sym, ap, subst}
use borrow.Author.Rules.{rules}
use lib.ListN.{length}
use Rattle.std.proofs.Common.{Err}
use Rattle.runs.specs.Paused.{value_of}
use Rattle.runs.specs.Calling.{step_of}
use Rattle.runs.proofs.Marked.{Promises, side_refused, side_handed, side_spent, side_over}
use Rattle.runs.proofs.paused.Run.call.Goals as goal

pub returns-in_err-report : goal.returns-in_err-report
returns-in_err-report g c =
    let rows-length : length c.args.self.table.rows ≡ 64 = search rules in
    let order-length : length c.args.self.order.numbers ≡ 64 = search rules in
    let e : c.from_residual.result ≡ Err c.in_err-report.field-0.0 = search rules in
    let p =
    subst (Promises g.S.Side.CASES (value_of g.S.Side.number c.args.self) _) (sym (ap (step_of g.S.Side.number) e))
    (side_refused g.S.Side.CASES (value_of g.S.Side.number c.args.self) _ _ _ rows-length order-length _ c.in_err-report.ensures) in
    record { called = p.called; demand = p.demand; either = p.either; omits = p.omits }

pub returns-in-HandedOut : goal.returns-in-HandedOut
returns-in-HandedOut g c =
    let rows-length : length c.args.self.table.rows ≡ 64 = search rules in
    let order-length : length c.args.self.order.numbers ≡ 64 = search rules in
    let p =
    side_handed g.S.Side.CASES (value_of g.S.Side.number c.args.self) _ _ _ rows-length order-length _ c.in_ok-report.ensures _ c.phase_of-next.ensures _
    c.new-next.ensures _ c.gauge_chain.ensures _ c.new.ensures c.in-HandedOut.is in
    record { called = p.called; demand = p.demand; either = p.either; omits = p.omits }

pub returns-in-Spent : goal.returns-in-Spent
returns-in-Spent g c =
    let rows-length : length c.args.self.table.rows ≡ 64 = search rules in
    let order-length : length c.args.self.order.numbers ≡ 64 = search rules in
    let p =
    side_spent g.S.Side.CASES (value_of g.S.Side.number c.args.self) _ _ _ rows-length order-length _ c.in_ok-report.ensures _ c.phase_of-next.ensures _
    c.new-next.ensures c.in-Spent.is in
    record { called = p.called; demand = p.demand; either = p.either; omits = p.omits }

pub returns-in-End : goal.returns-in-End
returns-in-End g c =
    let rows-length : length c.args.self.table.rows ≡ 64 = search rules in
    let order-length : length c.args.self.order.numbers ≡ 64 = search rules in
    let p =
    side_over g.S.Side.CASES (value_of g.S.Side.number c.args.self) _ _ _ rows-length order-length _ c.in_ok-report.ensures _ c.phase_of-next.ensures _
    c.new-next.ensures c.in-End.is in
    record { called = p.called; demand = p.demand; either = p.either; omits = p.omits }
