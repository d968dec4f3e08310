-- `runs::Run::list` meets its contract: a refused table by its number, and what the core lists at the side (`batch-refused`, `batch-given`); that its
-- calls are run calls goes with each (`adds_calls`).
use mathlib.Core.Path.{◌≡◌, refl, sym, ap}
use borrow.Author.Rules.{rules}
use lib.ListN.{length}
use Rattle.std.proofs.Common.{Err}
use Rattle.refusals.proofs.Answering.{number_pos}
use Rattle.table.proofs.Legality.{legal_of}
use Rattle.preference.proofs.Placing.{table_first_lem}
use Rattle.runs.specs.Paused.{value_of}
use Rattle.runs.specs.Sides.{side_of}
use Rattle.runs.specs.Batches.{batch_of}
use Rattle.runs.proofs.Marked.{side_started}
use Rattle.runs.proofs.BatchSides.{listed_at, batched_refused, batch-refused, batch-given, adds_calls}
use Rattle.runs.proofs.paused.Run.list.Goals as goal

pub returns-in_err-check_table : goal.returns-in_err-check_table
returns-in_err-check_table g c =
    let rows-length : length c.args.self.table.rows ≡ 64 = search rules in
    let order-length : length c.args.self.order.numbers ≡ 64 = search rules in
    let e : c.from_residual.result ≡ Err c.in_err-check_table.field-0.0 = search rules in
    record {
      batched =
          batched_refused (side_of g.S.Side.CASES) (value_of g.S.Side.number c.args.self) _ _ _
          (table_first_lem _ _ _ _ (number_pos c.in_err-check_table.field-0.0) c.in_err-check_table.ensures) (number_pos c.in_err-check_table.field-0.0) _
          (ap (batch_of g.S.Side.number) e);
      calls =
          adds_calls (side_of g.S.Side.CASES) (value_of g.S.Side.number c.args.self) _ _
          (side_started g.S.Side.CASES (value_of g.S.Side.number c.args.self) rows-length order-length);
    }

pub invariant_of-on : goal.invariant_of-on
invariant_of-on g c =
    let rows-length : length c.args.self.table.rows ≡ 64 = search rules in
    record { legal = legal_of c.args.self.table rows-length (sym c.in_ok-check_table.ensures) }

pub returns-in_err-tally : goal.returns-in_err-tally
returns-in_err-tally g c =
    let rows-length : length c.args.self.table.rows ≡ 64 = search rules in
    let order-length : length c.args.self.order.numbers ≡ 64 = search rules in
    let e : c.from_residual-in_err-tally.result ≡ Err c.in_err-tally.field-0.0 = search rules in
    record {
      batched =
          batch-refused (side_of g.S.Side.CASES) (value_of g.S.Side.number c.args.self) _ _ _ _ _
          (listed_at _ _ _ _ _ _ _ (sym c.in_ok-check_table.ensures) _ c.mode_of.ensures c.in_err-tally.ensures) _ refl _ (ap (batch_of g.S.Side.number) e);
      calls =
          adds_calls (side_of g.S.Side.CASES) (value_of g.S.Side.number c.args.self) _ _
          (side_started g.S.Side.CASES (value_of g.S.Side.number c.args.self) rows-length order-length);
    }

pub returns : goal.returns
returns g c =
    let rows-length : length c.args.self.table.rows ≡ 64 = search rules in
    let order-length : length c.args.self.order.numbers ≡ 64 = search rules in
    record {
      batched =
          batch-given (side_of g.S.Side.CASES) (value_of g.S.Side.number c.args.self) _ _ _ _ _
          (listed_at _ _ _ _ _ _ _ (sym c.in_ok-check_table.ensures) _ c.mode_of.ensures c.in_ok-tally.ensures) _ refl _ c.batch_of.ensures;
      calls =
          adds_calls (side_of g.S.Side.CASES) (value_of g.S.Side.number c.args.self) _ _
          (side_started g.S.Side.CASES (value_of g.S.Side.number c.args.self) rows-length order-length);
    }
