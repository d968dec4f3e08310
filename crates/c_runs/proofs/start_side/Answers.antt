-- `c_runs::start_side` meets its contract: the library's promise of the table and the preference that the words read as.
use mathlib.Core.Path.{refl, sym, ap, ◌∙◌}
use mathlib.Core.Logic.{inl, inr}
use mathlib.Core.Bool.{not}
use native.Mathlib.Omega.{arith}
use lib.Dec.{eqb}
use Rattle.refusals.proofs.Answering.{number_pos}
use Rattle.runs.specs.Paused.{start_of}
use Rattle.runs.specs.Sides.{side_of}
use Rattle.words.specs.Layouts.{table_at, numbers_at}
use Rattle.words.proofs.Serving.{gives_short, gives_refused, gives_accepted, long_two, long_more}
use Rattle.c_runs.specs.Serving.{FreshStart}
use Rattle.c_runs.proofs.Serving.{start_at}
use Rattle.c_runs.proofs.Sides.{side_start_lem}
use Rattle.c_runs.proofs.Contracts.{starts_of}
use Rattle.c_runs.proofs.start_side.Goals as goal

pub returns-then-table-lt-TABLE : goal.returns-then-table-lt-TABLE
returns-then-table-lt-TABLE g c = starts_of _ (side_start_lem g.S.Side.CASES) (gives_short _ (inl c.if-table-lt-TABLE.true))

pub returns-then-order-lt-ORDER : goal.returns-then-order-lt-ORDER
returns-then-order-lt-ORDER g c = starts_of _ (side_start_lem g.S.Side.CASES) (gives_short _ (inr (inl c.if-order-lt-ORDER.true)))

pub returns-then-run-lt-RUN : goal.returns-then-run-lt-RUN
returns-then-run-lt-RUN g c = starts_of _ (side_start_lem g.S.Side.CASES) (gives_short _ (inr (inr c.if-run-lt-RUN.true)))

pub returns-in-Err : goal.returns-in-Err
returns-in-Err g c =
    let a = c.args in
    let p : FreshStart (side_of g.S.Side.CASES) c.table_at-t.result c.new-preferred.result.numbers (not (eqb a.omit 0)) (start_of g.S.Side.number c.start.result) =
    record {
      is = c.start.ensures.result_value;
      demand = c.start.ensures.demand;
      shared = c.start.ensures.shared;
      omits = c.start.ensures.omits;
    } in
    let promised : FreshStart (side_of g.S.Side.CASES) (table_at 0 a.table.now) (numbers_at 0 a.order.now) (not (eqb a.omit 0)) (start_of g.S.Side.number c.start.result) =
    start_at a.table.now a.order.now c.table_at-t.ensures (c.new-preferred.ensures ∙ c.numbers_at.ensures) p in
    starts_of _ (side_start_lem g.S.Side.CASES)
    (gives_refused _ (long_more c.if-table-lt-TABLE.false (long_two c.if-order-lt-ORDER.false c.if-run-lt-RUN.false)) _ promised _
    (c.number.ensures ∙ sym (ap (λ x. (start_of g.S.Side.number x).refusal) c.in-Err.is)) (λ z. omega (arith, number_pos c.in-Err.why, c.number.ensures, z)))

pub returns-in-Ok : goal.returns-in-Ok
returns-in-Ok g c =
    let a = c.args in
    let p : FreshStart (side_of g.S.Side.CASES) c.table_at-t.result c.new-preferred.result.numbers (not (eqb a.omit 0)) (start_of g.S.Side.number c.start.result) =
    record {
      is = c.start.ensures.result_value;
      demand = c.start.ensures.demand;
      shared = c.start.ensures.shared;
      omits = c.start.ensures.omits;
    } in
    let promised : FreshStart (side_of g.S.Side.CASES) (table_at 0 a.table.now) (numbers_at 0 a.order.now) (not (eqb a.omit 0)) (start_of g.S.Side.number c.start.result) =
    start_at a.table.now a.order.now c.table_at-t.ensures (c.new-preferred.ensures ∙ c.numbers_at.ensures) p in
    starts_of _ (side_start_lem g.S.Side.CASES)
    (gives_accepted _ _ (long_more c.if-table-lt-TABLE.false (long_two c.if-order-lt-ORDER.false c.if-run-lt-RUN.false)) _ (rw c.in-Ok.is at promised) _
    refl refl c.put_run.ensures)
