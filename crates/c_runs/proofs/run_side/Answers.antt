-- `c_runs::run_side` meets its contract: the library's promise of the value that the words read as.
use mathlib.Core.Path.{refl, sym, ap, ◌∙◌}
use mathlib.Core.Logic.{inl, inr}
use Rattle.refusals.proofs.Answering.{number_pos}
use native.Mathlib.Omega.{arith}
use Rattle.runs.specs.Calling.{step_of}
use Rattle.runs.specs.Sides.{side_of}
use Rattle.words.proofs.Serving.{two_short, two_refused, two_accepted, long_two}
use Rattle.run_words.specs.Values.{side_word, value_at, refusal_number}
use Rattle.c_runs.specs.Serving.{RunCall}
use Rattle.c_runs.proofs.Serving.{call_at, outcome_accepted}
use Rattle.c_runs.proofs.Sides.{side_start_lem}
use Rattle.c_runs.proofs.Contracts.{runs_of}
use Rattle.c_runs.proofs.run_side.Goals as goal

pub returns-then-run-lt-RUN : goal.returns-then-run-lt-RUN
returns-then-run-lt-RUN g c = runs_of _ (side_start_lem g.S.Side.CASES) (two_short _ _ (inl c.if-run-lt-RUN.true))

pub returns-then-step-lt-STEP : goal.returns-then-step-lt-STEP
returns-then-step-lt-STEP g c = runs_of _ (side_start_lem g.S.Side.CASES) (two_short _ _ (inr c.if-step-lt-STEP.true))

pub returns-in-Err : goal.returns-in-Err
returns-in-Err g c =
    let promised : RunCall (side_of g.S.Side.CASES) (value_at (side_word g.S.Side.CASES) c.args.run.now) c.args.budget (step_of g.S.Side.number c.call.result) =
    call_at g.S.Side.CASES c.args.run.now c.run_at-p.ensures (record {
      called = c.call.ensures.called;
      demand = c.call.ensures.demand;
      either = c.call.ensures.either;
      omits = c.call.ensures.omits;
    }) in
    runs_of _ (side_start_lem g.S.Side.CASES)
    (two_refused _ _ (long_two c.if-run-lt-RUN.false c.if-step-lt-STEP.false) _ promised _
    (c.number.ensures ∙ sym (ap (λ x. refusal_number (step_of g.S.Side.number x).answer) c.in-Err.is))
    (λ z. omega (arith, number_pos c.in-Err.why, c.number.ensures, z)))

pub returns-in-Ok : goal.returns-in-Ok
returns-in-Ok g c =
    let promised : RunCall (side_of g.S.Side.CASES) (value_at (side_word g.S.Side.CASES) c.args.run.now) c.args.budget (step_of g.S.Side.number c.call.result) =
    call_at g.S.Side.CASES c.args.run.now c.run_at-p.ensures (record {
      called = c.call.ensures.called;
      demand = c.call.ensures.demand;
      either = c.call.ensures.either;
      omits = c.call.ensures.omits;
    }) in
    runs_of _ (side_start_lem g.S.Side.CASES)
    (two_accepted _ _ _ _ (long_two c.if-run-lt-RUN.false c.if-step-lt-STEP.false) _ (rw c.in-Ok.is at promised) _ (outcome_accepted _) refl c.put_run.ensures
    c.put_outcome.ensures)
