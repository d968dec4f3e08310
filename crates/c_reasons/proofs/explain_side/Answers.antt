-- `c_reasons::explain_side` meets its contract: the promise of the value that the words read as.
use mathlib.Core.Path.{refl, sym, ap, ◌∙◌, subst}
use mathlib.Core.Logic.{inl, inr}
use native.Mathlib.Omega.{arith}
use Rattle.refusals.proofs.Answering.{number_pos}
use Rattle.runs.specs.Paused.{Value}
use Rattle.runs.specs.Sides.{side_of}
use Rattle.explain.specs.Reasons.{question_of, reason_of, Explained}
use Rattle.words.proofs.Serving.{gives_short, gives_refused, gives_accepted, long_two}
use Rattle.run_words.specs.Values.{side_word, value_at}
use Rattle.c_reasons.proofs.Serving.{side_reasons}
use Rattle.c_reasons.proofs.explain_side.Goals as goal

pub returns-then-run-lt-RUN : goal.returns-then-run-lt-RUN
returns-then-run-lt-RUN g c = record { explains = gives_short _ (inl c.if-run-lt-RUN.true); reasons = side_reasons g.S.Side.CASES _ }

pub returns-then-pick-lt-PICK : goal.returns-then-pick-lt-PICK
returns-then-pick-lt-PICK g c = record { explains = gives_short _ (inr c.if-pick-lt-PICK.true); reasons = side_reasons g.S.Side.CASES _ }

pub returns-in-Err : goal.returns-in-Err
returns-in-Err g c =
    let b = g.S.Side.CASES in
    let promised : Explained (side_of b) (question_of b) (value_at (side_word b) c.args.run.now) c.args.gauge c.args.case (reason_of g.S.Side.number c.explain.result) =
    subst (λ (v : Value). Explained (side_of b) (question_of b) v c.args.gauge c.args.case (reason_of g.S.Side.number c.explain.result)) c.run_at-p.ensures c.explain.ensures.explained in
    record {
      explains = gives_refused _ (long_two c.if-run-lt-RUN.false c.if-pick-lt-PICK.false) _ promised _
          (c.number-in-Err.ensures ∙ sym (ap (λ x. (reason_of g.S.Side.number x).refusal) c.in-Err.is))
          (λ z. omega (arith, number_pos c.in-Err.why, c.number-in-Err.ensures, z));
      reasons = side_reasons b _;
    }

pub returns-in-Ok : goal.returns-in-Ok
returns-in-Ok g c =
    let b = g.S.Side.CASES in
    let promised : Explained (side_of b) (question_of b) (value_at (side_word b) c.args.run.now) c.args.gauge c.args.case (reason_of g.S.Side.number c.explain.result) =
    subst (λ (v : Value). Explained (side_of b) (question_of b) v c.args.gauge c.args.case (reason_of g.S.Side.number c.explain.result)) c.run_at-p.ensures c.explain.ensures.explained in
    record {
      explains = gives_accepted _ _ (long_two c.if-run-lt-RUN.false c.if-pick-lt-PICK.false) _ (rw c.in-Ok.is at promised) _ refl refl
          (rw c.number.ensures at c.put_word.ensures);
      reasons = side_reasons b _;
    }
