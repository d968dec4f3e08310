-- `c_parts::candidates_side` meets its contract: the promise of the value that the words read as, and of the words (Contracts.antt).
use mathlib.Core.Path.{refl, sym, ap, ◌∙◌}
use mathlib.Core.Logic.{inl, inr}
use native.Mathlib.Omega.{arith}
use Rattle.refusals.proofs.Answering.{number_pos}
use Rattle.runs.specs.Sides.{side_of}
use Rattle.split.specs.Entries.{candidates_of as candidates_read}
use Rattle.words.proofs.Serving.{gives_short, gives_refused, gives_accepted, long_two}
use Rattle.run_words.specs.Values.{side_word, value_at}
use Rattle.c_runs.proofs.Sides.{side_start_lem}
use Rattle.c_parts.specs.Serving.{Candidates}
use Rattle.c_parts.proofs.Serving.{candidates_at}
use Rattle.c_parts.proofs.Contracts.{candidates_of}
use Rattle.c_parts.proofs.candidates_side.Goals as goal

pub returns-then-run-lt-RUN : goal.returns-then-run-lt-RUN
returns-then-run-lt-RUN g c = candidates_of _ (side_start_lem g.S.Side.CASES) (gives_short _ (inl c.if-run-lt-RUN.true))

pub returns-then-numbers-lt-NUMBERS : goal.returns-then-numbers-lt-NUMBERS
returns-then-numbers-lt-NUMBERS g c = candidates_of _ (side_start_lem g.S.Side.CASES) (gives_short _ (inr c.if-numbers-lt-NUMBERS.true))

pub returns-in-Err : goal.returns-in-Err
returns-in-Err g c =
    let b = g.S.Side.CASES in
    let promised : Candidates (side_of b) (value_at (side_word b) c.args.run.now) (candidates_read c.candidates.result) =
    candidates_at b c.args.run.now c.run_at-p.ensures c.candidates.ensures.candidates_at c.candidates.ensures.splits c.candidates.ensures.lists c.candidates.ensures.whole in
    candidates_of _ (side_start_lem b) (gives_refused _ (long_two c.if-run-lt-RUN.false c.if-numbers-lt-NUMBERS.false) _ promised _
    (c.number.ensures ∙ sym (ap (λ x. (candidates_read x).refusal) c.in-Err.is)) (λ z. omega (arith, number_pos c.in-Err.why, c.number.ensures, z)))

pub returns-in-Ok : goal.returns-in-Ok
returns-in-Ok g c =
    let b = g.S.Side.CASES in
    let promised : Candidates (side_of b) (value_at (side_word b) c.args.run.now) (candidates_read c.candidates.result) =
    candidates_at b c.args.run.now c.run_at-p.ensures c.candidates.ensures.candidates_at c.candidates.ensures.splits c.candidates.ensures.lists c.candidates.ensures.whole in
    candidates_of _ (side_start_lem b) (gives_accepted _ _ (long_two c.if-run-lt-RUN.false c.if-numbers-lt-NUMBERS.false) _ (rw c.in-Ok.is at promised) _ refl refl
    c.put_numbers.ensures)
