-- `c_parts::part_side` meets its contract: the promise of the value that the words read as, and of the words (Contracts.antt).
use mathlib.Core.Path.{refl, sym, ap, ◌∙◌}
use mathlib.Core.Logic.{inl, inr}
use native.Mathlib.Omega.{arith}
use Rattle.refusals.proofs.Answering.{number_pos}
use Rattle.runs.specs.Sides.{side_of}
use Rattle.split.specs.Entries.{part_of as part_read}
use Rattle.words.proofs.Serving.{gives_short, gives_refused, gives_accepted, long_two}
use Rattle.run_words.specs.Values.{side_word, value_at}
use Rattle.c_runs.proofs.Sides.{side_start_lem}
use Rattle.c_parts.specs.Serving.{Part}
use Rattle.c_parts.proofs.Serving.{part_at}
use Rattle.c_parts.proofs.Contracts.{part_of}
use Rattle.c_parts.proofs.part_side.Goals as goal

pub returns-then-run-lt-RUN : goal.returns-then-run-lt-RUN
returns-then-run-lt-RUN g c = part_of _ (side_start_lem g.S.Side.CASES) (gives_short _ (inl c.if-run-lt-RUN.true))

pub returns-then-part-lt-RUN : goal.returns-then-part-lt-RUN
returns-then-part-lt-RUN g c = part_of _ (side_start_lem g.S.Side.CASES) (gives_short _ (inr c.if-part-lt-RUN.true))

pub returns-in-Err : goal.returns-in-Err
returns-in-Err g c =
    let b = g.S.Side.CASES in
    let promised : Part (side_of b) (value_at (side_word b) c.args.run.now) c.args.number (part_read g.S.Side.number c.part.result) =
    part_at b c.args.run.now c.run_at-p.ensures c.from_number.ensures c.part.ensures.part_at c.part.ensures.lists in
    part_of _ (side_start_lem b) (gives_refused _ (long_two c.if-run-lt-RUN.false c.if-part-lt-RUN.false) _ promised _
    (c.number.ensures ∙ sym (ap (λ x. (part_read g.S.Side.number x).refusal) c.in-Err.is)) (λ z. omega (arith, number_pos c.in-Err.why, c.number.ensures, z)))

pub returns-in-Ok : goal.returns-in-Ok
returns-in-Ok g c =
    let b = g.S.Side.CASES in
    let promised : Part (side_of b) (value_at (side_word b) c.args.run.now) c.args.number (part_read g.S.Side.number c.part.result) =
    part_at b c.args.run.now c.run_at-p.ensures c.from_number.ensures c.part.ensures.part_at c.part.ensures.lists in
    part_of _ (side_start_lem b) (gives_accepted _ _ (long_two c.if-run-lt-RUN.false c.if-part-lt-RUN.false) _ (rw c.in-Ok.is at promised) _ refl refl
    c.put_run.ensures)
