-- `c_batches::list_side` meets its contract: the library's promise of the value that the words read as.
use mathlib.Core.Logic.{inl, inr}
use native.Mathlib.Omega.{arith}
use Rattle.std.proofs.Common.{◌≡◌, refl, sym, ap, subst, ◌∙◌, List, ℕ, length, drop, Ok}
use Rattle.refusals.proofs.Answering.{number_pos}
use Rattle.runs.specs.Sides.{side_of}
use Rattle.runs.specs.Batches.{batch_of}
use Rattle.words.proofs.Serving.{two_short, two_refused, two_accepted, long_two}
use Rattle.run_words.specs.Values.{side_word, value_at}
use Rattle.c_runs.proofs.Sides.{side_start_lem}
use Rattle.c_batches.specs.Serving.{Answered, BatchCall, refusal_of}
use Rattle.c_batches.proofs.Serving.{part, put_batch, batch_at, batch_kept, close_ending, close_accepted, lists_of, Given}
use Rattle.c_batches.proofs.list_side.Goals as goal

pub returns-in-Err : goal.returns-in-Err
returns-in-Err g c =
    let b = g.S.Side.CASES in
    let answered : Answered = record { batch = batch_of g.S.Side.number c.list.result; words = c.list.new.out } in
    let promised : BatchCall (side_of b) (value_at (side_word b) c.args.run.now) c.args.budget (drop 3 c.args.batch.now) answered =
    batch_at b c.args.batch.now c.args.run.now c.run_at-p.ensures c.list.ensures.batched c.list.ensures.calls c.list.auto.out in
    let refusal : c.number.result ≡ refusal_of answered.batch.ending =
    c.number.ensures ∙ sym (ap (λ x. refusal_of (batch_of g.S.Side.number x).ending) c.in-Err.is) in
    let some : ¬ (c.number.result ≡ 0) = λ z. omega (arith, number_pos c.in-Err.why, c.number.ensures, z) in
    lists_of (side_of b) (side_start_lem b)
    (subst (λ (l : List ℕ). Given (side_of b) (side_start_lem b) (side_word b) c.args.run.now c.args.budget c.args.batch.now c.args.run.now l c.number.result)
    (sym (batch_kept (side_of b) (side_start_lem b) (side_word b) c.args.run.now c.args.budget c.args.batch.now answered promised (λ z. some (refusal ∙ z))))
    (two_refused _ _ (long_two c.if-run-lt-RUN.false c.if-batch-lt-HEAD.false) answered promised _ refusal some))

pub returns-in-Ok : goal.returns-in-Ok
returns-in-Ok g c =
    let b = g.S.Side.CASES in
    let answered : Answered = record { batch = batch_of g.S.Side.number c.list.result; words = c.list.new.out } in
    let long : length c.list.new.out ≡ length (part c.args.batch.now) = c.list.auto.out in
    let promised : BatchCall (side_of b) (value_at (side_word b) c.args.run.now) c.args.budget (drop 3 c.args.batch.now) answered =
    batch_at b c.args.batch.now c.args.run.now c.run_at-p.ensures c.list.ensures.batched c.list.ensures.calls long in
    lists_of _ (side_start_lem b)
    (two_accepted _ _ _ _ (long_two c.if-run-lt-RUN.false c.if-batch-lt-HEAD.false) _ (rw c.in-Ok.is at promised) _ (close_accepted _) refl
    c.put_run.ensures (put_batch _ _ _ (batch_of g.S.Side.number (Ok c.in-Ok.made)) _ c.if-batch-lt-HEAD.false long (c.close_number.ensures ∙ close_ending _) c.put_head.ensures))

pub returns-then-run-lt-RUN : goal.returns-then-run-lt-RUN
returns-then-run-lt-RUN g c = lists_of _ (side_start_lem g.S.Side.CASES) (two_short _ _ (inl c.if-run-lt-RUN.true))

pub returns-then-batch-lt-HEAD : goal.returns-then-batch-lt-HEAD
returns-then-batch-lt-HEAD g c = lists_of _ (side_start_lem g.S.Side.CASES) (two_short _ _ (inr c.if-batch-lt-HEAD.true))
