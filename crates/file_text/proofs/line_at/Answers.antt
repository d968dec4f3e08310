-- `file_text::line_at` meets its contract: the line at the loop's place is the line at the start.
use Rattle.std.proofs.lemmas.List.{take_rest}
use Rattle.file_text.proofs.LineAt.{span_last, span-end, span_more}
use Rattle.file_text.proofs.line_at.Goals as goal

pub returns-then-e-gt0 : goal.returns-then-e-gt0
returns-then-e-gt0 c = span-end _ c.loop-i.i _ c.loop-i.invariant c.loop-i-test.true _ (rw take_rest at c.end_at-e.ensures) c.if-e-gt0.true

pub loop-i-preserved : goal.loop-i-preserved
loop-i-preserved c = span_more _ c.loop-i.i _ c.loop-i.invariant c.loop-i-test.true _ (rw take_rest at c.end_at-e.ensures) c.if-e-gt0.false

pub returns : goal.returns
returns c = span_last _ _ c.loop-i.i c.loop-i.invariant c.loop-i-test.false c.loop-i.auto.i-end _ c.max-end.ensures
