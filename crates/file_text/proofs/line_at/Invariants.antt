-- `file_text::line_at` meets its contract: the line at the loop's place is the line at the start.
use mathlib.Core.Path.{◌≡◌}
use Rattle.file_text.specs.Lines.{span_at}
use Rattle.file_text.proofs.line_at.Given as goal

abbrev pub invariant-loop-i : goal.invariant-loop-i
invariant-loop-i l = span_at l.file l.i ≡ span_at l.file l.at
