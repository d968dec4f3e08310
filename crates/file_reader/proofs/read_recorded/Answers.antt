-- `file_reader::read_recorded` meets its contract: the file as a whole, its first line, and then the lines behind it, each by its law of
-- `LineLoops`. In the answers `b` is where the first line was judged, `l` where it was found.
use mathlib.Core.Path.{◌∙◌}
use native.Mathlib.Omega.{arith}
use Rattle.file_reader.proofs.LineLoops.{file_long, file_other, file_head, long_line, other_line, head_from}
use Rattle.file_text.proofs.LineAt.{Inside, inside}
use Rattle.file_reader.proofs.read_recorded.Goals as goal

pub returns-then-file-gt-MOST_FILE : goal.returns-then-file-gt-MOST_FILE
returns-then-file-gt-MOST_FILE c =
    record {
      answer = c.refuse.ensures.answer ∙ file_long c.args.integers c.args.file.now (omega arith);
      line = c.refuse.ensures.line ∙ long_line c.args.integers c.args.file.now (omega arith);
    }

pub slice_bounds-first_line-end : goal.slice_bounds-first_line-end
slice_bounds-first_line-end c =
    let bounds : Inside c.args.file.now 0 c.line_at-span.result.end c.line_at-span.result.next = inside c.args.file.now 0 c.line_at-span.result c.line_at-span.ensures (omega arith) in
    omega (arith, bounds)

pub returns-in_default : goal.returns-in_default
returns-in_default c =
    record {
      answer =
          c.refuse-in_default.ensures.answer
          ∙ file_other c.args.integers c.args.file.now c.if-file-gt-MOST_FILE.false _ c.line_at-span.ensures _ c.first_line.ensures
          c.in_default.is;
      line =
          c.refuse-in_default.ensures.line
          ∙ other_line c.args.integers c.args.file.now c.if-file-gt-MOST_FILE.false _ c.line_at-span.ensures _ c.first_line.ensures
          c.in_default.is;
    }

pub returns : goal.returns
returns c =
    record {
      answer =
          c.read_head.ensures.answer
          ∙ file_head c.args.integers c.args.file.now c.if-file-gt-MOST_FILE.false _ c.line_at-span.ensures _ c.first_line.ensures c.in-Some.is;
      line =
          c.read_head.ensures.line
          ∙ head_from c.args.integers c.args.file.now c.if-file-gt-MOST_FILE.false _ c.line_at-span.ensures _ c.first_line.ensures c.in-Some.is;
    }
