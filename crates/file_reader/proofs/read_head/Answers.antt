-- `file_reader::read_head` meets its contract: what is still to be read is what the first line behind the banner started with.
use mathlib.Core.Path.{◌∙◌}
use native.Mathlib.Omega.{arith}
use lib.ListN.{drop}
use Rattle.file_text.specs.Lines.{lines}
use Rattle.file_reader.specs.private.Reading.{read_head}
use Rattle.file_reader.specs.private.Stopping.{stop_head}
use Rattle.file_text.proofs.LineAt.{Inside, inside}
use Rattle.file_reader.proofs.LineLoops.{HeadTurn, head_absent, head_skip, head_bad, head-range, head-size}
use Rattle.file_reader.proofs.LineLoops.{absent_line, skipped_line, head_bad_line, size-line}
use Rattle.file_reader.proofs.read_head.Goals as goal

pub slice_bounds-head_line-count : goal.slice_bounds-head_line-count
slice_bounds-head_line-count c =
    let bounds : Inside c.args.file.now c.loop-at.at c.line_at-span.result.end c.line_at-span.result.next = inside c.args.file.now c.loop-at.at c.line_at-span.result c.line_at-span.ensures (omega (arith, c.loop-at-test.true)) in
    bounds.start

pub slice_bounds-head_line-start : goal.slice_bounds-head_line-start
slice_bounds-head_line-start c =
    let bounds : Inside c.args.file.now c.loop-at.at c.line_at-span.result.end c.line_at-span.result.next = inside c.args.file.now c.loop-at.at c.line_at-span.result c.line_at-span.ensures (omega (arith, c.loop-at-test.true)) in
    bounds.start

pub slice_bounds-head_line-end : goal.slice_bounds-head_line-end
slice_bounds-head_line-end c =
    let bounds : Inside c.args.file.now c.loop-at.at c.line_at-span.result.end c.line_at-span.result.next = inside c.args.file.now c.loop-at.at c.line_at-span.result c.line_at-span.ensures (omega (arith, c.loop-at-test.true)) in
    omega (arith, bounds)

pub loop-at-smaller : goal.loop-at-smaller
loop-at-smaller c =
    let bounds : Inside c.args.file.now c.loop-at.at c.line_at-span.result.end c.line_at-span.result.next = inside c.args.file.now c.loop-at.at c.line_at-span.result c.line_at-span.ensures (omega (arith, c.loop-at-test.true)) in
    omega (arith, bounds.moves c.loop-at-test.true, bounds)

pub loop-at-preserved : goal.loop-at-preserved
loop-at-preserved c =
    let bounds : Inside c.args.file.now c.loop-at.at c.line_at-span.result.end c.line_at-span.result.next = inside c.args.file.now c.loop-at.at c.line_at-span.result c.line_at-span.ensures (omega (arith, c.loop-at-test.true)) in
    let turn : HeadTurn c.args.file.now c.loop-at.at c.line_at-span.result c.args.kind c.head_line-head.result (read_head c.args.kind (lines (drop c.args.from c.args.file.now))) c.loop-at.line (stop_head c.args.kind c.args.number (lines (drop c.args.from c.args.file.now))) = record {
      here = c.loop-at-test.true;
      span = c.line_at-span.ensures;
      judged = c.head_line-head.ensures;
      goal = c.loop-at.invariant.0;
      stop = c.loop-at.invariant.1;
    } in (
      head_skip turn c.in-Skip.is,
      skipped_line turn c.in-Skip.is,
      omega (arith, bounds.moves c.loop-at-test.true, bounds),
    )

pub returns-in-Bad : goal.returns-in-Bad
returns-in-Bad c =
    let turn : HeadTurn c.args.file.now c.loop-at.at c.line_at-span.result c.args.kind c.head_line-head.result (read_head c.args.kind (lines (drop c.args.from c.args.file.now))) c.loop-at.line (stop_head c.args.kind c.args.number (lines (drop c.args.from c.args.file.now))) = record {
      here = c.loop-at-test.true;
      span = c.line_at-span.ensures;
      judged = c.head_line-head.ensures;
      goal = c.loop-at.invariant.0;
      stop = c.loop-at.invariant.1;
    } in
    let t = turn in
    let x = c.in-Bad.is in
    record { answer = c.refuse.ensures.answer ∙ head_bad t x; line = c.refuse.ensures.line ∙ head_bad_line t x }

pub read_entries-requires : goal.read_entries-requires
read_entries-requires c =
    let bounds : Inside c.args.file.now c.loop-at.at c.line_at-span.result.end c.line_at-span.result.next = inside c.args.file.now c.loop-at.at c.line_at-span.result c.line_at-span.ensures (omega (arith, c.loop-at-test.true)) in
    let turn : HeadTurn c.args.file.now c.loop-at.at c.line_at-span.result c.args.kind c.head_line-head.result (read_head c.args.kind (lines (drop c.args.from c.args.file.now))) c.loop-at.line (stop_head c.args.kind c.args.number (lines (drop c.args.from c.args.file.now))) = record {
      here = c.loop-at-test.true;
      span = c.line_at-span.ensures;
      judged = c.head_line-head.ensures;
      goal = c.loop-at.invariant.0;
      stop = c.loop-at.invariant.1;
    } in
    let r = head-range turn c.in-Size.is in (
      r.gauge_high,
      r.case_high,
      omega arith,
      omega (arith, bounds.moves c.loop-at-test.true, bounds),
    )

pub returns-in-Size : goal.returns-in-Size
returns-in-Size c =
    let turn : HeadTurn c.args.file.now c.loop-at.at c.line_at-span.result c.args.kind c.head_line-head.result (read_head c.args.kind (lines (drop c.args.from c.args.file.now))) c.loop-at.line (stop_head c.args.kind c.args.number (lines (drop c.args.from c.args.file.now))) = record {
      here = c.loop-at-test.true;
      span = c.line_at-span.ensures;
      judged = c.head_line-head.ensures;
      goal = c.loop-at.invariant.0;
      stop = c.loop-at.invariant.1;
    } in
    let t = turn in
    let x = c.in-Size.is in
    record { answer = c.read_entries.ensures.answer ∙ head-size t x; line = c.read_entries.ensures.line ∙ size-line t x }

pub returns : goal.returns
returns c =
    record {
      answer = c.refuse-2.ensures.answer ∙ head_absent _ _ _ _ c.loop-at.invariant.0 c.loop-at-test.false;
      line = c.refuse-2.ensures.line ∙ absent_line _ _ _ _ _ c.loop-at.invariant.1 c.loop-at-test.false;
    }
