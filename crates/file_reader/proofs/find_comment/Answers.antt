-- `file_reader::find_comment` meets its contract: the comment still to be found, from here on, is the one that the search started with.
use native.Mathlib.Omega.{arith}
use lib.ListN.{drop}
use Rattle.file_text.specs.Lines.{lines}
use Rattle.file_reader.specs.Comments.{comment_from}
use Rattle.file_text.proofs.LineAt.{Inside, inside}
use Rattle.file_reader.proofs.Lookup.{FindTurn, find_past, find_other, find_later, find_here, find_zero}
use Rattle.file_reader.proofs.find_comment.Goals as goal

pub slice_bounds-is_comment-count : goal.slice_bounds-is_comment-count
slice_bounds-is_comment-count c =
    let bounds : Inside c.args.file.now c.loop-at.at c.line_at-span.result.end c.line_at-span.result.next = inside c.args.file.now c.loop-at.at c.line_at-span.result c.line_at-span.ensures (omega (arith, c.loop-at-test.true)) in
    bounds.start

pub slice_bounds-is_comment-start : goal.slice_bounds-is_comment-start
slice_bounds-is_comment-start c =
    let bounds : Inside c.args.file.now c.loop-at.at c.line_at-span.result.end c.line_at-span.result.next = inside c.args.file.now c.loop-at.at c.line_at-span.result c.line_at-span.ensures (omega (arith, c.loop-at-test.true)) in
    bounds.start

pub slice_bounds-is_comment-end : goal.slice_bounds-is_comment-end
slice_bounds-is_comment-end c =
    let bounds : Inside c.args.file.now c.loop-at.at c.line_at-span.result.end c.line_at-span.result.next = inside c.args.file.now c.loop-at.at c.line_at-span.result c.line_at-span.ensures (omega (arith, c.loop-at-test.true)) in
    omega (arith, bounds)

pub loop-at-smaller-then-left-gt1 : goal.loop-at-smaller-then-left-gt1
loop-at-smaller-then-left-gt1 c =
    let bounds : Inside c.args.file.now c.loop-at.at c.line_at-span.result.end c.line_at-span.result.next = inside c.args.file.now c.loop-at.at c.line_at-span.result c.line_at-span.ensures (omega (arith, c.loop-at-test.true)) in
    omega (arith, bounds.moves c.loop-at-test.true, bounds)

pub loop-at-preserved-then-left-gt1 : goal.loop-at-preserved-then-left-gt1
loop-at-preserved-then-left-gt1 c =
    let bounds : Inside c.args.file.now c.loop-at.at c.line_at-span.result.end c.line_at-span.result.next = inside c.args.file.now c.loop-at.at c.line_at-span.result c.line_at-span.ensures (omega (arith, c.loop-at-test.true)) in
    let turn : FindTurn c.args.file.now c.loop-at.at c.line_at-span.result c.is_comment.result c.loop-at.left (comment_from c.args.k c.args.from (lines (drop c.args.from c.args.file.now))) = record {
      here = c.loop-at-test.true;
      span = c.line_at-span.ensures;
      kind = c.is_comment.ensures;
      goal = c.loop-at.invariant;
    } in
    find_later turn c.if-is_comment.true c.if-left-gt1.true

pub returns-then-left-eq1 : goal.returns-then-left-eq1
returns-then-left-eq1 c =
    let turn : FindTurn c.args.file.now c.loop-at.at c.line_at-span.result c.is_comment.result c.loop-at.left (comment_from c.args.k c.args.from (lines (drop c.args.from c.args.file.now))) = record {
      here = c.loop-at-test.true;
      span = c.line_at-span.ensures;
      kind = c.is_comment.ensures;
      goal = c.loop-at.invariant;
    } in
    find_here turn c.if-is_comment.true c.if-left-gt1.false c.if-left-eq1.true

pub returns-else-left-gt1 : goal.returns-else-left-gt1
returns-else-left-gt1 c =
    let turn : FindTurn c.args.file.now c.loop-at.at c.line_at-span.result c.is_comment.result c.loop-at.left (comment_from c.args.k c.args.from (lines (drop c.args.from c.args.file.now))) = record {
      here = c.loop-at-test.true;
      span = c.line_at-span.ensures;
      kind = c.is_comment.ensures;
      goal = c.loop-at.invariant;
    } in
    find_zero turn c.if-is_comment.true c.if-left-gt1.false c.if-left-eq1.false

pub loop-at-smaller : goal.loop-at-smaller
loop-at-smaller c =
    let bounds : Inside c.args.file.now c.loop-at.at c.line_at-span.result.end c.line_at-span.result.next = inside c.args.file.now c.loop-at.at c.line_at-span.result c.line_at-span.ensures (omega (arith, c.loop-at-test.true)) in
    omega (arith, bounds.moves c.loop-at-test.true, bounds)

pub loop-at-preserved : goal.loop-at-preserved
loop-at-preserved c =
    let bounds : Inside c.args.file.now c.loop-at.at c.line_at-span.result.end c.line_at-span.result.next = inside c.args.file.now c.loop-at.at c.line_at-span.result c.line_at-span.ensures (omega (arith, c.loop-at-test.true)) in
    let turn : FindTurn c.args.file.now c.loop-at.at c.line_at-span.result c.is_comment.result c.loop-at.left (comment_from c.args.k c.args.from (lines (drop c.args.from c.args.file.now))) = record {
      here = c.loop-at-test.true;
      span = c.line_at-span.ensures;
      kind = c.is_comment.ensures;
      goal = c.loop-at.invariant;
    } in
    find_other turn c.if-is_comment.false

pub returns : goal.returns
returns c = find_past _ _ _ _ c.loop-at.invariant c.loop-at-test.false
