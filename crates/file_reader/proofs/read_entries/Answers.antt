-- `file_reader::read_entries` meets its contract: what is still to be read, from the entries so far, is what the first entry line started with. In
-- the answers `h` is the test for a repeated entry, `k` where the entry was taken apart, `l` the loop's end.
use mathlib.Core.Path.{◌∙◌}
use borrow.Author.Rules.{sfits_of}
use mir.Facts.{to_z-of_z}
use native.Mathlib.Omega.{arith}
use lib.ListN.{drop}
use Rattle.file_text.specs.Lines.{lines}
use Rattle.recorded.specs.Tests.{no_readings}
use Rattle.file_reader.specs.private.Reading.{read_entries}
use Rattle.file_reader.specs.private.Stopping.{stop_entries}
use Rattle.table.specs.Tables.{no_rows}
use Rattle.file_kinds.proofs.KindOf.{Bounded}
use Rattle.file_text.proofs.LineAt.{Inside, inside}
use Rattle.file_reader.proofs.LineLoops.{EntryTurn, entries_done, entries_fewer, turn_skip, turn_bad, turn-range}
use Rattle.file_reader.proofs.LineLoops.{turn-repeated, turn_more, turn-entry}
use Rattle.file_reader.proofs.LineLoops.{done_line, fewer_line, skip_line, bad_line, repeated-line, more-line, taken-line}
use Rattle.file_reader.proofs.read_entries.Goals as goal

pub slice_bounds-entry_line-count : goal.slice_bounds-entry_line-count
slice_bounds-entry_line-count c =
    let bounds : Inside c.args.file.now c.loop-at.at c.line_at-span.result.end c.line_at-span.result.next = inside c.args.file.now c.loop-at.at c.line_at-span.result c.line_at-span.ensures (omega (arith, c.loop-at-test.true)) in
    bounds.start

pub slice_bounds-entry_line-start : goal.slice_bounds-entry_line-start
slice_bounds-entry_line-start c =
    let bounds : Inside c.args.file.now c.loop-at.at c.line_at-span.result.end c.line_at-span.result.next = inside c.args.file.now c.loop-at.at c.line_at-span.result c.line_at-span.ensures (omega (arith, c.loop-at-test.true)) in
    bounds.start

pub slice_bounds-entry_line-end : goal.slice_bounds-entry_line-end
slice_bounds-entry_line-end c =
    let bounds : Inside c.args.file.now c.loop-at.at c.line_at-span.result.end c.line_at-span.result.next = inside c.args.file.now c.loop-at.at c.line_at-span.result c.line_at-span.ensures (omega (arith, c.loop-at-test.true)) in
    omega (arith, bounds)

pub loop-at-smaller-in-Skip : goal.loop-at-smaller-in-Skip
loop-at-smaller-in-Skip c =
    let bounds : Inside c.args.file.now c.loop-at.at c.line_at-span.result.end c.line_at-span.result.next = inside c.args.file.now c.loop-at.at c.line_at-span.result c.line_at-span.ensures (omega (arith, c.loop-at-test.true)) in
    omega (arith, bounds.moves c.loop-at-test.true, bounds)

pub loop-at-preserved-in-Skip : goal.loop-at-preserved-in-Skip
loop-at-preserved-in-Skip c =
    let bounds : Inside c.args.file.now c.loop-at.at c.line_at-span.result.end c.line_at-span.result.next = inside c.args.file.now c.loop-at.at c.line_at-span.result c.line_at-span.ensures (omega (arith, c.loop-at-test.true)) in
    let turn : EntryTurn c.args.file.now c.loop-at.at c.line_at-span.result c.args.shape.kind c.args.shape.gauges c.args.shape.cases c.loop-at.left c.loop-at.rows c.loop-at.values c.entry_line-entry.result (read_entries c.args.shape.kind c.args.shape.gauges c.args.shape.cases c.args.shape.count no_rows no_readings (lines (drop c.args.from c.args.file.now))) c.loop-at.line (stop_entries c.args.shape.kind c.args.shape.gauges c.args.shape.cases c.args.shape.count no_rows c.args.number (lines (drop c.args.from c.args.file.now))) = record {
      here = c.loop-at-test.true;
      span = c.line_at-span.ensures;
      judged = c.entry_line-entry.ensures;
      goal = c.loop-at.invariant.0;
      stop = c.loop-at.invariant.1;
    } in (
      turn_skip turn c.in-Skip.is,
      skip_line turn c.in-Skip.is,
      omega (arith, bounds.moves c.loop-at-test.true, bounds),
    )

pub returns-in-Bad : goal.returns-in-Bad
returns-in-Bad c =
    let turn : EntryTurn c.args.file.now c.loop-at.at c.line_at-span.result c.args.shape.kind c.args.shape.gauges c.args.shape.cases c.loop-at.left c.loop-at.rows c.loop-at.values c.entry_line-entry.result (read_entries c.args.shape.kind c.args.shape.gauges c.args.shape.cases c.args.shape.count no_rows no_readings (lines (drop c.args.from c.args.file.now))) c.loop-at.line (stop_entries c.args.shape.kind c.args.shape.gauges c.args.shape.cases c.args.shape.count no_rows c.args.number (lines (drop c.args.from c.args.file.now))) = record {
      here = c.loop-at-test.true;
      span = c.line_at-span.ensures;
      judged = c.entry_line-entry.ensures;
      goal = c.loop-at.invariant.0;
      stop = c.loop-at.invariant.1;
    } in
    let t = turn in
    let x = c.in-Bad.is in
    record { answer = c.refuse.ensures.answer ∙ turn_bad t x; line = c.refuse.ensures.line ∙ bad_line t x }

pub overflow_sub-i : goal.overflow_sub-i
overflow_sub-i c =
    let turn : EntryTurn c.args.file.now c.loop-at.at c.line_at-span.result c.args.shape.kind c.args.shape.gauges c.args.shape.cases c.loop-at.left c.loop-at.rows c.loop-at.values c.entry_line-entry.result (read_entries c.args.shape.kind c.args.shape.gauges c.args.shape.cases c.args.shape.count no_rows no_readings (lines (drop c.args.from c.args.file.now))) c.loop-at.line (stop_entries c.args.shape.kind c.args.shape.gauges c.args.shape.cases c.args.shape.count no_rows c.args.number (lines (drop c.args.from c.args.file.now))) = record {
      here = c.loop-at-test.true;
      span = c.line_at-span.ensures;
      judged = c.entry_line-entry.ensures;
      goal = c.loop-at.invariant.0;
      stop = c.loop-at.invariant.1;
    } in
    let range : Bounded c.args.shape.gauges c.args.shape.cases c.in-Entry.g c.in-Entry.c = turn-range turn c.in-Entry.is in
    omega (arith, range)

pub overflow_sub-k : goal.overflow_sub-k
overflow_sub-k c =
    let turn : EntryTurn c.args.file.now c.loop-at.at c.line_at-span.result c.args.shape.kind c.args.shape.gauges c.args.shape.cases c.loop-at.left c.loop-at.rows c.loop-at.values c.entry_line-entry.result (read_entries c.args.shape.kind c.args.shape.gauges c.args.shape.cases c.args.shape.count no_rows no_readings (lines (drop c.args.from c.args.file.now))) c.loop-at.line (stop_entries c.args.shape.kind c.args.shape.gauges c.args.shape.cases c.args.shape.count no_rows c.args.number (lines (drop c.args.from c.args.file.now))) = record {
      here = c.loop-at-test.true;
      span = c.line_at-span.ensures;
      judged = c.entry_line-entry.ensures;
      goal = c.loop-at.invariant.0;
      stop = c.loop-at.invariant.1;
    } in
    let range : Bounded c.args.shape.gauges c.args.shape.cases c.in-Entry.g c.in-Entry.c = turn-range turn c.in-Entry.is in
    omega (arith, range)

pub offset_bounds-rows-i : goal.offset_bounds-rows-i
offset_bounds-rows-i c =
    let turn : EntryTurn c.args.file.now c.loop-at.at c.line_at-span.result c.args.shape.kind c.args.shape.gauges c.args.shape.cases c.loop-at.left c.loop-at.rows c.loop-at.values c.entry_line-entry.result (read_entries c.args.shape.kind c.args.shape.gauges c.args.shape.cases c.args.shape.count no_rows no_readings (lines (drop c.args.from c.args.file.now))) c.loop-at.line (stop_entries c.args.shape.kind c.args.shape.gauges c.args.shape.cases c.args.shape.count no_rows c.args.number (lines (drop c.args.from c.args.file.now))) = record {
      here = c.loop-at-test.true;
      span = c.line_at-span.ensures;
      judged = c.entry_line-entry.ensures;
      goal = c.loop-at.invariant.0;
      stop = c.loop-at.invariant.1;
    } in
    let range : Bounded c.args.shape.gauges c.args.shape.cases c.in-Entry.g c.in-Entry.c = turn-range turn c.in-Entry.is in
    omega (arith, range)

pub bounds-rows-i : goal.bounds-rows-i
bounds-rows-i c =
    let turn : EntryTurn c.args.file.now c.loop-at.at c.line_at-span.result c.args.shape.kind c.args.shape.gauges c.args.shape.cases c.loop-at.left c.loop-at.rows c.loop-at.values c.entry_line-entry.result (read_entries c.args.shape.kind c.args.shape.gauges c.args.shape.cases c.args.shape.count no_rows no_readings (lines (drop c.args.from c.args.file.now))) c.loop-at.line (stop_entries c.args.shape.kind c.args.shape.gauges c.args.shape.cases c.args.shape.count no_rows c.args.number (lines (drop c.args.from c.args.file.now))) = record {
      here = c.loop-at-test.true;
      span = c.line_at-span.ensures;
      judged = c.entry_line-entry.ensures;
      goal = c.loop-at.invariant.0;
      stop = c.loop-at.invariant.1;
    } in
    let range : Bounded c.args.shape.gauges c.args.shape.cases c.in-Entry.g c.in-Entry.c = turn-range turn c.in-Entry.is in
    omega (arith, range)

pub overflow_sub-c : goal.overflow_sub-c
overflow_sub-c c =
    let turn : EntryTurn c.args.file.now c.loop-at.at c.line_at-span.result c.args.shape.kind c.args.shape.gauges c.args.shape.cases c.loop-at.left c.loop-at.rows c.loop-at.values c.entry_line-entry.result (read_entries c.args.shape.kind c.args.shape.gauges c.args.shape.cases c.args.shape.count no_rows no_readings (lines (drop c.args.from c.args.file.now))) c.loop-at.line (stop_entries c.args.shape.kind c.args.shape.gauges c.args.shape.cases c.args.shape.count no_rows c.args.number (lines (drop c.args.from c.args.file.now))) = record {
      here = c.loop-at-test.true;
      span = c.line_at-span.ensures;
      judged = c.entry_line-entry.ensures;
      goal = c.loop-at.invariant.0;
      stop = c.loop-at.invariant.1;
    } in
    let range : Bounded c.args.shape.gauges c.args.shape.cases c.in-Entry.g c.in-Entry.c = turn-range turn c.in-Entry.is in
    omega (arith, range)

pub returns-then-has : goal.returns-then-has
returns-then-has c =
    let turn : EntryTurn c.args.file.now c.loop-at.at c.line_at-span.result c.args.shape.kind c.args.shape.gauges c.args.shape.cases c.loop-at.left c.loop-at.rows c.loop-at.values c.entry_line-entry.result (read_entries c.args.shape.kind c.args.shape.gauges c.args.shape.cases c.args.shape.count no_rows no_readings (lines (drop c.args.from c.args.file.now))) c.loop-at.line (stop_entries c.args.shape.kind c.args.shape.gauges c.args.shape.cases c.args.shape.count no_rows c.args.number (lines (drop c.args.from c.args.file.now))) = record {
      here = c.loop-at-test.true;
      span = c.line_at-span.ensures;
      judged = c.entry_line-entry.ensures;
      goal = c.loop-at.invariant.0;
      stop = c.loop-at.invariant.1;
    } in
    let t = turn in
    record {
      answer = c.refuse-then-has.ensures.answer ∙ turn-repeated t c.in-Entry.is c.has.ensures c.if-has.true;
      line = c.refuse-then-has.ensures.line ∙ repeated-line t c.in-Entry.is c.has.ensures c.if-has.true;
    }

pub returns-then-left-eq0 : goal.returns-then-left-eq0
returns-then-left-eq0 c =
    let turn : EntryTurn c.args.file.now c.loop-at.at c.line_at-span.result c.args.shape.kind c.args.shape.gauges c.args.shape.cases c.loop-at.left c.loop-at.rows c.loop-at.values c.entry_line-entry.result (read_entries c.args.shape.kind c.args.shape.gauges c.args.shape.cases c.args.shape.count no_rows no_readings (lines (drop c.args.from c.args.file.now))) c.loop-at.line (stop_entries c.args.shape.kind c.args.shape.gauges c.args.shape.cases c.args.shape.count no_rows c.args.number (lines (drop c.args.from c.args.file.now))) = record {
      here = c.loop-at-test.true;
      span = c.line_at-span.ensures;
      judged = c.entry_line-entry.ensures;
      goal = c.loop-at.invariant.0;
      stop = c.loop-at.invariant.1;
    } in
    let t = turn in
    record {
      answer = c.refuse-then-left-eq0.ensures.answer ∙ turn_more t c.in-Entry.is c.has.ensures c.if-has.false c.if-left-eq0.true;
      line = c.refuse-then-left-eq0.ensures.line ∙ more-line t c.in-Entry.is c.has.ensures c.if-has.false c.if-left-eq0.true;
    }

pub with_case-requires : goal.with_case-requires
with_case-requires c =
    let turn : EntryTurn c.args.file.now c.loop-at.at c.line_at-span.result c.args.shape.kind c.args.shape.gauges c.args.shape.cases c.loop-at.left c.loop-at.rows c.loop-at.values c.entry_line-entry.result (read_entries c.args.shape.kind c.args.shape.gauges c.args.shape.cases c.args.shape.count no_rows no_readings (lines (drop c.args.from c.args.file.now))) c.loop-at.line (stop_entries c.args.shape.kind c.args.shape.gauges c.args.shape.cases c.args.shape.count no_rows c.args.number (lines (drop c.args.from c.args.file.now))) = record {
      here = c.loop-at-test.true;
      span = c.line_at-span.ensures;
      judged = c.entry_line-entry.ensures;
      goal = c.loop-at.invariant.0;
      stop = c.loop-at.invariant.1;
    } in
    let range : Bounded c.args.shape.gauges c.args.shape.cases c.in-Entry.g c.in-Entry.c = turn-range turn c.in-Entry.is in
    omega (arith, range)

pub offset_bounds-rows-i-in-Entry : goal.offset_bounds-rows-i-in-Entry
offset_bounds-rows-i-in-Entry c =
    let turn : EntryTurn c.args.file.now c.loop-at.at c.line_at-span.result c.args.shape.kind c.args.shape.gauges c.args.shape.cases c.loop-at.left c.loop-at.rows c.loop-at.values c.entry_line-entry.result (read_entries c.args.shape.kind c.args.shape.gauges c.args.shape.cases c.args.shape.count no_rows no_readings (lines (drop c.args.from c.args.file.now))) c.loop-at.line (stop_entries c.args.shape.kind c.args.shape.gauges c.args.shape.cases c.args.shape.count no_rows c.args.number (lines (drop c.args.from c.args.file.now))) = record {
      here = c.loop-at-test.true;
      span = c.line_at-span.ensures;
      judged = c.entry_line-entry.ensures;
      goal = c.loop-at.invariant.0;
      stop = c.loop-at.invariant.1;
    } in
    let range : Bounded c.args.shape.gauges c.args.shape.cases c.in-Entry.g c.in-Entry.c = turn-range turn c.in-Entry.is in
    omega (arith, range)

pub bounds-rows-i-in-Entry : goal.bounds-rows-i-in-Entry
bounds-rows-i-in-Entry c =
    let turn : EntryTurn c.args.file.now c.loop-at.at c.line_at-span.result c.args.shape.kind c.args.shape.gauges c.args.shape.cases c.loop-at.left c.loop-at.rows c.loop-at.values c.entry_line-entry.result (read_entries c.args.shape.kind c.args.shape.gauges c.args.shape.cases c.args.shape.count no_rows no_readings (lines (drop c.args.from c.args.file.now))) c.loop-at.line (stop_entries c.args.shape.kind c.args.shape.gauges c.args.shape.cases c.args.shape.count no_rows c.args.number (lines (drop c.args.from c.args.file.now))) = record {
      here = c.loop-at-test.true;
      span = c.line_at-span.ensures;
      judged = c.entry_line-entry.ensures;
      goal = c.loop-at.invariant.0;
      stop = c.loop-at.invariant.1;
    } in
    let range : Bounded c.args.shape.gauges c.args.shape.cases c.in-Entry.g c.in-Entry.c = turn-range turn c.in-Entry.is in
    omega (arith, range)

pub overflow_mul-p : goal.overflow_mul-p
overflow_mul-p c =
    let turn : EntryTurn c.args.file.now c.loop-at.at c.line_at-span.result c.args.shape.kind c.args.shape.gauges c.args.shape.cases c.loop-at.left c.loop-at.rows c.loop-at.values c.entry_line-entry.result (read_entries c.args.shape.kind c.args.shape.gauges c.args.shape.cases c.args.shape.count no_rows no_readings (lines (drop c.args.from c.args.file.now))) c.loop-at.line (stop_entries c.args.shape.kind c.args.shape.gauges c.args.shape.cases c.args.shape.count no_rows c.args.number (lines (drop c.args.from c.args.file.now))) = record {
      here = c.loop-at-test.true;
      span = c.line_at-span.ensures;
      judged = c.entry_line-entry.ensures;
      goal = c.loop-at.invariant.0;
      stop = c.loop-at.invariant.1;
    } in
    let range : Bounded c.args.shape.gauges c.args.shape.cases c.in-Entry.g c.in-Entry.c = turn-range turn c.in-Entry.is in
    record { fits = omega (arith, range) }

pub overflow_add-p : goal.overflow_add-p
overflow_add-p c =
    let turn : EntryTurn c.args.file.now c.loop-at.at c.line_at-span.result c.args.shape.kind c.args.shape.gauges c.args.shape.cases c.loop-at.left c.loop-at.rows c.loop-at.values c.entry_line-entry.result (read_entries c.args.shape.kind c.args.shape.gauges c.args.shape.cases c.args.shape.count no_rows no_readings (lines (drop c.args.from c.args.file.now))) c.loop-at.line (stop_entries c.args.shape.kind c.args.shape.gauges c.args.shape.cases c.args.shape.count no_rows c.args.number (lines (drop c.args.from c.args.file.now))) = record {
      here = c.loop-at-test.true;
      span = c.line_at-span.ensures;
      judged = c.entry_line-entry.ensures;
      goal = c.loop-at.invariant.0;
      stop = c.loop-at.invariant.1;
    } in
    let range : Bounded c.args.shape.gauges c.args.shape.cases c.in-Entry.g c.in-Entry.c = turn-range turn c.in-Entry.is in
    record { fits = omega (arith, range) }

pub offset_bounds-values-p : goal.offset_bounds-values-p
offset_bounds-values-p c =
    let turn : EntryTurn c.args.file.now c.loop-at.at c.line_at-span.result c.args.shape.kind c.args.shape.gauges c.args.shape.cases c.loop-at.left c.loop-at.rows c.loop-at.values c.entry_line-entry.result (read_entries c.args.shape.kind c.args.shape.gauges c.args.shape.cases c.args.shape.count no_rows no_readings (lines (drop c.args.from c.args.file.now))) c.loop-at.line (stop_entries c.args.shape.kind c.args.shape.gauges c.args.shape.cases c.args.shape.count no_rows c.args.number (lines (drop c.args.from c.args.file.now))) = record {
      here = c.loop-at-test.true;
      span = c.line_at-span.ensures;
      judged = c.entry_line-entry.ensures;
      goal = c.loop-at.invariant.0;
      stop = c.loop-at.invariant.1;
    } in
    let range : Bounded c.args.shape.gauges c.args.shape.cases c.in-Entry.g c.in-Entry.c = turn-range turn c.in-Entry.is in
    omega (arith, range)

pub bounds-values-p : goal.bounds-values-p
bounds-values-p c =
    let turn : EntryTurn c.args.file.now c.loop-at.at c.line_at-span.result c.args.shape.kind c.args.shape.gauges c.args.shape.cases c.loop-at.left c.loop-at.rows c.loop-at.values c.entry_line-entry.result (read_entries c.args.shape.kind c.args.shape.gauges c.args.shape.cases c.args.shape.count no_rows no_readings (lines (drop c.args.from c.args.file.now))) c.loop-at.line (stop_entries c.args.shape.kind c.args.shape.gauges c.args.shape.cases c.args.shape.count no_rows c.args.number (lines (drop c.args.from c.args.file.now))) = record {
      here = c.loop-at-test.true;
      span = c.line_at-span.ensures;
      judged = c.entry_line-entry.ensures;
      goal = c.loop-at.invariant.0;
      stop = c.loop-at.invariant.1;
    } in
    let range : Bounded c.args.shape.gauges c.args.shape.cases c.in-Entry.g c.in-Entry.c = turn-range turn c.in-Entry.is in
    omega (arith, range)

pub loop-at-smaller : goal.loop-at-smaller
loop-at-smaller c =
    let bounds : Inside c.args.file.now c.loop-at.at c.line_at-span.result.end c.line_at-span.result.next = inside c.args.file.now c.loop-at.at c.line_at-span.result c.line_at-span.ensures (omega (arith, c.loop-at-test.true)) in
    omega (arith, bounds.moves c.loop-at-test.true, bounds)

pub loop-at-preserved : goal.loop-at-preserved
loop-at-preserved c =
    let bounds : Inside c.args.file.now c.loop-at.at c.line_at-span.result.end c.line_at-span.result.next = inside c.args.file.now c.loop-at.at c.line_at-span.result c.line_at-span.ensures (omega (arith, c.loop-at-test.true)) in
    let turn : EntryTurn c.args.file.now c.loop-at.at c.line_at-span.result c.args.shape.kind c.args.shape.gauges c.args.shape.cases c.loop-at.left c.loop-at.rows c.loop-at.values c.entry_line-entry.result (read_entries c.args.shape.kind c.args.shape.gauges c.args.shape.cases c.args.shape.count no_rows no_readings (lines (drop c.args.from c.args.file.now))) c.loop-at.line (stop_entries c.args.shape.kind c.args.shape.gauges c.args.shape.cases c.args.shape.count no_rows c.args.number (lines (drop c.args.from c.args.file.now))) = record {
      here = c.loop-at-test.true;
      span = c.line_at-span.ensures;
      judged = c.entry_line-entry.ensures;
      goal = c.loop-at.invariant.0;
      stop = c.loop-at.invariant.1;
    } in (
      turn-entry turn c.in-Entry.is c.has.ensures c.if-has.false c.if-left-eq0.false
          _ c.with_case.ensures _ (to_z-of_z {w = mir.Syntax.w32} (sfits_of (rw c.in-Entry.is at c.entry_line-entry.type_inv).1.1.1.1.1.1.0.1)),
      taken-line turn c.in-Entry.is c.has.ensures c.if-has.false c.if-left-eq0.false
          _ c.with_case.ensures,
      omega (arith, bounds.moves c.loop-at-test.true, bounds),
    )

pub returns-then-left-ne0 : goal.returns-then-left-ne0
returns-then-left-ne0 c =
    let f = c.args.file.now in
    record {
      answer = c.refuse-then-left-ne0.ensures.answer ∙ entries_fewer f _ _ _ _ _ _ _ _ c.loop-at.invariant.0 c.loop-at-test.false c.if-left-ne0.true;
      line = c.refuse-then-left-ne0.ensures.line ∙ fewer_line f _ _ _ _ _ _ _ _ c.loop-at.invariant.1 c.loop-at-test.false c.if-left-ne0.true;
    }

pub returns : goal.returns
returns c =
    let f = c.args.file.now in
    record {
      answer = entries_done f _ _ _ _ _ _ _ _ c.loop-at.invariant.0 c.loop-at-test.false c.if-left-ne0.false;
      line = done_line f _ _ _ _ _ _ _ _ c.loop-at.invariant.1 c.loop-at-test.false c.if-left-ne0.false;
    }
