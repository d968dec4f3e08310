-- `file_writer::file_size` meets its contract: the file's length is the sum of its parts' (`size_is`), and small.
use native.Mathlib.Omega.{arith}
use Rattle.file_writer.proofs.Counting.{Small}
use Rattle.file_writer.proofs.Files.{totals-small, size_is}
use borrow.Author.Rules.{rules}
use Rattle.file_writer.specs.private.StoreSteps.{Suits}
use Rattle.file_writer.proofs.file_size.Goals as goal

pub number_width-requires-3 : goal.number_width-requires-3
number_width-requires-3 c =
    let suits : Suits c.args.entries.now.kind c.args.entries.now.readings.now = search rules in
    let small : Small c.args.totals.count c.args.totals.size = totals-small c.args.entries.now.kind c.args.entries.now.readings.now suits c.args.t c.requires.0 c.args.totals c.requires.1 in
    omega (arith, small)

pub overflow_add-result-4 : goal.overflow_add-result-4
overflow_add-result-4 c =
    let suits : Suits c.args.entries.now.kind c.args.entries.now.readings.now = search rules in
    let small : Small c.args.totals.count c.args.totals.size = totals-small c.args.entries.now.kind c.args.entries.now.readings.now suits c.args.t c.requires.0 c.args.totals c.requires.1 in
    omega (arith, small)

pub returns : goal.returns
returns c =
    let suits : Suits c.args.entries.now.kind c.args.entries.now.readings.now = search rules in
    size_is c.args.entries.now.kind c.args.entries.now.readings.now suits c.args.t c.requires.0 c.args.totals c.requires.1 _ _ _
    c.number_width.ensures.is
    c.number_width-2.ensures.is c.number_width-3.ensures.is
