-- `file_writer::write_kind` meets its contract: the file is counted before a byte is stored, and each return has its law.
use Prim.Native.Nat.{◌≤◌}
use mathlib.Core.Path.{refl, ap}
use native.Mathlib.Omega.{arith}
use lib.ListN.{length}
use Rattle.refusals.specs.declared.Refusal.TheVariants.{BufferTooShort}
use Rattle.file_writer.specs.TestFiles.{file_of}
use Rattle.file_writer.proofs.Counting.{Small}
use Rattle.file_writer.proofs.Files.{too_short, room_refused, room_done, totals-small, file-is, wrote-is}
use borrow.Author.Rules.{rules}
use Rattle.file_writer.specs.private.StoreSteps.{Suits}
use Rattle.file_writer.proofs.write_kind.Goals as goal

pub returns-then-out-size : goal.returns-then-out-size
returns-then-out-size c =
    record {
      result_value = (room_refused 0 (file_of c.args.entries.now.kind c.args.entries.now.readings.now c.args.t) c.args.out.now BufferTooShort
          (too_short 0 (file_of c.args.entries.now.kind c.args.entries.now.readings.now c.args.t) _ refl (omega (arith, c.file_size-size.ensures, c.if-out-size.true)))).0;
      buffer = (room_refused 0 (file_of c.args.entries.now.kind c.args.entries.now.readings.now c.args.t) c.args.out.now BufferTooShort
          (too_short 0 (file_of c.args.entries.now.kind c.args.entries.now.readings.now c.args.t) _ refl (omega (arith, c.file_size-size.ensures, c.if-out-size.true)))).1;
    }

pub put_file-n-requires : goal.put_file-n-requires
put_file-n-requires c =
    let suits : Suits c.args.entries.now.kind c.args.entries.now.readings.now = search rules in
    let small : Small c.all_totals-totals.result.count c.all_totals-totals.result.size = totals-small c.args.entries.now.kind c.args.entries.now.readings.now suits c.args.t c.requires _ c.all_totals-totals.ensures in
    let fits : length (file_of c.args.entries.now.kind c.args.entries.now.readings.now c.args.t) ≤ length c.args.out.now = omega (arith, c.file_size-size.ensures, c.if-out-size.false) in
    let e = ap length (file-is c.args.entries.now.kind c.args.entries.now.readings.now suits c.args.t c.requires _ c.all_totals-totals.ensures) in
    (c.requires.gauges_high, c.requires.cases_high, omega (arith, small), omega (arith, fits, e))

pub returns : goal.returns
returns c =
    let suits : Suits c.args.entries.now.kind c.args.entries.now.readings.now = search rules in
    let fits : length (file_of c.args.entries.now.kind c.args.entries.now.readings.now c.args.t) ≤ length c.args.out.now = omega (arith, c.file_size-size.ensures, c.if-out-size.false) in
    record {
      result_value = (room_done (file_of c.args.entries.now.kind c.args.entries.now.readings.now c.args.t) c.args.out.now _ _ fits
          (wrote-is c.args.entries.now.kind c.args.entries.now.readings.now suits c.args.t c.requires _ c.all_totals-totals.ensures c.put_file-n.ensures)).0;
      buffer = (room_done (file_of c.args.entries.now.kind c.args.entries.now.readings.now c.args.t) c.args.out.now _ _ fits
          (wrote-is c.args.entries.now.kind c.args.entries.now.readings.now suits c.args.t c.requires _ c.all_totals-totals.ensures c.put_file-n.ensures)).1;
    }
