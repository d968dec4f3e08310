-- `file_writer::write` meets its contract: a table that passes is legal, and its file is the pattern file of its pairs (`table_file`).
use mathlib.Core.Path.{◌≡◌, sym}
use mathlib.Core.List.{[]}
use lib.ListN.{length}
use Rattle.table.specs.Tables.{table_refusal}
use Rattle.table.proofs.Legality.{legal_of}
use Rattle.recorded.specs.declared.Kind.TheVariants.{Pattern}
use Rattle.file_writer.specs.Writing.{write_file}
use Rattle.file_writer.specs.TestFiles.{file_of}
use Rattle.file_writer.proofs.Files.{no_readings_lem, table_file, after_checks}
use borrow.Author.Rules.{rules}
use Rattle.file_writer.proofs.write.Goals as goal

pub write_kind-requires : goal.write_kind-requires
write_kind-requires c =
    let passes : table_refusal c.args.t ≡ 0 = sym c.in_ok-check_table.ensures in
    let rows-length : length c.args.t.rows ≡ 64 = search rules in
    legal_of _ rows-length passes

pub invariant_of-entries : goal.invariant_of-entries
invariant_of-entries c = record { suits = no_readings_lem _ }

pub returns : goal.returns
returns c =
    let passes : table_refusal c.args.t ≡ 0 = sym c.in_ok-check_table.ensures in
    record {
      result_value = (after_checks (file_of Pattern [] c.args.t) (write_file c.args.t) c.args.out.now _ _ (table_refusal c.args.t)
          passes (table_file [] c.args.t) (c.write_kind.ensures.result_value, c.write_kind.ensures.buffer)).0;
      buffer = (after_checks (file_of Pattern [] c.args.t) (write_file c.args.t) c.args.out.now _ _ (table_refusal c.args.t)
          passes (table_file [] c.args.t) (c.write_kind.ensures.result_value, c.write_kind.ensures.buffer)).1;
    }
