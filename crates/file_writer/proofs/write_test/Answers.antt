-- `file_writer::write_test` meets its contract: a test that passes is legal, and its file is that of its kind.
use mathlib.Core.Path.{◌≡◌, sym}
use lib.ListN.{length}
use Rattle.recorded.specs.Tests.{LegalTest, test_refusal}
use Rattle.recorded.proofs.Legality.{test_legal}
use Rattle.file_writer.specs.TestFiles.{test_file}
use Rattle.file_writer.proofs.Sizes.{test_readings}
use Rattle.file_writer.proofs.Files.{test_file_lem, after_checks}
use borrow.Author.Rules.{rules}
use Rattle.file_writer.proofs.write_test.Goals as goal

pub write_kind-requires : goal.write_kind-requires
write_kind-requires c =
    let passes : test_refusal c.args.t ≡ 0 = sym c.in_ok-check_test.ensures in
    let entries-length : length c.args.t.entries ≡ 64 = search rules in
    let readings-length : length c.args.t.readings ≡ 4096 = search rules in
    let legal : LegalTest c.args.t = test_legal c.args.t entries-length readings-length passes in
    legal.entries_legal

pub invariant_of-entries : goal.invariant_of-entries
invariant_of-entries c =
    let passes : test_refusal c.args.t ≡ 0 = sym c.in_ok-check_test.ensures in
    let entries-length : length c.args.t.entries ≡ 64 = search rules in
    let readings-length : length c.args.t.readings ≡ 4096 = search rules in
    record { suits = test_readings c.args.t (test_legal c.args.t entries-length readings-length passes) }

pub returns : goal.returns
returns c =
    let passes : test_refusal c.args.t ≡ 0 = sym c.in_ok-check_test.ensures in
    record {
      result_value = (after_checks _ (test_file c.args.t) c.args.out.now _ _ (test_refusal c.args.t) passes (test_file_lem c.args.t) (c.write_kind.ensures.result_value, c.write_kind.ensures.buffer)).0;
      buffer = (after_checks _ (test_file c.args.t) c.args.out.now _ _ (test_refusal c.args.t) passes (test_file_lem c.args.t) (c.write_kind.ensures.result_value, c.write_kind.ensures.buffer)).1;
    }
