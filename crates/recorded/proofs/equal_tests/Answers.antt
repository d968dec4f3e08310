-- `recorded::equal_tests` meets its contract: the two checks, the first test's first, and then the parts.
use mathlib.Core.Path.{◌≡◌, sym}
use borrow.Author.Rules.{rules}
use lib.ListN.{length}
use Rattle.recorded.specs.Tests.{test_refusal}
use Rattle.recorded.proofs.Equal.{first_refused, second-refused, both-pass}
use Rattle.recorded.proofs.equal_tests.Goals as goal

pub returns-in_err-check_test : goal.returns-in_err-check_test
returns-in_err-check_test c = first_refused _ _ _ c.in_err-check_test.ensures _ (search rules)

pub returns-in_err-check_test-2 : goal.returns-in_err-check_test-2
returns-in_err-check_test-2 c =
    let passed : test_refusal c.args.a ≡ 0 = sym c.in_ok-check_test.ensures in
    second-refused _ _ passed _ c.in_err-check_test-2.ensures _ (search rules)

pub returns : goal.returns
returns c =
    let passed : test_refusal c.args.a ≡ 0 = sym c.in_ok-check_test.ensures in
    let first-entries : length c.args.a.entries ≡ 64 = search rules in
    let first-readings : length c.args.a.readings ≡ 4096 = search rules in
    let second-entries : length c.args.b.entries ≡ 64 = search rules in
    let second-readings : length c.args.b.readings ≡ 4096 = search rules in
    both-pass _ _ passed (sym c.in_ok-check_test-2.ensures) first-entries first-readings second-entries second-readings _ c.same_parts.ensures
