-- `mechanisms::fewest_ladders` meets its contract: one law for each check, in their order, and what the search found.
use mathlib.Core.Path.{◌≡◌, refl, sym, ap}
use Prim.Native.Nat.{ℕ, ◌≤◌}
use native.Mathlib.Omega.{arith}
use borrow.Author.Rules.{rules}
use lib.ListN.{length, length-replicate}
use lib.Seq.{length-take-le}
use Rattle.std.specs.Prelude.{Err}
use Rattle.table.specs.Tables.{table_refusal}
use Rattle.table.proofs.Legality.{legal_of}
use Rattle.mechanisms.specs.Covering.{fewest, most_tried}
use Rattle.mechanisms.specs.private.Steps.{SmallTable}
use Rattle.mechanisms.proofs.Answers.{covers_table, covers-budget, covers-gauges, covers-cases, covers-ladders, covers-searched}
use Rattle.mechanisms.proofs.fewest_ladders.Goals as goal

pub returns-in_err-check_table : goal.returns-in_err-check_table
returns-in_err-check_table c =
    let up : c.from_residual.result ≡ Err c.in_err-check_table.field-0.0 = search rules in
    covers_table _ _ c.in_err-check_table.field-0.0 _ (ap fewest up) c.in_err-check_table.ensures

pub returns-then-budget-gt-MOST_TRIED : goal.returns-then-budget-gt-MOST_TRIED
returns-then-budget-gt-MOST_TRIED c =
    let passed : table_refusal c.args.t ≡ 0 = sym c.in_ok-check_table.ensures in
    covers-budget _ _ passed _ refl (omega (arith, c.if-budget-gt-MOST_TRIED.true))

pub returns-then-t-gt-MOST_SIDE : goal.returns-then-t-gt-MOST_SIDE
returns-then-t-gt-MOST_SIDE c =
    let passed : table_refusal c.args.t ≡ 0 = sym c.in_ok-check_table.ensures in
    covers-gauges _ _ passed (omega (arith, c.if-budget-gt-MOST_TRIED.false)) _ refl (omega (arith, c.if-t-gt-MOST_SIDE.true))

pub returns-then-t-gt-MOST_SIDE-2 : goal.returns-then-t-gt-MOST_SIDE-2
returns-then-t-gt-MOST_SIDE-2 c =
    let passed : table_refusal c.args.t ≡ 0 = sym c.in_ok-check_table.ensures in
    covers-cases _ _ passed (omega (arith, c.if-budget-gt-MOST_TRIED.false)) (omega (arith, c.if-t-gt-MOST_SIDE.false)) _ refl
    (omega (arith, c.if-t-gt-MOST_SIDE-2.true))

pub list_ladders-count-requires : goal.list_ladders-count-requires
list_ladders-count-requires c =
    let rows-length : length c.args.t.rows ≡ 64 = search rules in
    let passed : table_refusal c.args.t ≡ 0 = sym c.in_ok-check_table.ensures in
    let small : SmallTable c.args.t = record {
      legal = legal_of c.args.t rows-length passed;
      gauges = omega (arith, c.if-t-gt-MOST_SIDE.false);
      cases = omega (arith, c.if-t-gt-MOST_SIDE-2.false);
    } in
    record {
      small_table = small;
      room = length-replicate {A = ℕ} 1024 0;
    }

pub returns-then-count-gt-MOST_LADDERS : goal.returns-then-count-gt-MOST_LADDERS
returns-then-count-gt-MOST_LADDERS c =
    let passed : table_refusal c.args.t ≡ 0 = sym c.in_ok-check_table.ensures in
    let rows-length : length c.args.t.rows ≡ 64 = search rules in
    let small : SmallTable c.args.t = record {
      legal = legal_of c.args.t rows-length passed;
      gauges = omega (arith, c.if-t-gt-MOST_SIDE.false);
      cases = omega (arith, c.if-t-gt-MOST_SIDE-2.false);
    } in
    let within : c.args.budget ≤ most_tried = omega (arith, c.if-budget-gt-MOST_TRIED.false) in
    covers-ladders _ _ passed within small.gauges small.cases _ _ c.list_ladders-count.ensures _ refl
    (omega (arith, c.if-count-gt-MOST_LADDERS.true))

pub slice_bounds-ladders-end : goal.slice_bounds-ladders-end
slice_bounds-ladders-end c = omega (arith, c.list_ladders-count.ensures.size, c.if-count-gt-MOST_LADDERS.false)

pub slice_bounds-search-end : goal.slice_bounds-search-end
slice_bounds-search-end c = sym (length-take-le _ _ (omega (arith, c.list_ladders-count.ensures.size, c.if-count-gt-MOST_LADDERS.false)))

pub search-requires : goal.search-requires
search-requires c =
    let rows-length : length c.args.t.rows ≡ 64 = search rules in
    let passed : table_refusal c.args.t ≡ 0 = sym c.in_ok-check_table.ensures in
    let small : SmallTable c.args.t = record {
      legal = legal_of c.args.t rows-length passed;
      gauges = omega (arith, c.if-t-gt-MOST_SIDE.false);
      cases = omega (arith, c.if-t-gt-MOST_SIDE-2.false);
    } in
    record {
      small = small;
      listed = c.list_ladders-count.ensures.whole (omega (arith, c.if-count-gt-MOST_LADDERS.false));
    }

pub returns : goal.returns
returns c =
    let passed : table_refusal c.args.t ≡ 0 = sym c.in_ok-check_table.ensures in
    let rows-length : length c.args.t.rows ≡ 64 = search rules in
    let small : SmallTable c.args.t = record {
      legal = legal_of c.args.t rows-length passed;
      gauges = omega (arith, c.if-t-gt-MOST_SIDE.false);
      cases = omega (arith, c.if-t-gt-MOST_SIDE-2.false);
    } in
    let within : c.args.budget ≤ most_tried = omega (arith, c.if-budget-gt-MOST_TRIED.false) in
    covers-searched _ _ passed within small.gauges small.cases _ _ c.list_ladders-count.ensures _
    (omega (arith, c.if-count-gt-MOST_LADDERS.false)) c.search.ensures
