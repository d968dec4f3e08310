-- `blocks::fill` meets its contract: each return is what `Filled` says (Fillings.antt), and what `Filled` says carries the list on (Listing.antt).
use mathlib.Core.Path.{◌≡◌}
use mathlib.Core.List.{List}
use Prim.Native.Nat.{ℕ}
use lib.ListN.{length}
use borrow.Author.Rules.{rules}
use Rattle.runs.specs.Paused.{gauge_value}
use Rattle.runs.proofs.Starting.{gauge_started}
use Rattle.blocks.specs.Filling.{Filling, Filled, CarriesList}
use Rattle.blocks.specs.private.Turning.{Checked}
use Rattle.blocks.proofs.Fillings.{filled_on}
use Rattle.blocks.proofs.Listing.{carries_list}
use Rattle.blocks.proofs.fill.Goals as goal

pub returns : goal.returns
returns c =
    let rows-length : length c.args.run.table.rows ≡ 64 = search rules in
    let order-length : length c.args.run.order.numbers ≡ 64 = search rules in
    let carried : (f : Filling) (now : List ℕ) → Filled (gauge_value c.args.run) c.args.out.now f now → Filled (gauge_value c.args.run) c.args.out.now f now × CarriesList (gauge_value c.args.run) (record { before = c.args.out.now; answer = f; now = now }) = λ f now h. (
      h,
      carries_list (gauge_value c.args.run) (gauge_started c.args.run.table rows-length c.args.run.order.numbers order-length)
          (record { before = c.args.out.now; answer = f; now = now }) h,
    ) in
    let passed : Checked (gauge_value c.args.run) 0 = c.in_ok-check_run.ensures in
    record {
      filled = (carried _ _
          (filled_on (gauge_value c.args.run) c.args.out.now _ _ passed c.if-out-lt-LONGEST.false c.fill_on.ensures)).0;
      listed = (carried _ _
          (filled_on (gauge_value c.args.run) c.args.out.now _ _ passed c.if-out-lt-LONGEST.false c.fill_on.ensures)).1;
    }
