-- `table::Table::has` meets its contract: a number out of range names no pair, and otherwise the bit decides.
use mathlib.Core.Path.{◌≡◌, sym, ◌∙◌}
use native.Mathlib.Omega.{arith}
use borrow.Author.Rules.{rules}
use lib.ListN.{length}
use Rattle.table.proofs.Places.{no_gauge}
use Rattle.table.proofs.Legality.{range_not}
use Rattle.table.proofs.Table.has.Goals as goal

pub returns-then-not-in_range : goal.returns-then-not-in_range
returns-then-not-in_range c =
    let rows-length : length c.args.self.rows ≡ 64 = search rules in
    no_gauge _ c.args.g.0 _ (λ h.
    range_not 64 _ (sym c.in_range.ensures ∙ c.if-not-in_range.true) (h.0, omega (arith, h.1, rows-length)))
