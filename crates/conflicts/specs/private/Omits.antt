-- Runs that omit inside: of the calls that the rules make. What a user reads, of the answers, is `RunOmits` of crate `runs`, which is had from this.
use Rattle.std.specs.Prelude.{◌↔◌, ℕ}
use mathlib.Core.List.{List, Memᴰ}
use Rattle.table.specs.declared.Table.{Table}
use Rattle.table.specs.Chains.{IsMaximal}
use Rattle.table.specs.Tables.{table_rows}
use Rattle.rules.specs.Calls.{Call}
use Rattle.rules.specs.Keeping.{kept_sets}
use Rattle.lists.specs.Lists.{Side}
use Rattle.lists.specs.private.Demand.{DemandKeeping}
use Rattle.conflicts.specs.Conflicts.{HoldsEssential}
use Rattle.conflicts.specs.Omitting.{keeps_of}

-- what holds of the list bs of budgets, any numbers, and the list cs of calls made with them: all that `DemandKeeping` says, and the kept part
-- of the side's list has exactly the maximal chains that hold an essential pair
pub record Omits (t : Table) (s : Side) (o : List ℕ) (bs : List ℕ) (cs : List Call) : Type 0 where
  pub keeping : DemandKeeping t s o (keeps_of t) bs cs
  pub members : (x : List ℕ) → Memᴰ x (kept_sets (keeps_of t) keeping.list) ↔ (IsMaximal (table_rows t) x × HoldsEssential (table_rows t) x)
