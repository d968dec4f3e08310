-- The run that omits (02, R-2: "let a run, by its end, hand out exactly the ladders that hold a deciding pair, in the same order"): calls of a
-- side of a table, under a preference (R-12), that hand over the sets which hold an essential pair, and omit the others. What a call does at
-- an omitted ladder is said in rules/specs/Keeping, and what holds of every list of calls, of the answers, in runs/specs/Omitting.
use Rattle.std.specs.Prelude.{Bool, List, ℕ}
use Rattle.table.specs.declared.Table.{Table}
use Rattle.table.specs.Tables.{table_rows}
use Rattle.rules.specs.Calls.{Call}
use Rattle.lists.specs.Lists.{Side}
use Rattle.lists.specs.Keeping.{calls_keeping}
use Rattle.conflicts.specs.Tests.{holds_essential}

-- the sets that an omitting run of the table t hands over
abbrev pub keeps_of : Table → List ℕ → Bool
keeps_of t = holds_essential t.cases (table_rows t)

-- the calls of the omitting run of a side under the preference o, from the fresh start
abbrev pub omitting_calls : Table → Side → List ℕ → List ℕ → List Call
omitting_calls t s o bs = calls_keeping s o (keeps_of t) bs
