-- The two sides exchanged (01: "the table with gauges and cases exchanged"): of a set of pairs over w cases, the set over w gauges
-- that has c:g exactly where the first has g:c. That law is `has_transpose` in proofs/Transposition.antt.
use Rattle.std.specs.Prelude.{List, [], ◌∷◌, ℕ, ◌+◌, ◌*◌, ◌/◌, ◌%◌, ◌^◌}
use Rattle.sets.specs.Lists.{tabulate}
use Rattle.table.specs.declared.Table.{Table}

-- the rows that have place k, as a set: bit i of it is bit k of row i
unfoldable pub column : List ℕ → ℕ → ℕ
column [] k = 0
column (r ∷ rows) k = column rows k * 2 + r / 2 ^ k % 2

unfoldable pub transpose : ℕ → List ℕ → List ℕ
transpose w rows = tabulate (column rows) w

-- the table with gauges and cases exchanged
abbrev pub transpose_table : Table → Table
transpose_table t = record { gauges = t.cases; cases = t.gauges; rows = transpose 64 t.rows }
