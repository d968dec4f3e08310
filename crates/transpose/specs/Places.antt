-- The rows of an array, read by place, so that nothing has to be known of the array.
use Rattle.std.specs.Prelude.{List, ℕ, min}
use Rattle.sets.specs.Lists.{tabulate}
use Rattle.table.specs.Pairs.{row}

-- the first n rows, at most 64
unfoldable pub places : ℕ → List ℕ → List ℕ
places n rows = tabulate (row rows) (min n 64)
