-- Four columns at once.
use Rattle.std.specs.Prelude.{List, ℕ, ◌+◌}
use Rattle.transpose.specs.Transposing.{column}
use Rattle.transpose.specs.declared.Four.{Four}

-- column k of the rows, and the three behind it
abbrev pub four_of : List ℕ → ℕ → Four
four_of rows k = record { a = column rows k; b = column rows (k + 1); c = column rows (k + 2); d = column rows (k + 3) }
