-- A table and a chain by the words that were read.
use mathlib.Core.Path.{◌≡◌}
use mathlib.Core.List.{List}
use Prim.Native.Nat.{ℕ, ◌+◌}
use Rattle.table.specs.declared.Table.{Table}
use Rattle.table.specs.declared.Chain.{Chain}
use Rattle.words.specs.Layouts.{word_at, rows_at, table_at, chain_at}

pub table_is : (w : List ℕ) (a g l : ℕ) (r : List ℕ) → g ≡ word_at w a → l ≡ word_at w (a + 1) → r ≡ rows_at (a + 2) w
    → ◌≡◌ {A = Table} (record { gauges = g; cases = l; rows = r }) (table_at a w)
table_is w a g l r eg el er = rw (eg, el, er)

pub chain_is : (w : List ℕ) (a g : ℕ) (r : List ℕ) → g ≡ word_at w a → r ≡ rows_at (a + 1) w → ◌≡◌ {A = Chain} (record { gauges = g; rows = r }) (chain_at a w)
chain_is w a g r eg er = rw (eg, er)
