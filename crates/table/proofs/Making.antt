-- No two answers of making a table read alike.
use mathlib.Core.Path.{◌≡◌}
use Rattle.std.specs.Prelude.{Result}
use Rattle.refusals.specs.declared.Refusal.{Refusal}
use Rattle.refusals.proofs.Answering.{answered_injective}
use Rattle.table.specs.Tables.{made, blank_table}
use Rattle.table.specs.declared.Table.{Table}

pub made_injective : (m n : Result Table Refusal) → made m ≡ made n → m ≡ n
made_injective = answered_injective blank_table
