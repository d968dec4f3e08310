-- What the greedy steps give on a table and a chain whose rows are in the order of a preference, where places are numbers: the first maximal chain by
-- number. That it is the first by place, its rows by gauge again, is proved in proofs/Answers.antt.
use Rattle.std.specs.Prelude.{◌≡◌, List, ℕ}
use Rattle.table.specs.declared.Table.{Table}
use Rattle.table.specs.declared.Chain.{Chain}
use Rattle.table.specs.Tables.{table_rows, chain_rows, padded}
use Rattle.lists.specs.ByNumber.{pick_seq}
use Rattle.lists.specs.Growing.{FirstContaining}

-- the 64 rows are those of the first maximal chain of t, by number, that contains s
pub record FirstByNumber (t : Table) (s : Chain) (rows : List ℕ) : Type 0 where
  pub chain : List ℕ
  pub first : FirstContaining (table_rows t) pick_seq (chain_rows s) chain
  pub held : rows ≡ padded chain
