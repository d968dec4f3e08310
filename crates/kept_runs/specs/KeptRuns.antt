-- A run that remains a run of a table (02, R-10: "A run paused on the old table remains a run of the old table"). A paused value carries its table,
-- and its preference (R-12: "A paused run keeps its preference"), and no commit reaches into it: a commit returns a table of its own. What that leaves to a
-- caller after any calls, `remains_paused` in proofs/KeptRuns.antt.
use Rattle.std.specs.Prelude.{◌≡◌, List, ℕ}
use Rattle.table.specs.declared.Table.{Table}
use Rattle.rules.specs.Machine.{State}
use Rattle.lists.specs.Lists.{Side}
use Rattle.runs.specs.Paused.{Value}
use Rattle.runs.specs.Calling.{Step, last_value, PausedAt}
use Rattle.runs.specs.Omitting.{CallsEither}

-- v is paused in a run of the table t, and remains so: whatever calls are made from v, the value that they leave has that table and v's preference, and is
-- the paused value of a state that moves from a fresh start on them lead to
-- Theorem alone: `old_run_kept` in proofs/KeptRuns.antt
pub record RemainsRunOf (side : Table → Side) (t : Table) (v : Value) : Type 0 where
  pub table : (bs : List ℕ) (rs : List Step) → CallsEither side v bs rs → (last_value v rs).table ≡ t
  pub order : (bs : List ℕ) (rs : List Step) → CallsEither side v bs rs → (last_value v rs).order ≡ v.order
  pub state : (bs : List ℕ) (rs : List Step) → CallsEither side v bs rs → (s : State) × PausedAt side (last_value v rs) s
