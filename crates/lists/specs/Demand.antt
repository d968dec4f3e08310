-- The numbers of demand 3, each named once, and what two runs share. A reader finds the demand itself, of the answers of run calls, in
-- runs/specs/Demand.antt. That the three numbers cannot be lowered is `Attained` in crate `known`; they are used there by these names.
use Rattle.std.specs.Prelude.{◌≡◌, ◌↔◌, ℕ, ◌+◌, ◌*◌, ◌≤◌, min, length}
use mathlib.Core.List.{List, Memᴰ}
use Rattle.table.specs.declared.Table.{Table}
use Rattle.rules.specs.Sequences.{factorial}

-- "those from the start up to and with the first hand-out, or so far, to at most G + 1 and L + 1": n is G in the gauge run and L in the case run,
-- whatever the preference (02, R-12: "and so are the move limits")
abbrev pub start_limit : ℕ → ℕ
start_limit n = n + 1

-- "The moves reported after a hand-out .. add up to at most 2G + 1 in the gauge run and 2L + 1 in the case run"
abbrev pub gap_limit : ℕ → ℕ
gap_limit n = 2 * n + 1

-- "Their common number is at most the factorial of the smaller of G and L"
abbrev pub most_sets : Table → ℕ
most_sets t = factorial (min t.gauges t.cases)

-- "So the two runs, each gone to its end, share one set": two runs of the table, each of either side and under its own preference, each called on
-- to its end, hand out xs and ys (02, R-12: "The set of ladders is the same under every preference")
pub record OneSet (t : Table) (xs ys : List (List ℕ)) : Type 0 where
  pub same : (x : List ℕ) → Memᴰ x xs ↔ Memᴰ x ys
  pub equally_many : length xs ≡ length ys
  pub few : length xs ≤ most_sets t
