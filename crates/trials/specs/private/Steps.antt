-- What the private steps of a trial and a commit have at hand and compute: a place of a legal table, a chain of a table's shape, and a row with one
-- place changed. Places count from 0 here: place k of a row is case k + 1.
use Rattle.std.specs.Prelude.{◌≡◌, not, cond, ℕ, ◌≤◌, eqb}
use Rattle.sets.specs.Sets.{bit}
use Rattle.table.specs.declared.Table.{Table}
use Rattle.table.specs.declared.Chain.{Chain}
use Rattle.table.specs.Pairs.{row}
use Rattle.table.specs.Chains.{IsChain}
use Rattle.table.specs.Tables.{Legal, chain_rows, table_refusal, chain_refusal}

-- a place that the checks have passed: the table is legal, and has the gauge g and the case c
pub record Placed (t : Table) (g c : ℕ) : Type 0 where
  pub legal : Legal t
  pub gauge_low : 1 ≤ g
  pub gauge_high : g ≤ t.gauges
  pub case_low : 1 ≤ c
  pub case_high : c ≤ t.cases

-- a chain that the checks have passed
pub record Passed (t : Table) (s : Chain) : Type 0 where
  pub passes : chain_refusal t s ≡ 0
  pub chain : IsChain (chain_rows s)

-- the chain s has the shape of the table u, which is legal: as many rows, and no pair past the last; it need not be within the table
pub record Shaped (u : Table) (s : Chain) : Type 0 where
  pub passes : table_refusal u ≡ 0
  pub count : s.gauges ≡ u.gauges
  pub rest : (i : ℕ) → u.gauges ≤ i → row s.rows i ≡ 0
  pub chain : IsChain (chain_rows s)

-- r is the set a with place k the other way
pub record Toggled (a k r : ℕ) : Type 0 where
  pub bits : (i : ℕ) → bit r i ≡ cond (eqb i k) (not (bit a i)) (bit a i)
