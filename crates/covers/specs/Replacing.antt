-- R-8 (02: "between two tables of the same shape that differ in one gauge's row only, or in one case's column only, the least number of R-7
-- differs by at most 1"). The least number is that of Covers.antt, so the statement holds where a search would be refused or spent.
--
-- In order: one gauge replaced, and one case; the two tables; the claim.
--
-- Elsewhere: the claim's theorem, and that 1 is reached, by a gauge and by a case (`one_reached`), proofs/Replacing.antt; what the words say of rows,
-- columns and numbers (`gauge_rows`, `case_columns`, `at_most_one`), proofs/Sentences.antt; that every table has one least number, `least_exists` in
-- proofs/Fewest.antt, `least_unique` in proofs/Covers.antt.
use Rattle.std.specs.Prelude.{◌≡◌, ◌⊎◌, ◌↔◌, List, ℕ, ◌+◌, ◌≤◌, length}
use Rattle.table.specs.Pairs.{Has}
use Rattle.table.specs.Tables.{Legal, table_rows}
use Rattle.table.specs.declared.Table.{Table}
use Rattle.covers.specs.Covers.{LeastNumber}

-- r and r' have the same pairs but for those of gauge g
pub record OneGauge (g : ℕ) (r r' : List ℕ) : Type 0 where
  pub shape : length r' ≡ length r
  pub others : (h c : ℕ) → ¬ (h ≡ g) → Has r h c ↔ Has r' h c

-- r and r' have the same pairs but for those of case c
pub record OneCase (c : ℕ) (r r' : List ℕ) : Type 0 where
  pub shape : length r' ≡ length r
  pub others : (g d : ℕ) → ¬ (d ≡ c) → Has r g d ↔ Has r' g d

-- "two tables of the same shape that differ in one gauge's row only, or in one case's column only"
pub record Replaced (t u : Table) : Type 0 where
  pub gauges : u.gauges ≡ t.gauges
  pub cases : u.cases ≡ t.cases
  pub one : ((g : ℕ) × OneGauge g (table_rows t) (table_rows u)) ⊎ ((c : ℕ) × OneCase c (table_rows t) (table_rows u))

-- "differs by at most 1"
pub record AtMostOne (k j : ℕ) : Type 0 where
  pub more : j ≤ k + 1
  pub fewer : k ≤ j + 1

-- of the least numbers of the two tables, each by ladders of its own
abbrev pub MovesAtMostOne : Table → Table → Type 0
MovesAtMostOne t u = (k j : ℕ) → LeastNumber (table_rows t) k → LeastNumber (table_rows u) j → AtMostOne k j

-- "Show that between two tables .. the least number of R-7 differs by at most 1", of every two legal tables
-- Theorem alone: `one_replaced` in proofs/Replacing.antt
pub record ReplacingClaim : Type 0 where
  pub differs : (t u : Table) → Legal t → Legal u → Replaced t u → MovesAtMostOne t u
