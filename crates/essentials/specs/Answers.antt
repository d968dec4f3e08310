-- What the entries answer (02, R-2: "Give the rivals of a pair, tell whether it decides"): refusals 10 and 11 of the table, "19: the pair
-- named is not in the table; after the table's checks", and then the pair's conflicts as a set, or yes or no (`Judged` of crate `judge`); or, of a table
-- alone, all essential pairs as a set. Each leaves one answer to every table and every pair of numbers: `pairs_unique` in proofs/Answers.antt,
-- `judged_unique` in crate `judge`.
use Rattle.std.specs.Prelude.{◌≡◌, ◌↔◌, cond, List, ℕ, eqb, length, Result, Ok, Err}
use Rattle.table.specs.declared.Table.{Table}
use Rattle.table.specs.Pairs.{Has}
use Rattle.table.specs.Tables.{table_rows, table_refusal, no_rows}
use Rattle.refusals.specs.Answers.{Answer, refused}
use Rattle.refusals.specs.declared.Refusal.{Refusal}
use Rattle.conflicts.specs.Conflicts.{Conflict, Essential}
use Rattle.conflicts.specs.Tests.{has_pair}
use Rattle.essentials.specs.declared.PairSet.{PairSet}

-- the number for a pair named, after its table, or 0: `has_pair` is `Has` as a test, and a number outside 1..G or 1..L names no pair
unfoldable pub pair_refusal : Table → ℕ → ℕ → ℕ
pair_refusal t g c = cond (eqb (table_refusal t) 0) (cond (has_pair (table_rows t) g c) 0 19) (table_refusal t)

-- how the code's answer reads: the number, 0 where nothing is refused, and the 64 rows of the set
abbrev pub found_pairs : Result PairSet Refusal → Answer (List ℕ)
found_pairs (Ok pairs) = record { refusal = 0; value = pairs.rows }
found_pairs (Err why) = refused why no_rows

-- a answers with the refusal n, and where that is 0 with exactly the pairs of which P holds; "A refusal yields its number and nothing else."
pub record GivesPairs (n : ℕ) (P : ℕ → ℕ → Type 0) (a : Answer (List ℕ)) : Type 0 where
  pub refusal : a.refusal ≡ n
  pub size : length a.value ≡ 64
  pub pairs : a.refusal ≡ 0 → (g c : ℕ) → Has a.value g c ↔ P g c
  pub blank : ¬ (a.refusal ≡ 0) → a.value ≡ no_rows

-- the conflicts of the pair g:c of the table t
abbrev pub GivesConflicts : Table → ℕ → ℕ → Answer (List ℕ) → Type 0
GivesConflicts t g c a = GivesPairs (pair_refusal t g c) (Conflict (table_rows t) g c) a

-- all essential pairs of the table t
abbrev pub GivesEssentials : Table → Answer (List ℕ) → Type 0
GivesEssentials t a = GivesPairs (table_refusal t) (Essential (table_rows t)) a
