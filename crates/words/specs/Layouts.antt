-- How the words of a lent slice read as tables, chains, rows and numbers, and which words these are put as. A slice is the list of its words, and a place
-- is counted from 0; a place behind the last word reads as 0.
--
-- In order: reading at a place; the words of a value; words put at a place.
use Rattle.std.specs.Prelude.{◌≡◌, List, ◌∷◌, ℕ, ◌+◌, min, get_or}
use Rattle.std.proofs.lemmas.List.Edits.{sets as stored}
use Rattle.sets.specs.Lists.{tabulate}
use Rattle.table.specs.declared.Table.{Table}
use Rattle.table.specs.declared.Chain.{Chain}

-- ---- reading
abbrev pub word_at : List ℕ → ℕ → ℕ
word_at w i = get_or w i 0

-- 64 rows, a word each
abbrev pub rows_at : ℕ → List ℕ → List ℕ
rows_at a w = tabulate (λ i. word_at w (a + i)) 64

-- a number of a gauge or a case: a word above 255 is none, and reads as 255, which is none either
abbrev pub as_number : ℕ → ℕ
as_number x = min x 255

-- 64 numbers, a word each
abbrev pub numbers_at : ℕ → List ℕ → List ℕ
numbers_at a w = tabulate (λ i. as_number (word_at w (a + i))) 64

-- a table: its gauges, its cases, 64 rows
abbrev pub table_at : ℕ → List ℕ → Table
table_at a w = record { gauges = word_at w a; cases = word_at w (a + 1); rows = rows_at (a + 2) w }

-- a chain: its row count, 64 rows
abbrev pub chain_at : ℕ → List ℕ → Chain
chain_at a w = record { gauges = word_at w a; rows = rows_at (a + 1) w }

-- ---- putting
abbrev pub table_words : Table → List ℕ
table_words t = t.gauges ∷ (t.cases ∷ t.rows)

abbrev pub chain_words : Chain → List ℕ
chain_words s = s.gauges ∷ s.rows

-- w' is w with the words vs from place a on; every other word is as it was, and so is the length (`sets` of the library)
pub record Put (w : List ℕ) (a : ℕ) (vs w' : List ℕ) : Type 0 where
  pub words : w' ≡ stored w a vs
