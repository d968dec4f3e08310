-- What the private steps of the writer promise: which bytes a step stores and where the next one goes on, and the counts that the length
-- of the file is made of. `write_answer` and `buffer_after` of specs/Writing.antt are what the public function promises.
use Rattle.std.specs.Prelude.{ℕ, suc, ◌+◌, ◌≤◌, ◌≡◌, List, [], ◌∷◌, ◌++◌, length, take, drop, ℤ, nat_abs}
use Rattle.std.proofs.lemmas.List.Edits.{sets}
use Rattle.table.specs.declared.Gauge.{Gauge}
use Rattle.table.specs.declared.Case.{Case}
use Rattle.table.specs.declared.Table.{Table}
use Rattle.recorded.specs.Tests.{reading}
use Rattle.recorded.specs.declared.Kind.{Kind}
use Rattle.recorded.specs.declared.Kind.TheVariants.{Integer}
use Rattle.file_kinds.specs.Banner.{banner_of}
use Rattle.file_writer.specs.Writing.{digits, gauge_of, case_of, GaugeCase, row_pairs, pairs_from, lines_of}
use Rattle.file_writer.specs.TestFiles.{reading_text, value_at, entry_text}
use Rattle.file_writer.specs.declared.Totals.{Totals}

-- the step stored the bytes vs from the place at on, and nothing else; next is the place behind them
pub record Wrote (l : List ℕ) (at : ℕ) (vs : List ℕ) (m : List ℕ) (next : ℕ) : Type 0 where
  pub bytes : m ≡ sets l at vs
  pub place : next ≡ at + length vs

-- there is room for the bytes vs from the place at on
abbrev pub Room : List ℕ → ℕ → List ℕ → Type 0
Room l at vs = at + length vs ≤ length l

-- a number, and the byte b behind it
abbrev pub field_bytes : ℕ → ℕ → List ℕ
field_bytes n b = digits n ++ b ∷ []

-- the line of a pair, with the byte b behind it, and that of an entry
abbrev pub pair_bytes : Gauge → Case → ℕ → List ℕ
pair_bytes g c b = field_bytes g.0 32 ++ field_bytes c.0 b

abbrev pub pair_at : Gauge → Case → GaugeCase
pair_at g c = record { gauge = g; case = c }

abbrev pub entry_bytes : Kind → List ℤ → Gauge → Case → List ℕ
entry_bytes kind vs g c = entry_text kind vs (pair_at g c) ++ 10 ∷ []

-- a reading, and the LF behind it
abbrev pub reading_bytes : ℤ → List ℕ
reading_bytes v = reading_text v ++ 10 ∷ []

-- the size line, of the last gauge, the last case and n pairs
abbrev pub size_bytes : Gauge → Case → ℕ → List ℕ
size_bytes g c n = field_bytes g.0 32 ++ (field_bytes c.0 32 ++ field_bytes n 10)

-- the pairs of the rows up to the gauge gs from row i on, over all 64 cases, and their lines; of a legal table these are its own
-- (`pairs_all` in proofs/Files.antt)
abbrev pub pairs_at : Gauge → List ℕ → ℕ → List GaugeCase
pairs_at gs rows i = pairs_from 64 (i + 1) (drop i (take gs.0 rows))

abbrev pub rows_from : Kind → List ℤ → Gauge → List ℕ → ℕ → List ℕ
rows_from kind vs gs rows i = lines_of (entry_text kind vs) (pairs_at gs rows i)

-- the lines of one gauge's row
abbrev pub row_lines : Kind → List ℤ → Gauge → ℕ → List ℕ
row_lines kind vs g row = lines_of (entry_text kind vs) (row_pairs g 64 1 row)

-- the banner's line
abbrev pub banner_bytes : Kind → List ℕ
banner_bytes kind = banner_of kind ++ 10 ∷ []

-- the file of a kind whose size line counts n entries
abbrev pub file_bytes : Kind → List ℤ → Table → ℕ → List ℕ
file_bytes kind vs t n = banner_bytes kind ++ (size_bytes (gauge_of t.gauges) (case_of t.cases) n ++ rows_from kind vs (gauge_of t.gauges) t.rows 0)

-- r is the number of digits of n, and small
pub record Width (n r : ℕ) : Type 0 where
  pub is : r ≡ length (digits n)
  pub small : r ≤ 9

-- how many pairs there are, and how many bytes their lines take
pub record IsTotals (text : GaugeCase → List ℕ) (ps : List GaugeCase) (t : Totals) : Type 0 where
  pub pairs : t.count ≡ length ps
  pub bytes : t.size ≡ length (lines_of text ps)

abbrev pub AllTotals : Kind → List ℤ → Table → Totals → Type 0
AllTotals kind vs t = IsTotals (entry_text kind vs) (pairs_at (gauge_of t.gauges) t.rows 0)

-- the readings that a file of this kind asks for: 4,096, each small; a pattern file asks for none
pub record Suits (kind : Kind) (vs : List ℤ) : Type 0 where
  pub size : kind ≡ Integer → length vs ≡ 4096
  pub small : kind ≡ Integer → (p : ℕ) → nat_abs (reading vs p) ≤ 1000000

-- how many bytes the readings of pairs take, each with the space ahead of it
abbrev pub value_bytes : List ℤ → List GaugeCase → ℕ
value_bytes vs [] = 0
value_bytes vs (p ∷ ps) = suc (length (reading_text (value_at vs p))) + value_bytes vs ps
