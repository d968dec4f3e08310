-- Legal tables and the checks of a table and of a chain handed in (01, "A table has G gauges and L load cases .." and
-- the refusals 10 to 13). The tests are written out in 01's order; that they decide `Legal` and `Within` is proved in
-- proofs/Legality.antt.
use Rattle.std.specs.Prelude.{◌≡◌, Bool, true, ◌&&◌, cond, List, [], ◌∷◌, ◌++◌, ℕ, zero, suc, ◌-◌, ◌^◌, ◌≤◌, ◌<◌, eqb, leb, ltb, length, take, replicate, Result}
use Rattle.sets.specs.Sets.{is_subset}
use Rattle.table.specs.Pairs.{row}
use Rattle.refusals.specs.declared.Refusal.{Refusal}
use Rattle.refusals.specs.Answers.{Answer, answer, answered}
use Rattle.table.specs.declared.Table.{Table}
use Rattle.table.specs.declared.Chain.{Chain}

-- a legal table: G and L from 1 to 64, bits L and above clear, rows past G zero
pub record Legal (t : Table) : Type 0 where
  pub gauges_low : 1 ≤ t.gauges
  pub gauges_high : t.gauges ≤ 64
  pub cases_low : 1 ≤ t.cases
  pub cases_high : t.cases ≤ 64
  pub rows_length : length t.rows ≡ 64
  pub rows_bits : (i : ℕ) → row t.rows i < 2 ^ t.cases
  pub rows_rest : (i : ℕ) → t.gauges ≤ i → row t.rows i ≡ 0

-- the pairs of a table, and of a chain, as a set: their first rows
abbrev pub table_rows : Table → List ℕ
table_rows t = take t.gauges t.rows

abbrev pub chain_rows : Chain → List ℕ
chain_rows s = take s.gauges s.rows

-- a number from 1 to m
abbrev pub in_range : ℕ → ℕ → Bool
in_range m n = leb 1 n && leb n m

-- no bit at place l or above in the first g rows, and no bit at all in the others
unfoldable pub rows_fit : ℕ → ℕ → List ℕ → Bool
rows_fit g l [] = true
rows_fit zero l (r ∷ rows) = eqb r 0 && rows_fit zero l rows
rows_fit (suc g) l (r ∷ rows) = ltb r (2 ^ l) && rows_fit g l rows

-- 01's number for a table handed in, or 0: "10 G or L not in 1..64; then 11 a bit at L or above, or a row past G not
-- zero"
unfoldable pub table_refusal : Table → ℕ
table_refusal t =
    cond (in_range 64 t.gauges && in_range 64 t.cases)
    (cond (rows_fit t.gauges t.cases t.rows) 0 11)
    10

-- every pair of the rows s is in the rows r
unfoldable pub rows_within : List ℕ → List ℕ → Bool
rows_within r [] = true
rows_within [] (b ∷ s) = eqb b 0 && rows_within [] s
rows_within (a ∷ r) (b ∷ s) = is_subset b a && rows_within r s

-- 01's number for a chain after its table, or 0: "12 row count not G; then 13 a pair not in the table"
unfoldable pub chain_refusal : Table → Chain → ℕ
chain_refusal t s =
    cond (eqb (table_refusal t) 0)
    (cond (eqb s.gauges t.gauges) (cond (rows_within t.rows s.rows) 0 13) 12)
    (table_refusal t)

-- all rows empty
abbrev pub no_rows : List ℕ
no_rows = replicate 64 0

-- "A table and a chain each hold their 64 rows as one value; rows past G are zero": the 64 rows of a set of pairs
abbrev pub padded : List ℕ → List ℕ
padded x = x ++ replicate (64 - length x) 0

-- what is given beside a refusal
abbrev pub blank_chain : Chain
blank_chain = record { gauges = 0; rows = no_rows }

abbrev pub blank_table : Table
blank_table = record { gauges = 0; cases = 0; rows = no_rows }

-- making a table from rows: the table, or 10 or 11 and the blank table
abbrev pub make_table : ℕ → ℕ → List ℕ → Answer Table
make_table g l rows = let t : Table = record { gauges = g; cases = l; rows = rows } in answer (table_refusal t) t blank_table

-- how the code's answer reads: 01's number, and the table
abbrev pub made : Result Table Refusal → Answer Table
made = answered blank_table
