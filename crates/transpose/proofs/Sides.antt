-- A legal table and the one with its sides exchanged: that is legal too, its rows are the columns of the first, and exchanging twice
-- gives the table back. The code computes the square of 64 by 64; these laws cut it to the table's own shape.
use mathlib.Core.Path.{◌≡◌, sym, ap, ◌∙◌, subst}
use mathlib.Core.List.{List}
use Prim.Native.Nat.{ℕ, ◌^◌, ◌≤◌, ◌<◌}
use native.Mathlib.Decide.{dec_lt}
use native.Mathlib.Omega.{arith}
use lib.Dec.{T, not_T}
use lib.ListN.{length}
use lib.Seq.{ext_get_or, get_or-take, length-take-le}
use lib.Pow.{pow_pos}
use Rattle.sets.specs.Sets.{bit}
use Rattle.sets.proofs.Tests.{is_false}
use Rattle.sets.proofs.Order.{eq_of_bits}
use Rattle.sets.proofs.Tabulated.{get_or-tabulate}
use Rattle.sets.proofs.OnePlace.{none_in}
use Rattle.table.specs.Pairs.{row}
use Rattle.transpose.specs.Transposing.{column, transpose, transpose_table}
use Rattle.table.specs.Tables.{Legal, table_rows}
use Rattle.table.specs.declared.Table.{Table}
use Rattle.table.proofs.Places.{row_past}
use Rattle.transpose.proofs.Transposition.{bit-column, length-transpose, transpose_twice, column_lt}
use Rattle.table.proofs.Legality.{length_rows, row-table_rows, legal_cases}

-- the rows past the last gauge add nothing to a column
column-rows : (t : Table) → Legal t → (k : ℕ) → column t.rows k ≡ column (table_rows t) k
column-rows t l k = eq_of_bits (column t.rows k) (column (table_rows t) k) (λ i.
    bit-column t.rows k i ∙ ap (λ (r : ℕ). bit r k) (sym (row-table_rows t l i)) ∙ sym (bit-column (table_rows t) k i))

-- past the last case a column is empty
column_past : (t : Table) → Legal t → (k : ℕ) → t.cases ≤ k → column t.rows k ≡ 0
column_past t l k h = column-rows t l k ∙ eq_of_bits (column (table_rows t) k) 0 (λ i.
    bit-column (table_rows t) k i ∙ is_false (bit (row (table_rows t) i) k) (not_T (bit (row (table_rows t) i) k) (λ b. omega (arith, legal_cases t l i k b)))
    ∙ sym (none_in i))

row_square : (t : Table) (k : ℕ) → k < 64 → row (transpose 64 t.rows) k ≡ column t.rows k
unfolding transpose
row_square t k h = get_or-tabulate (column t.rows) 64 k h

-- the rows of the exchanged table are the transposed rows
pub rows_exchanged : (t : Table) → Legal t → table_rows (transpose_table t) ≡ transpose t.cases (table_rows t)
unfolding transpose
rows_exchanged t l =
    ext_get_or 0 (table_rows (transpose_table t)) (transpose t.cases (table_rows t)) (n ∙ sym (length-transpose t.cases (table_rows t))) (λ k h.
    get_or-take t.cases (transpose 64 t.rows) k 0 (omega (arith, n)) ∙ row_square t k (omega (arith, n, l.cases_high)) ∙ column-rows t l k
    ∙ sym (get_or-tabulate (column (table_rows t)) t.cases k (omega (arith, n))))
  where
    n : length (table_rows (transpose_table t)) ≡ t.cases
    n = length-take-le t.cases (transpose 64 t.rows) (omega (arith, length-transpose 64 t.rows, l.cases_high))

pub exchanged_legal : (t : Table) → Legal t → Legal (transpose_table t)
exchanged_legal t l = record {
  gauges_low = l.cases_low;
  gauges_high = l.cases_high;
  cases_low = l.gauges_low;
  cases_high = l.gauges_high;
  rows_length = length-transpose 64 t.rows;
  rows_bits = λ k. bits k (dec_lt k 64);
  rows_rest = λ k h. rest k h (dec_lt k 64);
}
  where
    bits : (k : ℕ) → Dec (k < 64) → row (transpose 64 t.rows) k < 2 ^ t.gauges
    bits k (yes h) = rw (row_square t k h, column-rows t l k) (subst (λ (n : ℕ). column (table_rows t) k < 2 ^ n) (length_rows t l) (column_lt (table_rows t) k))
    bits k (no h) = rw (row_past (transpose 64 t.rows) k (omega (arith, length-transpose 64 t.rows))) (pow_pos t.gauges)

    rest : (k : ℕ) → t.cases ≤ k → Dec (k < 64) → row (transpose 64 t.rows) k ≡ 0
    rest k h (yes b) = row_square t k b ∙ column_past t l k h
    rest k h (no b) = row_past (transpose 64 t.rows) k (omega (arith, length-transpose 64 t.rows))

pub exchanged_twice : (t : Table) → Legal t → transpose_table (transpose_table t) ≡ t
exchanged_twice t l =
    ap (λ (r : List ℕ). record { gauges = t.gauges; cases = t.cases; rows = r })
    (transpose_twice 64 64 t.rows l.rows_length (λ i k b.
    omega (arith, l.cases_high, legal_cases t l i k (subst (λ (r : ℕ). T (bit r k)) (sym (row-table_rows t l i)) b))))
