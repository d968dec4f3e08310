-- The two sides of a legal table as the core has them (`Works`): the gauge side's rows are the table's own, the case
-- side's those of the table with its sides exchanged; and the chain of the picks by gauge rows, as each side shows it
-- (`gauge_chain`, `case_chain`).
use mathlib.Core.Path.{◌≡◌, refl, sym, ap, ap₂, ◌∙◌}
use mathlib.Core.List.{List}
use Prim.Native.Nat.{ℕ, ◌^◌, ◌≤◌, ◌<◌, min}
use native.Mathlib.Decide.{dec_lt}
use native.Mathlib.Omega.{arith}
use lib.Dec.{not_T}
use lib.ListN.{length, get_or}
use lib.Seq.{get_or-take}
use lib.Pow.{pow_mono}
use native.Mathlib.Nat.{min-eq_left}
use borrow.Author.Tests.{lt-ltb}
use Rattle.table.proofs.Padding.{pad_get_or, pad_ext}
use Rattle.sets.specs.Sets.{bit, lowest}
use Rattle.sets.proofs.Tests.{is_false}
use Rattle.sets.proofs.Order.{eq_of_bits, subset_is}
use Rattle.sets.proofs.Masks.{below_lowest}
use Rattle.sets.proofs.Tabulated.{get_or-tabulate}
use Rattle.sets.proofs.OnePlace.{none_in}
use Rattle.table.specs.Pairs.{row, Cases}
use Rattle.transpose.specs.Transposing.{column, transpose, transpose_table}
use Rattle.table.specs.Tables.{Legal, table_rows, padded}
use Rattle.table.specs.declared.Table.{Table}
use Rattle.table.proofs.Places.{row_past}
use Rattle.transpose.proofs.Transposition.{bit-column, length-transpose}
use Rattle.table.proofs.Legality.{length_rows, legal_cases}
use Rattle.transpose.proofs.Sides.{rows_exchanged, exchanged_legal}
use Rattle.lists.specs.Lists.{Side, gauge_side, case_side}
use Rattle.lists.specs.OnTable.{chain_of, hand_out}
use Rattle.lists.proofs.ChainRows.{length-chain_of}
use Rattle.transpose.specs.Places.{places}
use Rattle.transpose.proofs.Columns.{places-padded}
use Rattle.runs.specs.private.Working.{Sized, Works}

-- a legal table's rows are sized
legal_sized : (t : Table) → Legal t → Sized t.gauges t.rows
legal_sized t l = record {
  few = l.gauges_high;
  size = l.rows_length;
  inside =
      λ i. subset_is (row t.rows i) (lowest 64) (below_lowest (row t.rows i) 64 (omega arith)
      ∙ lt-ltb (row t.rows i) (2 ^ 64) (omega (arith, l.rows_bits i, pow_mono l.cases_high)));
  rest = l.rows_rest;
}

-- ---- the square of 64 by 64, and a set's own shape
padded-column : (x : List ℕ) (k : ℕ) → column (padded x) k ≡ column x k
padded-column x k =
    eq_of_bits (column (padded x) k) (column x k) (λ i. bit-column (padded x) k i ∙ ap (λ (r : ℕ). bit r k) (pad_get_or x i) ∙ sym (bit-column x k i))

transpose-padded : (g : ℕ) (x : List ℕ) → g ≤ 64 → Cases g x → transpose 64 (padded x) ≡ padded (transpose g x)
unfolding transpose
transpose-padded g x h cs =
    pad_ext (transpose 64 (padded x)) (transpose g x) (length-transpose 64 (padded x)) (omega (arith, length-transpose g x))
    (λ k. go k (dec_lt k 64) (dec_lt k g))
  where
    empty : (k : ℕ) → ¬ (k < g) → column x k ≡ 0
    empty k n = eq_of_bits (column x k) 0 (λ i. bit-column x k i ∙ is_false (bit (row x i) k) (not_T (bit (row x i) k) (λ b. n (cs i k b))) ∙ sym (none_in i))

    go : (k : ℕ) → Dec (k < 64) → Dec (k < g) → get_or (transpose 64 (padded x)) k 0 ≡ get_or (transpose g x) k 0
    go k (yes a) (yes b) = get_or-tabulate (column (padded x)) 64 k a ∙ padded-column x k ∙ sym (get_or-tabulate (column x) g k b)
    go k (yes a) (no b) =
        get_or-tabulate (column (padded x)) 64 k a ∙ padded-column x k ∙ empty k b ∙ sym (row_past (transpose g x) k (omega (arith, length-transpose g x)))
    go k (no a) (yes b) = absurd (omega arith)
    go k (no a) (no b) =
        row_past (transpose 64 (padded x)) k (omega (arith, length-transpose 64 (padded x)))
        ∙ sym (row_past (transpose g x) k (omega (arith, length-transpose g x)))

-- the ladder of the picks p is in the array `rows` by gauge rows
pub record Ladder (t : Table) (s : Side) (p rows : List ℕ) : Type 0 where
  pub rows_are : rows ≡ padded (hand_out s p)
  pub size : length (hand_out s p) ≡ t.gauges

module _ (t : Table) (l : Legal t) where
  -- ---- the gauge side
  pub gauge_works : Works (gauge_side t) t.gauges t.rows
  gauge_works = record { sized = legal_sized t l; rows_are = refl }

  pub gauge_chain : (p rows : List ℕ) → rows ≡ padded (chain_of (table_rows t) p) → Ladder t (gauge_side t) p rows
  gauge_chain p rows e = record { rows_are = e; size = length-chain_of (table_rows t) p ∙ length_rows t l }

  -- ---- the case side
  table_padded : t.rows ≡ padded (table_rows t)
  table_padded = pad_ext t.rows (table_rows t) l.rows_length (omega (arith, length_rows t l, l.gauges_high)) (λ i. go i (dec_lt i t.gauges))
    where
      go : (i : ℕ) → Dec (i < t.gauges) → get_or t.rows i 0 ≡ get_or (table_rows t) i 0
      go i (yes y) = sym (get_or-take t.gauges t.rows i 0 y)
      go i (no y) = l.rows_rest i (omega arith) ∙ sym (row_past (table_rows t) i (omega (arith, length_rows t l)))

  pub case_works : (R : List ℕ) → R ≡ padded (transpose (min t.cases 64) (places t.gauges t.rows)) → Works (case_side t) t.cases R
  case_works R e = rw exchanged (record { sized = legal_sized (transpose_table t) (exchanged_legal t l); rows_are = rows_exchanged t l })
    where
      exchanged : R ≡ transpose 64 t.rows
      exchanged =
          e
          ∙ ap₂ (λ (w : ℕ) (x : List ℕ). padded (transpose w x)) (min-eq_left l.cases_high)
          (ap (places t.gauges) table_padded ∙ places-padded t.gauges (table_rows t) l.gauges_high (length_rows t l))
          ∙ sym (ap (transpose 64) table_padded ∙ transpose-padded t.cases (table_rows t) l.cases_high (legal_cases t l))

  pub case_chain : (p chain rows : List ℕ) → chain ≡ padded (chain_of (case_side t).rows p)
      → rows ≡ padded (transpose (min t.gauges 64) (places t.cases chain))
      → Ladder t (case_side t) p rows
  case_chain p chain rows e d = record {
    rows_are =
        d
        ∙ ap₂ (λ (w : ℕ) (x : List ℕ). padded (transpose w x)) (min-eq_left l.gauges_high)
        (ap (places t.cases) e ∙ places-padded t.cases (chain_of (case_side t).rows p) l.cases_high
        (length-chain_of (case_side t).rows p ∙ length-transpose t.cases (table_rows t)));
    size = length-transpose t.gauges (chain_of (case_side t).rows p);
  }
