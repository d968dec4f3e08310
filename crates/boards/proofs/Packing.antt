-- Boards made of rows and read again, as the two functions do it.
--
-- In order: the board is that of the rows (`corner-board`), and its rows are those it was made of (`rows_back`); then one law for each turn of the two
-- loops: `packed_start`, `packed-fits`, `packed-turn`; `read_start`, `read_turn`.
use mathlib.Core.Path.{◌≡◌, refl, sym, ap, ap₂, ◌∙◌}
use mathlib.Core.List.{List, [], ◌∷◌}
use Prim.Native.Nat.{ℕ, suc, ◌+◌, ◌-◌, ◌*◌, ◌/◌, ◌%◌, ◌^◌, ◌≤◌, ◌<◌}
use native.Mathlib.Nat.{mod-lt, mod-eq_of_lt, div-one, zero-lt-suc}
use native.Mathlib.Decide.{ℕ_discrete, dec_lt}
use native.Mathlib.Omega.{arith}
use lib.ListN.{length, drop, set, replicate, length-drop, length-set, drop_of_length-le}
use lib.Pow.{shr-shr}
use lib.Seq.{drop-cons, get_or-drop, get_or-set_same, get_or-set_other}
use Rattle.sets.specs.Lists.{tabulate}
use Rattle.sets.proofs.Tabulated.{length-tabulate, get_or-tabulate}
use Rattle.table.specs.Pairs.{row}
use Rattle.table.specs.Tables.{padded}
use Rattle.table.proofs.Padding.{pad_length, pad_get_or, pad_ext}
use Rattle.table.proofs.Places.{row_past}
use Rattle.boards.specs.Boards.{board, board_rows, corner}
use Rattle.boards.proofs.Bits.{Small, board_fits, row-board}

-- ---- tabulated rows, also past their end
row_tabulated : (f : ℕ → ℕ) (n i : ℕ) → (n ≤ i → f i ≡ 0) → row (tabulate f n) i ≡ f i
row_tabulated f n i z = go (dec_lt i n)
  where
    go : Dec (i < n) → row (tabulate f n) i ≡ f i
    go (yes l) = get_or-tabulate f n i l
    go (no l) = row_past (tabulate f n) i (omega (arith, length-tabulate f n)) ∙ sym (z (omega arith))

-- ---- the board of rows
-- lists with the same rows have the same board: empty rows at the end do not count
no_rows_lem : (y : List ℕ) → ((i : ℕ) → row y i ≡ 0) → board y ≡ 0
unfolding board
no_rows_lem [] h = refl
no_rows_lem (b ∷ y) h = rw (no_rows_lem y (λ i. h (suc i)), h 0) (omega arith)

board_rows_lem : (x y : List ℕ) → ((i : ℕ) → row x i ≡ row y i) → board x ≡ board y
unfolding board
board_rows_lem [] y h = sym (no_rows_lem y (λ i. sym (h i)))
board_rows_lem (a ∷ x) [] h = no_rows_lem (a ∷ x) h
board_rows_lem (a ∷ x) (b ∷ y) h = ap₂ (λ (m n : ℕ). m * 2 ^ 8 + n) (board_rows_lem x y (λ i. h (suc i))) (h 0)

pub corner-board : (rows x : List ℕ) → ((i : ℕ) → row rows i ≡ row x i) → Small x → length x ≤ 8 → board (corner rows) ≡ board x
corner-board rows x h s l =
    board_rows_lem (corner rows) x (λ i.
    row_tabulated (λ j. row rows j % 2 ^ 8) 8 i (λ m. rw (past i m) refl) ∙ ap (λ (a : ℕ). a % 2 ^ 8) (h i) ∙ mod-eq_of_lt (s i))
  where
    past : (i : ℕ) → 8 ≤ i → row rows i ≡ 0
    past i m = h i ∙ row_past x i (omega arith)

-- ---- the rows of a board
pub rows_back : (x : List ℕ) → Small x → length x ≤ 8 → padded (board_rows 8 (board x)) ≡ padded x
unfolding board_rows
rows_back x s l =
    pad_ext (padded (tabulate f 8)) x (pad_length (tabulate f 8) (omega (arith, length-tabulate f 8))) (omega arith) (λ i.
    pad_get_or (tabulate f 8) i ∙ row_tabulated f 8 i (λ m. row-board x s i ∙ row_past x i (omega arith)) ∙ row-board x s i)
  where
    f : ℕ → ℕ
    f i = board x / 2 ^ (8 * i) % 2 ^ 8

-- ---- the loop that makes a board, from the last row on
module _ (rows : List ℕ) where
  pub record Packed (i b : ℕ) : Type 0 where
    pub few : i ≤ 8
    pub sofar : b ≡ board (drop i (corner rows))

  length-corner : length (corner rows) ≡ 8
  length-corner = length-tabulate (λ i. row rows i % 2 ^ 8) 8

  small_corner : Small (corner rows)
  small_corner i = go (dec_lt i 8)
    where
      go : Dec (i < 8) → row (corner rows) i < 2 ^ 8
      go (yes l) = rw (get_or-tabulate (λ j. row rows j % 2 ^ 8) 8 i l) (mod-lt (row rows i) (zero-lt-suc 255))
      go (no l) = rw (row_past (corner rows) i (omega (arith, length-corner))) (omega arith)

  pub packed_start : Packed 8 0
  unfolding board
  packed_start = record { few = omega arith; sofar = sym (ap board (drop_of_length-le (corner rows) {i = 8} (omega (arith, length-corner)))) }

  module _ (i b : ℕ) (p : Packed i b) (l : 0 < i) where
    -- the next row is put below
    pub packed-turn : Packed (i - 1) (b * 256 + row rows (i - 1) % 256)
    unfolding board
    packed-turn = record {
      few = omega (arith, p.few);
      sofar =
          ap (λ (m : ℕ). m * 256 + row rows (i - 1) % 256) p.sofar
          ∙ sym (ap board (drop-cons (corner rows) (i - 1) 0 (omega (arith, p.few, length-corner)))
          ∙ ap₂ (λ (m : List ℕ) (a : ℕ). board m * 2 ^ 8 + a) (ap (λ (j : ℕ). drop j (corner rows)) e)
          (get_or-tabulate (λ j. row rows j % 2 ^ 8) 8 (i - 1) (omega (arith, p.few))));
    }
      where
        e : suc (i - 1) ≡ i
        e = omega arith

    pub packed-fits : b * 256 + row rows (i - 1) % 256 < 2 ^ 64
    packed-fits =
        rw packed-turn.sofar
        (board_fits (drop (i - 1) (corner rows)) (λ j. rw (get_or-drop (i - 1) (corner rows) j 0) (small_corner (i - 1 + j)))
        (omega (arith, length-drop (i - 1) (corner rows), length-corner)))

-- ---- the loop that reads the rows
module _ (b : ℕ) where
  pub record Read (i left : ℕ) (rows : List ℕ) : Type 0 where
    pub few : i ≤ 8
    pub rest : left ≡ b / 2 ^ (8 * i)
    pub sofar : rows ≡ padded (board_rows i b)

  pub read_start : Read 0 b (replicate 64 0)
  unfolding board_rows tabulate
  read_start = record { few = omega arith; rest = sym (div-one b); sofar = refl }

  pub read_turn : (i left : ℕ) (rows : List ℕ) → Read i left rows → i < 8 → Read (i + 1) (left / 256) (set rows i (left % 256))
  unfolding board_rows
  read_turn i left rows h l = record {
    few = omega arith;
    rest = ap (λ (x : ℕ). x / 256) h.rest ∙ shr-shr b (8 * i) 8 ∙ ap (λ (k : ℕ). b / 2 ^ k) (let e : 8 * i + 8 ≡ 8 * (i + 1) = omega arith in e);
    sofar =
        ap₂ (λ (s : List ℕ) (a : ℕ). set s i (a % 256)) h.sofar h.rest
        ∙ pad_ext (set (padded (tabulate f i)) i (f i)) (tabulate f (i + 1))
        (length-set (padded (tabulate f i)) i (f i) ∙ pad_length (tabulate f i) (omega (arith, length-tabulate f i))) (omega (arith, length-tabulate f (i + 1)))
        (λ j. at j (ℕ_discrete j i) (dec_lt j i));
  }
    where
      f : ℕ → ℕ
      f j = b / 2 ^ (8 * j) % 2 ^ 8

      at : (j : ℕ) → Dec (j ≡ i) → Dec (j < i) → row (set (padded (tabulate f i)) i (f i)) j ≡ row (tabulate f (i + 1)) j
      at j (yes e) d =
          ap (row (set (padded (tabulate f i)) i (f i))) e
          ∙ get_or-set_same (padded (tabulate f i)) i (f i) 0 (omega (arith, pad_length (tabulate f i) (omega (arith, length-tabulate f i))))
          ∙ sym (ap (row (tabulate f (i + 1))) e ∙ get_or-tabulate f (i + 1) i (omega arith))
      at j (no e) (yes d) =
          get_or-set_other (padded (tabulate f i)) i j (f i) 0 e ∙ pad_get_or (tabulate f i) j ∙ get_or-tabulate f i j d
          ∙ sym (get_or-tabulate f (i + 1) j (omega arith))
      at j (no e) (no d) =
          get_or-set_other (padded (tabulate f i)) i j (f i) 0 e ∙ pad_get_or (tabulate f i) j
          ∙ row_past (tabulate f i) j (omega (arith, length-tabulate f i)) ∙ sym (row_past (tabulate f (i + 1)) j (omega (arith, length-tabulate f (i + 1))))
