-- The lines of the pairs as the loops make them, whatever the text of a line is. In order: one line; the pairs of a row, the lowest case
-- first (`pairs_first`, `row_first`), and a row over more cases than it has (`row_wide`); the rows. How many they are and how long is in
-- Counting.antt.
use Prim.Native.Nat.{ℕ, zero, suc, ◌+◌, ◌/◌, ◌%◌, ◌^◌, ◌≤◌, ◌<◌}
use mathlib.Core.Path.{◌≡◌, refl, ap, sym, ◌∙◌}
use mathlib.Core.List.{List, [], ◌∷◌, ◌++◌, append_assoc}
use mathlib.Core.Bool.{Bool, true, false, not, ◌&&◌}
use native.Mathlib.Omega.{arith}
use native.Mathlib.Numerals.{add-one}
use native.Mathlib.Nat.{pow-suc}
use lib.ListN.{length, get_or, take, length-append, length-take, drop_of_length-le}
use lib.Seq.{drop-cons, get_or-take}
use lib.Dec.{eqb}
use lib.IntN.{ℤ}
use lib.Count.{count_trailing_zeros}
use borrow.Author.Tests.{eq-eqb, ne_eqb, eqb-true, eqb-false}
use Rattle.sets.specs.Sets.{bit}
use Rattle.sets.specs.First.{Lowest, Rest}
use Rattle.sets.proofs.Digits.{bit_zero, bit-suc}
use Rattle.sets.proofs.Order.{eq_of_bits}
use Rattle.table.specs.declared.Gauge.{Gauge}
use Rattle.table.specs.declared.Case.{Case}
use Rattle.recorded.specs.declared.Kind.{Kind}
use Rattle.file_writer.specs.Writing.{digits, gauge_of, case_of, GaugeCase, row_pairs, pairs_from, pair_text, lines_of}
use Rattle.file_writer.specs.TestFiles.{entry_text}
use Rattle.file_writer.specs.private.StoreSteps.{pairs_at, rows_from}
use Rattle.file_writer.proofs.Stores.{Writing, writing_room}

-- a line with its LF, in front of other lines
line_front : (l s : List ℕ) → l ++ 10 ∷ s ≡ (l ++ 10 ∷ []) ++ s
line_front l s = sym (append_assoc l (10 ∷ []) s)

pub line_length : (g : Gauge) (c : Case) (s : List ℕ)
    → length (pair_text (record { gauge = g; case = c }) ++ 10 ∷ s) ≡ length (digits g.0) + length (digits c.0) + 2 + length s
line_length g c s = simp length-append (omega arith)

-- ---- the pairs of a row

-- by its lowest bit: a pair, or none, and then the rest
row_odd : (g : Gauge) (n c b : ℕ) → b % 2 ≡ 1 → row_pairs g (suc n) c b ≡ record { gauge = g; case = case_of c } ∷ row_pairs g n (suc c) (b / 2)
unfolding row_pairs
row_odd g n c b e = rw (eq-eqb (b % 2) 1 e, row_pairs)

row_even : (g : Gauge) (n c b : ℕ) → (b % 2 ≡ 1 → ⊥) → row_pairs g (suc n) c b ≡ row_pairs g n (suc c) (b / 2)
unfolding row_pairs
row_even g n c b e = rw (ne_eqb (b % 2) 1 e, row_pairs)

-- whatever holds of a row by its lowest bit
pub by_low : (P : List GaugeCase → Type 0) (g : Gauge) (n c b : ℕ)
    → (b % 2 ≡ 1 → P (record { gauge = g; case = case_of c } ∷ row_pairs g n (suc c) (b / 2)))
    → ((b % 2 ≡ 1 → ⊥) → P (row_pairs g n (suc c) (b / 2))) → P (row_pairs g (suc n) c b)
by_low P g n c b odd even = go (eqb (b % 2) 1) refl
  where
    go : (t : Bool) → eqb (b % 2) 1 ≡ t → P (row_pairs g (suc n) c b)
    go true e = let h = eqb-true (b % 2) 1 e in rw (row_odd g n c b h) (odd h)
    go false e = let h = eqb-false (b % 2) 1 e in rw (row_even g n c b h) (even h)

pub row_none : (g : Gauge) (n c b : ℕ) → b ≡ 0 → row_pairs g n c b ≡ []
unfolding row_pairs
row_none g zero c b e = refl
row_none g (suc n) c b e = row_even g n c b (λ h. omega arith) ∙ row_none g n (suc c) (b / 2) (omega arith)

-- at most one for each case
pub row_few : (g : Gauge) (n c b : ℕ) → length (row_pairs g n c b) ≤ n
unfolding row_pairs
row_few g zero c b = omega arith
row_few g (suc n) c b =
    let less = row_few g n (suc c) (b / 2) in
    by_low (λ l. length l ≤ suc n) g n c b (λ e. omega (arith, less)) (λ e. omega (arith, less))

-- a row has no pair behind its highest bit
row_wide : (g : Gauge) (n m c b : ℕ) → b < 2 ^ n → n ≤ m → row_pairs g n c b ≡ row_pairs g m c b
row_wide g zero m c b l h = row_none g zero c b (omega arith) ∙ sym (row_none g m c b (omega arith))
row_wide g (suc n) zero c b l h = absurd (omega arith)
row_wide g (suc n) (suc m) c b l h =
    let half = row_wide g n m (suc c) (b / 2) (omega (arith, pow-suc 2 n)) (omega arith) in
    by_low (λ ps. ps ≡ row_pairs g (suc m) c b) g n c b
    (λ e. ap (λ (ps : List GaugeCase). record { gauge = g; case = case_of c } ∷ ps) half ∙ sym (row_odd g m c b e))
    (λ e. half ∙ sym (row_even g m c b e))

-- place k of b is set, none below it is, and r is b without it
record Loses (b k r : ℕ) : Type 0 where
  here : bit b k ≡ true
  none : (i : ℕ) → i < k → bit b i ≡ false
  bits : (i : ℕ) → bit r i ≡ (bit b i && not (eqb i k))

-- the pair of the lowest place comes first
row_lowest : (g : Gauge) (n c b k r : ℕ) → k < n → Loses b k r → row_pairs g n c b ≡ record { gauge = g; case = case_of (c + k) } ∷ row_pairs g n c r
row_lowest g zero c b k r l h = absurd (omega arith)
row_lowest g (suc n) c b zero r l h =
    row_odd g n c b odd
    ∙ ap (λ (m : ℕ). record { gauge = g; case = case_of m } ∷ row_pairs g n (suc c) (b / 2)) (omega arith)
    ∙ ap (λ (ps : List GaugeCase). record { gauge = g; case = case_of (c + 0) } ∷ ps) (ap (row_pairs g n (suc c)) same ∙ sym (row_even g n c r even))
  where
    odd : b % 2 ≡ 1
    odd = eqb-true (b % 2) 1 (sym (bit_zero b) ∙ h.here)

    even : r % 2 ≡ 1 → ⊥
    even = eqb-false (r % 2) 1 (sym (bit_zero r) ∙ h.bits 0 ∙ ap (λ (t : Bool). t && not (eqb 0 0)) h.here)

    and-true : (t : Bool) → (t && true) ≡ t
    and-true true = refl
    and-true false = refl

    same : b / 2 ≡ r / 2
    same =
        eq_of_bits (b / 2) (r / 2) (λ i.
        sym (bit-suc b i) ∙ sym (and-true (bit b (suc i)))
        ∙ ap (λ (t : Bool). bit b (suc i) && not t) (sym (ne_eqb (suc i) 0 (λ e. omega arith))) ∙ sym (h.bits (suc i)) ∙ bit-suc r i)
row_lowest g (suc n) c b (suc k) r l h =
    row_even g n c b (low b (h.none 0 (omega arith)))
    ∙ row_lowest g n (suc c) (b / 2) k (r / 2) (omega arith) half
    ∙ ap (λ (m : ℕ). record { gauge = g; case = case_of m } ∷ row_pairs g n (suc c) (r / 2)) (omega arith)
    ∙ ap (λ (ps : List GaugeCase). record { gauge = g; case = case_of (c + suc k) } ∷ ps)
    (sym (row_even g n c r (low r (h.bits 0 ∙ ap (λ (t : Bool). t && not (eqb 0 (suc k))) (h.none 0 (omega arith))))))
  where
    low : (x : ℕ) → bit x 0 ≡ false → x % 2 ≡ 1 → ⊥
    low x e = eqb-false (x % 2) 1 (sym (bit_zero x) ∙ e)

    half : Loses (b / 2) k (r / 2)
    half = record {
      here = sym (bit-suc b k) ∙ h.here;
      none = λ i m. sym (bit-suc b i) ∙ h.none (suc i) (omega arith);
      bits = λ i. sym (bit-suc r i) ∙ h.bits (suc i) ∙ rw (bit-suc b i, suc-eqb i k);
    }
      where
        suc-eqb : (i j : ℕ) → eqb (suc i) (suc j) ≡ eqb i j
        suc-eqb i j = go (eqb i j) refl
          where
            go : (t : Bool) → eqb i j ≡ t → eqb (suc i) (suc j) ≡ t
            go true e = eq-eqb (suc i) (suc j) (ap suc (eqb-true i j e))
            go false e = ne_eqb (suc i) (suc j) (λ z. eqb-false i j e (omega arith))

module _ (g : Gauge) (b k r : ℕ) (e : k ≡ count_trailing_zeros 64 b) (l : Lowest b k) (h : Rest b r) where
  -- the next turn of a loop over a row: the pair of its lowest case, and the others
  pub pairs_first : row_pairs g 64 1 b ≡ record { gauge = g; case = case_of (k + 1) } ∷ row_pairs g 64 1 r
  pairs_first =
      row_lowest g 64 1 b k r l.below loses ∙ ap (λ (m : ℕ). record { gauge = g; case = case_of m } ∷ row_pairs g 64 1 r) (omega arith)
    where
      loses : Loses b k r
      loses = record { here = l.here; none = l.none; bits = λ i. h.bits i ∙ ap (λ (m : ℕ). bit b i && not (eqb i m)) (sym e) }

  module _ (text : GaugeCase → List ℕ) where
    pub row_first : lines_of text (row_pairs g 64 1 b) ≡ (text (record { gauge = g; case = case_of (k + 1) }) ++ 10 ∷ []) ++ lines_of text (row_pairs g 64 1 r)
    row_first =
        ap (lines_of text) pairs_first
        ∙ line_front (text (record { gauge = g; case = case_of (k + 1) })) (lines_of text (row_pairs g 64 1 r))

    pub row_room : {m₀ : List ℕ} {at : ℕ} {total : List ℕ} {m : List ℕ} {p : ℕ}
        → Writing m₀ at total m p (lines_of text (row_pairs g 64 1 b)) → at + length total ≤ length m₀
        → p + length (text (record { gauge = g; case = case_of (k + 1) }) ++ 10 ∷ []) ≤ length m
    row_room w f = writing_room w (text (record { gauge = g; case = case_of (k + 1) }) ++ 10 ∷ []) (lines_of text (row_pairs g 64 1 r)) row_first f

pub row_end : (text : GaugeCase → List ℕ) (g : Gauge) (b : ℕ) → b ≡ 0 → lines_of text (row_pairs g 64 1 b) ≡ []
row_end text g b e = ap (lines_of text) (row_none g 64 1 b e)

-- ---- the rows

pub lines_append : (text : GaugeCase → List ℕ) (ps qs : List GaugeCase) → lines_of text (ps ++ qs) ≡ lines_of text ps ++ lines_of text qs
lines_append text [] qs = refl
lines_append text (p ∷ ps) qs = rw (lines_append text ps qs) (sym (append_assoc (text p) (10 ∷ lines_of text ps) (lines_of text qs)))

pub at_end : (gs : Gauge) (rows : List ℕ) (i : ℕ) → gs.0 ≤ i → pairs_at gs rows i ≡ []
unfolding pairs_from
at_end gs rows i h =
    let k : length (take gs.0 rows) ≤ i = omega (arith, length-take gs.0 rows) in
    rw (drop_of_length-le (take gs.0 rows) k)

pub at_next : (gs : Gauge) (rows : List ℕ) (i : ℕ) → i < gs.0 → gs.0 ≤ length rows
    → pairs_at gs rows i ≡ row_pairs (gauge_of (i + 1)) 64 1 (get_or rows i 0) ++ pairs_at gs rows (i + 1)
unfolding pairs_from
at_next gs rows i h l =
    let k : i < length (take gs.0 rows) = omega (arith, length-take gs.0 rows) in
    rw (drop-cons (take gs.0 rows) i 0 k, get_or-take gs.0 rows i 0 h) (rw (add-one (i + 1), add-one i))

module _ (kind : Kind) (vs : List ℤ) (gs : Gauge) (rows : List ℕ) (i : ℕ) where
  pub rows_end : gs.0 ≤ i → rows_from kind vs gs rows i ≡ []
  rows_end h = ap (lines_of (entry_text kind vs)) (at_end gs rows i h)

  pub rows_next : i < gs.0 → gs.0 ≤ length rows
      → rows_from kind vs gs rows i ≡ lines_of (entry_text kind vs) (row_pairs (gauge_of (i + 1)) 64 1 (get_or rows i 0)) ++ rows_from kind vs gs rows (i + 1)
  rows_next h l =
      ap (lines_of (entry_text kind vs)) (at_next gs rows i h l)
      ∙ lines_append (entry_text kind vs) (row_pairs (gauge_of (i + 1)) 64 1 (get_or rows i 0)) (pairs_at gs rows (i + 1))

  pub rows_room : {l : List ℕ} {at : ℕ} {total : List ℕ} {m : List ℕ} {p : ℕ}
      → Writing l at total m p (rows_from kind vs gs rows i) → i < gs.0 → gs.0 ≤ length rows → at + length total ≤ length l
      → p + length (lines_of (entry_text kind vs) (row_pairs (gauge_of (i + 1)) 64 1 (get_or rows i 0))) ≤ length m
  rows_room w h l k =
      writing_room w (lines_of (entry_text kind vs) (row_pairs (gauge_of (i + 1)) 64 1 (get_or rows i 0))) (rows_from kind vs gs rows (i + 1)) (rows_next h l) k

-- rows below 2 ^ cs have no pair behind case cs
pub rows_wide : (cs g : ℕ) (rows : List ℕ) → cs ≤ 64 → ((i : ℕ) → get_or rows i 0 < 2 ^ cs) → pairs_from 64 g rows ≡ pairs_from cs g rows
unfolding pairs_from
rows_wide cs g [] h b = refl
rows_wide cs g (r ∷ rows) h b = rw (← row_wide (gauge_of g) cs 64 1 r (b 0) h, rows_wide cs (suc g) rows h (λ i. b (suc i)))
