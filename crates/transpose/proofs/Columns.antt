-- A column gathered from the last row to the first, and the columns put in their places: what each turn and each
-- answer says.
use mathlib.Core.Path.{◌≡◌, refl, sym, ap, ◌∙◌, subst}
use mathlib.Core.List.{List, ◌++◌}
use Prim.Native.Nat.{ℕ, zero, suc, ◌+◌, ◌*◌, ◌-◌, ◌/◌, ◌%◌, ◌^◌, ◌≤◌, ◌<◌, min}
use native.Mathlib.Nat.{add-zero, zero-add, add-suc, suc-add, sub-zero}
use native.Mathlib.Numerals.{add-one}
use native.Mathlib.Decide.{dec_lt}
use native.Mathlib.Omega.{arith}
use lib.ListN.{length, set, drop, replicate, length-drop, length-replicate}
use lib.Pow.{pow_mono, shr-shr}
use lib.Seq.{sets as stored, sets-eq, ext_get_or, drop-cons, drop-length}
use Rattle.sets.specs.Lists.{tabulate}
use Rattle.sets.proofs.Tabulated.{length-tabulate, get_or-tabulate}
use Rattle.table.specs.Pairs.{row}
use Rattle.table.specs.Tables.{no_rows, padded}
use Rattle.transpose.specs.Transposing.{column, transpose}
use Rattle.transpose.proofs.Transposition.{column_lt, length-transpose}
use Rattle.table.proofs.Padding.{pad_get_or}
use Rattle.transpose.specs.Places.{places}
use Rattle.transpose.specs.Putting.{PutsIn}
use Rattle.transpose.specs.private.Fours.{four_of}
use Rattle.transpose.specs.private.Puts.{Putting}
use Rattle.transpose.specs.declared.Four.{Four}

module _ (n : ℕ) (rows : List ℕ) where
  pub length-places : length (places n rows) ≡ min n 64
  unfolding places
  length-places = length-tabulate (row rows) (min n 64)

  pub row-places : (i : ℕ) → i < min n 64 → row (places n rows) i ≡ row rows i
  unfolding places
  row-places i l = get_or-tabulate (row rows) (min n 64) i l

-- at most 64 count in any case
places_most : (n m : ℕ) (rows : List ℕ) → m ≡ min n 64 → places m rows ≡ places n rows
unfolding places
places_most n m rows e = let d : min m 64 ≡ min n 64 = omega arith in ap (tabulate (row rows)) d

-- the rows of a set padded with zeros
pub places-padded : (n : ℕ) (x : List ℕ) → n ≤ 64 → length x ≡ n → places n (padded x) ≡ x
places-padded n x l e = ext_get_or 0 (places n (padded x)) x (length-places n (padded x) ∙ omega arith) (λ i h.
    row-places n (padded x) i (omega (arith, length-places n (padded x))) ∙ pad_get_or x i)

-- ---- one column: that of the rows from i on
abbrev pub Gathered : ℕ → ℕ → List ℕ → ℕ → ℕ → Type 0
Gathered n k rows i set = set ≡ column (drop i (places n rows)) k

module _ (n k : ℕ) (rows : List ℕ) (few : n ≤ 64) where
  pub gathered_none : Gathered n k rows n 0
  unfolding column
  gathered_none =
      ap (λ (x : List ℕ). column x k) (sym (ap (λ (m : ℕ). drop m (places n rows)) length-is ∙ drop-length (places n rows)))
    where
      length-is : n ≡ length (places n rows)
      length-is = omega (arith, length-places n rows)

  module _ (i set : ℕ) (l : 0 < i) (h : i ≤ n) (g : Gathered n k rows i set) where
    pub gathered-more : Gathered n k rows (i - 1) (set * 2 + row rows (i - 1) / 2 ^ k % 2)
    unfolding column
    gathered-more =
        let e : suc (i - 1) ≡ i = omega arith in
        let b : i - 1 < min n 64 = omega arith in
        let x : set ≡ column (drop (suc (i - 1)) (places n rows)) k = g ∙ ap (λ (m : ℕ). column (drop m (places n rows)) k) (sym e) in
        ap (λ (y : ℕ). y * 2 + row rows (i - 1) / 2 ^ k % 2) x
        ∙ ap (λ (y : ℕ). column (drop (suc (i - 1)) (places n rows)) k * 2 + y / 2 ^ k % 2) (sym (row-places n rows (i - 1) b))
        ∙ ap (λ (y : List ℕ). column y k) (sym (drop-cons (places n rows) (i - 1) 0 (omega (arith, length-places n rows))))

    -- the number so far fits, and the next one too
    pub gathered-room : set * 2 + row rows (i - 1) / 2 ^ k % 2 < 2 ^ 64
    gathered-room =
        rw gathered-more
        (omega (
          arith,
          column_lt (drop (i - 1) (places n rows)) k,
          pow_mono {i = length (drop (i - 1) (places n rows))} {j = 64}
              (omega (arith, length-drop (i - 1) (places n rows), length-places n rows)),
        ))

-- one word more of a list made from a function, as a loop stores it
stored_next : (f : ℕ → ℕ) (l : List ℕ) (a k : ℕ) → stored l a (tabulate f (suc k)) ≡ set (stored l a (tabulate f k)) (a + k) (f k)
unfolding tabulate
stored_next f l a zero = rw add-zero
stored_next f l a (suc k) = rw (add-suc, ← suc-add) (stored_next (λ i. f (suc i)) (set l a (f 0)) (suc a) k)

-- zeros with the first of them away
drop-replicate : (n i : ℕ) → drop {A = ℕ} i (replicate n 0) ≡ replicate (n - i) 0
drop-replicate n zero = rw sub-zero
drop-replicate zero (suc i) = let e : 0 - suc i ≡ 0 = omega arith in rw e
drop-replicate (suc n) (suc i) = let e : suc n - suc i ≡ n - i = omega arith in rw e (drop-replicate n i)

-- four columns, from k on, of the rows from i on; a row is shifted by k once, and then by one, two and three more
pub record Fours (n k : ℕ) (rows : List ℕ) (i a b c d : ℕ) : Type 0 where
  pub most : i ≤ n
  pub first : Gathered n k rows i a
  pub second : Gathered n (k + 1) rows i b
  pub third : Gathered n (k + 2) rows i c
  pub fourth : Gathered n (k + 3) rows i d

module _ (n k : ℕ) (rows : List ℕ) (few : n ≤ 64) where
  pub fours_none : Fours n k rows n 0 0 0 0
  fours_none = record {
    most = omega arith;
    first = gathered_none n k rows few;
    second = gathered_none n (k + 1) rows few;
    third = gathered_none n (k + 2) rows few;
    fourth = gathered_none n (k + 3) rows few;
  }

  module _ (i : ℕ) (l : 0 < i) (h : i ≤ n) where
    -- the next number of a column, as the code has it
    shifted : (j set : ℕ) → set * 2 + row rows (i - 1) / 2 ^ k / 2 ^ j % 2 ≡ set * 2 + row rows (i - 1) / 2 ^ (k + j) % 2
    shifted j set = ap (λ (x : ℕ). set * 2 + x % 2) (shr-shr (row rows (i - 1)) k j)

    pub fours-room : (j set : ℕ) → Gathered n (k + j) rows i set → set * 2 + row rows (i - 1) / 2 ^ k / 2 ^ j % 2 < 2 ^ 64
    fours-room j set g = rw (shifted j set) (gathered-room n (k + j) rows few i set l h g)

    pub fours-more : (a b c d : ℕ) → Fours n k rows i a b c d
        → (let x = row rows (i - 1) / 2 ^ k in Fours n k rows (i - 1) (a * 2 + x % 2) (b * 2 + x / 2 ^ 1 % 2) (c * 2 + x / 2 ^ 2 % 2) (d * 2 + x / 2 ^ 3 % 2))
    fours-more a b c d g = record {
      most = omega arith;
      first = gathered-more n k rows few i a l h g.first;
      second = shifted 1 b ∙ gathered-more n (k + 1) rows few i b l h g.second;
      third = shifted 2 c ∙ gathered-more n (k + 2) rows few i c l h g.third;
      fourth = shifted 3 d ∙ gathered-more n (k + 3) rows few i d l h g.fourth;
    }

-- ---- the columns, put from a place of a buffer on: those below k
module _ (xs before : List ℕ) (at : ℕ) where
  pub putting_none : Putting xs before at 0 before
  unfolding transpose tabulate
  putting_none = record { words = refl }

  pub putting_more : (k : ℕ) (now : List ℕ) (v : ℕ) → Putting xs before at k now → v ≡ column xs k → Putting xs before at (k + 1) (set now (at + k) v)
  unfolding transpose
  putting_more k now v p e = record {
    words =
        ap (λ (l : List ℕ). set l (at + k) v) p.words
        ∙ ap (set (stored before at (tabulate (column xs) k)) (at + k)) e
        ∙ sym (rw (add-one k) (stored_next (column xs) before at k));
  }

  -- and four at once
  pub putting_four : (k : ℕ) (now : List ℕ) (f : Four) → Putting xs before at k now → f ≡ four_of xs k
      → Putting xs before at (k + 4) (set (set (set (set now (at + k) f.a) (at + k + 1) f.b) (at + k + 2) f.c) (at + k + 3) f.d)
  putting_four k now f p e =
      let one = putting_more k now f.a p (ap (λ (x : Four). x.a) e) in
      let two = next 0 _ f.b one (ap (λ (x : Four). x.b) e) in
      let three = next 1 _ f.c two (ap (λ (x : Four). x.c) e) in
      next 2 _ f.d three (ap (λ (x : Four). x.d) e)
    where
      next : (j : ℕ) (now : List ℕ) (v : ℕ) → Putting xs before at (k + (j + 1)) now → v ≡ column xs (k + (j + 1))
          → Putting xs before at (k + (j + 1 + 1)) (set now (at + k + (j + 1)) v)
      next j now v p e =
          let a : k + (j + 1) + 1 ≡ k + (j + 1 + 1) = omega arith in
          let b : at + (k + (j + 1)) ≡ at + k + (j + 1) = omega arith in
          subst (λ (m : ℕ). Putting xs before at (k + (j + 1 + 1)) (set now m v)) b
          (subst (λ (m : ℕ). Putting xs before at m (set now (at + (k + (j + 1))) v)) a (putting_more (k + (j + 1)) now v p e))

-- put into an array without rows, they are padded with zeros
array_is : (w : ℕ) (xs : List ℕ) → w ≤ 64 → stored no_rows 0 (transpose w xs) ≡ padded (transpose w xs)
array_is w xs h =
    sets-eq (transpose w xs) no_rows 0 (omega (arith, length-transpose w xs, length-replicate {A = ℕ} 64 0))
    ∙ ap (λ (n : ℕ). transpose w xs ++ drop n no_rows) (zero-add (length (transpose w xs)))
    ∙ ap (λ (l : List ℕ). transpose w xs ++ l) (drop-replicate 64 (length (transpose w xs)))

-- ---- with as many rows m and columns w as there can be
module _ (rows : List ℕ) (many width m w : ℕ) (rowed : m ≡ min many 64) (wide : w ≡ min width 64) where
  counted : transpose w (places m rows) ≡ transpose (min width 64) (places many rows)
  counted = ap (λ (n : ℕ). transpose n (places m rows)) wide ∙ ap (transpose (min width 64)) (places_most many m rows rowed)

  pub putting_array : (now : List ℕ) → Putting (places m rows) no_rows 0 w now → now ≡ padded (transpose (min width 64) (places many rows))
  putting_array now p = p.words ∙ array_is w (places m rows) (omega arith) ∙ ap padded counted

  pub puts_there : (before : List ℕ) (at : ℕ) (now : List ℕ) → at + w ≤ length before → Putting (places m rows) before at w now
      → PutsIn (transpose (min width 64) (places many rows)) before at now
  puts_there before at now h p = record {
    fits = λ l. p.words ∙ ap (stored before at) counted;
    short = λ l. absurd (omega (arith, length-transpose (min width 64) (places many rows)));
  }

pub puts_short : (xs before : List ℕ) (at width w : ℕ) → w ≡ min width 64 → length before < at + w → PutsIn (transpose (min width 64) xs) before at before
puts_short xs before at width w e h = record {
  fits = λ l. absurd (omega (arith, length-transpose (min width 64) xs));
  short = λ l. refl;
}

-- the words and the place leave one answer
pub puts_one : (vs before : List ℕ) (at : ℕ) (x y : List ℕ) → PutsIn vs before at x → PutsIn vs before at y → x ≡ y
puts_one vs before at x y p q = go (dec_lt (length before) (at + length vs))
  where
    go : Dec (length before < at + length vs) → x ≡ y
    go (yes l) = p.short l ∙ sym (q.short l)
    go (no l) = p.fits (omega arith) ∙ sym (q.fits (omega arith))
