-- Rows and numbers taken by an order, as the code takes them: what a loop has gathered (`Gathered`) and renumbered
-- (`Renumbered`) so far. Then what that gives: of 64 rows by a preference the arranged rows of the first n
-- (`gathered_array`), of a set of a side by the places its rows by index (`gathered_back`); picks by number become
-- picks by place exactly where they were picks by number (`places-of-picks`), so that a value that represents no
-- state goes on representing none, and picks by place become picks by number again (`numbers-of-picks`).
use mathlib.Core.Path.{◌≡◌, refl, sym, ap, ap₂, ◌∙◌}
use mathlib.Core.Logic.{◌↔◌, ◌≢◌}
use mathlib.Core.Bool.{cond}
use mathlib.Core.List.{List, [], ◌∷◌, map, Memᴰ}
use Prim.Native.Nat.{ℕ, zero, suc, ◌-◌, ◌≤◌, ◌<◌, min}
use native.Mathlib.Nat.{not-suc-le-zero, le_of_suc-le-suc, min-eq_left}
use native.Mathlib.Decide.{ℕ_discrete, dec_le, dec_lt}
use native.Mathlib.Omega.{arith}
use lib.Dec.{ltb}
use lib.ListN.{length, take, get_or, length-map, length-replicate, get_or-eq_default}
use lib.Seq.{ext_get_or, get_or-take}
use borrow.Author.Tests.{eq-eqb, ne_eqb, lt-ltb, le-ltb}
use Rattle.sets.specs.Lists.{tabulate}
use Rattle.sets.proofs.Tabulated.{length-tabulate, get_or-tabulate}
use Rattle.table.specs.Pairs.{row}
use Rattle.table.specs.Tables.{no_rows, padded}
use Rattle.table.proofs.Places.{row_past}
use Rattle.table.proofs.Padding.{pad_get_or, pad_ext}
use Rattle.lists.specs.Arrangements.{IsArrangement, place_of}
use Rattle.lists.specs.private.Arranging.{index_at, arrange, unarrange}
use Rattle.lists.proofs.Standing.{in_range_lem, index_below, index_place, place_index}
use Rattle.lists.proofs.Arranging.{get_or-map}
use Rattle.lists.proofs.PlacedCandidates.{AllBelow}
use Rattle.preference.specs.Preferences.{order_of, numbers_of}
use Rattle.preference.specs.Placing.{inverse, entries, row_numbered, gathered, renumber, renumbered}
use Rattle.preference.proofs.Holding.{order_numbers, numbers_at_lem, length_order, order_at}
use Rattle.preference.proofs.Placing.{zero_none}

-- ---- an array by its entries
entry_in : (x : List ℕ) (i : ℕ) → i < 64 → row (entries x) i ≡ row x i
unfolding entries
entry_in x i l = get_or-tabulate (row x) 64 i l

entry_past : (x : List ℕ) (i : ℕ) → 64 ≤ i → row (entries x) i ≡ 0
unfolding entries
entry_past x i l = row_past (tabulate (row x) 64) i (omega (arith, length-tabulate (row x) 64))

entry_at_lem : (x : List ℕ) → length x ≡ 64 → (i : ℕ) → row (entries x) i ≡ row x i
entry_at_lem x long i = go (dec_lt i 64)
  where
    go : Dec (i < 64) → row (entries x) i ≡ row x i
    go (yes l) = entry_in x i l
    go (no l) = entry_past x i (omega arith) ∙ sym (row_past x i (omega (arith, long)))

-- ---- one row
pub row_zero : (rows : List ℕ) (g : ℕ) → g ≡ 0 → row rows 0 ≡ row_numbered rows g
row_zero rows g z = let e : 0 ≡ g - 1 = omega (arith, z) in sym (entry_in rows 0 (omega arith)) ∙ ap (row (entries rows)) e

pub row_large : (rows : List ℕ) (g : ℕ) → 64 < g → 0 ≡ row_numbered rows g
row_large rows g h = sym (entry_past rows (g - 1) (omega arith))

pub row_some : (rows : List ℕ) (g : ℕ) → g ≢ 0 → g ≤ 64 → row rows (g - 1) ≡ row_numbered rows g
row_some rows g z h = sym (entry_in rows (g - 1) (omega arith))

-- ---- the loop over rows: the first i are gathered
pub record Gathered (rows numbers out : List ℕ) (i : ℕ) : Type 0 where
  pub size : length out ≡ 64
  pub most : i ≤ 64
  pub entry : (j : ℕ) → j < i → get_or out j 0 ≡ row_numbered rows (get_or numbers j 0)
  pub rest : (j : ℕ) → i ≤ j → get_or out j 0 ≡ 0

pub gathered_none : (rows numbers : List ℕ) → Gathered rows numbers no_rows 0
gathered_none rows numbers =
    record { size = length-replicate {A = ℕ} 64 0; most = omega arith; entry = λ j l. absurd (not-suc-le-zero l); rest = λ j l. zero_none j }

-- n of them, or all 64 where n is larger
pub gathered_all : (rows numbers out : List ℕ) (i n : ℕ) → Gathered rows numbers out i → i ≡ min n 64 → out ≡ padded (gathered n rows numbers)
unfolding gathered
gathered_all rows numbers out i n g all =
    pad_ext out (tabulate f (min n 64)) g.size (omega (arith, length-tabulate f (min n 64))) (λ j. go j (dec_lt j i))
  where
    f : ℕ → ℕ
    f = λ i. row_numbered rows (get_or numbers i 0)

    go : (j : ℕ) → Dec (j < i) → get_or out j 0 ≡ get_or (tabulate f (min n 64)) j 0
    go j (yes l) = g.entry j l ∙ sym (get_or-tabulate f (min n 64) j (omega arith))
    go j (no l) = g.rest j (omega arith) ∙ sym (row_past (tabulate f (min n 64)) j (omega (arith, length-tabulate f (min n 64))))

-- ---- what is gathered
rows_agree : (l x y : List ℕ) → ((i : ℕ) → Memᴰ i l → row x i ≡ row y i) → arrange l x ≡ arrange l y
unfolding arrange
rows_agree [] x y h = refl
rows_agree (i ∷ l) x y h = ap₂ (λ (a : ℕ) (b : List ℕ). a ∷ b) (h i (Memᴰ.head refl)) (rows_agree l x y (λ k m. h k (Memᴰ.tail m)))

-- the rows of the numbers, in turn
pub gathered_is : (n : ℕ) (rows numbers : List ℕ) → n ≤ 64 → length rows ≡ 64 → length numbers ≡ 64
    → gathered n rows numbers ≡ arrange (order_of n numbers) rows
unfolding gathered arrange
gathered_is n rows numbers few long size =
    ext_get_or 0 (tabulate f (min n 64)) (map (row rows) (order_of n numbers))
    (length-tabulate f (min n 64) ∙ min-eq_left few ∙ sym (length-map (order_of n numbers) (row rows) ∙ length_order n numbers few size))
    (λ i l.
    let h : i < n = omega (arith, length-tabulate f (min n 64)) in
    get_or-tabulate f (min n 64) i (omega arith) ∙ entry_at_lem rows long (get_or numbers i 0 - 1)
    ∙ sym (get_or-map (row rows) (order_of n numbers) i (omega (arith, length_order n numbers few size)) ∙ ap (row rows) (order_at n numbers few size i h)))
  where
    f : ℕ → ℕ
    f = λ i. row_numbered rows (get_or numbers i 0)

-- by a preference, the first n rows alone
gathered_rows : (n : ℕ) (o rows : List ℕ) → IsArrangement n o → arrange o rows ≡ arrange o (take n rows)
gathered_rows n o rows a = rows_agree o rows (take n rows) (λ i m. sym (get_or-take n rows i 0 (in_range_lem n o a i m)))

-- so the array has the arranged rows, padded with zeros
pub gathered_array : (n : ℕ) (rows numbers : List ℕ) → n ≤ 64 → length rows ≡ 64 → length numbers ≡ 64 → IsArrangement n (order_of n numbers)
    → padded (gathered n rows numbers) ≡ padded (arrange (order_of n numbers) (take n rows))
gathered_array n rows numbers few long size a = ap padded (gathered_is n rows numbers few long size ∙ gathered_rows n (order_of n numbers) rows a)

-- by the places, rows by index again
pub gathered_back : (n : ℕ) (o y : List ℕ) → length o ≡ n → arrange (order_of n (numbers_of (inverse o))) (padded y) ≡ unarrange o y
unfolding arrange unarrange
gathered_back n o y e =
    ap (λ (l : List ℕ). map (row (padded y)) l) (order_numbers n (inverse o) (length-tabulate (place_of o) (length o) ∙ e))
    ∙ ext_get_or 0 (map (row (padded y)) (inverse o)) (tabulate (λ i. row y (place_of o i)) (length o))
    (length-map (inverse o) (row (padded y)) ∙ length-tabulate (place_of o) (length o) ∙ sym (length-tabulate (λ i. row y (place_of o i)) (length o)))
    (λ i l.
    let b : i < length o = omega (arith, length-map (inverse o) (row (padded y)), length-tabulate (place_of o) (length o)) in
    get_or-map (row (padded y)) (inverse o) i (omega (arith, length-tabulate (place_of o) (length o)))
    ∙ ap (row (padded y)) (get_or-tabulate (place_of o) (length o) i b) ∙ pad_get_or y (place_of o i)
    ∙ sym (get_or-tabulate (λ i. row y (place_of o i)) (length o) i b))

-- ---- one number
renumber_zero : (l : List ℕ) (n g : ℕ) → g ≡ 0 → renumber l n g ≡ 0
unfolding renumber
renumber_zero l n g z = rw (eq-eqb g 0 z)

renumber_large : (l : List ℕ) (n g : ℕ) → g ≢ 0 → n < g → renumber l n g ≡ g
unfolding renumber
renumber_large l n g z h = rw (ne_eqb g 0 z, lt-ltb n g h)

renumber_in : (l : List ℕ) (n g : ℕ) → g ≢ 0 → g ≤ n → renumber l n g ≡ row (entries l) (g - 1)
unfolding renumber
renumber_in l n g z h = rw (ne_eqb g 0 z, le-ltb n g h)

renumber_low : (l : List ℕ) (n g : ℕ) → n ≤ 64 → g ≢ 0 → g ≤ n → renumber l n g ≡ row l (g - 1)
renumber_low l n g few z h = renumber_in l n g z h ∙ entry_in l (g - 1) (omega arith)

-- as the code has it
pub one_zero : (l : List ℕ) (n g v : ℕ) → g ≡ 0 → v ≡ 0 → v ≡ renumber l n g
one_zero l n g v z e = e ∙ sym (renumber_zero l n g z)

pub one_large : (l : List ℕ) (n g v : ℕ) → g ≢ 0 → n < g → v ≡ g → v ≡ renumber l n g
one_large l n g v z h e = e ∙ sym (renumber_large l n g z h)

pub one_past : (l : List ℕ) (n g : ℕ) → g ≢ 0 → g ≤ n → 64 < g → 0 ≡ renumber l n g
one_past l n g z h k = sym (renumber_in l n g z h ∙ entry_past l (g - 1) (omega arith))

pub one_in : (l : List ℕ) (n g v : ℕ) → g ≢ 0 → g ≤ n → g ≤ 64 → v ≡ row l (g - 1) → v ≡ renumber l n g
one_in l n g v z h k e = e ∙ sym (renumber_in l n g z h ∙ entry_in l (g - 1) (omega arith))

-- ---- the loop over numbers: the first i are renumbered
entry_of : List ℕ → ℕ → List ℕ → ℕ → ℕ
entry_of l n k i = cond (ltb i n) (renumber l n (get_or k i 0)) (get_or k i 0)

entry_front : (l : List ℕ) (n : ℕ) (k : List ℕ) (i : ℕ) → i < n → entry_of l n k i ≡ renumber l n (get_or k i 0)
unfolding entry_of
entry_front l n k i h = rw (lt-ltb i n h)

entry_rest : (l : List ℕ) (n : ℕ) (k : List ℕ) (i : ℕ) → n ≤ i → entry_of l n k i ≡ get_or k i 0
unfolding entry_of
entry_rest l n k i h = rw (le-ltb i n h)

pub record Renumbered (l : List ℕ) (n : ℕ) (k out : List ℕ) (i : ℕ) : Type 0 where
  pub size : length out ≡ 64
  pub most : i ≤ 64
  pub entry : (j : ℕ) → j < i → get_or out j 0 ≡ renumber l n (get_or k j 0)
  pub rest : (j : ℕ) → i ≤ j → get_or out j 0 ≡ get_or k j 0

-- n of them, or all 64 where n is larger
pub renumbered_all : (l : List ℕ) (n : ℕ) (k out : List ℕ) (i : ℕ) → Renumbered l n k out i → i ≡ min n 64 → out ≡ renumbered l n k
unfolding renumbered entry_of
renumbered_all l n k out i r all =
    ext_get_or 0 out (tabulate (entry_of l n k) 64) (r.size ∙ sym (length-tabulate (entry_of l n k) 64))
    (λ j b. go j (omega (arith, r.size)) (dec_lt j i) ∙ sym (get_or-tabulate (entry_of l n k) 64 j (omega (arith, r.size))))
  where
    go : (j : ℕ) → j < 64 → Dec (j < i) → get_or out j 0 ≡ entry_of l n k j
    go j b (yes c) = r.entry j c ∙ sym (entry_front l n k j (omega arith))
    go j b (no c) = r.rest j (omega arith) ∙ sym (entry_rest l n k j (omega arith))

-- ---- what is renumbered
renumbered_at : (l : List ℕ) (n : ℕ) (k : List ℕ) (i : ℕ) → i < 64 → get_or (renumbered l n k) i 0 ≡ entry_of l n k i
unfolding renumbered entry_of
renumbered_at l n k i h = get_or-tabulate (entry_of l n k) 64 i h

renumbered_size : (l : List ℕ) (n : ℕ) (k : List ℕ) → length (renumbered l n k) ≡ 64
unfolding renumbered entry_of
renumbered_size l n k = length-tabulate (entry_of l n k) 64

module _ (n : ℕ) (o : List ℕ) (a : IsArrangement n o) (few : n ≤ 64) where
  -- the place of a number of 1..n, from 1
  own_place : (g : ℕ) → g ≢ 0 → g ≤ n → renumber (numbers_of (inverse o)) n g ≡ suc (place_of o (g - 1))
  own_place g z h =
      renumber_low (numbers_of (inverse o)) n g few z h ∙ pad_get_or (map suc (inverse o)) (g - 1)
      ∙ numbers_at_lem (inverse o) (g - 1) (omega (arith, length-tabulate (place_of o) (length o), a.size))
      ∙ ap suc (get_or-tabulate (place_of o) (length o) (g - 1) (omega (arith, a.size)))

  -- a number is renumbered to a place below n exactly where it is the number there; 0 to 0
  pub place_entry : (g i : ℕ) → i < n → (renumber (numbers_of (inverse o)) n g ≡ suc i) ↔ (g ≡ suc (index_at o i))
  place_entry g i h = (into (ℕ_discrete g 0) (dec_le g n), onto)
    where
      into : Dec (g ≡ 0) → Dec (g ≤ n) → renumber (numbers_of (inverse o)) n g ≡ suc i → g ≡ suc (index_at o i)
      into (yes z) d e = absurd (omega (arith, e, renumber_zero (numbers_of (inverse o)) n g z))
      into (no z) (no k) e = absurd (omega (arith, e, renumber_large (numbers_of (inverse o)) n g z (omega arith)))
      into (no z) (yes k) e =
          let d : place_of o (g - 1) ≡ i = omega (arith, e, own_place g z k) in
          omega (arith, sym (index_place n o a (g - 1) (omega arith)) ∙ ap (index_at o) d)

      onto : g ≡ suc (index_at o i) → renumber (numbers_of (inverse o)) n g ≡ suc i
      onto e =
          let d : g - 1 ≡ index_at o i = omega (arith, e) in
          own_place g (λ z. omega (arith, e, z)) (omega (arith, e, index_below n o a i h)) ∙ ap suc (ap (place_of o) d ∙ place_index n o a i h)

  -- and by the order, the number at a place
  pub number_entry : (i : ℕ) → i < n → renumber (numbers_of o) n (suc i) ≡ suc (index_at o i)
  number_entry i h =
      let e : suc i - 1 ≡ i = omega arith in
      renumber_low (numbers_of o) n (suc i) few (λ z. omega (arith, z)) (omega arith) ∙ pad_get_or (map suc o) (suc i - 1) ∙ ap (λ (x : ℕ). get_or (map suc o) x 0) e
      ∙ numbers_at_lem o i (omega (arith, a.size))

  -- a number that becomes 0 was 0
  zero_only : (g : ℕ) → renumber (numbers_of (inverse o)) n g ≡ 0 → g ≡ 0
  zero_only g e = go (ℕ_discrete g 0) (dec_le g n)
    where
      go : Dec (g ≡ 0) → Dec (g ≤ n) → g ≡ 0
      go (yes z) d = z
      go (no z) (no k) = absurd (omega (arith, e, renumber_large (numbers_of (inverse o)) n g z (omega arith)))
      go (no z) (yes k) = absurd (omega (arith, e, own_place g z k))

  picks_low : (q : List ℕ) → AllBelow n q → (j : ℕ) → j < length q → get_or q j 0 < n
  picks_low [] b j h = absurd (not-suc-le-zero h)
  picks_low (i ∷ q) b zero h = b.0
  picks_low (i ∷ q) b (suc j) h = picks_low q b.1 j (le_of_suc-le-suc h)

  numbers_past : (q : List ℕ) (j : ℕ) → length q ≤ j → get_or (map suc q) j 0 ≡ 0
  numbers_past q j h = get_or-eq_default (map suc q) 0 (omega (arith, length-map q suc))

  module _ (q : List ℕ) (b : AllBelow n q) (short : length q ≤ n) where
    abbrev nums : List ℕ
    nums = map (index_at o) q

    index-at : (j : ℕ) → j < length q → get_or nums j 0 ≡ index_at o (get_or q j 0)
    index-at j h = get_or-map (index_at o) q j h

    size-nums : length nums ≡ length q
    size-nums = length-map q (index_at o)

    number_at : (j : ℕ) → j < length q → get_or (map suc nums) j 0 ≡ suc (index_at o (get_or q j 0))
    number_at j h = numbers_at_lem nums j (omega (arith, size-nums)) ∙ ap suc (index-at j h)

    pub places-of-picks : (k : List ℕ) → length k ≡ 64 → (renumbered (numbers_of (inverse o)) n k ≡ numbers_of q) ↔ (k ≡ numbers_of nums)
    places-of-picks k long = (
      λ e. pad_ext k (map suc nums) long (omega (arith, length-map nums suc, size-nums)) (λ j. back e j (dec_lt j 64) (dec_lt j n) (dec_lt j (length q))),
      λ e. pad_ext (renumbered (numbers_of (inverse o)) n k) (map suc q) (renumbered_size (numbers_of (inverse o)) n k) (omega (arith, length-map q suc))
          (λ j. there e j (dec_lt j 64) (dec_lt j n) (dec_lt j (length q))),
    )
      where
        r : List ℕ
        r = numbers_of (inverse o)

        at : renumbered r n k ≡ numbers_of q → (j : ℕ) → j < 64 → entry_of r n k j ≡ get_or (map suc q) j 0
        at e j h = sym (renumbered_at r n k j h) ∙ ap (λ (x : List ℕ). get_or x j 0) e ∙ pad_get_or (map suc q) j

        back : renumbered r n k ≡ numbers_of q → (j : ℕ) → Dec (j < 64) → Dec (j < n) → Dec (j < length q) → get_or k j 0 ≡ get_or (map suc nums) j 0
        back e j (no c) d f = get_or-eq_default k 0 (omega (arith, long)) ∙ sym (numbers_past nums j (omega (arith, size-nums)))
        back e j (yes c) (yes d) (yes f) =
            (place_entry (get_or k j 0) (get_or q j 0) (picks_low q b j f)).0 (sym (entry_front r n k j d) ∙ at e j c ∙ numbers_at_lem q j f) ∙ sym (number_at j f)
        back e j (yes c) (yes d) (no f) =
            zero_only (get_or k j 0) (sym (entry_front r n k j d) ∙ at e j c ∙ numbers_past q j (omega arith))
            ∙ sym (numbers_past nums j (omega (arith, size-nums)))
        back e j (yes c) (no d) f =
            sym (entry_rest r n k j (omega arith)) ∙ at e j c ∙ numbers_past q j (omega arith) ∙ sym (numbers_past nums j (omega (arith, size-nums)))

        own : k ≡ numbers_of nums → (j : ℕ) → get_or k j 0 ≡ get_or (map suc nums) j 0
        own e j = ap (λ (x : List ℕ). get_or x j 0) e ∙ pad_get_or (map suc nums) j

        there : k ≡ numbers_of nums → (j : ℕ) → Dec (j < 64) → Dec (j < n) → Dec (j < length q) → get_or (renumbered r n k) j 0 ≡ get_or (map suc q) j 0
        there e j (no c) d f =
            get_or-eq_default (renumbered r n k) 0 (omega (arith, renumbered_size r n k)) ∙ sym (numbers_past q j (omega arith))
        there e j (yes c) (yes d) (yes f) =
            renumbered_at r n k j c ∙ entry_front r n k j d
            ∙ (place_entry (get_or k j 0) (get_or q j 0) (picks_low q b j f)).1 (own e j ∙ number_at j f) ∙ sym (numbers_at_lem q j f)
        there e j (yes c) (yes d) (no f) =
            renumbered_at r n k j c ∙ entry_front r n k j d
            ∙ renumber_zero r n (get_or k j 0) (own e j ∙ numbers_past nums j (omega (arith, size-nums))) ∙ sym (numbers_past q j (omega arith))
        there e j (yes c) (no d) f =
            renumbered_at r n k j c ∙ entry_rest r n k j (omega arith) ∙ own e j ∙ numbers_past nums j (omega (arith, size-nums))
            ∙ sym (numbers_past q j (omega arith))

    pub numbers-of-picks : renumbered (numbers_of o) n (numbers_of q) ≡ numbers_of nums
    numbers-of-picks =
        pad_ext (renumbered (numbers_of o) n (numbers_of q)) (map suc nums) (renumbered_size (numbers_of o) n (numbers_of q))
        (omega (arith, length-map nums suc, size-nums)) (λ j. go j (dec_lt j 64) (dec_lt j n) (dec_lt j (length q)))
      where
        own : (j : ℕ) → get_or (numbers_of q) j 0 ≡ get_or (map suc q) j 0
        own j = pad_get_or (map suc q) j

        go : (j : ℕ) → Dec (j < 64) → Dec (j < n) → Dec (j < length q) → get_or (renumbered (numbers_of o) n (numbers_of q)) j 0 ≡ get_or (map suc nums) j 0
        go j (no c) d f =
            get_or-eq_default (renumbered (numbers_of o) n (numbers_of q)) 0 (omega (arith, renumbered_size (numbers_of o) n (numbers_of q)))
            ∙ sym (numbers_past nums j (omega (arith, size-nums)))
        go j (yes c) (yes d) (yes f) =
            renumbered_at (numbers_of o) n (numbers_of q) j c ∙ entry_front (numbers_of o) n (numbers_of q) j d
            ∙ ap (renumber (numbers_of o) n) (own j ∙ numbers_at_lem q j f) ∙ number_entry (get_or q j 0) (picks_low q b j f) ∙ sym (number_at j f)
        go j (yes c) (yes d) (no f) =
            renumbered_at (numbers_of o) n (numbers_of q) j c ∙ entry_front (numbers_of o) n (numbers_of q) j d
            ∙ renumber_zero (numbers_of o) n (get_or (numbers_of q) j 0) (own j ∙ numbers_past q j (omega arith))
            ∙ sym (numbers_past nums j (omega (arith, size-nums)))
        go j (yes c) (no d) f =
            renumbered_at (numbers_of o) n (numbers_of q) j c ∙ entry_rest (numbers_of o) n (numbers_of q) j (omega arith) ∙ own j
            ∙ numbers_past q j (omega arith) ∙ sym (numbers_past nums j (omega (arith, size-nums)))
