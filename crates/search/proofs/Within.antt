-- The rows at the places of a set (`within`), as the set changes, and a loop over the places of a set: what was passed does not rule the
-- gauge out, or is no candidate.
use mathlib.Core.Path.{◌≡◌, refl, sym, ap, ap₂, ◌∙◌}
use mathlib.Core.Bool.{Bool, true, false, not, ◌&&◌, ◌||◌, cond}
use mathlib.Core.List.{List}
use Prim.Native.Nat.{ℕ, ◌≤◌, ◌<◌}
use native.Mathlib.Nat.{min-eq_left}
use native.Mathlib.Decide.{ℕ_discrete, dec_lt}
use native.Mathlib.Omega.{arith}
use lib.Bits.{bit_and}
use lib.Dec.{T, leb, ltb}
use lib.ListN.{length, get_or, set, length-set}
use lib.Seq.{ext_get_or, get_or-set_same, get_or-set_other}
use borrow.Author.Tests.{eq-eqb, ne_eqb, lt-ltb, le-ltb, le-leb, leb-true}
use Rattle.basics.proofs.Clash.{clash}
use Rattle.sets.specs.Sets.{bit, meet, lowest}
use Rattle.sets.specs.Lists.{all_below}
use Rattle.sets.specs.First.{Lowest, Without, Added, Upper}
use Rattle.sets.proofs.Tabulated.{length-tabulate, get_or-tabulate, all_of}
use Rattle.sets.proofs.Tests.{is_true}
use Rattle.sets.proofs.OnePlace.{none_in, bit-lowest}
use Rattle.sets.proofs.Order.{zero_sub}
use Rattle.table.specs.Pairs.{row}
use Rattle.table.proofs.Places.{row_past}
use Rattle.search.specs.Finding.{blocks, candidate_in, FirstOf, within}
use Rattle.search.proofs.SearchLoops.{passes, blocked, unblocked, empty_remainder, past_places, zero_blocks}

-- true is not false
pub yes_no_lem : {A : Type 0} (x : Bool) → x ≡ true → x ≡ false → A
yes_no_lem x a b = let e : true ≡ false = sym a ∙ b in clash cc

pub length-within : (s : ℕ) (rows : List ℕ) → length (within s rows) ≡ 64
unfolding within
length-within s rows = length-tabulate (λ i. cond (bit s i) (row rows i) 0) 64

row-within : (s : ℕ) (rows : List ℕ) (i : ℕ) → i < 64 → row (within s rows) i ≡ cond (bit s i) (row rows i) 0
unfolding within
row-within s rows i l = get_or-tabulate (λ i. cond (bit s i) (row rows i) 0) 64 i l

pub row_in : (s : ℕ) (rows : List ℕ) (i : ℕ) → i < 64 → bit s i ≡ true → row (within s rows) i ≡ row rows i
row_in s rows i l e = row-within s rows i l ∙ ap (λ (b : Bool). cond b (row rows i) 0) e

pub row_out : (s : ℕ) (rows : List ℕ) (i : ℕ) → bit s i ≡ false → row (within s rows) i ≡ 0
row_out s rows i e = go (dec_lt i 64)
  where
    go : Dec (i < 64) → row (within s rows) i ≡ 0
    go (yes l) = row-within s rows i l ∙ ap (λ (b : Bool). cond b (row rows i) 0) e
    go (no l) = row_past (within s rows) i (omega (arith, length-within s rows))

-- all of the first n rows
pub within-lowest : (r rows : List ℕ) (n : ℕ) → n ≤ 64 → length r ≡ n → ((i : ℕ) → row rows i ≡ row r i) → (i : ℕ) → row (within (lowest n) rows) i ≡ row r i
within-lowest r rows n few size same i = go (dec_lt i n)
  where
    here : bit (lowest n) i ≡ ltb i n
    here = bit-lowest n i ∙ ap (ltb i) (min-eq_left few)

    go : Dec (i < n) → row (within (lowest n) rows) i ≡ row r i
    go (yes l) = row_in (lowest n) rows i (omega arith) (here ∙ lt-ltb i n l) ∙ same i
    go (no l) = row_out (lowest n) rows i (here ∙ le-ltb i n (omega arith)) ∙ sym (row_past r i (omega arith))

-- a place fewer, and a place more
pub within_without : (s g r : ℕ) (rows : List ℕ) → g < 64 → Without s g r → within r rows ≡ set (within s rows) g 0
within_without s g r rows l w =
    ext_get_or 0 (within r rows) (set (within s rows) g 0) (length-within r rows ∙ sym (length-set (within s rows) g 0 ∙ length-within s rows))
    (λ i h. go i (omega (arith, length-within r rows)) (ℕ_discrete i g))
  where
    and-true : (x : Bool) → (x && true) ≡ x
    and-true true = refl
    and-true false = refl

    and-false : (x : Bool) → (x && false) ≡ false
    and-false true = refl
    and-false false = refl

    go : (i : ℕ) → i < 64 → Dec (i ≡ g) → get_or (within r rows) i 0 ≡ get_or (set (within s rows) g 0) i 0
    go i h (yes e) =
        row_out r rows i (w.bits i ∙ ap (λ (b : Bool). bit s i && not b) (eq-eqb i g e) ∙ and-false (bit s i))
        ∙ sym (ap (λ (j : ℕ). get_or (set (within s rows) g 0) j 0) e ∙ get_or-set_same (within s rows) g 0 0 (omega (arith, length-within s rows)))
    go i h (no e) =
        row-within r rows i h ∙ ap (λ (b : Bool). cond b (row rows i) 0) (w.bits i ∙ ap (λ (b : Bool). bit s i && not b) (ne_eqb i g e) ∙ and-true (bit s i))
        ∙ sym (row-within s rows i h) ∙ sym (get_or-set_other (within s rows) g i 0 0 e)

pub within_with : (s g r : ℕ) (rows : List ℕ) → g < 64 → Added s g r → within r rows ≡ set (within s rows) g (row rows g)
within_with s g r rows l w =
    ext_get_or 0 (within r rows) (set (within s rows) g (row rows g))
    (length-within r rows ∙ sym (length-set (within s rows) g (row rows g) ∙ length-within s rows))
    (λ i h. go i (omega (arith, length-within r rows)) (ℕ_discrete i g))
  where
    or-true : (x : Bool) → (x || true) ≡ true
    or-true true = refl
    or-true false = refl

    or-false : (x : Bool) → (x || false) ≡ x
    or-false true = refl
    or-false false = refl

    go : (i : ℕ) → i < 64 → Dec (i ≡ g) → get_or (within r rows) i 0 ≡ get_or (set (within s rows) g (row rows g)) i 0
    go i h (yes e) =
        row_in r rows i h (w.bits i ∙ ap (λ (b : Bool). bit s i || b) (eq-eqb i g e) ∙ or-true (bit s i)) ∙ ap (row rows) e
        ∙ sym (ap (λ (j : ℕ). get_or (set (within s rows) g (row rows g)) j 0) e
        ∙ get_or-set_same (within s rows) g (row rows g) 0 (omega (arith, length-within s rows)))
    go i h (no e) =
        row-within r rows i h ∙ ap (λ (b : Bool). cond b (row rows i) 0) (w.bits i ∙ ap (λ (b : Bool). bit s i || b) (ne_eqb i g e) ∙ or-false (bit s i))
        ∙ sym (row-within s rows i h) ∙ sym (get_or-set_other (within s rows) g i (row rows g) 0 e)

-- ---- a loop over the places of a set
pub record Passed (P : ℕ → Type 0) (s rest : ℕ) : Type 0 where
  pub within : (h : ℕ) → bit rest h ≡ true → bit s h ≡ true
  pub passed : (h : ℕ) → bit s h ≡ true → bit rest h ≡ false → P h

module _ (P : ℕ → Type 0) (s : ℕ) where
  pub passed_all : (rest : ℕ) → Passed P s rest → rest ≡ 0 → (h : ℕ) → bit s h ≡ true → P h
  passed_all rest p e h b = p.passed h b (rw e (none_in h))

-- ---- a candidate of the set
module _ (rows : List ℕ) (s left g : ℕ) (low : g < 64) (here : bit s g ≡ true) where
  abbrev pub Out : ℕ → Bool
  Out h = blocks (bit_and (row rows g) left) (bit_and (row rows h) left) (ltb h g)

  own_is : bit_and (row (within s rows) g) left ≡ bit_and (row rows g) left
  own_is = ap (λ (x : ℕ). bit_and x left) (row_in s rows g low here)

  pub of_empty : bit_and (row rows g) left ≡ 0 → false ≡ candidate_in (within s rows) left 64 g
  of_empty e = empty_remainder (within s rows) left 64 g 64 refl low (own_is ∙ e)

  pub of_blocked : ¬ (bit_and (row rows g) left ≡ 0) → (h : ℕ) (t : Bool) → h < 64 → bit s h ≡ true → t ≡ Out h → t ≡ true
      → false ≡ candidate_in (within s rows) left 64 g
  of_blocked ne h t l b e d =
      blocked (within s rows) left 64 g 64 refl low (λ z. ne (sym own_is ∙ z)) h t l
      (e ∙ sym (ap₂ (λ (x y : ℕ). blocks x y (ltb h g)) own_is (ap (λ (x : ℕ). bit_and x left) (row_in s rows h l b)))) d

  pub of_clear : ¬ (bit_and (row rows g) left ≡ 0) → ((h : ℕ) → bit s h ≡ true → Out h ≡ false) → true ≡ candidate_in (within s rows) left 64 g
  unfolding meet
  of_clear ne f =
      unblocked (within s rows) left 64 g 64 refl low (λ z. ne (sym own_is ∙ z)) 64
      (is_true (all_below (passes (within s rows) left g) 64) (all_of (passes (within s rows) left g) 64 (λ h l. pass h l (bit s h) refl))) refl
    where
      pass : (h : ℕ) → h < 64 → (b : Bool) → bit s h ≡ b → T (passes (within s rows) left g h)
      pass h l true b = rw (passes-in h l b, f h b) tt
        where
          passes-in : (h : ℕ) → h < 64 → bit s h ≡ true → passes (within s rows) left g h ≡ not (Out h)
          passes-in h l b = ap not (ap₂ (λ (x y : ℕ). blocks x y (ltb h g)) own_is (ap (λ (x : ℕ). bit_and x left) (row_in s rows h l b)))
      pass h l false b = rw (passes-out) tt
        where
          passes-out : passes (within s rows) left g h ≡ true
          passes-out =
              ap not (ap₂ (λ (x y : ℕ). blocks x y (ltb h g)) own_is (ap (λ (x : ℕ). meet x left) (row_out s rows h b) ∙ zero_sub left)
              ∙ zero_blocks (bit_and (row rows g) left) (ltb h g) ne)

-- a place that is not in the set is no candidate
pub of_absent : (rows : List ℕ) (s left g : ℕ) → bit s g ≡ false → false ≡ candidate_in (within s rows) left 64 g
unfolding meet
of_absent rows s left g b = go (dec_lt g 64)
  where
    go : Dec (g < 64) → false ≡ candidate_in (within s rows) left 64 g
    go (yes l) = empty_remainder (within s rows) left 64 g 64 refl l (ap (λ (x : ℕ). meet x left) (row_out s rows g b) ∙ zero_sub left)
    go (no l) = past_places (within s rows) left 64 g 64 refl (omega arith)

-- ---- the lowest candidate of the set from a place on
module _ (rows : List ℕ) (s left from up : ℕ) (u : Upper s from up) where
  abbrev pub Not : ℕ → Type 0
  Not i = candidate_in (within s rows) left 64 i ≡ false

  abbrev Search : ℕ → Type 0
  Search r = FirstOf (candidate_in (within s rows) left 64) from 64 r

  in_set : (h : ℕ) → bit up h ≡ true → (from ≤ h) × (bit s h ≡ true)
  in_set h b = go (leb from h) refl (bit s h) refl
    where
      go : (x : Bool) → leb from h ≡ x → (y : Bool) → bit s h ≡ y → (from ≤ h) × (bit s h ≡ true)
      go true x true y = (leb-true from h x, y)
      go true x false y = yes_no_lem (bit up h) b (u.bits h ∙ ap₂ (λ (p q : Bool). p && q) x y)
      go false x z y = yes_no_lem (bit up h) b (u.bits h ∙ ap (λ (p : Bool). p && bit s h) x)

  lower : (h : ℕ) → ((i : ℕ) → bit up i ≡ true → i < h → Not i) → (i : ℕ) → from ≤ i → i < h → Not i
  lower h f i a b = go (bit s i) refl
    where
      go : (y : Bool) → bit s i ≡ y → Not i
      go true y = f i (u.bits i ∙ ap₂ (λ (p q : Bool). p && q) (le-leb from i a) y) b
      go false y = sym (of_absent rows s left i y)

  pub search_found : (rest h : ℕ) (t : Bool) → Passed Not up rest → Lowest rest h → t ≡ candidate_in (within s rows) left 64 h → t ≡ true → Search h
  search_found rest h t p l e d = record {
    least = lower h (λ i b y. p.passed i b (l.none i y));
    found = λ y. ((in_set h (p.within h l.here)).0, sym e ∙ d);
    none = λ y. absurd (omega (arith, l.below));
  }

  pub search_none : (rest : ℕ) → Passed Not up rest → rest ≡ 0 → Search 64
  search_none rest p e = record {
    least = lower 64 (λ i b y. passed_all Not up rest p e i b);
    found = λ y. absurd (omega arith);
    none = λ y. refl;
  }
