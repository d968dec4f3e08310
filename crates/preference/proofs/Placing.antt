-- How the places are found: after i numbers of the order, each is marked at its own byte, and nothing else is marked
-- (`Marked`). A number outside 1..n, or one that is marked already, is in no preference; with all n marked it is one,
-- and the bytes are the places. Then the answers, one law for each `return`, and what follows from them: 27 after the
-- table's refusals (`table_first_lem`, `order_next`), and when nothing is refused (`passes_both`).
use mathlib.Core.Path.{◌≡◌, refl, sym, ap, ◌∙◌}
use mathlib.Core.Logic.{◌≢◌}
use mathlib.Core.Bool.{Bool, true, false, cond}
use mathlib.Core.List.{List, [], ◌∷◌, map, Memᴰ}
use Prim.Native.Nat.{ℕ, suc, ◌+◌, ◌-◌, ◌≤◌, ◌<◌}
use native.Mathlib.Nat.{not-suc-le-zero}
use native.Mathlib.Decide.{ℕ_discrete, dec_lt}
use native.Mathlib.Omega.{arith}
use lib.Dec.{T, not_T}
use borrow.Author.Tests.{eq-eqb, ne_eqb}
use lib.ListN.{length, get_or, set, length-set, length-map, length-replicate, get_or-replicate, get_or-eq_default}
use lib.Seq.{get_or-set_same, get_or-set_other}
use Rattle.basics.proofs.Clash.{clash}
use Rattle.sets.proofs.Tests.{is_true, is_false}
use Rattle.sets.proofs.Tabulated.{length-tabulate, get_or-tabulate}
use Rattle.table.specs.declared.Table.{Table}
use Rattle.table.specs.Tables.{no_rows, table_refusal}
use Rattle.table.proofs.Places.{row_past}
use Rattle.table.proofs.Padding.{pad_ext}
use Rattle.rules.specs.Sequences.{Sorted}
use Rattle.rules.proofs.Sequences.{All_of}
use Rattle.lists.specs.Arrangements.{IsArrangement, place_of}
use Rattle.lists.specs.private.Arranging.{index_at}
use Rattle.lists.proofs.Standing.{arrangement_of, index_place, place_below, index_below, index_injective}
use Rattle.preference.specs.Preferences.{is_preference, order_refusal, preferred_refusal, order_of, numbers_of}
use Rattle.preference.specs.Placing.{inverse, placed_as}
use Rattle.preference.specs.private.Testing.{zeros_from}
use Rattle.std.specs.Option.{is_some}
use Rattle.std.specs.Prelude.{Option, Some, None}
use Rattle.preference.proofs.Holding.{IsPreference, length_order, order_at, numbers_at_lem, held_of, held_front, zeros_at, zeros_of}
use Rattle.preference.proofs.Holding.{preference_of, of_preference, zeros_in, none_large}

-- ---- lists by their entries
mem_index : (l : List ℕ) (a : ℕ) → Memᴰ a l → (i : ℕ) × (i < length l) × (get_or l i 0 ≡ a)
mem_index [] a m = elim m [ ]
mem_index (x ∷ xs) a (Memᴰ.head e) = (0, omega arith, sym e)
mem_index (x ∷ xs) a (Memᴰ.tail m) = let k = mem_index xs a m in (suc k.0, omega (arith, k.1), k.2)

distinct_of : (l : List ℕ) → ((i j : ℕ) → i < length l → j < length l → get_or l i 0 ≡ get_or l j 0 → i ≡ j) → Sorted (λ (a b : ℕ). a ≢ b) l
distinct_of [] h = tt
distinct_of (x ∷ l) h = (
  All_of (λ (b : ℕ). x ≢ b) l (λ b m e. let k = mem_index l b m in omega (arith, h 0 (suc k.0) (omega arith) (omega (arith, k.1)) (e ∙ sym k.2))),
  distinct_of l (λ i j a b e. omega (arith, h (suc i) (suc j) (omega arith) (omega arith) e)),
)

pub zero_none : (i : ℕ) → get_or no_rows i 0 ≡ 0
zero_none i = go (dec_lt i 64)
  where
    go : Dec (i < 64) → get_or no_rows i 0 ≡ 0
    go (yes l) = get_or-replicate {A = ℕ} 64 i 0 0 l
    go (no l) = row_past no_rows i (omega (arith, length-replicate {A = ℕ} 64 0))

-- ---- marking
pub record Marked (n : ℕ) (order places : List ℕ) (i : ℕ) : Type 0 where
  pub size : length places ≡ 64
  pub most : i ≤ n
  pub range : (j : ℕ) → j < i → (1 ≤ get_or order j 0) × (get_or order j 0 ≤ n)
  pub marks : (j : ℕ) → j < i → get_or places (get_or order j 0 - 1) 0 ≡ suc j
  pub found : (k : ℕ) → get_or places k 0 ≢ 0 → (j : ℕ) × (j < i) × (get_or order j 0 ≡ suc k)

pub marked_none : (n : ℕ) (order : List ℕ) → Marked n order no_rows 0
marked_none n order = record {
  size = length-replicate {A = ℕ} 64 0;
  most = omega arith;
  range = λ j l. absurd (not-suc-le-zero l);
  marks = λ j l. absurd (not-suc-le-zero l);
  found = λ k h. absurd (h (zero_none k));
}

-- one number more, g at place i
module _ (n : ℕ) (order places : List ℕ) (i : ℕ) (few : n ≤ 64) (m : Marked n order places i) (l : i < n) (g : ℕ) (is : g ≡ get_or order i 0) where
  marked_more : g ≢ 0 → g ≤ n → get_or places (g - 1) 0 ≡ 0 → (v : ℕ) → v ≡ i + 1 → Marked n order (set places (g - 1) v) (i + 1)
  marked_more low high free v d = record {
    size = length-set places (g - 1) v ∙ m.size;
    most = omega arith;
    range = λ j h. range j h (ℕ_discrete j i);
    marks = λ j h. marks j h (ℕ_discrete j i);
    found = λ k h. found k h (ℕ_discrete k (g - 1));
  }
    where
      same : get_or (set places (g - 1) v) (g - 1) 0 ≡ v
      same = get_or-set_same places (g - 1) v 0 (omega (arith, m.size))

      range : (j : ℕ) → j < i + 1 → Dec (j ≡ i) → (1 ≤ get_or order j 0) × (get_or order j 0 ≤ n)
      range j h (yes e) = let d : get_or order j 0 ≡ g = ap (λ (k : ℕ). get_or order k 0) e ∙ sym is in (omega (arith, d), omega (arith, d))
      range j h (no e) = m.range j (omega arith)

      marks : (j : ℕ) → j < i + 1 → Dec (j ≡ i) → get_or (set places (g - 1) v) (get_or order j 0 - 1) 0 ≡ suc j
      marks j h (yes e) =
          ap (λ (k : ℕ). get_or (set places (g - 1) v) (k - 1) 0) (ap (λ (k : ℕ). get_or order k 0) e ∙ sym is) ∙ same ∙ omega (arith, d, e)
      marks j h (no e) = get_or-set_other places (g - 1) (get_or order j 0 - 1) v 0 other ∙ m.marks j (omega arith)
        where
          other : get_or order j 0 - 1 ≢ g - 1
          other z = omega (arith, ap (λ (x : ℕ). get_or places x 0) z, m.marks j (omega arith), free)

      found : (k : ℕ) → get_or (set places (g - 1) v) k 0 ≢ 0 → Dec (k ≡ g - 1) → (j : ℕ) × (j < i + 1) × (get_or order j 0 ≡ suc k)
      found k h (yes e) = (i, omega arith, omega (arith, is, e))
      found k h (no e) = let f = m.found k (λ z. h (get_or-set_other places (g - 1) k v 0 e ∙ z)) in (f.0, omega (arith, f.1), f.2)

  -- ---- what no preference has
  module _ (long : length order ≡ 64) where
    pub not-zero : g ≡ 0 → ¬ IsPreference n order
    not-zero z p = omega (arith, is, z, held_front n order few long p i l)

    pub not-large : n < g → ¬ IsPreference n order
    not-large h p = omega (arith, is, held_front n order few long p i l, index_below n (order_of n order) p.arranged i l)

    pub not-again : g ≢ 0 → get_or places (g - 1) 0 ≢ 0 → ¬ IsPreference n order
    not-again low h p =
        let f = m.found (g - 1) h in
        let j : ℕ = f.0 in
        let b : j < n = omega (arith, f.1) in
        let e : index_at (order_of n order) j ≡ index_at (order_of n order) i =
        omega (arith, is, f.2, held_front n order few long p j b, held_front n order few long p i l) in
        omega (arith, f.1, index_injective n (order_of n order) p.arranged j i b l e)

-- all marked
module _ (n : ℕ) (order places : List ℕ) (i : ℕ) (few : n ≤ 64) (long : length order ≡ 64) (m : Marked n order places i) (all : n ≤ i) where
  o : List ℕ
  o = order_of n order

  size : length o ≡ n
  unfolding o
  size = length_order n order few long

  at : (j : ℕ) → j < n → index_at o j ≡ get_or order j 0 - 1
  unfolding o
  at j h = order_at n order few long j h

  marked_arranged : IsArrangement n (order_of n order)
  unfolding o
  marked_arranged =
      arrangement_of n o size
      (λ g k. let f = mem_index o g k in let h : f.0 < n = omega (arith, size, f.1) in omega (arith, f.2, at f.0 h, m.range f.0 (omega arith)))
      (distinct_of o (λ j k a b e.
      let h : j < n = omega (arith, size) in
      let h' : k < n = omega (arith, size) in
      let d : get_or order j 0 - 1 ≡ get_or order k 0 - 1 = sym (at j h) ∙ e ∙ at k h' in
      omega (arith, m.marks j (omega arith), m.marks k (omega arith), ap (λ (x : ℕ). get_or places x 0) d)))

  marked_places : places ≡ numbers_of (inverse (order_of n order))
  unfolding o
  marked_places = pad_ext places (map suc (inverse o)) m.size (omega (arith, length-map (inverse o) suc, long-places)) (λ k. go k (dec_lt k n))
    where
      long-places : length (inverse o) ≡ n
      long-places = length-tabulate (place_of o) (length o) ∙ size

      free : (k : ℕ) → ¬ (k < n) → Dec (get_or places k 0 ≡ 0) → get_or places k 0 ≡ 0
      free k h (yes z) = z
      free k h (no z) = let f = m.found k z in absurd (omega (arith, f.2, (m.range f.0 f.1).1))

      go : (k : ℕ) → Dec (k < n) → get_or places k 0 ≡ get_or (map suc (inverse o)) k 0
      go k (yes h) =
          let j : ℕ = place_of o k in
          let b : j < n = place_below n o marked_arranged k h in
          let d : get_or order j 0 - 1 ≡ k = sym (at j b) ∙ index_place n o marked_arranged k h in
          ap (λ (x : ℕ). get_or places x 0) (sym d) ∙ m.marks j (omega arith)
          ∙ sym (numbers_at_lem (inverse o) k (omega (arith, long-places)) ∙ ap suc (get_or-tabulate (place_of o) (length o) k (omega (arith, size))))
      go k (no h) =
          free k h (ℕ_discrete (get_or places k 0) 0)
          ∙ sym (get_or-eq_default (map suc (inverse o)) 0 (omega (arith, length-map (inverse o) suc, long-places)))

  marked_preference : T (zeros_from n order) → IsPreference n order
  marked_preference z = record {
    arranged = marked_arranged;
    held = held_of n order few long (λ j h. (m.range j (omega arith)).0) (zeros_at n order z);
  }

  pub place_done : zeros_from n order ≡ true → Some places ≡ placed_as n order
  unfolding placed_as
  place_done z =
      ap (λ (x : List ℕ). Some x) marked_places
      ∙ sym (ap (λ (b : Bool). cond b (Some (numbers_of (inverse (order_of n order)))) None)
      (is_true (is_preference n order) (of_preference n order few long (marked_preference (rw z tt)))))

-- ---- the answers where it is none
pub none_placed : (n : ℕ) (order : List ℕ) → n ≤ 64 → length order ≡ 64 → ¬ IsPreference n order → None ≡ placed_as n order
unfolding placed_as
none_placed n order few long h =
    sym (ap (λ (b : Bool). cond b (Some (numbers_of (inverse (order_of n order)))) None)
    (is_false (is_preference n order) (not_T (is_preference n order) (λ t. h (preference_of n order few long t)))))

pub no_zeros : (n : ℕ) (order : List ℕ) → n ≤ 64 → length order ≡ 64 → (b : Bool) → b ≡ zeros_from n order → b ≡ false → ¬ IsPreference n order
no_zeros n order few long b e d p =
    let t : T (is_preference n order) = of_preference n order few long p in
    let z : zeros_from n order ≡ true = is_true (zeros_from n order) (zeros_in n order t) in
    clash cc

pub too_many : (n : ℕ) (order : List ℕ) → 64 < n → length order ≡ 64 → None ≡ placed_as n order
unfolding placed_as
too_many n order h long =
    sym (ap (λ (b : Bool). cond b (Some (numbers_of (inverse (order_of n order)))) None)
    (is_false (is_preference n order) (not_T (is_preference n order) (λ t. none_large n order h long t))))

-- ---- the zeros after it, one after the other
pub zeros_fail : (n : ℕ) (order : List ℕ) (i : ℕ) → n ≤ i → i < 64 → ¬ (get_or order i 0 ≡ 0) → false ≡ zeros_from n order
zeros_fail n order i l h d = sym (is_false (zeros_from n order) (not_T (zeros_from n order) (λ t. d (zeros_at n order t i l h))))

pub zeros_pass : (n : ℕ) (order : List ℕ) (i : ℕ) → 64 ≤ i → ((j : ℕ) → n ≤ j → j < i → get_or order j 0 ≡ 0) → true ≡ zeros_from n order
zeros_pass n order i h f = sym (is_true (zeros_from n order) (zeros_of n order (λ j l b. f j l (omega arith))))

-- ---- what place_all answers
module _ (n : ℕ) (order : List ℕ) (r : Option (List ℕ)) (is : r ≡ placed_as n order) where
  pub some_is : is_some r ≡ is_preference n order
  unfolding placed_as
  some_is = ap is_some is ∙ go (is_preference n order)
    where
      go : (b : Bool) → is_some (cond b (Some (numbers_of (inverse (order_of n order)))) None) ≡ b
      go true = refl
      go false = refl

  -- the places, where it is one
  pub places_are : {places : List ℕ} → r ≡ Some places → (is_preference n order ≡ true) × (places ≡ numbers_of (inverse (order_of n order)))
  unfolding placed_as
  places_are {places} e = go (is_preference n order) (sym some_is ∙ ap is_some e) (sym e ∙ is)
    where
      go : (b : Bool) → b ≡ true → Some places ≡ cond b (Some (numbers_of (inverse (order_of n order)))) None
          → (b ≡ true) × (places ≡ numbers_of (inverse (order_of n order)))
      go true t d = (refl, cc)
      go false t d = clash cc

  pub places_none : r ≡ None → is_preference n order ≡ false
  places_none e = sym some_is ∙ ap is_some e

  -- as a check answers
  pub order_refused : r ≡ None → 27 ≡ order_refusal n order
  order_refused e = sym (ap (λ (b : Bool). cond b 0 27) (places_none e))

  pub order_passes : {places : List ℕ} → r ≡ Some places → 0 ≡ order_refusal n order
  order_passes e = sym (ap (λ (b : Bool). cond b 0 27) (places_are e).0)

module _ (t : Table) (n : ℕ) (k : List ℕ) where
  pub table_first_lem : (m : ℕ) → 0 < m → m ≡ table_refusal t → m ≡ preferred_refusal t n k
  unfolding preferred_refusal
  table_first_lem m l e = e ∙ sym (ap (λ (b : Bool). cond b (order_refusal n k) (table_refusal t)) (ne_eqb (table_refusal t) 0 (λ z. omega (arith, e, z))))

  pub order_next : table_refusal t ≡ 0 → (m : ℕ) → m ≡ order_refusal n k → m ≡ preferred_refusal t n k
  unfolding preferred_refusal
  order_next z m e = e ∙ sym (ap (λ (b : Bool). cond b (order_refusal n k) (table_refusal t)) (eq-eqb (table_refusal t) 0 z))

  -- nothing is refused exactly where the table is not and the numbers are a preference
  pub passes_both : preferred_refusal t n k ≡ 0 → (table_refusal t ≡ 0) × (is_preference n k ≡ true)
  unfolding preferred_refusal
  passes_both e = go (ℕ_discrete (table_refusal t) 0)
    where
      accepts : (b : Bool) → ◌≡◌ {A = ℕ} (cond b 0 27) 0 → b ≡ true
      accepts true d = refl
      accepts false d = absurd (omega (arith, d))

      go : Dec (table_refusal t ≡ 0) → (table_refusal t ≡ 0) × (is_preference n k ≡ true)
      go (yes z) = (z, accepts (is_preference n k) (sym (ap (λ (b : Bool). cond b (order_refusal n k) (table_refusal t)) (eq-eqb (table_refusal t) 0 z)) ∙ e))
      go (no z) =
          absurd (z (sym (ap (λ (b : Bool). cond b (order_refusal n k) (table_refusal t)) (ne_eqb (table_refusal t) 0 z)) ∙ e))

  pub both_pass : table_refusal t ≡ 0 → is_preference n k ≡ true → preferred_refusal t n k ≡ 0
  both_pass z d = sym (order_next z 0 (sym (ap (λ (b : Bool). cond b 0 27) d)))

  pub preference_refused : table_refusal t ≡ 0 → is_preference n k ≡ false → preferred_refusal t n k ≡ 27
  preference_refused z d = sym (order_next z 27 (sym (ap (λ (b : Bool). cond b 0 27) d)))
