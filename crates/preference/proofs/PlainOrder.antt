-- "The arrangement 1, 2, 3 and on" as 64 numbers: what is at each place, the loop that writes it, and the one that
-- tells it by counting what differs (`Counted`). It is a preference of its numbers, by row index the plain
-- arrangement (`plain_preference`, `plain_order`).
use mathlib.Core.Path.{◌≡◌, refl, sym, ap, ◌∙◌, subst}
use mathlib.Core.Bool.{Bool, true, false, ◌&&◌}
use mathlib.Core.List.{List, map}
use Prim.Native.Nat.{ℕ, suc, ◌+◌, ◌-◌, ◌≤◌, ◌<◌, min}
use native.Mathlib.Nat.{min-eq_left}
use native.Mathlib.Numerals.{add-one}
use native.Mathlib.Decide.{ℕ_discrete, dec_lt}
use native.Mathlib.Omega.{arith}
use lib.Dec.{eqb, eqb→eq}
use lib.ListN.{length, get_or, length-map, get_or-eq_default}
use lib.Seq.{ext_get_or}
use borrow.Author.Tests.{lt-ltb, le-ltb, eq-eqb, ne_eqb}
use Rattle.sets.specs.Lists.{tabulate, all_below}
use Rattle.sets.proofs.Tests.{is_true}
use Rattle.sets.proofs.Tabulated.{length-tabulate, get_or-tabulate, all_at, all_none}
use Rattle.table.proofs.Padding.{pad_length, pad_get_or}
use Rattle.lists.specs.Arrangements.{IsArrangement, plain}
use Rattle.lists.proofs.Standing.{length-plain, index_plain, plain_arrangement}
use Rattle.preference.specs.Preferences.{is_preference, order_of, numbers_of, plain_numbers}
use Rattle.preference.specs.Placing.{is_plain}
use Rattle.preference.specs.private.Testing.{plain_at}
use Rattle.preference.proofs.Holding.{IsPreference, order_numbers, numbers_at_lem, of_preference}

-- ---- at a place
pub plain_front : (n i v : ℕ) → i < n → v ≡ i + 1 → v ≡ plain_at n i
unfolding plain_at
plain_front n i v h e = rw (lt-ltb i n h) (omega (arith, e))

pub plain_rest : (n i : ℕ) → n ≤ i → 0 ≡ plain_at n i
unfolding plain_at
plain_rest n i h = rw (le-ltb i n h)

-- the same by what lifts the places: at most 64 numbers, told from 128
pub lifted_at : (n lift i v : ℕ) → i < 64 → lift + min n 64 ≡ 128 → v ≡ plain_at (128 - lift) i → v ≡ plain_at n i
unfolding plain_at
lifted_at n lift i v h e is = is ∙ go (dec_lt i n)
  where
    go : Dec (i < n) → plain_at (128 - lift) i ≡ plain_at n i
    go (yes l) = rw (lt-ltb i n l, lt-ltb i (128 - lift) (omega arith))
    go (no l) = rw (le-ltb i n (omega arith), le-ltb i (128 - lift) (omega arith))

plain_at_lem : (n i : ℕ) → i < 64 → get_or (plain_numbers n) i 0 ≡ plain_at n i
plain_at_lem n i h = pad_get_or (map suc (plain (min n 64))) i ∙ go (dec_lt i n)
  where
    size : length (map suc (plain (min n 64))) ≡ min n 64
    size = length-map (plain (min n 64)) suc ∙ length-plain (min n 64)

    go : Dec (i < n) → get_or (map suc (plain (min n 64))) i 0 ≡ plain_at n i
    go (yes l) =
        numbers_at_lem (plain (min n 64)) i (omega (arith, length-plain (min n 64))) ∙ ap suc (index_plain (min n 64) i (omega arith))
        ∙ plain_front n i (suc i) l (omega arith)
    go (no l) = get_or-eq_default (map suc (plain (min n 64))) 0 (omega (arith, size)) ∙ plain_rest n i (omega arith)

pub length_numbers : (n : ℕ) → length (plain_numbers n) ≡ 64
length_numbers n = pad_length (map suc (plain (min n 64))) (omega (arith, length-map (plain (min n 64)) suc, length-plain (min n 64)))

-- what the loop wrote
pub plain_written : (n : ℕ) (l : List ℕ) → l ≡ tabulate (plain_at n) 64 → l ≡ plain_numbers n
plain_written n l e =
    e
    ∙ ext_get_or 0 (tabulate (plain_at n) 64) (plain_numbers n) (length-tabulate (plain_at n) 64 ∙ sym (length_numbers n))
    (λ i b.
    let h : i < 64 = omega (arith, length-tabulate (plain_at n) 64) in
    get_or-tabulate (plain_at n) 64 i h ∙ sym (plain_at_lem n i h))

-- ---- telling it
-- of the first i numbers, `strays` are not what they should be
abbrev pub agrees : ℕ → List ℕ → ℕ → Bool
agrees n k i = eqb (get_or k i 0) (get_or (plain_numbers n) i 0)

pub record Counted (n : ℕ) (k : List ℕ) (strays i : ℕ) : Type 0 where
  pub most : strays ≤ i
  pub end : i ≤ 64
  pub none : strays ≡ 0 → all_below (agrees n k) i ≡ true
  pub some : 0 < strays → all_below (agrees n k) i ≡ false

pub counted_none : (n : ℕ) (k : List ℕ) → Counted n k 0 0
counted_none n k = record { most = omega arith; end = omega arith; none = λ e. all_none (agrees n k); some = λ h. absurd (omega arith) }

all_suc : (f : ℕ → Bool) (i : ℕ) → all_below f (i + 1) ≡ (all_below f i && f i)
unfolding all_below
all_suc f i = rw (add-one i)

and_false : (x : Bool) → (x && false) ≡ false
and_false true = refl
and_false false = refl

module _ (n : ℕ) (k : List ℕ) (strays i v : ℕ) (c : Counted n k strays i) (h : i < 64) (is : v ≡ plain_at n i) where
  here : v ≡ get_or (plain_numbers n) i 0
  here = is ∙ sym (plain_at_lem n i h)

  pub counted_stray : ¬ (get_or k i 0 ≡ v) → Counted n k (strays + 1) (i + 1)
  counted_stray d = record {
    most = omega (arith, c.most);
    end = omega arith;
    none = λ e. absurd (omega (arith, e));
    some = λ l. all_suc (agrees n k) i
        ∙ ap (λ (x : Bool). all_below (agrees n k) i && x) (ne_eqb (get_or k i 0) (get_or (plain_numbers n) i 0) (λ e. d (e ∙ sym here)))
        ∙ and_false (all_below (agrees n k) i);
  }

  pub counted_same : get_or k i 0 ≡ v → Counted n k strays (i + 1)
  counted_same d = record {
    most = omega (arith, c.most);
    end = omega arith;
    none = λ e. all_suc (agrees n k) i ∙ rw (c.none e, eq-eqb (get_or k i 0) (get_or (plain_numbers n) i 0) (d ∙ here));
    some = λ l. all_suc (agrees n k) i ∙ rw (c.some l);
  }

pub counted_all : (n : ℕ) (k : List ℕ) (strays i : ℕ) → Counted n k strays i → 64 ≤ i → eqb strays 0 ≡ is_plain n k
unfolding is_plain
counted_all n k strays i c h = go (ℕ_discrete strays 0)
  where
    full : i ≡ 64
    full = omega (arith, c.end)

    go : Dec (strays ≡ 0) → eqb strays 0 ≡ all_below (agrees n k) 64
    go (yes e) = eq-eqb strays 0 e ∙ sym (ap (all_below (agrees n k)) (sym full) ∙ c.none e)
    go (no e) = ne_eqb strays 0 e ∙ sym (ap (all_below (agrees n k)) (sym full) ∙ c.some (omega arith))

-- ---- it is a preference
pub plain_is : (n : ℕ) (k : List ℕ) → n ≤ 64 → length k ≡ 64 → is_plain n k ≡ true → k ≡ numbers_of (plain n)
unfolding is_plain
plain_is n k few long e =
    ext_get_or 0 k (plain_numbers n) (long ∙ sym (length_numbers n))
    (λ i b.
    let h : i < 64 = omega (arith, long) in
    eqb→eq (get_or k i 0) (get_or (plain_numbers n) i 0) (all_at (agrees n k) 64 i (rw e tt) h))
    ∙ ap (λ (m : ℕ). numbers_of (plain m)) (min-eq_left few)

pub plain_order : (n : ℕ) → order_of n (numbers_of (plain n)) ≡ plain n
plain_order n = order_numbers n (plain n) (length-plain n)

pub plain_preference : (n : ℕ) → n ≤ 64 → IsPreference n (numbers_of (plain n))
plain_preference n few = record {
  arranged = subst (IsArrangement n) (sym (plain_order n)) (plain_arrangement n);
  held = ap numbers_of (sym (plain_order n));
}

pub plain_passes : (n : ℕ) → n ≤ 64 → is_preference n (numbers_of (plain n)) ≡ true
plain_passes n few =
    is_true (is_preference n (numbers_of (plain n)))
    (of_preference n (numbers_of (plain n)) few (pad_length (map suc (plain n)) (omega (arith, length-map (plain n) suc, length-plain n)))
    (plain_preference n few))

-- the same of `plain_numbers`, of at most 64 numbers: what it holds, and that no table's check and no 27 refuses it
pub order_plain : (n : ℕ) → n ≤ 64 → order_of n (plain_numbers n) ≡ plain n
order_plain n few = ap (λ (m : ℕ). order_of n (numbers_of (plain m))) (min-eq_left few) ∙ plain_order n

pub plain_unrefused : (n : ℕ) → n ≤ 64 → is_preference n (plain_numbers n) ≡ true
plain_unrefused n few = ap (λ (m : ℕ). is_preference n (numbers_of (plain m))) (min-eq_left few) ∙ plain_passes n few
