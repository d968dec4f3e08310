-- The table at a cutoff. In order: the bits of a set of places; rows at a cutoff; raising the cutoff never adds a pair (`raise_within`); the
-- table is legal (`table_legal`); which pairs it has, in 02's words (`table_pairs`), and what follows of a listed zero and of a pattern test.
use mathlib.Core.Path.{◌≡◌, refl, sym, ap, ◌∙◌, subst}
use mathlib.Core.Bool.{Bool, true, false, ◌&&◌, ◌||◌, cond}
use mathlib.Core.Logic.{◌↔◌}
use mathlib.Core.List.{List}
use Prim.Native.Nat.{ℕ, zero, suc, ◌+◌, ◌-◌, ◌*◌, ◌%◌, ◌^◌, ◌≤◌, ◌<◌}
use native.Mathlib.Nat.{div-eq_of_lt, one-mul, add_comm, not-suc-le-zero}
use native.Mathlib.Decide.{ℕ_discrete, dec_lt}
use native.Mathlib.Omega.{arith}
use lib.Dec.{T, eqb, leb, le→leb, leb→le}
use lib.IntN.{ℤ, pos, nat_abs}
use lib.ListN.{length, get_or-eq_default}
use lib.Pow.{pow_mono}
use lib.Bits.{or_shifted_r, and_le_r}
use borrow.Author.Tests.{ne_eqb, eq-eqb}
use Rattle.sets.specs.Sets.{bit, join, ◌⊆◌, meet}
use Rattle.sets.proofs.OnePlace.{bit_power}
use Rattle.sets.proofs.Joins.{bit-join, join_none}
use Rattle.sets.proofs.Order.{bits_sub, sub_bit, sub_refl, zero_sub}
use Rattle.sets.proofs.Tests.{and_l, and_r, and_i}
use Rattle.sets.proofs.Tabulated.{get_or-tabulate, length-tabulate}
use Rattle.table.specs.Pairs.{row, Has, Within}
use Rattle.table.specs.Tables.{Legal}
use Rattle.table.proofs.Places.{by_place_lem, place_has, small_cases}
use Rattle.recorded.specs.Tests.{reading, reading_of, listed, LegalTest, reaches, set_below, row_at, rows_at, table_of}
use Rattle.recorded.specs.declared.Kind.{Kind}
use Rattle.recorded.specs.declared.Kind.TheVariants.{Pattern, Integer}
use Rattle.recorded.specs.declared.Test.{Test}
use Rattle.recorded.proofs.Turns.{set_lt}

-- ---- the bits of a set of places
bit_high : (s n k : ℕ) → s < 2 ^ n → n ≤ k → bit s k ≡ false
unfolding bit
bit_high s n k h l = ap (λ (x : ℕ). eqb (x % 2) 1) (div-eq_of_lt {n = s} {m = 2 ^ k} (omega (arith, pow_mono {i = n} {j = k} l)))

set_join : (f : ℕ → Bool) (n : ℕ) → set_below f (suc n) ≡ join (set_below f n) (cond (f n) (2 ^ n) 0)
unfolding set_below join
set_join f n = go (f n)
  where
    go : (b : Bool) → set_below f n + cond b (2 ^ n) 0 ≡ join (set_below f n) (cond b (2 ^ n) 0)
    go true =
        sym (ap (join (set_below f n)) (sym (one-mul (2 ^ n)))
        ∙ or_shifted_r 1 n (set_below f n) (set_lt f n)
        ∙ ap (λ (x : ℕ). x + set_below f n) (one-mul (2 ^ n))
        ∙ add_comm (2 ^ n) (set_below f n))
    go false = omega (arith, join_none (set_below f n))

bit_none : (k : ℕ) → bit 0 k ≡ false
bit_none k = bit_high 0 0 k (omega arith) (omega arith)

or_false : (x : Bool) → (x || false) ≡ x
or_false true = refl
or_false false = refl

set_bit : (f : ℕ → Bool) (n k : ℕ) → k < n → bit (set_below f n) k ≡ f k
set_bit f zero k h = absurd (not-suc-le-zero h)
set_bit f (suc n) k h =
    ap (λ (x : ℕ). bit x k) (set_join f n)
    ∙ bit-join (set_below f n) (cond (f n) (2 ^ n) 0) k
    ∙ go (ℕ_discrete k n) (set_bit f n k) (f n) refl
  where
    go : Dec (k ≡ n) → (k < n → bit (set_below f n) k ≡ f k) → (b : Bool) → f n ≡ b → (bit (set_below f n) k || bit (cond b (2 ^ n) 0) k) ≡ f k
    go (yes e) ih true p = rw (bit_high (set_below f n) n k (set_lt f n) (omega arith), bit_power n k, eq-eqb k n e) (sym p ∙ ap f (sym e))
    go (yes e) ih false p = rw (bit_high (set_below f n) n k (set_lt f n) (omega arith), bit_none k) (sym p ∙ ap f (sym e))
    go (no e) ih true p = rw (ih (omega arith), bit_power n k, ne_eqb k n e) (or_false (f k))
    go (no e) ih false p = rw (ih (omega arith), bit_none k) (or_false (f k))

set_bit_past : (f : ℕ → Bool) (n k : ℕ) → n ≤ k → bit (set_below f n) k ≡ false
set_bit_past f n k l = bit_high (set_below f n) n k (set_lt f n) l

-- what is in the set is below n and holds
set_has : (f : ℕ → Bool) (n k : ℕ) → T (bit (set_below f n) k) → (k < n) × T (f k)
set_has f n k t = go (dec_lt k n)
  where
    go : Dec (k < n) → (k < n) × T (f k)
    go (yes l) = (l, subst T (set_bit f n k l) t)
    go (no l) = absurd (subst T (set_bit_past f n k (omega arith)) t)

-- a set shrinks with its test
set_mono : (f g : ℕ → Bool) (n : ℕ) → ((k : ℕ) → T (f k) → T (g k)) → set_below f n ⊆ set_below g n
set_mono f g n h = bits_sub (set_below f n) (set_below g n) (λ k t. subst T (sym (set_bit g n k (set_has f n k t).0)) (h k (set_has f n k t).1))

-- ---- rows at a cutoff
module _ (r : ℕ) (vs : List ℤ) (i : ℕ) where
  row_raise : (low high : ℕ) → low ≤ high → row_at high r vs i ⊆ row_at low r vs i
  unfolding row_at reaches
  row_raise low high h =
      set_mono (λ k. reaches high r k (reading vs (i * 64 + k))) (λ k. reaches low r k (reading vs (i * 64 + k))) 64
      (λ k t. keep k (reading vs (i * 64 + k)) t)
    where
      keep : (k : ℕ) (v : ℤ) → T (reaches high r k v) → T (reaches low r k v)
      keep k v t =
          and_i (bit r k) (leb low (nat_abs v)) (and_l (bit r k) (leb high (nat_abs v)) t)
          (le→leb low (nat_abs v) (omega (arith, leb→le high (nat_abs v) (and_r (bit r k) (leb high (nat_abs v)) t))))

  row_listed : (cutoff : ℕ) → row_at cutoff r vs i ⊆ r
  unfolding row_at reaches
  row_listed cutoff =
      bits_sub (row_at cutoff r vs i) r
      (λ k t. and_l (bit r k) (leb cutoff (nat_abs (reading vs (i * 64 + k)))) (set_has (λ j. reaches cutoff r j (reading vs (i * 64 + j))) 64 k t).1)

-- ---- the rows of a test
rows_length : (k : Kind) (entries : List ℕ) (vs : List ℤ) (cutoff : ℕ) → length entries ≡ 64 → length (rows_at k entries vs cutoff) ≡ 64
rows_length Pattern entries vs cutoff e = e
rows_length Integer entries vs cutoff e = length-tabulate (λ i. row_at cutoff (row entries i) vs i) 64

-- row i of an integer test, and no row past the 64th
row_is : (entries : List ℕ) (vs : List ℤ) (cutoff i : ℕ) → i < 64 → row (rows_at Integer entries vs cutoff) i ≡ row_at cutoff (row entries i) vs i
row_is entries vs cutoff i h = get_or-tabulate (λ j. row_at cutoff (row entries j) vs j) 64 i h

row_past : (entries : List ℕ) (vs : List ℤ) (cutoff i : ℕ) → 64 ≤ i → row (rows_at Integer entries vs cutoff) i ≡ 0
row_past entries vs cutoff i h =
    get_or-eq_default (rows_at Integer entries vs cutoff) 0 (omega (arith, length-tabulate (λ j. row_at cutoff (row entries j) vs j) 64))

rows_raise : (k : Kind) (entries : List ℕ) (vs : List ℤ) (low high i : ℕ) → low ≤ high → row (rows_at k entries vs high) i ⊆ row (rows_at k entries vs low) i
rows_raise Pattern entries vs low high i h = sub_refl (row entries i)
rows_raise Integer entries vs low high i h = go (dec_lt i 64)
  where
    go : Dec (i < 64) → row (rows_at Integer entries vs high) i ⊆ row (rows_at Integer entries vs low) i
    go (yes l) = rw (row_is entries vs high i l, row_is entries vs low i l) (row_raise (row entries i) vs i low high h)
    go (no l) = rw (row_past entries vs high i (omega arith)) (zero_sub (row (rows_at Integer entries vs low) i))

rows_listed : (k : Kind) (entries : List ℕ) (vs : List ℤ) (cutoff i : ℕ) → row (rows_at k entries vs cutoff) i ⊆ row entries i
rows_listed Pattern entries vs cutoff i = sub_refl (row entries i)
rows_listed Integer entries vs cutoff i = go (dec_lt i 64)
  where
    go : Dec (i < 64) → row (rows_at Integer entries vs cutoff) i ⊆ row entries i
    go (yes l) = rw (row_is entries vs cutoff i l) (row_listed (row entries i) vs i cutoff)
    go (no l) = rw (row_past entries vs cutoff i (omega arith)) (zero_sub (row entries i))

-- "Raising the cutoff never adds a pair."
pub raise_within : (t : Test) (low high : ℕ) → length t.entries ≡ 64 → low ≤ high → Within (table_of t low).rows (table_of t high).rows
raise_within t low high e h =
    record {
      size = rows_length t.kind t.entries t.readings high e ∙ sym (rows_length t.kind t.entries t.readings low e);
      inside = by_place_lem (table_of t high).rows (Has (table_of t low).rows) (λ i k b.
          place_has (table_of t low).rows i k
          (sub_bit (row (table_of t high).rows i) (row (table_of t low).rows i) k (rows_raise t.kind t.entries t.readings low high i h) b));
    }

-- the table of a test whose entries are legal is legal
sub_le : (a b : ℕ) → a ⊆ b → a ≤ b
unfolding meet
sub_le a b h = omega (arith, h, and_le_r a b)

pub table_legal : (t : Test) (cutoff : ℕ) → Legal (listed t) → Legal (table_of t cutoff)
table_legal t cutoff l =
    record {
      gauges_low = l.gauges_low;
      gauges_high = l.gauges_high;
      cases_low = l.cases_low;
      cases_high = l.cases_high;
      rows_length = rows_length t.kind t.entries t.readings cutoff l.rows_length;
      rows_bits = λ i. omega (arith, l.rows_bits i, fewer i);
      rows_rest = λ i p. omega (arith, l.rows_rest i p, fewer i);
    }
  where
    fewer : (i : ℕ) → row (table_of t cutoff).rows i ≤ row t.entries i
    fewer i = sub_le (row (table_of t cutoff).rows i) (row t.entries i) (rows_listed t.kind t.entries t.readings cutoff i)

-- ---- which pairs the table has: "a pair exists when the magnitude of v reaches it", and in a pattern test every entry is one
reading_place : (vs : List ℤ) (i k : ℕ) → reading vs ((suc i - 1) * 64 + (suc k - 1)) ≡ reading vs (i * 64 + k)
reading_place vs i k = ap (reading vs) e
  where
    e : (suc i - 1) * 64 + (suc k - 1) ≡ i * 64 + k
    e = omega arith

-- a bit of the rows at a cutoff
module _ (entries : List ℕ) (vs : List ℤ) (cutoff i k : ℕ) where
  rows_bit : i < 64 → k < 64 → bit (row (rows_at Integer entries vs cutoff) i) k ≡ (bit (row entries i) k && leb cutoff (nat_abs (reading vs (i * 64 + k))))
  unfolding row_at reaches
  rows_bit h l =
      ap (λ (x : ℕ). bit x k) (row_is entries vs cutoff i h)
      ∙ set_bit (λ j. reaches cutoff (row entries i) j (reading vs (i * 64 + j))) 64 k l

module _ (t : Test) (ok : LegalTest t) (cutoff : ℕ) where
  inside : (i k : ℕ) → T (bit (row t.entries i) k) → (i < 64) × (k < 64)
  inside i k b =
      let l = ok.entries_legal in
      let p : k < t.cases = small_cases t.cases t.entries l.rows_bits i k b in
      (go (dec_lt i 64), omega (arith, p, l.cases_high))
    where
      go : Dec (i < 64) → i < 64
      go (yes h) = h
      go (no h) =
          let e : bit (row t.entries i) k ≡ false =
          ap (λ (x : ℕ). bit x k) (get_or-eq_default t.entries 0 (omega (arith, ok.entries_legal.rows_length))) ∙ bit_none k in
          absurd (subst T e b)

  pub table_pairs : (g c : ℕ) → Has (table_of t cutoff).rows g c
      ↔ (Has t.entries g c × (t.kind ≡ Integer → cutoff ≤ nat_abs (reading_of t g c)))
  table_pairs g c = (
    by_place_lem (table_of t cutoff).rows (λ g' c'. Has t.entries g' c' × (t.kind ≡ Integer → cutoff ≤ nat_abs (reading_of t g' c'))) there g c,
    λ h. by_place_lem t.entries (λ g' c'. (t.kind ≡ Integer → cutoff ≤ nat_abs (reading_of t g' c')) → Has (table_of t cutoff).rows g' c') back g c h.0 h.1,
  )
    where
      at : Kind → List ℕ
      at k = rows_at k t.entries t.readings cutoff

      far : (i k : ℕ) → T (bit (row (at Integer) i) k) → T (bit (row t.entries i) k) → cutoff ≤ nat_abs (reading_of t (suc i) (suc k))
      far i k b e =
          let (h, l) = inside i k e in
          subst (λ (v : ℤ). cutoff ≤ nat_abs v) (sym (reading_place t.readings i k))
          (leb→le cutoff (nat_abs (reading t.readings (i * 64 + k)))
          (and_r (bit (row t.entries i) k) (leb cutoff (nat_abs (reading t.readings (i * 64 + k))))
          (subst T (rows_bit t.entries t.readings cutoff i k h l) b)))

      there : (i k : ℕ) → T (bit (row (at t.kind) i) k)
          → Has t.entries (suc i) (suc k) × (t.kind ≡ Integer → cutoff ≤ nat_abs (reading_of t (suc i) (suc k)))
      there i k b =
          let e = sub_bit (row (at t.kind) i) (row t.entries i) k (rows_listed t.kind t.entries t.readings cutoff i) b in
          (place_has t.entries i k e, λ z. far i k (subst (λ (x : Kind). T (bit (row (at x) i) k)) z b) e)

      near : (k : Kind) (i j : ℕ) → T (bit (row t.entries i) j) → (k ≡ Integer → cutoff ≤ nat_abs (reading_of t (suc i) (suc j))) → T (bit (row (at k) i) j)
      near Pattern i j b f = b
      near Integer i j b f =
          let (h, l) = inside i j b in
          subst T (sym (rows_bit t.entries t.readings cutoff i j h l))
          (and_i (bit (row t.entries i) j) (leb cutoff (nat_abs (reading t.readings (i * 64 + j)))) b
          (le→leb cutoff (nat_abs (reading t.readings (i * 64 + j)))
          (subst (λ (v : ℤ). cutoff ≤ nat_abs v) (reading_place t.readings i j) (f refl))))

      back : (i k : ℕ) → T (bit (row t.entries i) k) → (t.kind ≡ Integer → cutoff ≤ nat_abs (reading_of t (suc i) (suc k)))
          → Has (table_of t cutoff).rows (suc i) (suc k)
      back i k b f = place_has (table_of t cutoff).rows i k (near t.kind i k b f)

  -- "A listed zero is an entry without a pair."
  pub zero_no_pair : (g c : ℕ) → 1 ≤ cutoff → t.kind ≡ Integer → reading_of t g c ≡ pos 0 → ¬ Has (table_of t cutoff).rows g c
  zero_no_pair g c h k z p = omega (arith, ((table_pairs g c).0 p).1 k, ap nat_abs z)

-- the table of a pattern test does not depend on the cutoff
pub pattern_table : (t : Test) → t.kind ≡ Pattern → (cutoff : ℕ) → table_of t cutoff ≡ listed t
pattern_table t e cutoff = ap (λ (k : Kind). record { gauges = t.gauges; cases = t.cases; rows = rows_at k t.entries t.readings cutoff }) e
