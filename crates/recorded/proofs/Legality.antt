-- The checks of a test handed in decide `LegalTest`: a test passes exactly when it is legal (`test_legal`,
-- `legal-test`). In order: a reading by its place in the list, and by gauge and case as in the definition
-- (`seat-reading`); what legality says of a place; a legal table as a legal pattern test; legal tests with readings
-- at both ends of the range, and one past it.
use mathlib.Core.Path.{◌≡◌, refl, sym, ap, ◌∙◌, subst}
use mathlib.Core.Bool.{Bool, true, false, ◌||◌, cond}
use mathlib.Core.Logic.{◌⊎◌, inl, inr}
use mathlib.Core.List.{List}
use Prim.Native.Nat.{ℕ, zero, suc, ◌+◌, ◌-◌, ◌*◌, ◌/◌, ◌%◌, ◌^◌, ◌≤◌, ◌<◌}
use native.Mathlib.Nat.{zero-div}
use native.Mathlib.Omega.{arith}
use native.Mathlib.Decide.{ℕ_discrete, dec_lt}
use lib.Dec.{T, eqb, le→leb, leb→le, eqb-suc-zero}
use lib.IntN.{ℤ, pos, negsuc, nat_abs}
use lib.ListN.{length, replicate, length-replicate, get_or-replicate, get_or-eq_default}
use borrow.Author.Tests.{ne_eqb, eq-eqb, lt-ltb, lt-leb}
use Rattle.basics.proofs.Clash.{clash}
use Rattle.sets.specs.Sets.{bit, lowest}
use Rattle.sets.specs.Lists.{all_below}
use Rattle.sets.proofs.OnePlace.{bit-lowest}
use Rattle.sets.proofs.Tests.{is_true}
use Rattle.sets.proofs.Tabulated.{all_at, all_of, all_fails}
use Rattle.table.specs.Pairs.{row}
use Rattle.table.specs.Tables.{Legal, rows_fit, table_refusal, no_rows}
use Rattle.table.specs.declared.Table.{Table}
use Rattle.table.proofs.Places.{has_place}
use Rattle.table.proofs.Legality.{legal_of, legal_passes}
use Rattle.recorded.specs.Tests.{reading, reading_of, listed, LegalTest, no_readings, readable, place_fits, fits_at, within_at, test_refusal}
use Rattle.recorded.specs.declared.Kind.{Kind}
use Rattle.recorded.specs.declared.Kind.TheVariants.{Pattern, Integer}
use Rattle.recorded.specs.declared.Test.{Test}

abs_zero : (v : ℤ) → nat_abs v ≡ 0 → v ≡ pos 0
abs_zero (pos n) e = ap pos e
abs_zero (negsuc n) e = absurd (omega arith)

apart : Pattern ≡ Integer → ⊥
apart e = clash (ap number e)
  where
    number : Kind → ℕ
    number Pattern = 0
    number Integer = 1

-- ---- places of the list, by row and place
row_of : (i k : ℕ) → k < 64 → (i * 64 + k) / 64 ≡ i
row_of i k h = omega arith

place_of_lem : (i k : ℕ) → k < 64 → (i * 64 + k) % 64 ≡ k
place_of_lem i k h = omega arith

none_there : (i k : ℕ) → i < 64 → T (bit (row no_rows i) k) → ⊥
unfolding bit
none_there i k h t = rw (get_or-replicate {A = ℕ} 64 i 0 0 h, zero-div (2 ^ k)) at t

-- a reading that is not zero is at an entry of an integer test
module _ (entries : List ℕ) (vs : List ℤ) (i k : ℕ) (h : i < 64) (l : k < 64) (n : ¬ (reading vs (i * 64 + k) ≡ pos 0)) where
  readable_there : (rows : List ℕ) → T (fits_at rows vs (i * 64 + k)) → T (bit (row rows i) k)
  unfolding fits_at place_fits
  readable_there rows t =
      let v = reading vs (i * 64 + k) in
      let z : eqb (nat_abs v) 0 ≡ false = ne_eqb (nat_abs v) 0 (λ e. n (abs_zero v e)) in
      rw (z, row_of i k l, place_of_lem i k l) at t

  entry_there : (kind : Kind) → T (fits_at (readable kind entries) vs (i * 64 + k)) → (kind ≡ Integer) × T (bit (row entries i) k)
  entry_there Pattern t = absurd (none_there i k h (readable_there no_rows t))
  entry_there Integer t = (refl, readable_there entries t)

-- and the test passes where every such reading does
fits_there : (rows : List ℕ) (vs : List ℤ) (p : ℕ) → (¬ (reading vs p ≡ pos 0) → T (bit (row rows (p / 64)) (p % 64))) → T (fits_at rows vs p)
unfolding fits_at place_fits
fits_there rows vs p f = go (ℕ_discrete (nat_abs (reading vs p)) 0)
  where
    go : Dec (nat_abs (reading vs p) ≡ 0) → T (eqb (nat_abs (reading vs p)) 0 || bit (row rows (p / 64)) (p % 64))
    go (yes e) = rw (eq-eqb (nat_abs (reading vs p)) 0 e) tt
    go (no e) = rw (ne_eqb (nat_abs (reading vs p)) 0 e) (f (λ d. e (ap nat_abs d)))

-- ---- the number is 0 exactly where all three checks pass
passes : (n : ℕ) (b c : Bool) → cond (eqb n 0) (cond b (cond c 0 20) 11) n ≡ 0 → (n ≡ 0) × (b ≡ true) × (c ≡ true)
passes zero true true e = (refl, refl, refl)
passes zero true false e = absurd (omega arith)
passes zero false c e = absurd (omega arith)
passes (suc n) b c e = absurd (suc-zero n (rw (eqb-suc-zero n) at e))
  where
    suc-zero : (m : ℕ) → suc m ≡ 0 → ⊥
    suc-zero m d = omega arith

module _ (t : Test) where
  fits : Bool
  fits = all_below (fits_at (readable t.kind t.entries) t.readings) 4096

  within : Bool
  within = all_below (within_at t.readings) 4096

  parts : test_refusal t ≡ 0 → (table_refusal (listed t) ≡ 0) × (fits ≡ true) × (within ≡ true)
  unfolding test_refusal fits within
  parts e = passes (table_refusal (listed t)) fits within e

  fits_at_lem : fits ≡ true → (p : ℕ) → p < 4096 → T (fits_at (readable t.kind t.entries) t.readings p)
  unfolding fits
  fits_at_lem e p h = all_at (fits_at (readable t.kind t.entries) t.readings) 4096 p (rw e tt) h

  small_at : within ≡ true → (p : ℕ) → p < 4096 → nat_abs (reading t.readings p) ≤ 1000000
  unfolding within within_at
  small_at e p h = leb→le (nat_abs (reading t.readings p)) 1000000 (all_at (within_at t.readings) 4096 p (rw e tt) h)

  pub test_legal : length t.entries ≡ 64 → length t.readings ≡ 4096 → test_refusal t ≡ 0 → LegalTest t
  test_legal m n e =
      let (a, b, c) = parts e in
      record {
        entries_legal = legal_of (listed t) m a;
        readings_length = n;
        at_entry = λ g c' p q r s f.
            let (u, v) = entry_there t.entries t.readings (g - 1) (c' - 1) (omega arith) (omega arith) f t.kind
            (fits_at_lem b ((g - 1) * 64 + (c' - 1)) (omega arith)) in
            (u, record { gauge = p; case = r; set = v });
        small = λ g c' p q r s. small_at c ((g - 1) * 64 + (c' - 1)) (omega arith);
      }

  module _ (ok : LegalTest t) where
    seat-reading : (p : ℕ) → reading_of t (suc (p / 64)) (suc (p % 64)) ≡ reading t.readings p
    seat-reading p = ap (reading t.readings) e
      where
        e : (suc (p / 64) - 1) * 64 + (suc (p % 64) - 1) ≡ p
        e = omega arith

    entry_at : (p : ℕ) → p < 4096 → ¬ (reading t.readings p ≡ pos 0) → (t.kind ≡ Integer) × T (bit (row t.entries (p / 64)) (p % 64))
    entry_at p h n =
        let (u, v) = ok.at_entry (suc (p / 64)) (suc (p % 64)) (omega arith) (omega arith) (omega arith) (omega arith) (λ e. n (sym (seat-reading p) ∙ e)) in
        (u, has_place t.entries (p / 64) (p % 64) v)

    -- every reading is small, also by its place
    pub small-place : (p : ℕ) → nat_abs (reading t.readings p) ≤ 1000000
    small-place p = go (dec_lt p 4096)
      where
        go : Dec (p < 4096) → nat_abs (reading t.readings p) ≤ 1000000
        go (yes h) =
            subst (λ (v : ℤ). nat_abs v ≤ 1000000) (seat-reading p)
            (ok.small (suc (p / 64)) (suc (p % 64)) (omega arith) (omega arith) (omega arith) (omega arith))
        go (no h) =
            let e : reading t.readings p ≡ pos 0 = get_or-eq_default t.readings (pos 0) (omega (arith, ok.readings_length)) in
            subst (λ (v : ℤ). nat_abs v ≤ 1000000) (sym e) (omega arith)

    -- a reading is 0, or is at an entry; in a pattern test every one is 0
    pub zero-or-entry : (p : ℕ) → p < 4096 → (reading t.readings p ≡ pos 0) ⊎ T (bit (row t.entries (p / 64)) (p % 64))
    zero-or-entry p h = go (ℕ_discrete (nat_abs (reading t.readings p)) 0)
      where
        go : Dec (nat_abs (reading t.readings p) ≡ 0) → (reading t.readings p ≡ pos 0) ⊎ T (bit (row t.entries (p / 64)) (p % 64))
        go (yes e) = inl (abs_zero (reading t.readings p) e)
        go (no n) = inr (entry_at p h (λ e. n (ap nat_abs e))).1

    pub pattern-zero : t.kind ≡ Pattern → (p : ℕ) → reading t.readings p ≡ pos 0
    pattern-zero k p = go (dec_lt p 4096) (ℕ_discrete (nat_abs (reading t.readings p)) 0)
      where
        go : Dec (p < 4096) → Dec (nat_abs (reading t.readings p) ≡ 0) → reading t.readings p ≡ pos 0
        go d (yes e) = abs_zero (reading t.readings p) e
        go (yes h) (no n) = absurd (apart (sym k ∙ (entry_at p h (λ e. n (ap nat_abs e))).0))
        go (no h) (no n) = get_or-eq_default t.readings (pos 0) (omega (arith, ok.readings_length))

    readable-at : (p : ℕ) → p < 4096 → ¬ (reading t.readings p ≡ pos 0) → T (bit (row (readable t.kind t.entries) (p / 64)) (p % 64))
    readable-at p h n =
        let (u, v) = entry_at p h n in
        subst (λ (k : Kind). T (bit (row (readable k t.entries) (p / 64)) (p % 64))) (sym u) v

    pub legal-test : test_refusal t ≡ 0
    unfolding test_refusal within_at
    legal-test =
        rw (
          legal_passes (listed t) ok.entries_legal,
          is_true (all_below (fits_at (readable t.kind t.entries) t.readings) 4096)
              (all_of (fits_at (readable t.kind t.entries) t.readings) 4096 (λ p h.
              fits_there (readable t.kind t.entries) t.readings p (readable-at p h))),
          is_true (all_below (within_at t.readings) 4096)
              (all_of (within_at t.readings) 4096 (λ p h.
              le→leb (nat_abs (reading t.readings p)) 1000000 (small-place p))),
        )

-- a legal table is a legal pattern test
pub pairs_legal : (t : Table) → Legal t
    → LegalTest (record { kind = Pattern; gauges = t.gauges; cases = t.cases; entries = t.rows; readings = no_readings })
pairs_legal t ok =
    record {
      entries_legal = ok;
      readings_length = length-replicate 4096 (pos 0);
      at_entry = λ g c p q r s n. absurd (n (none g c q s));
      small = λ g c p q r s. subst (λ (v : ℤ). nat_abs v ≤ 1000000) (sym (none g c q s)) (omega arith);
    }
  where
    none : (g c : ℕ) → g ≤ 64 → c ≤ 64 → reading no_readings ((g - 1) * 64 + (c - 1)) ≡ pos 0
    none g c h k = get_or-replicate 4096 ((g - 1) * 64 + (c - 1)) (pos 0) (pos 0) (omega arith)

-- ---- legal tests with readings at both ends: every place of 64 by 64 an entry, with the reading v
abbrev pub full_test : ℤ → Test
full_test v = record { kind = Integer; gauges = 64; cases = 64; entries = replicate 64 (2 ^ 64 - 1); readings = replicate 4096 v }

full_row : (i : ℕ) → i < 64 → row (replicate 64 (2 ^ 64 - 1)) i ≡ 2 ^ 64 - 1
full_row i h = get_or-replicate 64 i (2 ^ 64 - 1) 0 h

pub full_reading : (v : ℤ) (p : ℕ) → p < 4096 → reading (replicate 4096 v) p ≡ v
full_reading v p h = get_or-replicate 4096 p v (pos 0) h

full_listed : (v : ℤ) → table_refusal (listed (full_test v)) ≡ 0
unfolding table_refusal rows_fit
full_listed v = refl

full_bit : (k : ℕ) → k < 64 → T (bit (2 ^ 64 - 1) k)
unfolding lowest
full_bit k h = subst T (sym (bit-lowest 64 k ∙ lt-ltb k 64 h)) tt

pub full_legal : (v : ℤ) → nat_abs v ≤ 1000000 → LegalTest (full_test v)
full_legal v h =
    record {
      entries_legal = legal_of (listed (full_test v)) (length-replicate 64 (2 ^ 64 - 1)) (full_listed v);
      readings_length = length-replicate 4096 v;
      at_entry = λ g c p q r s n. (
        refl,
        record {
          gauge = p;
          case = r;
          set = subst (λ (x : ℕ). T (bit x (c - 1))) (sym (full_row (g - 1) (omega arith)))
              (full_bit (c - 1) (omega arith));
        },
      );
      small = λ g c p q r s. subst (λ (x : ℤ). nat_abs x ≤ 1000000) (sym (full_reading v ((g - 1) * 64 + (c - 1)) (omega arith))) h;
    }

-- "in -1,000,000..1,000,000": both ends are taken, and one more is refused with 20
pub greatest_legal : LegalTest (full_test (pos 1000000))
greatest_legal = full_legal (pos 1000000) (omega arith)

pub least_legal : LegalTest (full_test (negsuc 999999))
least_legal = full_legal (negsuc 999999) (omega arith)

pub past_refused : (v : ℤ) → 1000000 < nat_abs v → test_refusal (full_test v) ≡ 20
unfolding test_refusal within_at
past_refused v h =
    rw (
      full_listed v,
      is_true (all_below (fits_at (replicate 64 (2 ^ 64 - 1)) (replicate 4096 v)) 4096)
          (all_of (fits_at (replicate 64 (2 ^ 64 - 1)) (replicate 4096 v)) 4096 (λ p l.
          fits_there (replicate 64 (2 ^ 64 - 1)) (replicate 4096 v) p (λ n.
          subst (λ (x : ℕ). T (bit x (p % 64))) (sym (full_row (p / 64) (omega arith))) (full_bit (p % 64) (omega arith))))),
      sym (all_fails (within_at (replicate 4096 v)) 4096 0 false (omega arith) (sym (lt-leb (nat_abs v) 1000000 h)) refl),
    )
