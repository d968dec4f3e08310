-- What the reader has gathered, at every entry line: rows and readings that a legal test of this kind can have so far (`Held`). Nothing
-- gathered is such (`held_none`), and an entry that is taken keeps it so (`held_more`). `Yielded` rests on it.
use Prim.Native.Nat.{ℕ, zero, suc, ◌+◌, ◌-◌, ◌*◌, ◌^◌, ◌≤◌, ◌<◌}
use mathlib.Core.Path.{◌≡◌, refl, sym, ap, subst, ◌∙◌}
use mathlib.Core.List.{List}
use mathlib.Core.Bool.{Bool, true, false}
use native.Mathlib.Omega.{arith}
use lib.IntN.{ℤ, pos, nat_abs}
use lib.ListN.{length, replicate, length-set, length-replicate}
use lib.Seq.{get_or-set_same, get_or-set_other}
use lib.Dec.{T, eqb}
use borrow.Author.Tests.{eqb-true, eqb-false, eq-eqb}
use lib.Pow.{pow-lt, pow_pos}
use lib.Bits.{or_lt}
use Rattle.sets.specs.Sets.{bit, join}
use Rattle.sets.proofs.Joins.{bit-join}
use Rattle.sets.proofs.OnePlace.{bit_power}
use Rattle.sets.proofs.Tests.{or_l, or_r}
use Rattle.table.specs.Pairs.{row}
use Rattle.table.specs.Tables.{no_rows}
use Rattle.table.specs.declared.Gauge.{Gauge}
use Rattle.table.specs.declared.Case.{Case}
use Rattle.recorded.specs.Tests.{reading, no_readings}
use Rattle.recorded.specs.declared.Kind.{Kind}
use Rattle.recorded.specs.declared.Kind.TheVariants.{Pattern, Integer}
use Rattle.file_kinds.proofs.KindOf.{Taken}
use Rattle.file_reader.specs.private.Reading.{with_case, add_pair, add_reading}

pub record Held (kind : Kind) (gs : Gauge) (cs : Case) (rows : List ℕ) (vs : List ℤ) : Type 0 where
  pub size : length rows ≡ 64
  pub bits : (i : ℕ) → row rows i < 2 ^ cs.0
  pub rest : (i : ℕ) → gs.0 ≤ i → row rows i ≡ 0
  pub values : length vs ≡ 4096
  pub there : (i k : ℕ) → i < 64 → k < 64 → ¬ (reading vs (i * 64 + k) ≡ pos 0) → (kind ≡ Integer) × T (bit (row rows i) k)
  pub small : (p : ℕ) → nat_abs (reading vs p) ≤ 1000000

-- nothing gathered
pub no_row : (n i : ℕ) → row (replicate n 0) i ≡ 0
no_row zero i = refl
no_row (suc n) zero = refl
no_row (suc n) (suc i) = no_row n i

no_reading : (n p : ℕ) → reading (replicate n (pos 0)) p ≡ pos 0
no_reading zero p = refl
no_reading (suc n) zero = refl
no_reading (suc n) (suc p) = no_reading n p

pub held_none : (kind : Kind) (gs : Gauge) (cs : Case) → Held kind gs cs no_rows no_readings
held_none kind gs cs = record {
  size = refl;
  bits = λ i. omega (arith, no_row 64 i, pow_pos cs.0);
  rest = λ i h. no_row 64 i;
  values = length-replicate 4096 (pos 0);
  there = λ i k h l n. absurd (n (no_reading 4096 (i * 64 + k)));
  small = λ p. omega (arith, ap nat_abs (no_reading 4096 p));
}

-- ---- an entry more
-- a row with a case more
with_lt : (cs : Case) (r : ℕ) (c : Case) → 1 ≤ c.0 → c.0 ≤ cs.0 → r < 2 ^ cs.0 → with_case r c < 2 ^ cs.0
unfolding join
with_lt cs r c l h k = or_lt cs.0 r (2 ^ (c.0 - 1)) k (pow-lt (omega arith))

pub with_own : (r : ℕ) (c : Case) → T (bit (with_case r c) (c.0 - 1))
with_own r c =
    let k = c.0 - 1 in
    subst T (sym (bit-join r (2 ^ k) k)) (or_r (bit r k) (bit (2 ^ k) k) (subst T (sym (bit_power k k ∙ eq-eqb k k refl)) tt))

pub with_kept : (r : ℕ) (c : Case) (k : ℕ) → T (bit r k) → T (bit (with_case r c) k)
with_kept r c k h = subst T (sym (bit-join r (2 ^ (c.0 - 1)) k)) (or_l (bit r k) (bit (2 ^ (c.0 - 1)) k) h)

-- only an integer file has a reading that is not zero
integer_read : (kind : Kind) (v : ℤ) → (kind ≡ Pattern → v ≡ pos 0) → ¬ (v ≡ pos 0) → kind ≡ Integer
integer_read Pattern v u n = absurd (n (u refl))
integer_read Integer v u n = refl

module _ {kind : Kind} {gs : Gauge} {cs : Case} {rows : List ℕ} {vs : List ℤ} {g : Gauge} {c : Case} {v : ℤ} (m : gs.0 ≤ 64) (n : cs.0 ≤ 64)
    (r : Held kind gs cs rows vs) (t : Taken kind gs cs g c v) where
  own_row : row (add_pair rows g c) (g.0 - 1) ≡ with_case (row rows (g.0 - 1)) c
  own_row = get_or-set_same rows (g.0 - 1) (with_case (row rows (g.0 - 1)) c) 0 (omega (arith, r.size, t.places))

  other_row : (i : ℕ) → (i ≡ g.0 - 1 → ⊥) → row (add_pair rows g c) i ≡ row rows i
  other_row i h = get_or-set_other rows (g.0 - 1) i (with_case (row rows (g.0 - 1)) c) 0 h

  own_reading : reading (add_reading vs g c v) ((g.0 - 1) * 64 + (c.0 - 1)) ≡ v
  own_reading = get_or-set_same vs ((g.0 - 1) * 64 + (c.0 - 1)) v (pos 0) (omega (arith, r.values, t.places))

  other_reading : (p : ℕ) → (p ≡ (g.0 - 1) * 64 + (c.0 - 1) → ⊥) → reading (add_reading vs g c v) p ≡ reading vs p
  other_reading p h = get_or-set_other vs ((g.0 - 1) * 64 + (c.0 - 1)) p v (pos 0) h

  more_bits : (i : ℕ) (b : Bool) → eqb i (g.0 - 1) ≡ b → row (add_pair rows g c) i < 2 ^ cs.0
  more_bits i true e =
      rw (eqb-true i (g.0 - 1) e, own_row) (with_lt cs (row rows (g.0 - 1)) c t.places.case_low t.places.case_high (r.bits (g.0 - 1)))
  more_bits i false e = rw (other_row i (eqb-false i (g.0 - 1) e)) (r.bits i)

  more_there : (i k : ℕ) (b : Bool) → eqb i (g.0 - 1) ≡ b → T (bit (row rows i) k) → T (bit (row (add_pair rows g c) i) k)
  more_there i k true e h =
      let d = eqb-true i (g.0 - 1) e in
      rw (d, own_row) (with_kept (row rows (g.0 - 1)) c k (rw d at h))
  more_there i k false e h = rw (other_row i (eqb-false i (g.0 - 1) e)) h

  held_there : (i k : ℕ) (b : Bool) → eqb (i * 64 + k) ((g.0 - 1) * 64 + (c.0 - 1)) ≡ b → i < 64 → k < 64
      → ¬ (reading (add_reading vs g c v) (i * 64 + k) ≡ pos 0) → (kind ≡ Integer) × T (bit (row (add_pair rows g c) i) k)
  held_there i k true e h l f =
      let d = eqb-true (i * 64 + k) ((g.0 - 1) * 64 + (c.0 - 1)) e in
      let x : i ≡ g.0 - 1 = omega (arith, t.places) in
      let y : k ≡ c.0 - 1 = omega (arith, t.places) in (
        integer_read kind v t.unread (λ z. f (ap (reading (add_reading vs g c v)) d ∙ own_reading ∙ z)),
        rw (x, y, own_row) (with_own (row rows (g.0 - 1)) c),
      )
  held_there i k false e h l f =
      let d = eqb-false (i * 64 + k) ((g.0 - 1) * 64 + (c.0 - 1)) e in
      let (a, b) = r.there i k h l (λ z. f (other_reading (i * 64 + k) d ∙ z)) in
      (a, more_there i k (eqb i (g.0 - 1)) refl b)

  held_small : (p : ℕ) (b : Bool) → eqb p ((g.0 - 1) * 64 + (c.0 - 1)) ≡ b → nat_abs (reading (add_reading vs g c v) p) ≤ 1000000
  held_small p true e =
      let d = eqb-true p ((g.0 - 1) * 64 + (c.0 - 1)) e in
      omega (arith, t.reach, ap nat_abs (ap (reading (add_reading vs g c v)) d ∙ own_reading))
  held_small p false e = omega (arith, r.small p, ap nat_abs (other_reading p (eqb-false p ((g.0 - 1) * 64 + (c.0 - 1)) e)))

  pub held_more : Held kind gs cs (add_pair rows g c) (add_reading vs g c v)
  held_more = record {
    size = length-set rows (g.0 - 1) (with_case (row rows (g.0 - 1)) c) ∙ r.size;
    bits = λ i. more_bits i (eqb i (g.0 - 1)) refl;
    rest = λ i h. other_row i (λ e. omega (arith, t.places)) ∙ r.rest i h;
    values = length-set vs ((g.0 - 1) * 64 + (c.0 - 1)) v ∙ r.values;
    there = λ i k h l f. held_there i k (eqb (i * 64 + k) ((g.0 - 1) * 64 + (c.0 - 1))) refl h l f;
    small = λ p. held_small p (eqb p ((g.0 - 1) * 64 + (c.0 - 1))) refl;
  }
