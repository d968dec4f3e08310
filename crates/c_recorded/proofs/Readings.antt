-- Laws of lent readings: the first 4,096 of a slice, and readings put over its front, as a loop reads or puts them
-- one after the other.
--
-- Elsewhere: the same of words, sets/proofs/Tabulated and words/proofs/Storing.
use mathlib.Core.Path.{◌≡◌, refl, ap, sym, ◌∙◌}
use mathlib.Core.List.{List, [], ◌∷◌, ◌++◌, append_assoc}
use Prim.Native.Nat.{ℕ, zero, suc, ◌+◌, ◌≤◌, ◌<◌}
use native.Mathlib.Nat.{not-suc-le-zero, le_of_suc-le-suc, add-suc, suc-add, zero-add, add-zero}
use native.Mathlib.Numerals.{add-one}
use native.Mathlib.Omega.{arith}
use lib.IntN.{ℤ, pos}
use lib.ListN.{length, get_or, set, take, replicate, length-set, length-append, length-replicate}
use lib.Seq.{sets as stored, ext_get_or, get_or-take, length-take-le, take_at}
use Rattle.recorded.specs.Tests.{reading, no_readings}
use mathlib.Core.Bool.{Bool, true, false, cond}
use Rattle.c_recorded.specs.Layouts.{is_kind, readings_at, stray_reading, readings_beside}
use Rattle.c_recorded.specs.private.Putting.{PutReadings}

-- ---- the first 4,096
zeros : (n i : ℕ) → get_or (replicate n (pos 0)) i (pos 0) ≡ pos 0
zeros zero i = refl
zeros (suc n) zero = refl
zeros (suc n) (suc i) = zeros n i

behind : (n : ℕ) (v : List ℤ) (i : ℕ) → get_or (v ++ replicate n (pos 0)) i (pos 0) ≡ get_or v i (pos 0)
behind n [] i = zeros n i
behind n (x ∷ v) zero = refl
behind n (x ∷ v) (suc i) = behind n v i

readings_length : (v : List ℤ) → length (readings_at v) ≡ 4096
readings_length v = length-take-le 4096 (v ++ no_readings) (omega (arith, length-append v no_readings, length-replicate 4096 (pos 0)))

reading_there : (v : List ℤ) (i : ℕ) → i < 4096 → reading (readings_at v) i ≡ reading v i
reading_there v i h = get_or-take 4096 (v ++ no_readings) i (pos 0) h ∙ behind 4096 v i

-- what is in front of others reads back
pub readings_front : (vs more : List ℤ) → length vs ≡ 4096 → readings_at (vs ++ more) ≡ vs
readings_front vs more e = ap (take 4096) (append_assoc vs more no_readings) ∙ take_at vs (more ++ no_readings) 4096 e

-- ---- an array that a loop fills: the first k are those of v
pub record Taken (v l : List ℤ) (k : ℕ) : Type 0 where
  pub size : length l ≡ 4096
  pub most : k ≤ 4096
  pub entry : (i : ℕ) → i < k → reading l i ≡ reading v i

pub taken_all : {v l : List ℤ} (k : ℕ) → Taken v l k → 4096 ≤ k → l ≡ readings_at v
taken_all {v} {l} k r h =
    ext_get_or (pos 0) l (readings_at v) (r.size ∙ sym (readings_length v)) (λ i b.
    r.entry i (omega (arith, r.size)) ∙ sym (reading_there v i (omega (arith, r.size))))

-- ---- readings put over the front
stored_suc : (l : List ℤ) (a : ℕ) (vs : List ℤ) (i : ℕ) → i < length vs
    → stored l a (take (suc i) vs) ≡ set (stored l a (take i vs)) (a + i) (get_or vs i (pos 0))
stored_suc l a [] i h = absurd (not-suc-le-zero h)
stored_suc l a (v ∷ vs) zero h = rw add-zero
stored_suc l a (v ∷ vs) (suc i) h = rw (add-suc, ← suc-add) (stored_suc (set l a v) (suc a) vs i (le_of_suc-le-suc h))

-- a loop puts reading i
pub put_more : {l m m' : List ℤ} {x : ℤ} (vs : List ℤ) (i : ℕ) → PutReadings l (take i vs) m → i < length vs → x ≡ reading vs i → m' ≡ set m i x
    → PutReadings l (take (i + 1) vs) m'
put_more {l} {m} {m'} {x} vs i p h e q = record {
  values = q ∙ ap (set m i) e ∙ ap (λ (y : List ℤ). set y i (reading vs i)) p.values
      ∙ sym (rw add-one (stored_suc l 0 vs i h ∙ ap (λ (k : ℕ). set (stored l 0 (take i vs)) k (reading vs i)) (zero-add i)));
}

-- the readings beside any word are 4,096
pub beside_length : (x : ℕ) (v : List ℤ) → length (readings_beside x v) ≡ 4096
beside_length x v = go (is_kind x)
  where
    go : (t : Bool) → length (cond t (readings_at v) stray_reading) ≡ 4096
    go true = readings_length v
    go false = length-set no_readings 0 (pos 1) ∙ length-replicate 4096 (pos 0)
