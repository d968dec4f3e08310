-- Runs of stores: what a step stored (`Wrote`) and what a loop has still to store (`Writing`). One law for each step of the writer; a
-- loop's law says that the step it made is the front of what was left.
use Prim.Native.Nat.{ℕ, suc, ◌+◌, ◌/◌, ◌%◌, ◌^◌, ◌≤◌, ◌<◌}
use mathlib.Core.Path.{◌≡◌, refl, ap, sym, ◌∙◌, subst}
use mathlib.Core.List.{List, [], ◌∷◌, ◌++◌}
use native.Mathlib.Omega.{arith}
use native.Mathlib.Nat.{add-zero}
use lib.ListN.{length, set, length-append}
use lib.Seq.{sets, length-sets, take-length}
use borrow.Rule.Slice.PartMut.{put_mid}
use Rattle.std.proofs.lemmas.Slice.{put_mid-paste}
use Rattle.std.proofs.lemmas.List.Edits.{sets-eq}
use Rattle.file_writer.specs.Writing.{digits}
use Rattle.file_writer.specs.private.StoreSteps.{Wrote, field_bytes}
use Rattle.file_writer.proofs.Decimals.{digits_short, digits_long, width_one, width_two}

sets_append : (l : List ℕ) (i : ℕ) (vs ws : List ℕ) → sets l i (vs ++ ws) ≡ sets (sets l i vs) (i + length vs) ws
sets_append l i [] ws = ap (λ (n : ℕ). sets l n ws) (sym (add-zero i))
sets_append l i (v ∷ vs) ws = sets_append (set l i v) (suc i) vs ws ∙ ap (λ (n : ℕ). sets (sets (set l i v) (suc i) vs) n ws) e
  where
    e : suc i + length vs ≡ i + suc (length vs)
    e = omega arith

-- ---- what a step stored

pub wrote_both : {l : List ℕ} {at : ℕ} {vs : List ℕ} {m : List ℕ} {p : ℕ} {ws : List ℕ} {o : List ℕ} {next : ℕ}
    → Wrote l at vs m p → Wrote m p ws o next → Wrote l at (vs ++ ws) o next
wrote_both {l} {at} {vs} {m} {p} {ws} a b = record {
  bytes = b.bytes ∙ rw (a.bytes, a.place) (sym (sets_append l at vs ws));
  place = omega (arith, a.place, b.place, length-append vs ws);
}

pub wrote_byte : (l : List ℕ) (at b : ℕ) → Wrote l at (b ∷ []) (set l at b) (at + 1)
wrote_byte l at b = record { bytes = refl; place = refl }

pub wrote_length : {l : List ℕ} {at : ℕ} {vs : List ℕ} {m : List ℕ} {next : ℕ} → Wrote l at vs m next → length m ≡ length l
wrote_length {l} {at} {vs} a = ap length a.bytes ∙ length-sets l at vs

pub wrote_short : {l : List ℕ} {at n : ℕ} → n < 10 → Wrote l at (digits n) (set l at (48 + n)) (at + 1)
wrote_short {l} {at} {n} h = rw (digits_short n h) (wrote_byte l at (48 + n))

pub wrote_long : {l : List ℕ} {at n : ℕ} {m : List ℕ} {p : ℕ} → 10 ≤ n → n < 10 ^ 9 → Wrote l at (digits (n / 10)) m p
    → Wrote l at (digits n) (set m p (48 + n % 10)) (p + 1)
wrote_long {l} {at} {n} {m} {p} a h w = rw (digits_long n a h) (wrote_both w (wrote_byte m p (48 + n % 10)))

pub wrote_store : {l : List ℕ} {at : ℕ} {vs : List ℕ} {m : List ℕ} {p : ℕ} → Wrote l at vs m p → (b : ℕ) → Wrote l at (vs ++ b ∷ []) (set m p b) (p + 1)
wrote_store {l} {at} {vs} {m} {p} w b = wrote_both w (wrote_byte m p b)

-- a number of one digit, or of two, and the byte e behind it
wrote_to : {l : List ℕ} {at : ℕ} {vs : List ℕ} {m : List ℕ} {p q : ℕ} → Wrote l at vs m p → p ≡ q → Wrote l at vs m q
wrote_to {l} {at} {vs} {m} w e = subst (Wrote l at vs m) e w

pub place_one : (l : List ℕ) (at n e : ℕ) → n < 10 → Wrote l at (field_bytes n e) (set (set l at (48 + n)) (at + 1) e) (at + 2)
place_one l at n e h = wrote_to (wrote_store (wrote_short {l = l} {at = at} h) e) (omega arith)

pub place_two : (l : List ℕ) (at n e : ℕ) → 10 ≤ n → n < 100
    → Wrote l at (field_bytes n e) (set (set (set l at (48 + n / 10)) (at + 1) (48 + n % 10)) (at + 2) e) (at + 3)
place_two l at n e k h =
    wrote_to (wrote_store (wrote_to (wrote_long k (omega arith) (wrote_short {l = l} {at = at} {n = n / 10} (omega arith))) two) e) (omega arith)
  where
    two : at + 1 + 1 ≡ at + 2
    two = omega arith

pub field_one : (n e : ℕ) → n < 10 → length (field_bytes n e) ≡ 2
field_one n e h = length-append (digits n) (e ∷ []) ∙ omega (arith, width_one n h)

pub field_two : (n e : ℕ) → 10 ≤ n → n < 100 → length (field_bytes n e) ≡ 3
field_two n e k h = length-append (digits n) (e ∷ []) ∙ omega (arith, width_two n k h)

-- ---- what a loop has still to store

-- what is still to be written: rem at the place p of m ends as total at the place at of l does
pub record Writing (l : List ℕ) (at : ℕ) (total : List ℕ) (m : List ℕ) (p : ℕ) (rem : List ℕ) : Type 0 where
  pub bytes : sets m p rem ≡ sets l at total
  pub place : p + length rem ≡ at + length total
  pub same : length m ≡ length l

pub writing_step : {l : List ℕ} {at : ℕ} {total : List ℕ} {m : List ℕ} {p : ℕ} {rem : List ℕ} {vs ws : List ℕ} {o : List ℕ} {q : ℕ}
    → Writing l at total m p rem → rem ≡ vs ++ ws → Wrote m p vs o q → Writing l at total o q ws
writing_step {l} {at} {total} {m} {p} {rem} {vs} {ws} w e a = record {
  bytes = rw (a.bytes, a.place) (sym (sets_append m p vs ws)) ∙ ap (sets m p) (sym e) ∙ w.bytes;
  place = omega (arith, a.place, w.place, ap length e, length-append vs ws);
  same = wrote_length a ∙ w.same;
}

writing_skip : {l : List ℕ} {at : ℕ} {total : List ℕ} {m : List ℕ} {p : ℕ} {rem ws : List ℕ}
    → Writing l at total m p rem → rem ≡ ws → Writing l at total m p ws
writing_skip {l} {at} {total} {m} {p} w e = subst (Writing l at total m p) e w

pub writing_done : {l : List ℕ} {at : ℕ} {total : List ℕ} {m : List ℕ} {p : ℕ} {rem : List ℕ} → Writing l at total m p rem → rem ≡ [] → Wrote l at total m p
writing_done {l} {at} {total} {m} {p} w e =
    let v = writing_skip w e in
    record { bytes = v.bytes; place = omega (arith, v.place) }

pub writing_room : {l : List ℕ} {at : ℕ} {total : List ℕ} {m : List ℕ} {p : ℕ} {rem : List ℕ}
    → Writing l at total m p rem → (vs ws : List ℕ) → rem ≡ vs ++ ws → at + length total ≤ length l → p + length vs ≤ length m
writing_room w vs ws e h = omega (arith, w.place, w.same, ap length e, length-append vs ws)

-- ---- a run of bytes, copied
pub wrote_run : (l : List ℕ) (at k : ℕ) (vs ws : List ℕ) → at + length vs ≤ length l → ws ≡ vs → length vs ≡ k → Wrote l at vs (put_mid at k l ws) (at + length vs)
wrote_run l at k vs ws h e n =
    record { bytes = put_mid-paste at k l ws vs (length vs) e n refl ∙ rw (take-length vs) (sym (sets-eq vs l at h)); place = refl }
