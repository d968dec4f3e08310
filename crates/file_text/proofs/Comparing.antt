-- Two lists of bytes, compared from a place on.
use Prim.Native.Nat.{ℕ, suc, ◌+◌, ◌≤◌, ◌<◌}
use mathlib.Core.Path.{◌≡◌, refl, ap, sym}
use mathlib.Core.List.{List, [], ◌∷◌}
use mathlib.Core.Bool.{Bool, true, false, ◌&&◌}
use native.Mathlib.Omega.{arith}
use native.Mathlib.Numerals.{add-one}
use lib.ListN.{length, get_or, drop, drop_of_length-le}
use lib.Seq.{drop-cons}
use lib.Dec.{eqb}
use borrow.Author.Tests.{ne_eqb, eq-eqb}
use Rattle.file_text.specs.Bytes.{same_bytes}

and_false : (t : Bool) → (t && false) ≡ false
and_false true = refl
and_false false = refl

pub same_lengths : (a b : List ℕ) → (length a ≡ length b → ⊥) → false ≡ same_bytes a b
same_lengths [] [] h = absurd (h refl)
same_lengths [] (y ∷ b) h = refl
same_lengths (x ∷ a) [] h = refl
same_lengths (x ∷ a) (y ∷ b) h = sym (rw (← same_lengths a b (λ e. h (ap suc e))) (and_false (eqb x y)))

module _ (a b : List ℕ) (i : ℕ) (S : Bool) (q : same_bytes (drop i a) (drop i b) ≡ S) (n : length a ≡ length b) where
  pub same_end : length a ≤ i → true ≡ S
  same_end h =
      let k : length b ≤ i = omega arith in
      rw (drop_of_length-le a h, drop_of_length-le b k) at q

  module _ (h : i < length a) where
    both-cons : same_bytes (get_or a i 0 ∷ drop (suc i) a) (get_or b i 0 ∷ drop (suc i) b) ≡ S
    both-cons =
        let k : i < length b = omega arith in
        rw (drop-cons a i 0 h, drop-cons b i 0 k) at q

    pub same-differ : (get_or a i 0 ≡ get_or b i 0 → ⊥) → false ≡ S
    same-differ e = rw (ne_eqb (get_or a i 0) (get_or b i 0) e) at both-cons

    pub same_more : get_or a i 0 ≡ get_or b i 0 → same_bytes (drop (i + 1) a) (drop (i + 1) b) ≡ S
    same_more e = rw (add-one i) (rw (eq-eqb (get_or a i 0) (get_or b i 0) e) at both-cons)
