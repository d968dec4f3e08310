-- Capitals as small letters: the laws by which one text in small letters is
-- compared with another from a place on. They are those of Comparing.antt for the list of the small letters, read at
-- the bytes as they are.
use Prim.Native.Nat.{ℕ, ◌+◌, ◌≤◌, ◌<◌}
use mathlib.Core.Path.{◌≡◌, sym, ◌∙◌}
use mathlib.Core.List.{List, map}
use mathlib.Core.Bool.{Bool, false, true}
use native.Mathlib.Omega.{arith}
use lib.ListN.{length, get_or, drop, length-map, get_or-map}
use Rattle.file_text.specs.Bytes.{same_bytes, small}
use Rattle.file_text.proofs.Comparing.{same_lengths, same_end, same-differ, same_more}

-- the small letter at a place
small_at : (a : List ℕ) (i : ℕ) → get_or (map small a) i 0 ≡ small (get_or a i 0)
unfolding small
small_at a i = get_or-map small a i 0

pub small_lengths : (a b : List ℕ) → (length b ≡ length a → ⊥) → false ≡ same_bytes (map small a) b
small_lengths a b h = same_lengths (map small a) b (λ e. h (sym e ∙ length-map a small))

module _ (a b : List ℕ) (i : ℕ) (S : Bool) (q : same_bytes (drop i (map small a)) (drop i b) ≡ S) (n : length a ≡ length b) where
  as_long : length (map small a) ≡ length b
  as_long = length-map a small ∙ n

  pub small_end : length a ≤ i → true ≡ S
  small_end h = same_end (map small a) b i S q as_long (omega (arith, length-map a small))

  module _ (x : ℕ) (e : x ≡ small (get_or a i 0)) (h : i < length a) where
    below : i < length (map small a)
    below = omega (arith, length-map a small)

    pub small_differ : (x ≡ get_or b i 0 → ⊥) → false ≡ S
    small_differ d = same-differ (map small a) b i S q as_long below (λ k. d (e ∙ sym (small_at a i) ∙ k))

    pub small_more : x ≡ get_or b i 0 → same_bytes (drop (i + 1) (map small a)) (drop (i + 1) b) ≡ S
    small_more d = same_more (map small a) b i S q as_long below (small_at a i ∙ sym e ∙ d)
