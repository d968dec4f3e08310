-- Laws of words that are put at a place: one more word, all of a list that a loop put word by word, and two lists one behind the other.
use mathlib.Core.Path.{◌≡◌, ap, sym, ◌∙◌}
use mathlib.Core.List.{List, [], ◌∷◌, ◌++◌}
use Prim.Native.Nat.{ℕ, zero, suc, ◌+◌, ◌<◌}
use native.Mathlib.Nat.{not-suc-le-zero, le_of_suc-le-suc, add-zero, add-suc, suc-add}
use native.Mathlib.Numerals.{add-one}
use lib.ListN.{length, take, get_or, set}
use lib.Seq.{sets as stored}
use Rattle.words.specs.Layouts.{Put}

stored_suc : (l : List ℕ) (a : ℕ) (vs : List ℕ) (i : ℕ) → i < length vs → stored l a (take (suc i) vs) ≡ set (stored l a (take i vs)) (a + i) (get_or vs i 0)
stored_suc l a [] i h = absurd (not-suc-le-zero h)
stored_suc l a (v ∷ vs) zero h = rw add-zero
stored_suc l a (v ∷ vs) (suc i) h = rw (add-suc, ← suc-add) (stored_suc (set l a v) (suc a) vs i (le_of_suc-le-suc h))

stored_append : (l : List ℕ) (a : ℕ) (vs us : List ℕ) → stored l a (vs ++ us) ≡ stored (stored l a vs) (a + length vs) us
stored_append l a [] us = rw add-zero
stored_append l a (v ∷ vs) us = rw (add-suc, ← suc-add) (stored_append (set l a v) (suc a) vs us)

-- a loop puts entry i
pub put_more : {l : List ℕ} {a : ℕ} {m m' : List ℕ} {v : ℕ} (vs : List ℕ) (i : ℕ)
    → Put l a (take i vs) m → i < length vs → v ≡ get_or vs i 0 → Put m (a + i) (v ∷ []) m' → Put l a (take (i + 1) vs) m'
put_more {l} {a} {m} {m'} {v} vs i p h e q = record {
  words = q.words ∙ ap (λ (x : ℕ). set m (a + i) x) e ∙ ap (λ (x : List ℕ). set x (a + i) (get_or vs i 0)) p.words
      ∙ sym (rw add-one (stored_suc l a vs i h));
}

-- two lists, the second from the place b on, where the first ends
pub put_two : {l : List ℕ} {a b : ℕ} {vs us m m' : List ℕ} → Put l a vs m → Put m b us m' → b ≡ a + length vs → Put l a (vs ++ us) m'
put_two {l} {a} {b} {vs} {us} p q h = record {
  words = q.words ∙ ap (λ (x : List ℕ). stored x b us) p.words ∙ ap (λ (x : ℕ). stored (stored l a vs) x us) h ∙ sym (stored_append l a vs us);
}

-- a word that equals another is put as that
pub put_as : {l m : List ℕ} {a x : ℕ} (y : ℕ) → x ≡ y → Put l a (x ∷ []) m → Put l a (y ∷ []) m
put_as y e p = rw e at p
