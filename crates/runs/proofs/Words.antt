-- Laws of words that are stored at a place of a buffer, one after another.
use mathlib.Core.Path.{◌≡◌, refl, ap, sym, ◌∙◌, subst}
use mathlib.Core.List.{List, [], ◌∷◌, ◌++◌, append-nil, append_assoc}
use Prim.Native.Nat.{ℕ, zero, suc, ◌+◌, ◌-◌, ◌*◌, ◌/◌, ◌≤◌, ◌<◌}
use native.Mathlib.Nat.{not-suc-le-zero, le_of_suc-le-suc, add-zero, add-suc, suc-add, zero-mul, suc-mul, add_comm, div-mul-le_self}
use native.Mathlib.Numerals.{add-one}
use native.Mathlib.Omega.{arith}
use lib.ListN.{length, take, drop, get_or, set, length-append}
use lib.Seq.{sets as stored, sets-eq, take-length, length-take-le}
use borrow.Rule.Slice.PartMut.{put_mid}
use Rattle.std.proofs.lemmas.Slice.{put_mid-paste}
use Rattle.runs.specs.Batches.{joined}
use Rattle.runs.specs.private.Listing.{words_of, Puts}

stored_suc : (l : List ℕ) (a : ℕ) (vs : List ℕ) (i : ℕ) → i < length vs → stored l a (take (suc i) vs) ≡ set (stored l a (take i vs)) (a + i) (get_or vs i 0)
stored_suc l a [] i h = absurd (not-suc-le-zero h)
stored_suc l a (v ∷ vs) zero h = rw add-zero
stored_suc l a (v ∷ vs) (suc i) h = rw (add-suc, ← suc-add) (stored_suc (set l a v) (suc a) vs i (le_of_suc-le-suc h))

pub stored_append : (l : List ℕ) (a : ℕ) (vs us : List ℕ) → stored l a (vs ++ us) ≡ stored (stored l a vs) (a + length vs) us
stored_append l a [] us = rw add-zero
stored_append l a (v ∷ vs) us = rw (add-suc, ← suc-add) (stored_append (set l a v) (suc a) vs us)

-- one more, as a loop stores it
pub puts_more : {l : List ℕ} {a : ℕ} (vs : List ℕ) (i : ℕ) {m : List ℕ} → Puts l a (take i vs) m → i < length vs
    → Puts l a (take (i + 1) vs) (set m (a + i) (get_or vs i 0))
puts_more {l} {a} vs i {m} p h = record { words = ap (λ (x : List ℕ). set x (a + i) (get_or vs i 0)) p.words ∙ sym (rw add-one (stored_suc l a vs i h)) }

-- the first ones, copied as one run
pub puts_front : (l : List ℕ) (a k m : ℕ) (vs ws : List ℕ) → ws ≡ take m vs → m ≤ length vs → a + m ≤ length l → k ≡ m → Puts l a (take m vs) (put_mid a k l ws)
puts_front l a k m vs ws e few room n = record {
  words =
      put_mid-paste a k l ws (take m vs) (length (take m vs)) e (size ∙ sym n) refl
      ∙ rw (take-length (take m vs)) (sym (sets-eq (take m vs) l a (omega (arith, size, room))));
}
  where
    size : length (take m vs) ≡ m
    size = length-take-le m vs few

-- what is stored at the front
pub stored_front : (l vs : List ℕ) → length vs ≤ length l → stored l 0 vs ≡ vs ++ drop (length vs) l
stored_front l vs h =
    let e : 0 + length vs ≡ length vs = omega arith in
    sets-eq vs l 0 (omega arith) ∙ ap (λ (n : ℕ). vs ++ drop n l) e

-- ---- ladders one after another
pub joined_snoc : (ls : List (List ℕ)) (x : List ℕ) → joined (ls ++ (x ∷ [])) ≡ joined ls ++ x
joined_snoc [] x = append-nil x
joined_snoc (y ∷ ls) x = ap (λ (l : List ℕ). y ++ l) (joined_snoc ls x) ∙ sym (append_assoc y (joined ls) x)

pub length_snoc_list : (ls : List (List ℕ)) (x : List ℕ) → length (ls ++ (x ∷ [])) ≡ length ls + 1
length_snoc_list ls x = length-append ls (x ∷ [])

-- the words of k ladders of g words
pub words_more : (g j : ℕ) → 0 < j → words_of g j ≡ g + words_of g (j - 1)
unfolding words_of
words_more g zero h = absurd (omega arith)
words_more g (suc k) h = let e : suc k - 1 ≡ k = omega arith in rw e

words_times : (g k : ℕ) → words_of g k ≡ k * g
unfolding words_of
words_times g zero = sym (zero-mul g)
words_times g (suc k) = ap (λ (n : ℕ). g + n) (words_times g k) ∙ add_comm g (k * g) ∙ sym (suc-mul k g)

pub words_fit : (g l : ℕ) → words_of g (l / g) ≤ l
words_fit g l = subst (λ (n : ℕ). n ≤ l) (sym (words_times g (l / g))) (div-mul-le_self l g)
