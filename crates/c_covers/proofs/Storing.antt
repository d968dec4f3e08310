-- Laws of chains that are put one behind the other: one more, all of them, and the length that stays.
use mathlib.Core.Path.{◌≡◌, refl, ap, sym, ◌∙◌}
use mathlib.Core.List.{List, [], ◌∷◌}
use Prim.Native.Nat.{ℕ, zero, suc, ◌+◌, ◌*◌, ◌≤◌, ◌<◌}
use native.Mathlib.Nat.{not-suc-le-zero, le_of_suc-le-suc}
use native.Mathlib.Numerals.{add-one}
use native.Mathlib.Omega.{arith}
use lib.ListN.{length, take, get_or}
use lib.Seq.{sets as stored, take_all}
use Rattle.table.specs.declared.Chain.{Chain}
use Rattle.words.specs.Layouts.{chain_words, Put}
use Rattle.c_covers.specs.Serving.{with_chains, PutChains}

with_suc : (w : List ℕ) (a : ℕ) (ss : List Chain) (i : ℕ) (d : Chain) → i < length ss
    → with_chains w a (take (suc i) ss) ≡ stored (with_chains w a (take i ss)) (a + 65 * i) (chain_words (get_or ss i d))
unfolding with_chains
with_suc w a [] i d h = absurd (not-suc-le-zero h)
with_suc w a (s ∷ ss) zero d h = let e : a ≡ a + 65 * 0 = omega arith in ap (λ (k : ℕ). stored w k (chain_words s)) e
with_suc w a (s ∷ ss) (suc i) d h =
    let e : a + 65 + 65 * i ≡ a + 65 * suc i = omega arith in
    with_suc (stored w a (chain_words s)) (a + 65) ss i d (le_of_suc-le-suc h)
    ∙ ap (λ (k : ℕ). stored (with_chains (stored w a (chain_words s)) (a + 65) (take i ss)) k (chain_words (get_or ss i d))) e

pub chains_none : {w : List ℕ} {a : ℕ} → PutChains w a [] w
unfolding with_chains
chains_none = record { words = refl }

pub chains_more : {w m m' : List ℕ} {a k : ℕ} (ss : List Chain) (i : ℕ) (d : Chain) → PutChains w a (take i ss) m → i < length ss → k ≡ a + 65 * i
    → Put m k (chain_words (get_or ss i d)) m' → PutChains w a (take (i + 1) ss) m'
chains_more {w} {m} {m'} {a} {k} ss i d p h j q = record {
  words = q.words ∙ ap (λ (x : List ℕ). stored x k (chain_words (get_or ss i d))) p.words
      ∙ ap (λ (x : ℕ). stored (with_chains w a (take i ss)) x (chain_words (get_or ss i d))) j
      ∙ sym (rw add-one (with_suc w a ss i d h));
}

pub chains_all : {w m : List ℕ} {a : ℕ} (ss : List Chain) (i : ℕ) → PutChains w a (take i ss) m → length ss ≤ i → PutChains w a ss m
chains_all {w} {m} {a} ss i p h = record { words = p.words ∙ ap (with_chains w a) (take_all i ss h) }
