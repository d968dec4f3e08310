-- A chain is a set whose rows are nested (01, "Equally: any two rows of the set are nested"), and the maximal chain of a table
-- without pairs. What decides maximality is in crate `judge`.
use mathlib.Core.Path.{◌≡◌, sym, ◌∙◌}
use mathlib.Core.Logic.{◌⊎◌, inl, inr, ◌↔◌}
use mathlib.Core.Bool.{not}
use mathlib.Core.List.{List}
use Prim.Native.Nat.{ℕ, suc}
use lib.Dec.{T, T_not}
use lib.Seq.{ext_get_or}
use Rattle.sets.specs.Sets.{bit, ◌⊆◌}
use Rattle.sets.proofs.Order.{Breaks, sub_or, sub_bit, sub_zero}
use Rattle.table.specs.Pairs.{row, Has, Within}
use Rattle.table.specs.Chains.{IsChain, IsMaximal}
use Rattle.table.proofs.Places.{chain_places, places_chain, within_refl, place_has}

abbrev pub Nested : ℕ → ℕ → Type 0
Nested a b = (a ⊆ b) ⊎ (b ⊆ a)

pub chain_nested : (s : List ℕ) → IsChain s → (i j : ℕ) → Nested (row s i) (row s j)
unfolding Breaks
chain_nested s h i j = go (sub_or (row s i) (row s j)) (sub_or (row s j) (row s i))
  where
    clash : (c d : ℕ) → T (not (bit (row s j) c)) → T (not (bit (row s i) d)) → T (bit (row s i) d) ⊎ T (bit (row s j) c) → ⊥
    clash c d u v (inl t) = T_not (bit (row s i) d) v t
    clash c d u v (inr t) = T_not (bit (row s j) c) u t

    go : (row s i ⊆ row s j) ⊎ Breaks (row s i) (row s j) → (row s j ⊆ row s i) ⊎ Breaks (row s j) (row s i) → Nested (row s i) (row s j)
    go (inl a) r = inl a
    go (inr b) (inl a) = inr a
    go (inr b) (inr a) = absurd (clash b.0 a.0 b.2 a.2 (chain_places s h i j b.0 a.0 b.1 a.1))

pub nested_chain : (s : List ℕ) → ((i j : ℕ) → Nested (row s i) (row s j)) → IsChain s
nested_chain s f = places_chain s (λ i j c d t u. go i j c d t u (f i j))
  where
    go : (i j c d : ℕ) → T (bit (row s i) c) → T (bit (row s j) d) → Nested (row s i) (row s j) → T (bit (row s i) d) ⊎ T (bit (row s j) c)
    go i j c d t u (inl h) = inr (sub_bit (row s i) (row s j) c h t)
    go i j c d t u (inr h) = inl (sub_bit (row s j) (row s i) d h u)

pub chain_iff_nested : (s : List ℕ) → IsChain s ↔ ((i j : ℕ) → Nested (row s i) (row s j))
chain_iff_nested s = (chain_nested s, nested_chain s)

-- ---- a table without pairs ("has one ladder, the empty one")
abbrev pub NoPairs : List ℕ → Type 0
NoPairs r = (g c : ℕ) → Has r g c → ⊥

-- a set of pairs of such a table is the table's own, empty, set
only_empty : (r s : List ℕ) → NoPairs r → Within r s → s ≡ r
unfolding Breaks
only_empty r s n w = ext_get_or 0 s r w.size (λ i l. empty s (λ g c h. n g c (w.inside g c h)) i ∙ sym (empty r n i))
  where
    empty : (x : List ℕ) → NoPairs x → (i : ℕ) → row x i ≡ 0
    empty x m i = go (sub_or (row x i) 0)
      where
        go : (row x i ⊆ 0) ⊎ Breaks (row x i) 0 → row x i ≡ 0
        go (inl h) = sub_zero (row x i) h
        go (inr b) = absurd (m (suc i) (suc b.0) (place_has x i b.0 b.1))

pub empty_maximal : (r : List ℕ) → NoPairs r → IsMaximal r r
empty_maximal r n = record {
  within = within_refl r;
  chain = λ g h c d p q. absurd (n g c p);
  largest = λ s w c k. only_empty r s n w;
}

pub maximal_empty : (r s : List ℕ) → NoPairs r → IsMaximal r s → s ≡ r
maximal_empty r s n m = only_empty r s n m.within
