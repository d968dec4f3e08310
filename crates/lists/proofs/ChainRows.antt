-- The chain of a list of picks, row by row.
--
-- In order: each row is the remainder that its index had when it was picked (`row_hit`, `row_miss`); every row lies under that of the first pick
-- (`row_under`), so the rows are nested (`rows_nested`) and the chain is a chain of the table (`chain_of_within`, `chain_of_chain`); one pick more as a
-- store to its row, which is how code builds the chain (`chain_of_snoc`).
--
-- Elsewhere: maximality, Maximal.antt.
use mathlib.Core.Path.{◌≡◌, refl, sym, ap, ◌∙◌}
use mathlib.Core.Logic.{◌⊎◌, inl, inr}
use mathlib.Core.List.{List, [], ◌∷◌, ◌++◌, append-nil}
use Prim.Native.Nat.{ℕ, ◌<◌}
use native.Mathlib.Decide.{ℕ_discrete, dec_lt}
use native.Mathlib.Omega.{arith}
use lib.Dec.{T}
use lib.ListN.{length, set, length-set}
use lib.Seq.{ext_get_or, append_snoc, get_or-set_same, get_or-set_other}
use borrow.Author.Tests.{eq-eqb, ne_eqb}
use Rattle.sets.specs.Sets.{◌⊆◌}
use Rattle.sets.proofs.Order.{sub_refl, sub_trans, sub_zero, zero_sub}
use Rattle.sets.proofs.Tabulated.{length-tabulate, get_or-tabulate}
use Rattle.table.specs.Pairs.{row, Within}
use Rattle.table.specs.Chains.{IsChain}
use Rattle.table.proofs.Places.{row_past, sub_within}
use Rattle.table.proofs.Nesting.{Nested, nested_chain}
use Rattle.lists.specs.PickSequence.{is_in}
use Rattle.lists.specs.Picks.{common, remainder}
use Rattle.lists.specs.OnTable.{chain_row, chain_of}
use Rattle.sets.proofs.Tests.{test}
use Rattle.lists.proofs.Unpicked.{Un, not_mem_nil, is_in_tail, un_head, un_tail, un_snoc}
use Rattle.lists.proofs.Remainders.{step_left, step_right, remainder_past}

module _ (rows : List ℕ) where
  abbrev R : List ℕ → ℕ → ℕ
  R q i = remainder rows q i

  abbrev C : List ℕ → List ℕ → ℕ → ℕ
  C q p i = chain_row rows q p i

  -- ---- the rows that picks give
  pub row_none : (q : List ℕ) (i : ℕ) → C q [] i ≡ 0
  unfolding chain_row
  row_none q i = refl

  pub row_hit : (q : List ℕ) (g : ℕ) (p : List ℕ) (i : ℕ) → i ≡ g → C q (g ∷ p) i ≡ R q g
  unfolding chain_row
  row_hit q g p i e = rw (eq-eqb i g e)

  pub row_miss : (q : List ℕ) (g : ℕ) (p : List ℕ) (i : ℕ) → ¬ (i ≡ g) → C q (g ∷ p) i ≡ C (q ++ (g ∷ [])) p i
  unfolding chain_row
  row_miss q g p i e = rw (ne_eqb i g e)

  pub row_le : (q p : List ℕ) (i : ℕ) → C q p i ⊆ R q i
  row_le q [] i = rw (row_none q i) (zero_sub (R q i))
  row_le q (g ∷ p) i = go (ℕ_discrete i g) (row_le (q ++ (g ∷ [])) p i)
    where
      go : Dec (i ≡ g) → C (q ++ (g ∷ [])) p i ⊆ R (q ++ (g ∷ [])) i → C q (g ∷ p) i ⊆ R q i
      go (yes e) ih = rw (row_hit q g p i e, e) (sub_refl (R q g))
      go (no e) ih = rw (row_miss q g p i e) (sub_trans (C (q ++ (g ∷ [])) p i) (R (q ++ (g ∷ [])) i) (R q i) ih (step_left rows q g i))

  -- every row lies under that of the first pick
  pub row_under : (q : List ℕ) (g : ℕ) (p : List ℕ) (i : ℕ) → C q (g ∷ p) i ⊆ R q g
  row_under q g p i = go (ℕ_discrete i g)
    where
      go : Dec (i ≡ g) → C q (g ∷ p) i ⊆ R q g
      go (yes e) = rw (row_hit q g p i e) (sub_refl (R q g))
      go (no e) = rw (row_miss q g p i e) (sub_trans (C (q ++ (g ∷ [])) p i) (R (q ++ (g ∷ [])) i) (R q g) (row_le (q ++ (g ∷ [])) p i) (step_right rows q g i))

  rows_nested : (q p : List ℕ) (i j : ℕ) → Nested (C q p i) (C q p j)
  rows_nested q [] i j = inl (rw (row_none q i) (zero_sub (C q [] j)))
  rows_nested q (g ∷ p) i j = go (ℕ_discrete i g) (ℕ_discrete j g) (rows_nested (q ++ (g ∷ [])) p i j)
    where
      go : Dec (i ≡ g) → Dec (j ≡ g) → Nested (C (q ++ (g ∷ [])) p i) (C (q ++ (g ∷ [])) p j) → Nested (C q (g ∷ p) i) (C q (g ∷ p) j)
      go (yes e) d ih = inr (rw (row_hit q g p i e) (row_under q g p j))
      go (no e) (yes d) ih = inl (rw (row_hit q g p j d) (row_under q g p i))
      go (no e) (no d) ih = rw (row_miss q g p i e, row_miss q g p j d) ih

  -- ---- the chain of picks
  pub length-chain_of : (p : List ℕ) → length (chain_of rows p) ≡ length rows
  unfolding chain_of
  length-chain_of p = length-tabulate (chain_row rows [] p) (length rows)

  pub row-chain_of : (p : List ℕ) (i : ℕ) → row (chain_of rows p) i ≡ C [] p i
  unfolding chain_of common
  row-chain_of p i = go (dec_lt i (length rows))
    where
      go : Dec (i < length rows) → row (chain_of rows p) i ≡ C [] p i
      go (yes l) = get_or-tabulate (chain_row rows [] p) (length rows) i l
      go (no l) =
          row_past (chain_of rows p) i (omega (arith, length-chain_of p))
          ∙ sym (sub_zero (C [] p i) (rw (← remainder_past rows [] i (omega arith)) (row_le [] p i)))

  pub chain_of_within : (p : List ℕ) → Within rows (chain_of rows p)
  unfolding common
  chain_of_within p = sub_within rows (chain_of rows p) (length-chain_of p) (λ i. rw (row-chain_of p i) (row_le [] p i))

  pub chain_of_chain : (p : List ℕ) → IsChain (chain_of rows p)
  chain_of_chain p = nested_chain (chain_of rows p) (λ i j. rw (row-chain_of p i, row-chain_of p j) (rows_nested [] p i j))

  -- ---- picks in two parts
  append_un : (a q p : List ℕ) (i : ℕ) → Un q i → C a (q ++ p) i ≡ C (a ++ q) p i
  append_un a [] p i u = rw (append-nil a)
  append_un a (g ∷ q) p i u = row_miss a g (q ++ p) i (un_head q g i u) ∙ append_un (a ++ (g ∷ [])) q p i (un_tail q g i u) ∙ rw (append_snoc a g q)

  append_in : (a q p : List ℕ) (i : ℕ) → T (is_in i q) → C a (q ++ p) i ≡ C a q i
  append_in a [] p i t = absurd (not_mem_nil i t)
  append_in a (g ∷ q) p i t = go (ℕ_discrete i g) (append_in (a ++ (g ∷ [])) q p i)
    where
      go : Dec (i ≡ g) → (T (is_in i q) → C (a ++ (g ∷ [])) (q ++ p) i ≡ C (a ++ (g ∷ [])) q i) → C a (g ∷ (q ++ p)) i ≡ C a (g ∷ q) i
      go (yes e) ih = row_hit a g (q ++ p) i e ∙ sym (row_hit a g q i e)
      go (no e) ih = row_miss a g (q ++ p) i e ∙ ih (is_in_tail q g i e t) ∙ sym (row_miss a g q i e)

  -- ---- the chain of one pick more, as a store to its row
  pub row_unpicked : (p : List ℕ) (i : ℕ) → Un p i → row (chain_of rows p) i ≡ 0
  row_unpicked p i u = row-chain_of p i ∙ ap (λ (x : List ℕ). C [] x i) (sym (append-nil p)) ∙ append_un [] p [] i u ∙ row_none p i

  pub chain_of_snoc : (p : List ℕ) (g : ℕ) → Un p g → g < length rows
      → chain_of rows (p ++ (g ∷ [])) ≡ set (chain_of rows p) g (remainder rows p g)
  chain_of_snoc p g u l =
      ext_get_or 0 (chain_of rows p') (set (chain_of rows p) g (R p g))
      (length-chain_of p' ∙ sym (length-set (chain_of rows p) g (R p g) ∙ length-chain_of p)) (λ i b. at i (ℕ_discrete i g) (test (is_in i p)))
    where
      p' : List ℕ
      p' = p ++ (g ∷ [])

      at : (i : ℕ) → Dec (i ≡ g) → T (is_in i p) ⊎ Un p i → row (chain_of rows p') i ≡ row (set (chain_of rows p) g (R p g)) i
      at i (yes e) d =
          ap (row (chain_of rows p')) e ∙ row-chain_of p' g ∙ append_un [] p (g ∷ []) g u ∙ row_hit p g [] g refl
          ∙ sym (ap (row (set (chain_of rows p) g (R p g))) e ∙ get_or-set_same (chain_of rows p) g (R p g) 0 (omega (arith, length-chain_of p)))
      at i (no e) (inl t) =
          row-chain_of p' i ∙ append_in [] p (g ∷ []) i t ∙ sym (get_or-set_other (chain_of rows p) g i (R p g) 0 e ∙ row-chain_of p i)
      at i (no e) (inr t) =
          row_unpicked p' i (un_snoc p g i t e) ∙ sym (get_or-set_other (chain_of rows p) g i (R p g) 0 e ∙ row_unpicked p i t)
