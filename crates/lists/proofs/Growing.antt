-- Growing a chain: each time the lowest candidate whose remainder contains every row of the chain that is not picked
-- yet (`grow`). The greedy choice is here and not in specs/, since it only proves the definition, `FirstContaining`.
--
-- In order: the choice, and its turns (`grow_end`, `grow_more`); there is one to make unless there is no candidate at
-- all (`grow_pick`); every maximal chain that contains the given one starts with such a candidate, so with the same
-- one or a later (`grows`); hence the chain of the choices is the first in gauge order (`grow_first`), and no other
-- set is (`first_unique`).
use mathlib.Core.Path.{◌≡◌, refl, sym, ap, ◌∙◌, subst}
use mathlib.Core.Logic.{◌⊎◌, inl, inr, ◌↔◌}
use mathlib.Core.Bool.{Bool, ◌&&◌, ◌||◌}
use mathlib.Core.Option.{none, some}
use mathlib.Core.List.{List, [], ◌∷◌, ◌++◌, head?, Memᴰ}
use Prim.Native.Nat.{ℕ, zero, suc, ◌≤◌, ◌<◌}
use native.Mathlib.Decide.{ℕ_discrete, dec_lt}
use native.Mathlib.Omega.{arith}
use lib.Dec.{T, T_not, eqb, eqb→eq}
use lib.ListN.{length}
use Rattle.sets.specs.Sets.{meet, ◌⊆◌, is_subset}
use Rattle.sets.specs.Lists.{all_below}
use Rattle.sets.proofs.Order.{sub_refl, sub_trans, sub_zero, zero_sub, ones_eq}
use Rattle.sets.proofs.Tabulated.{all_at, all_of}
use Rattle.table.specs.Pairs.{row, Within}
use Rattle.table.specs.Chains.{IsChain, IsMaximal}
use Rattle.table.proofs.Places.{row_past, within_sub, sub_within}
use Rattle.table.proofs.Nesting.{Nested}
use Rattle.rules.specs.Sequences.{Before}
use Rattle.rules.proofs.Sequences.{before_irrefl, before_trans}
use Rattle.lists.specs.PickSequence.{is_in, score}
use Rattle.lists.specs.ByNumber.{ComesBefore}
use Rattle.lists.specs.ByNumber.{pick_seq}
use Rattle.lists.specs.Lists.{Earlier}
use Rattle.lists.specs.Growing.{FirstContaining}
use Rattle.lists.specs.Picks.{remainder, select}
use Rattle.lists.specs.ByNumber.{candidate, candidates}
use Rattle.lists.specs.OnTable.{chain_row, chain_of}
use Rattle.sets.proofs.Tests.{and_l, and_r, and_i, or_l, or_r, or_e, test, eq→eqb}
use Rattle.lists.proofs.Unpicked.{Un, un_nil, un_left, un_ne, un_snoc, free, free_nil, free_drop}
use Rattle.lists.proofs.Selecting.{select_nil, head_least, mem_select, select_ascends}
use Rattle.lists.proofs.Taking.{next, all_empty, next-in, next-filled, next-max}
use Rattle.lists.proofs.Candidates.{Cand, cand-of, of-cand, mem_candidates, no_candidate, LeafFrom, IsLeaf, leaf_from, leaf_to}
use Rattle.lists.proofs.Existence.{candidate_over}
use Rattle.lists.proofs.ChainRows.{row_hit, row_miss, row_under, row-chain_of, length-chain_of}
use Rattle.lists.proofs.Maximal.{Suits, suits_next, chain_suits, stop_rows, no_free, leaf_maximal, maximal_leaf, maximal_chain_of, leaf_pick_seq}

-- every row of s that is not picked lies within the remainder of g
unfoldable pub covers : List ℕ → List ℕ → List ℕ → ℕ → Bool
covers rows s q g = all_below (λ i. is_in i q || is_subset (row s i) (remainder rows q g)) (length rows)

-- g may be picked next: a candidate that covers s
unfoldable pub fitting : List ℕ → List ℕ → List ℕ → ℕ → Bool
fitting rows s q g = candidate rows q g && covers rows s q g

-- up to n more picks, after q: each time the lowest that may be picked
unfoldable pub grow_from : List ℕ → List ℕ → List ℕ → ℕ → List ℕ
grow_from rows s q zero = []
grow_from rows s q (suc n) =
    elim (head? (select (fitting rows s q) (length rows))) [ none ↦ [] | some g ↦ g ∷ grow_from rows s (q ++ (g ∷ [])) n ]

unfoldable pub grow : List ℕ → List ℕ → List ℕ
grow rows s = grow_from rows s [] (length rows)

grow_none : (rows s q : List ℕ) → grow_from rows s q 0 ≡ []
unfolding grow_from
grow_none rows s q = refl

pub grow_end : (rows s q : List ℕ) (n : ℕ) → head? (select (fitting rows s q) (length rows)) ≡ none → grow_from rows s q (suc n) ≡ []
unfolding grow_from
grow_end rows s q n e = rw (e, grow_from)

pub grow_more : (rows s q : List ℕ) (n g : ℕ) → head? (select (fitting rows s q) (length rows)) ≡ some g
    → grow_from rows s q (suc n) ≡ g ∷ grow_from rows s (q ++ (g ∷ [])) n
unfolding grow_from
grow_more rows s q n g e = rw (e, grow_from)

-- p is q, or comes before it
abbrev UpTo : List ℕ → List ℕ → Type 0
UpTo p q = (p ≡ q) ⊎ Before p q

nil_up : (q : List ℕ) → UpTo [] q
nil_up [] = inl refl
nil_up (y ∷ q) = inr tt

cons_up : (g h : ℕ) (p q : List ℕ) → g ≡ h → UpTo p q → UpTo (g ∷ p) (h ∷ q)
cons_up g h p q d (inl e) = inl (cc)
cons_up g h p q d (inr b) = inr (inr (d, b))

module _ (rows : List ℕ) where
  abbrev R : List ℕ → ℕ → ℕ
  R q i = remainder rows q i

  abbrev C : List ℕ → List ℕ → ℕ → ℕ
  C q p i = chain_row rows q p i

  -- unless there is no candidate, some candidate's remainder contains all of the chain that is not picked
  grow_pick : (s q : List ℕ) → Suits rows q (row s) → (candidates rows q ≡ []) ⊎ ((g : ℕ) × Cand rows q g × ((i : ℕ) → Un q i → row s i ⊆ R q g))
  grow_pick s q f = go (ℕ_discrete (score s q m) 0)
    where
      m : ℕ
      m = next s q

      Out : Type 0
      Out = (candidates rows q ≡ []) ⊎ ((g : ℕ) × Cand rows q g × ((i : ℕ) → Un q i → row s i ⊆ R q g))

      any : (k : List ℕ) → candidates rows q ≡ k → ((i : ℕ) → Un q i → row s i ≡ 0) → Out
      any [] e z = inl e
      any (g ∷ k) e z = inr (g, (mem_candidates rows q g).0 (rw e (Memᴰ.head refl)), λ i u. rw (z i u) (zero_sub (R q g)))

      go : Dec (score s q m ≡ 0) → Out
      go (yes e) = any (candidates rows q) refl (all_empty s q e)
      go (no e) = inr (c.0, c.1, λ i u. sub_trans (row s i) (row s m) (R q c.0) (below i u (f.nested i m u um)) c.2)
        where
          um : Un q m
          um = (next-in s q e).0

          below : (i : ℕ) → Un q i → Nested (row s i) (row s m) → row s i ⊆ row s m
          below i u (inl h) = h
          below i u (inr h) = rw (ones_eq (row s m) (row s i) h (next-max s q e i u)) (sub_refl (row s i))

          c : (g : ℕ) × Cand rows q g × (row s m ⊆ R q g)
          c = candidate_over rows q (row s m) m um (f.inside m um)
              (λ z. next-filled s q e (sub_zero (row s m) (rw z at (f.inside m um))))

module _ (rows s : List ℕ) (w : Within rows s) where
  covers_spec : (q : List ℕ) (g : ℕ) → T (covers rows s q g) ↔ ((i : ℕ) → Un q i → row s i ⊆ remainder rows q g)
  unfolding covers is_subset
  covers_spec q g = (λ t i u. at t i u (dec_lt i (length rows)), λ f. all_of ok (length rows) (λ i l. put f i (test (is_in i q))))
    where
      ok : ℕ → Bool
      ok = λ i. is_in i q || eqb (meet (row s i) (remainder rows q g)) (row s i)

      at : T (all_below ok (length rows)) → (i : ℕ) → Un q i → Dec (i < length rows) → row s i ⊆ remainder rows q g
      at t i u (no l) = subst (λ (x : ℕ). x ⊆ remainder rows q g) (sym (row_past s i (omega (arith, w.size)))) (zero_sub (remainder rows q g))
      at t i u (yes l) = pick (or_e (is_in i q) (eqb (meet (row s i) (remainder rows q g)) (row s i)) (all_at ok (length rows) i t l))
        where
          pick : T (is_in i q) ⊎ T (eqb (meet (row s i) (remainder rows q g)) (row s i)) → row s i ⊆ remainder rows q g
          pick (inl m) = absurd (T_not (is_in i q) u m)
          pick (inr e) = eqb→eq (meet (row s i) (remainder rows q g)) (row s i) e

      put : ((i : ℕ) → Un q i → row s i ⊆ remainder rows q g) → (i : ℕ) → T (is_in i q) ⊎ Un q i → T (ok i)
      put f i (inl m) = or_l (is_in i q) (eqb (meet (row s i) (remainder rows q g)) (row s i)) m
      put f i (inr u) = or_r (is_in i q) (eqb (meet (row s i) (remainder rows q g)) (row s i)) (eq→eqb (meet (row s i) (remainder rows q g)) (row s i) (f i u))

  fitting_spec : (q : List ℕ) (g : ℕ) → T (fitting rows s q g) ↔ (Cand rows q g × ((i : ℕ) → Un q i → row s i ⊆ remainder rows q g))
  unfolding fitting
  fitting_spec q g = (
    λ t. (cand-of rows q g (and_l (candidate rows q g) (covers rows s q g) t), (covers_spec q g).0 (and_r (candidate rows q g) (covers rows s q g) t)),
    λ h. and_i (candidate rows q g) (covers rows s q g) (of-cand rows q g h.0) ((covers_spec q g).1 h.1),
  )

  -- p is a leaf below q whose chain contains s, and no such leaf comes before it
  First : List ℕ → List ℕ → Type 0
  First q p =
      LeafFrom rows q p × ((i : ℕ) → Un q i → row s i ⊆ C rows q p i)
      × ((p' : List ℕ) → LeafFrom rows q p' → ((i : ℕ) → Un q i → row s i ⊆ C rows q p' i) → UpTo p p')

  first_stop : (q : List ℕ) → Suits rows q (row s) → candidates rows q ≡ [] → First q []
  unfolding First
  first_stop q f e = (e, λ i u. rw (stop_rows rows q (row s) e f i u) (sub_refl (row s i)), λ p' l v. nil_up p')

  grows : (q : List ℕ) (n : ℕ) → Suits rows q (row s) → free q (length rows) ≤ n → First q (grow_from rows s q n)
  unfolding First
  grows q zero f h = rw (grow_none rows s q) (first_stop q f (no_free rows q h))
  grows q (suc n) f h = go (select (fitting rows s q) (length rows)) refl (λ g. grows (q ++ (g ∷ [])) n)
    where
      go : (l : List ℕ) → select (fitting rows s q) (length rows) ≡ l
          → ((g : ℕ) → Suits rows (q ++ (g ∷ [])) (row s) → free (q ++ (g ∷ [])) (length rows) ≤ n → First (q ++ (g ∷ [])) (grow_from rows s (q ++ (g ∷ [])) n))
          → First q (grow_from rows s q (suc n))
      go [] e ih = rw (grow_end rows s q n (ap head? e)) (first_stop q f (stop (grow_pick rows s q f)))
        where
          stop : (candidates rows q ≡ []) ⊎ ((g : ℕ) × Cand rows q g × ((i : ℕ) → Un q i → row s i ⊆ remainder rows q g)) → candidates rows q ≡ []
          stop (inl k) = k
          stop (inr r) = absurd (select_nil (fitting rows s q) (length rows) r.0 e r.1.below ((fitting_spec q r.0).1 (r.1, r.2)))
      go (g ∷ l) e ih = rw (grow_more rows s q n g (ap head? e)) ((c, r.0), (λ i u. at i u (ℕ_discrete i g)), least)
        where
          ok : Cand rows q g × ((i : ℕ) → Un q i → row s i ⊆ remainder rows q g)
          ok = (fitting_spec q g).0 ((mem_select (fitting rows s q) (length rows) g).0 (rw e (Memᴰ.head refl))).1

          c : Cand rows q g
          c = ok.0

          q' : List ℕ
          q' = q ++ (g ∷ [])

          p : List ℕ
          p = grow_from rows s q' n

          r : LeafFrom rows q' p × ((i : ℕ) → Un q' i → row s i ⊆ C rows q' p i)
              × ((p' : List ℕ) → LeafFrom rows q' p' → ((i : ℕ) → Un q' i → row s i ⊆ C rows q' p' i) → UpTo p p')
          r = ih g (suits_next rows q (row s) g f ok.1) (omega (arith, free_drop q g (length rows) c.fresh c.below))

          at : (i : ℕ) → Un q i → Dec (i ≡ g) → row s i ⊆ C rows q (g ∷ p) i
          at i u (yes d) = rw (row_hit rows q g p i d) (ok.1 i u)
          at i u (no d) = rw (row_miss rows q g p i d) (r.1 i (un_snoc q g i u d))

          least : (p' : List ℕ) → LeafFrom rows q p' → ((i : ℕ) → Un q i → row s i ⊆ C rows q p' i) → UpTo (g ∷ p) p'
          least [] k v = absurd (no_candidate rows q g k c)
          least (g' ∷ p') k v = order (ℕ_discrete g g')
            where
              covered : (i : ℕ) → Un q i → row s i ⊆ remainder rows q g'
              covered i u = sub_trans (row s i) (C rows q (g' ∷ p') i) (remainder rows q g') (v i u) (row_under rows q g' p' i)

              in_list : Memᴰ g' (g ∷ l)
              in_list = rw (← e) ((mem_select (fitting rows s q) (length rows) g').1 (k.0.below, (fitting_spec q g').1 (k.0, covered)))

              low : g ≤ g'
              low = head_least g l g' (rw e at (select_ascends (fitting rows s q) (length rows))) in_list

              same : g' ≡ g → UpTo p p'
              same d = r.2 p' (subst (λ (x : ℕ). LeafFrom rows (q ++ (x ∷ [])) p') d k.1) (λ i u.
                  rw (← row_miss rows q g p' i (un_ne q g i u)) (subst (λ (x : ℕ). row s i ⊆ C rows q (x ∷ p') i) d (v i (un_left q g i u))))

              order : Dec (g ≡ g') → UpTo (g ∷ p) (g' ∷ p')
              order (yes d) = cons_up g g' p p' d (same (sym d))
              order (no d) = inr (inl (omega (arith, low)))

  module _ (h : IsChain s) where
    grown : First [] (grow rows s)
    unfolding grow
    grown = grows [] (length rows) (chain_suits rows s w h) (omega (arith, free_nil (length rows)))

    -- the greedy choice gives the first maximal chain that contains s
    pub grow_first : FirstContaining rows pick_seq s (chain_of rows (grow rows s))
    unfolding First
    grow_first = record {
      maximal = leaf_maximal rows (grow rows s) leaf;
      contains =
          sub_within (chain_of rows (grow rows s)) s (w.size ∙ sym (length-chain_of rows (grow rows s)))
          (λ i. rw (row-chain_of rows (grow rows s) i) (grown.1 i (un_nil i)));
      first = λ y m k. order y m (grown.2 (pick_seq y) (leaf_from rows (pick_seq y) (maximal_leaf rows y m)) (λ i u. inside y m k i));
    }
      where
        leaf : IsLeaf rows (grow rows s)
        leaf = leaf_to rows (grow rows s) grown.0

        inside : (y : List ℕ) → IsMaximal rows y → Within y s → (i : ℕ) → row s i ⊆ C rows [] (pick_seq y) i
        inside y m k i = rw (← row-chain_of rows (pick_seq y) i, maximal_chain_of rows y m) (within_sub y s k i)

        order : (y : List ℕ) → IsMaximal rows y → UpTo (grow rows s) (pick_seq y) → (y ≡ chain_of rows (grow rows s)) ⊎ ComesBefore (chain_of rows (grow rows s)) y
        order y m (inl e) = inl (sym (maximal_chain_of rows y m) ∙ ap (chain_of rows) (sym e))
        order y m (inr b) = inr (rw (leaf_pick_seq rows (grow rows s) leaf) b)

pub first_unique : (rows : List ℕ) (key : List ℕ → List ℕ) (s x y : List ℕ) → FirstContaining rows key s x → FirstContaining rows key s y → x ≡ y
first_unique rows key s x y a b = go (a.first y b.maximal b.contains) (b.first x a.maximal a.contains)
  where
    go : (y ≡ x) ⊎ Earlier key x y → (x ≡ y) ⊎ Earlier key y x → x ≡ y
    go (inl e) k = sym e
    go (inr h) (inl e) = e
    go (inr h) (inr k) = absurd (before_irrefl (key x) (before_trans (key x) (key y) (key x) h k))
