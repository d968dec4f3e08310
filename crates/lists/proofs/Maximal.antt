-- Leaves and maximal chains, one to one by pick sequence. Each theorem is an induction over the picks, for rows given as a function.
--
-- In order: rows that suit some picks (`Suits`); the chain of a leaf is maximal (`leaf_maximal`); rows that cannot be larger (`Top`), whose next pick
-- is a candidate; the pick sequence of a maximal chain is a leaf (`maximal_leaf`), of which it is the chain (`maximal_chain_of`); and the pick sequence
-- of a leaf's chain is the leaf (`leaf_pick_seq`).
use mathlib.Core.Path.{◌≡◌, refl, sym, ap, ◌∙◌}
use mathlib.Core.Logic.{◌⊎◌, inl, inr}
use mathlib.Core.Bool.{cond}
use mathlib.Core.List.{List, [], ◌∷◌, ◌++◌}
use Prim.Native.Nat.{ℕ, zero, suc, ◌≤◌, ◌<◌}
use native.Mathlib.Decide.{ℕ_discrete, dec_lt}
use native.Mathlib.Omega.{arith}
use lib.Dec.{T, eqb}
use lib.ListN.{length}
use lib.Seq.{ext_get_or}
use lib.Count.{ones}
use borrow.Author.Tests.{eq-eqb, ne_eqb}
use Rattle.sets.specs.Sets.{◌⊆◌}
use Rattle.sets.specs.Lists.{tabulate}
use Rattle.sets.proofs.Order.{sub_refl, sub_trans, sub_antisym, sub_zero, zero_sub, ones_mono, ones_eq}
use Rattle.sets.proofs.Tabulated.{length-tabulate, get_or-tabulate}
use Rattle.table.specs.Pairs.{row, Within}
use Rattle.table.specs.Chains.{IsChain, IsMaximal}
use Rattle.table.proofs.Places.{row_past, within_sub, sub_within}
use Rattle.table.proofs.Nesting.{Nested, chain_nested, nested_chain}
use Rattle.lists.specs.PickSequence.{is_in, score}
use Rattle.lists.specs.ByNumber.{take_from, pick_seq}
use Rattle.lists.specs.Picks.{common, remainder}
use Rattle.lists.specs.ByNumber.{candidates}
use Rattle.lists.specs.OnTable.{chain_row, chain_of}
use Rattle.sets.proofs.Tests.{test}
use Rattle.lists.proofs.Unpicked.{Un, un_nil, un_left, un_ne, un_snoc, free, free_nil, free_drop}
use Rattle.lists.proofs.Remainders.{step_left, step_right, step_glb, remainder_past}
use Rattle.lists.proofs.Taking.{score_un, score_in, next, next_is, take_none, take_stop, take_more, all_empty, next-in, next-filled, next-max}
use Rattle.lists.proofs.Taking.{next-first}
use Rattle.lists.proofs.Candidates.{Cand, none_candidate, LeafFrom, IsLeaf, leaf_from, leaf_to}
use Rattle.lists.proofs.Existence.{filled_below, ones_pos, nothing_left}
use Rattle.lists.proofs.ChainRows.{row_none, row_hit, row_miss, row_le, row_under, length-chain_of, row-chain_of, chain_of_within, chain_of_chain}

module _ (rows : List ℕ) where
  abbrev R : List ℕ → ℕ → ℕ
  R q i = remainder rows q i

  abbrev C : List ℕ → List ℕ → ℕ → ℕ
  C q p i = chain_row rows q p i

  -- on the indices not picked, t is nested and within the remainders
  pub record Suits (q : List ℕ) (t : ℕ → ℕ) : Type 0 where
    pub nested : (i j : ℕ) → Un q i → Un q j → Nested (t i) (t j)
    pub inside : (i : ℕ) → Un q i → t i ⊆ R q i

  pub suits_next : (q : List ℕ) (t : ℕ → ℕ) (g : ℕ) → Suits q t → ((i : ℕ) → Un q i → t i ⊆ R q g) → Suits (q ++ (g ∷ [])) t
  suits_next q t g f s = record {
    nested = λ i j u v. f.nested i j (un_left q g i u) (un_left q g j v);
    inside = λ i u. step_glb rows q g i (t i) (f.inside i (un_left q g i u)) (s i (un_left q g i u));
  }

  -- where the row of a candidate is full, all others lie under it
  under_full : (q : List ℕ) (t : ℕ → ℕ) (g : ℕ) → Suits q t → Cand rows q g → t g ≡ R q g → (i : ℕ) → Un q i → t i ⊆ R q g
  under_full q t g f c e i u = go (f.nested i g u c.fresh)
    where
      go : Nested (t i) (t g) → t i ⊆ R q g
      go (inl h) = rw (← e) h
      go (inr h) =
          let hi : R q g ⊆ R q i = sub_trans (R q g) (t i) (R q i) (rw (← e) h) (f.inside i u) in
          rw (← c.top i u hi) (f.inside i u)

  leaf_largest : (q p : List ℕ) (t : ℕ → ℕ) → LeafFrom rows q p → Suits q t → ((i : ℕ) → Un q i → C q p i ⊆ t i)
      → (i : ℕ) → Un q i → t i ≡ C q p i
  leaf_largest q [] t l f s i u =
      sub_zero (t i) (rw (← nothing_left rows q l i u) (f.inside i u)) ∙ sym (row_none rows q i)
  leaf_largest q (g ∷ p) t l f s i u =
      go (ℕ_discrete i g) (leaf_largest (q ++ (g ∷ [])) p t l.1 (suits_next q t g f under) more i)
    where
      c : Cand rows q g
      c = l.0

      full : t g ≡ R q g
      full = sub_antisym (t g) (R q g) (f.inside g c.fresh) (rw (← row_hit rows q g p g refl) (s g c.fresh))

      under : (j : ℕ) → Un q j → t j ⊆ R q g
      under = under_full q t g f c full

      more : (j : ℕ) → Un (q ++ (g ∷ [])) j → C (q ++ (g ∷ [])) p j ⊆ t j
      more j v = rw (← row_miss rows q g p j (un_ne q g j v)) (s j (un_left q g j v))

      go : Dec (i ≡ g) → (Un (q ++ (g ∷ [])) i → t i ≡ C (q ++ (g ∷ [])) p i) → t i ≡ C q (g ∷ p) i
      go (yes e) ih = ap t e ∙ full ∙ sym (row_hit rows q g p i e)
      go (no e) ih = ih (un_snoc q g i u e) ∙ sym (row_miss rows q g p i e)

  pub chain_suits : (s : List ℕ) → Within rows s → IsChain s → Suits [] (row s)
  unfolding common
  chain_suits s w h = record { nested = λ i j u v. chain_nested s h i j; inside = λ i u. within_sub rows s w i }

  pub leaf_maximal : (p : List ℕ) → IsLeaf rows p → IsMaximal rows (chain_of rows p)
  leaf_maximal p l = record { within = chain_of_within rows p; chain = chain_of_chain rows p; largest = largest }
    where
      largest : (s : List ℕ) → Within rows s → IsChain s → Within s (chain_of rows p) → s ≡ chain_of rows p
      largest s w h k = ext_get_or 0 s (chain_of rows p) (w.size ∙ sym (length-chain_of rows p)) (λ i b.
          leaf_largest [] p (row s) (leaf_from rows p l) (chain_suits s w h)
          (λ j u. rw (← row-chain_of rows p j) (within_sub s (chain_of rows p) k j)) i (un_nil i)
          ∙ sym (row-chain_of rows p i))

  -- ---- a maximal chain is the chain of its pick sequence, which is a leaf

  -- t with row g replaced by x
  put : (ℕ → ℕ) → ℕ → ℕ → ℕ → ℕ
  put t g x i = cond (eqb i g) x (t i)

  put_hit : (t : ℕ → ℕ) (g x i : ℕ) → i ≡ g → put t g x i ≡ x
  unfolding put
  put_hit t g x i e = rw (eq-eqb i g e)

  put_miss : (t : ℕ → ℕ) (g x i : ℕ) → ¬ (i ≡ g) → put t g x i ≡ t i
  unfolding put
  put_miss t g x i e = rw (ne_eqb i g e)

  -- filling row g of what fits once g is picked
  put_suits : (q : List ℕ) (t : ℕ → ℕ) (g : ℕ) → Suits (q ++ (g ∷ [])) t → Suits q (put t g (R q g))
  put_suits q t g f = record { nested = λ i j u v. nest i j u v (ℕ_discrete i g) (ℕ_discrete j g); inside = λ i u. ins i u (ℕ_discrete i g) }
    where
      P : ℕ → ℕ
      P = put t g (R q g)

      low : (i : ℕ) → Un q i → Dec (i ≡ g) → P i ⊆ R q g
      low i u (yes e) = rw (put_hit t g (R q g) i e) (sub_refl (R q g))
      low i u (no e) =
          rw (put_miss t g (R q g) i e) (sub_trans (t i) (R (q ++ (g ∷ [])) i) (R q g) (f.inside i (un_snoc q g i u e)) (step_right rows q g i))

      nest : (i j : ℕ) → Un q i → Un q j → Dec (i ≡ g) → Dec (j ≡ g) → Nested (P i) (P j)
      nest i j u v (yes e) d = inr (rw (put_hit t g (R q g) i e) (low j v d))
      nest i j u v (no e) (yes d) = inl (rw (put_hit t g (R q g) j d) (low i u (no e)))
      nest i j u v (no e) (no d) = rw (put_miss t g (R q g) i e, put_miss t g (R q g) j d) (f.nested i j (un_snoc q g i u e) (un_snoc q g j v d))

      ins : (i : ℕ) → Un q i → Dec (i ≡ g) → P i ⊆ R q i
      ins i u (yes e) = rw (put_hit t g (R q g) i e, e) (sub_refl (R q g))
      ins i u (no e) =
          rw (put_miss t g (R q g) i e) (sub_trans (t i) (R (q ++ (g ∷ [])) i) (R q i) (f.inside i (un_snoc q g i u e)) (step_left rows q g i))

  -- t fits after the picks q, and nothing that fits contains it
  record Top (q : List ℕ) (t : ℕ → ℕ) : Type 0 where
    fits : Suits q t
    largest : (t' : ℕ → ℕ) → Suits q t' → ((i : ℕ) → Un q i → t i ⊆ t' i) → (i : ℕ) → Un q i → t' i ≡ t i

  -- a row whose remainder contains all of t is full
  fill : (q : List ℕ) (t : ℕ → ℕ) (h : ℕ) → Top q t → Un q h → ((i : ℕ) → Un q i → t i ⊆ R q h) → t h ≡ R q h
  fill q t h m u s =
      sym (m.largest (put t h (R q h)) (put_suits q t h (suits_next q t h m.fits s)) (λ i v. grow i v (ℕ_discrete i h)) h u)
      ∙ put_hit t h (R q h) h refl
    where
      grow : (i : ℕ) → Un q i → Dec (i ≡ h) → t i ⊆ put t h (R q h) i
      grow i v (yes e) = rw (put_hit t h (R q h) i e) (s i v)
      grow i v (no e) = rw (put_miss t h (R q h) i e) (sub_refl (t i))

  top_next : (q : List ℕ) (t : ℕ → ℕ) (g : ℕ) → Top q t → t g ≡ R q g → ((i : ℕ) → Un q i → t i ⊆ R q g) → Top (q ++ (g ∷ [])) t
  top_next q t g m e s = record { fits = suits_next q t g m.fits s; largest = largest }
    where
      largest : (t' : ℕ → ℕ) → Suits (q ++ (g ∷ [])) t' → ((i : ℕ) → Un (q ++ (g ∷ [])) i → t i ⊆ t' i) → (i : ℕ) → Un (q ++ (g ∷ [])) i → t' i ≡ t i
      largest t' f k i u =
          sym (put_miss t' g (R q g) i (un_ne q g i u))
          ∙ m.largest (put t' g (R q g)) (put_suits q t' g f) (λ j v. grow j v (ℕ_discrete j g)) i (un_left q g i u)
        where
          grow : (j : ℕ) → Un q j → Dec (j ≡ g) → t j ⊆ put t' g (R q g) j
          grow j v (yes d) = rw (put_hit t' g (R q g) j d) (s j v)
          grow j v (no d) = rw (put_miss t' g (R q g) j d) (k j (un_snoc q g j v d))

  -- a largest row of t that is not empty is that of a candidate, and is full
  top_pick : (q : List ℕ) (t : ℕ → ℕ) (g : ℕ) → Top q t → Un q g → ¬ (t g ≡ 0) → ((i : ℕ) → Un q i → ones (t i) ≤ ones (t g))
      → ((i : ℕ) → Un q i → i < g → ones (t i) < ones (t g)) → Cand rows q g × (t g ≡ R q g) × ((i : ℕ) → Un q i → t i ⊆ R q g)
  top_pick q t g m u ne most lowest = (record { below = filled_below rows q g filled; fresh = u; filled = filled; top = top; first = first }, full, under)
    where
      below : (i : ℕ) → Un q i → Nested (t i) (t g) → t i ⊆ t g
      below i v (inl h) = h
      below i v (inr h) = rw (ones_eq (t g) (t i) h (most i v)) (sub_refl (t i))

      under : (i : ℕ) → Un q i → t i ⊆ R q g
      under i v = sub_trans (t i) (t g) (R q g) (below i v (m.fits.nested i g v u)) (m.fits.inside g u)

      full : t g ≡ R q g
      full = fill q t g m u under

      filled : ¬ (R q g ≡ 0)
      filled e = ne (full ∙ e)

      -- a remainder that contains g's is full too
      also : (h : ℕ) → Un q h → R q g ⊆ R q h → t h ≡ R q h
      also h v c = fill q t h m v (λ i w. sub_trans (t i) (R q g) (R q h) (under i w) c)

      top : (h : ℕ) → Un q h → R q g ⊆ R q h → R q h ≡ R q g
      top h v c = sub_antisym (R q h) (R q g) (rw (← also h v c) (under h v)) c

      first : (h : ℕ) → Un q h → h < g → ¬ (R q h ≡ R q g)
      first h v l e = omega (arith, lowest h v l, ap ones (also h v (rw e (sub_refl (R q g))) ∙ e ∙ sym full))

  pub stop_rows : (q : List ℕ) (t : ℕ → ℕ) → candidates rows q ≡ [] → Suits q t → (i : ℕ) → Un q i → C q [] i ≡ t i
  stop_rows q t e f i u = row_none rows q i ∙ sym (sub_zero (t i) (rw (← nothing_left rows q e i u) (f.inside i u)))

  pub no_free : (q : List ℕ) → free q (length rows) ≤ 0 → candidates rows q ≡ []
  no_free q h = none_candidate rows q (λ g c. omega (arith, free_drop q g (length rows) c.fresh c.below))

  -- all of t is empty and t is largest: no candidate
  no_top : (q : List ℕ) (t : ℕ → ℕ) → Top q t → ((i : ℕ) → Un q i → t i ≡ 0) → candidates rows q ≡ []
  no_top q t m z = none_candidate rows q (λ g c. c.filled
      (sym (fill q t g m c.fresh (λ i u. rw (z i u) (zero_sub (R q g)))) ∙ z g c.fresh))

  Follows : List ℕ → List ℕ → List ℕ → Type 0
  Follows s q p = LeafFrom rows q p × ((i : ℕ) → Un q i → C q p i ≡ row s i)

  follow : (s q : List ℕ) (n : ℕ) → Top q (row s) → free q (length rows) ≤ n → Follows s q (take_from s q n)
  unfolding Follows
  follow s q zero m h =
      let e : candidates rows q ≡ [] = no_free q h in
      rw (take_none s q) (e, stop_rows q (row s) e m.fits)
  follow s q (suc n) m h = go (ℕ_discrete (score s q g) 0) (follow s (q ++ (g ∷ [])) n)
    where
      g : ℕ
      g = next s q

      t : ℕ → ℕ
      t = row s

      go : Dec (score s q g ≡ 0)
          → (Top (q ++ (g ∷ [])) (row s) → free (q ++ (g ∷ [])) (length rows) ≤ n → Follows s (q ++ (g ∷ [])) (take_from s (q ++ (g ∷ [])) n))
          → Follows s q (take_from s q (suc n))
      go (yes e) ih =
          let k : candidates rows q ≡ [] = no_top q t m (all_empty s q e) in
          rw (take_stop s q n e) (k, stop_rows q t k m.fits)
      go (no e) ih = rw (take_more s q n e) ((a.0, r.0), rows_of)
        where
          a : Cand rows q g × (t g ≡ R q g) × ((i : ℕ) → Un q i → t i ⊆ R q g)
          a = top_pick q t g m (next-in s q e).0 (next-filled s q e) (next-max s q e) (next-first s q e)

          p : List ℕ
          p = take_from s (q ++ (g ∷ [])) n

          r : LeafFrom rows (q ++ (g ∷ [])) p × ((i : ℕ) → Un (q ++ (g ∷ [])) i → C (q ++ (g ∷ [])) p i ≡ row s i)
          r = ih (top_next q t g m a.1 a.2) (omega (arith, free_drop q g (length rows) a.0.fresh a.0.below))

          rows_at : (i : ℕ) → Un q i → Dec (i ≡ g) → C q (g ∷ p) i ≡ t i
          rows_at i u (yes d) = row_hit rows q g p i d ∙ sym (ap t d ∙ a.1)
          rows_at i u (no d) = row_miss rows q g p i d ∙ r.1 i (un_snoc q g i u d)

          rows_of : (i : ℕ) → Un q i → C q (g ∷ p) i ≡ t i
          rows_of i u = rows_at i u (ℕ_discrete i g)

  maximal_top : (s : List ℕ) → IsMaximal rows s → Top [] (row s)
  unfolding common
  maximal_top s m = record { fits = chain_suits s m.within m.chain; largest = largest }
    where
      n : ℕ
      n = length rows

      largest : (t : ℕ → ℕ) → Suits [] t → ((i : ℕ) → Un [] i → row s i ⊆ t i) → (i : ℕ) → Un [] i → t i ≡ row s i
      largest t f k i u = sym (at i (dec_lt i n)) ∙ ap (λ (l : List ℕ). row l i) same
        where
          s' : List ℕ
          s' = tabulate t n

          at : (j : ℕ) → Dec (j < n) → row s' j ≡ t j
          at j (yes l) = get_or-tabulate t n j l
          at j (no l) =
              row_past s' j (omega (arith, length-tabulate t n))
              ∙ sym (sub_zero (t j) (rw (← remainder_past rows [] j (omega arith)) (f.inside j (un_nil j))))

          same : s' ≡ s
          same = m.largest s'
              (sub_within rows s' (length-tabulate t n) (λ j. rw (at j (dec_lt j n)) (f.inside j (un_nil j))))
              (nested_chain s' (λ i j. rw (at i (dec_lt i n), at j (dec_lt j n)) (f.nested i j (un_nil i) (un_nil j))))
              (sub_within s' s (m.within.size ∙ sym (length-tabulate t n)) (λ j. rw (at j (dec_lt j n)) (k j (un_nil j))))

  follows_all : (s : List ℕ) → IsMaximal rows s → Follows s [] (pick_seq s)
  unfolding pick_seq
  follows_all s m = follow s [] (length s) (maximal_top s m) (omega (arith, free_nil (length rows), m.within.size))

  pub maximal_leaf : (s : List ℕ) → IsMaximal rows s → IsLeaf rows (pick_seq s)
  unfolding Follows
  maximal_leaf s m = leaf_to rows (pick_seq s) (follows_all s m).0

  pub maximal_chain_of : (s : List ℕ) → IsMaximal rows s → chain_of rows (pick_seq s) ≡ s
  unfolding Follows
  maximal_chain_of s m =
      ext_get_or 0 (chain_of rows (pick_seq s)) s (length-chain_of rows (pick_seq s) ∙ sym m.within.size)
      (λ i l. row-chain_of rows (pick_seq s) i ∙ (follows_all s m).1 i (un_nil i))

  -- ---- the pick sequence of a leaf's chain is the leaf

  replay : (s q p : List ℕ) (n : ℕ) → LeafFrom rows q p → length s ≡ length rows → ((i : ℕ) → Un q i → row s i ≡ C q p i)
      → free q (length rows) ≤ n → take_from s q n ≡ p
  replay s q [] zero l z f h = take_none s q
  replay s q [] (suc n) l z f h = go (ℕ_discrete (score s q (next s q)) 0)
    where
      go : Dec (score s q (next s q) ≡ 0) → take_from s q (suc n) ≡ []
      go (yes e) = take_stop s q n e
      go (no e) = absurd (next-filled s q e (f (next s q) (next-in s q e).0 ∙ row_none rows q (next s q)))
  replay s q (g ∷ p) zero l z f h = absurd (omega (arith, free_drop q g (length rows) l.0.fresh l.0.below))
  replay s q (g ∷ p) (suc n) l z f h =
      take_more s q n ne ∙ ap (λ (x : ℕ). x ∷ take_from s (q ++ (x ∷ [])) n) is-g
      ∙ ap (λ (r : List ℕ). g ∷ r) (replay s (q ++ (g ∷ [])) p n l.1 z after (omega (arith, free_drop q g (length rows) c.fresh c.below)))
    where
      c : Cand rows q g
      c = l.0

      at_g : row s g ≡ R q g
      at_g = f g c.fresh ∙ row_hit rows q g p g refl

      score-g : score s q g ≡ ones (R q g)
      score-g = score_un s q g c.fresh ∙ ap ones at_g

      low : (j : ℕ) → Un q j → row s j ⊆ R q g
      low j u = rw (f j u) (row_under rows q g p j)

      most : (j : ℕ) → T (is_in j q) ⊎ Un q j → score s q j ≤ score s q g
      most j (inl t) = omega (arith, score_in s q j t)
      most j (inr u) = omega (arith, score_un s q j u, score-g, ones_mono (row s j) (R q g) (low j u))

      tie : (j : ℕ) → Un q j → j < g → Dec (ones (row s j) < ones (R q g)) → score s q j < score s q g
      tie j u k (yes d) = omega (arith, score_un s q j u, score-g)
      tie j u k (no d) =
          let e : row s j ≡ R q g = ones_eq (row s j) (R q g) (low j u) (omega arith) in
          let b : R q g ⊆ R q j = rw (← e, f j u) (row_le rows q (g ∷ p) j) in
          absurd (c.first j u k (c.top j u b))

      lowest : (j : ℕ) → j < g → T (is_in j q) ⊎ Un q j → score s q j < score s q g
      lowest j k (inl t) = omega (arith, score_in s q j t, score-g, ones_pos rows (R q g) c.filled)
      lowest j k (inr u) = tie j u k (dec_lt (ones (row s j)) (ones (R q g)))

      is-g : next s q ≡ g
      is-g = next_is s q g (omega (arith, c.below)) (λ j b. most j (test (is_in j q))) (λ j b. lowest j b (test (is_in j q)))

      ne : ¬ (score s q (next s q) ≡ 0)
      ne e = omega (arith, ap (score s q) is-g, score-g, ones_pos rows (R q g) c.filled)

      after : (i : ℕ) → Un (q ++ (g ∷ [])) i → row s i ≡ C (q ++ (g ∷ [])) p i
      after i u = f i (un_left q g i u) ∙ row_miss rows q g p i (un_ne q g i u)

  pub leaf_pick_seq : (p : List ℕ) → IsLeaf rows p → pick_seq (chain_of rows p) ≡ p
  unfolding pick_seq
  leaf_pick_seq p l =
      replay (chain_of rows p) [] p (length (chain_of rows p)) (leaf_from rows p l) (length-chain_of rows p) (λ i u. row-chain_of rows p i)
      (omega (arith, free_nil (length rows), length-chain_of rows p))
