-- The second theorem of R-2: a maximal chain belongs to some irreducible cover exactly when it holds an essential pair
-- (`irreducible_iff_essential`; Lemma 3 of source document 003), and both theorems together (`conflict_claims`). One way, some pair is held
-- by this member alone (`own_pair`), and the essential pair above it is held by none else. The other way, each pair outside the chain lies in a maximal
-- chain without the essential pair; these and the chain cover the table, and no irreducible part of them can do without the chain.
use mathlib.Core.Path.{◌≡◌, refl, sym, subst}
use mathlib.Core.Logic.{◌⊎◌, inl, inr, ◌↔◌, ◌≢◌}
use mathlib.Core.List.Memᴰ
use mathlib.Core.List.{List, [], ◌∷◌, Memᴰ, List-discrete}
use Prim.Native.Nat.{ℕ}
use native.Mathlib.Decide.{ℕ_discrete}
use Rattle.table.specs.Pairs.{Has}
use Rattle.table.specs.Chains.{IsMaximal}
use Rattle.conflicts.specs.Conflicts.{Includes, Essential, HoldsEssential}
use Rattle.conflicts.specs.Covers.{Together, Cover, Irreducible, InIrreducible, ConflictClaims}
use Rattle.conflicts.proofs.Searching.{has_dec, Pair, pairs_of, mem_pairs, pairs_mem, all_or, pairs_or}
use Rattle.conflicts.proofs.Holding.{Common, no_conflict_common, conflict_apart, include_holds, holds_iff_conflicts}
use Rattle.conflicts.proofs.Essentials.{Lacks, lacks_not, include_or, EssentialAbove, essential_above}
use Rattle.conflicts.proofs.Reducing.{Reduced, reduce}

module _ (r m : List ℕ) where
  -- another member than m holds the pair, or m alone may
  other_or : (xs : List (List ℕ)) (g c : ℕ) → ((x : List ℕ) × (Memᴰ x xs × (x ≢ m)) × Has x g c) ⊎ ((x : List ℕ) → Memᴰ x xs → Has x g c → x ≡ m)
  other_or xs g c =
      swap (all_or (λ (x : List ℕ). Has x g c → x ≡ m) (λ (x : List ℕ). (x ≢ m) × Has x g c) xs (λ x k. go x (has_dec x g c) (List-discrete ℕ_discrete x m)))
    where
      go : (x : List ℕ) → Dec (Has x g c) → Dec (x ≡ m) → (Has x g c → x ≡ m) ⊎ ((x ≢ m) × Has x g c)
      go x (no h) d = inl (λ k. absurd (h k))
      go x (yes h) (yes e) = inl (λ k. e)
      go x (yes h) (no e) = inr (e, h)

      swap : ((x : List ℕ) → Memᴰ x xs → Has x g c → x ≡ m) ⊎ ((x : List ℕ) × Memᴰ x xs × ((x ≢ m) × Has x g c))
          → ((x : List ℕ) × (Memᴰ x xs × (x ≢ m)) × Has x g c) ⊎ ((x : List ℕ) → Memᴰ x xs → Has x g c → x ≡ m)
      swap (inl f) = inr f
      swap (inr w) = inl (w.0, (w.1, w.2.0), w.2.1)

  -- "no ladder can be dropped": a member of an irreducible cover holds a pair that no other member holds
  own_pair : (xs : List (List ℕ)) → Irreducible r xs → Memᴰ m xs
      → (g : ℕ) × (c : ℕ) × Has r g c × Has m g c × ((x : List ℕ) → Memᴰ x xs → Has x g c → x ≡ m)
  own_pair xs i k =
      go (pairs_or r (λ g c. (x : List ℕ) × (Memᴰ x xs × (x ≢ m)) × Has x g c) (λ g c. (x : List ℕ) → Memᴰ x xs → Has x g c → x ≡ m)
      (λ g c p. other_or xs g c))
    where
      go : Together r (λ x. Memᴰ x xs × (x ≢ m)) ⊎ ((g : ℕ) × (c : ℕ) × Has r g c × ((x : List ℕ) → Memᴰ x xs → Has x g c → x ≡ m))
          → (g : ℕ) × (c : ℕ) × Has r g c × Has m g c × ((x : List ℕ) → Memᴰ x xs → Has x g c → x ≡ m)
      go (inl t) = absurd (i.needed m k t)
      go (inr (g, c, p, only)) =
          let (x, l, h) = i.cover.together g c p in (g, c, p, subst (λ (y : List ℕ). Has y g c) (only x l h) h, only)

  pub irreducible_essential : InIrreducible r m → HoldsEssential r m
  irreducible_essential i = go (own_pair xs i.irreducible i.belongs)
    where
      xs : List (List ℕ)
      xs = i.members

      cover : Cover r xs
      cover = i.irreducible.cover

      go : (g : ℕ) × (c : ℕ) × Has r g c × Has m g c × ((x : List ℕ) → Memᴰ x xs → Has x g c → x ≡ m) → HoldsEssential r m
      go (g, c, p, h, only) =
          record { gauge = a.gauge; case = a.case; held = subst (λ (x : List ℕ). Has x a.gauge a.case) same y.2; essential = a.essential }
        where
          a : EssentialAbove r g c
          a = essential_above r g c p

          y : (x : List ℕ) × Memᴰ x xs × Has x a.gauge a.case
          y = cover.together a.gauge a.case a.essential.pair

          same : y.0 ≡ m
          same = only y.0 y.1 (include_holds r a.gauge a.case g c p a.over y.0 (cover.maximal y.0 y.1) y.2)

  -- ---- the other way
  module _ (mx : IsMaximal r m) (g c : ℕ) (held : Has m g c) (dec : Essential r g c) where
    -- a maximal chain that is m or does not hold g:c
    record Good (x : List ℕ) : Type 0 where
      maximal : IsMaximal r x
      only : Has x g c → x ≡ m

    -- every pair lies in one
    good-at : (h d : ℕ) → Has r h d → (x : List ℕ) × Good x × Has x h d
    good-at h d q = go (has_dec m h d)
      where
        Out : Type 0
        Out = (x : List ℕ) × Good x × Has x h d

        back : Includes r h d g c → ¬ (Has m h d) → Includes r g c h d ⊎ Lacks r g c h d → Out
        back i n (inl j) = absurd (n (include_holds r g c h d q j m mx held))
        back i n (inr w) = absurd (dec.none h d q (record { include = i; strict = lacks_not r g c h d w }))

        outside : ¬ (Has m h d) → Includes r h d g c ⊎ Lacks r h d g c → Out
        outside n (inl i) = back i n (include_or r g c h d dec.pair q)
        outside n (inr w) = (
          s.chain,
          record {
            maximal = s.maximal;
            only = λ k. absurd
                (conflict_apart r g c w.gauge w.case w.conflict s.chain s.maximal k s.other);
          },
          s.one,
        )
          where
            s : Common r h d w.gauge w.case
            s = no_conflict_common r h d w.gauge w.case q w.conflict.pair w.crossed

        go : Dec (Has m h d) → Out
        go (yes k) = (m, record { maximal = mx; only = λ u. refl }, k)
        go (no n) = outside n (include_or r h d g c q dec.pair)

    -- a list of them that holds the pairs of l
    record Gathered (l : List Pair) : Type 0 where
      members : List (List ℕ)
      good : (x : List ℕ) → Memᴰ x members → Good x
      holds : (p : Pair) → Memᴰ p l → (x : List ℕ) × Memᴰ x members × Has x p.0 p.1

    gather : (l : List Pair) → ((p : Pair) → Memᴰ p l → Has r p.0 p.1) → Gathered l
    gather [] f = record { members = []; good = λ x k. absurd (Memᴰ.not-nil k); holds = λ p k. absurd (Memᴰ.not-nil k) }
    gather (z ∷ l) f = one_more (good-at z.0 z.1 (f z (Memᴰ.head refl))) (gather l (λ p k. f p (Memᴰ.tail k)))
      where
        one_more : (x : List ℕ) × Good x × Has x z.0 z.1 → Gathered l → Gathered (z ∷ l)
        one_more s a = record { members = s.0 ∷ a.members; good = λ x k. good-in x (Memᴰ.cases_cons k); holds = λ p k. at p (Memᴰ.cases_cons k) }
          where
            good-in : (x : List ℕ) → (x ≡ s.0) ⊎ Memᴰ x a.members → Good x
            good-in x (inl e) = rw e s.1
            good-in x (inr k) = a.good x k

            at : (p : Pair) → (p ≡ z) ⊎ Memᴰ p l → (x : List ℕ) × Memᴰ x (s.0 ∷ a.members) × Has x p.0 p.1
            at p (inl e) = (s.0, Memᴰ.head refl, rw e s.2)
            at p (inr k) = let y = a.holds p k in (y.0, Memᴰ.tail y.1, y.2)

    essential-cover : InIrreducible r m
    essential-cover = record {
      members = c'.members;
      irreducible = record { cover = record { maximal = λ x k. (good-in x k).maximal; together = c'.together }; needed = c'.needed };
      belongs = Memᴰ.cast (sym ((good-in y.0 y.1).only y.2)) y.1;
    }
      where
        a : Gathered (pairs_of r)
        a = gather (pairs_of r) (pairs_mem r)

        c' : Reduced r [] a.members
        c' = reduce r a.members (λ h d q. a.holds (h, d) (mem_pairs r h d q))

        good-in : (x : List ℕ) → Memᴰ x c'.members → Good x
        good-in x k = go (c'.among x k)
          where
            go : Memᴰ x [] ⊎ Memᴰ x a.members → Good x
            go (inl u) = absurd (Memᴰ.not-nil u)
            go (inr u) = a.good x u

        -- the pair g:c is held by m alone
        y : (x : List ℕ) × Memᴰ x c'.members × Has x g c
        y = c'.together g c dec.pair

  essential_irreducible : IsMaximal r m → HoldsEssential r m → InIrreducible r m
  essential_irreducible mx h = essential-cover mx h.gauge h.case h.held h.essential

  -- ---- the theorem
  pub irreducible_iff_essential : IsMaximal r m → InIrreducible r m ↔ HoldsEssential r m
  irreducible_iff_essential mx = (irreducible_essential, essential_irreducible mx)

pub conflict_claims : (r : List ℕ) → ConflictClaims r
conflict_claims r = record {
  holds = holds_iff_conflicts r;
  covers = irreducible_iff_essential r;
  none = λ f m i. let h = irreducible_essential r m i in f h.gauge h.case h.essential.pair;
}
