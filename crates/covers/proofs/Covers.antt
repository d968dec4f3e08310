-- Covers by chains and by maximal chains: each chain of a cover grows to a maximal one (`cover_grown`), so no cover by any chains is
-- smaller than the least number (`none_smaller`); the least number is one only (`least_unique`), and 0 exactly where there are no pairs
-- (`least_zero`); a cover of that number has no ladder twice (`least_distinct`). That it exists is in Fewest.antt.
use mathlib.Core.Path.{◌≡◌, refl, sym, ap, ◌∙◌, subst}
use mathlib.Core.Logic.{◌⊎◌, inl, inr, ◌↔◌, ◌≢◌}
use mathlib.Core.List.Memᴰ
use mathlib.Core.List.{List, [], ◌∷◌, ◌++◌, append_assoc, map, Memᴰ}
use Prim.Native.Nat.{ℕ, suc, ◌≤◌}
use native.Mathlib.Decide.{ℕ_discrete}
use native.Mathlib.Omega.{arith}
use lib.Dec.{T}
use lib.ListN.{length, length-map, length-append}
use Rattle.sets.specs.Sets.{bit}
use Rattle.table.specs.Pairs.{row, Has}
use Rattle.table.specs.Chains.{IsMaximal}
use Rattle.table.proofs.Places.{place_has, by_place_lem}
use Rattle.table.proofs.Nesting.{NoPairs}
use Rattle.sets.proofs.OnePlace.{none_in}
use Rattle.rules.specs.Sequences.{Sorted}
use Rattle.rules.proofs.Sequences.{All_of}
use Rattle.lists.specs.ByNumber.{pick_seq}
use Rattle.lists.specs.Growing.{FirstContaining}
use Rattle.lists.specs.OnTable.{chain_of}
use Rattle.lists.proofs.Growing.{grow, grow_first}
use Rattle.conflicts.specs.Covers.{Cover}
use Rattle.covers.specs.Covers.{ChainOf, ChainCover, LeastNumber}
use Rattle.covers.proofs.Rows.{only, length_only, only_same, only_other, only_chain}

module _ (r : List ℕ) where
  -- the first maximal chain that contains x
  abbrev pub grown : List ℕ → List ℕ
  grown x = chain_of r (grow r x)

  grown_first : (x : List ℕ) → ChainOf r x → FirstContaining r pick_seq x (grown x)
  grown_first x h = grow_first r x h.within h.chain

  -- a cover by any chains gives one by as many maximal chains
  pub cover_grown : (xs : List (List ℕ)) → ChainCover r xs → Cover r (map grown xs)
  cover_grown xs h = record {
    maximal = λ y m. let k = Memᴰ.of_map grown xs m in subst (IsMaximal r) k.2 (grown_first k.0 (h.chains k.0 k.1)).maximal;
    together = λ g c p.
        let (x, m, q) = h.together g c p in
        (grown x, Memᴰ.map grown m, (grown_first x (h.chains x m)).contains.inside g c q);
  }

  -- maximal chains are chains
  pub cover_chains : (xs : List (List ℕ)) → Cover r xs → ChainCover r xs
  cover_chains xs h = record { chains = λ x m. let k = h.maximal x m in record { within = k.within; chain = k.chain }; together = h.together }

  -- R-7: "no cover by any chains, ladders or not, is smaller"
  pub none_smaller : (k : ℕ) → LeastNumber r k → (xs : List (List ℕ)) → ChainCover r xs → k ≤ length xs
  none_smaller k l xs h = subst (λ (n : ℕ). k ≤ n) (length-map xs grown) (l.least (map grown xs) (cover_grown xs h))

  pub least_unique : (k j : ℕ) → LeastNumber r k → LeastNumber r j → k ≡ j
  least_unique k j a b = omega (arith, a.number, b.number, a.least b.cover b.covers, b.least a.cover a.covers)

  -- row i of a table is a chain of it
  pub only_of : (i : ℕ) → ChainOf r (only r i)
  only_of i = record {
    within = record { size = length_only r i; inside = by_place_lem (only r i) (Has r) (λ j k t. place_has r j k (at j k t (ℕ_discrete j i))) };
    chain = only_chain r i;
  }
    where
      at : (j k : ℕ) → T (bit (row (only r i) j) k) → Dec (j ≡ i) → T (bit (row r j) k)
      at j k t (yes e) = subst (λ (a : ℕ). T (bit a k)) (only_same r i j e) t
      at j k t (no e) = absurd (subst T (none_in k) (subst (λ (a : ℕ). T (bit a k)) (only_other r i j e) t))

  -- each pair is in a maximal chain
  pub pair_held : (g c : ℕ) → Has r g c → (x : List ℕ) × IsMaximal r x × Has x g c
  pair_held = by_place_lem r (λ g c. (x : List ℕ) × IsMaximal r x × Has x g c) (λ i k t.
      let f = grown_first (only r i) (only_of i) in (
        grown (only r i),
        f.maximal,
        f.contains.inside (suc i) (suc k)
            (place_has (only r i) i k (subst (λ (a : ℕ). T (bit a k)) (sym (only_same r i i refl)) t)),
      ))

  -- "0 for a table without pairs", and only for such
  pub least_zero : LeastNumber r 0 ↔ NoPairs r
  least_zero = (
    λ l g c p. let (x, m, q) = l.covers.together g c p in none l.cover l.number x m,
    λ n. record {
      cover = [];
      covers = record { maximal = λ x m. absurd (Memᴰ.not-nil m); together = λ g c p. absurd (n g c p) };
      number = refl;
      least = λ xs h. omega arith;
    },
  )
    where
      none : (xs : List (List ℕ)) → length xs ≡ 0 → (x : List ℕ) → Memᴰ x xs → ⊥
      none [] e x m = Memᴰ.not-nil m
      none (y ∷ xs) e x m = omega arith

  -- a cover of the least number has no ladder twice: without the second it would still be one
  pub least_distinct : (k : ℕ) → LeastNumber r k → (xs : List (List ℕ)) → Cover r xs → length xs ≡ k → Sorted (λ (x y : List ℕ). x ≢ y) xs
  least_distinct k l xs h e = from [] xs refl
    where
      -- each of xs is still among a and b, where x is one of b
      still : (a b : List (List ℕ)) (x : List ℕ) → xs ≡ a ++ (x ∷ b) → Memᴰ x b → (y : List ℕ) → Memᴰ y xs → Memᴰ y (a ++ b)
      still a b x d m y i = part (Memᴰ.append_cases a (rw d at i))
        where
          last : (y ≡ x) ⊎ Memᴰ y b → Memᴰ y (a ++ b)
          last (inl q) = Memᴰ.append_right a (Memᴰ.cast q m)
          last (inr j) = Memᴰ.append_right a j

          part : Memᴰ y a ⊎ Memᴰ y (x ∷ b) → Memᴰ y (a ++ b)
          part (inl j) = Memᴰ.append_left b j
          part (inr j) = last (Memᴰ.cases_cons j)

      kept : (a b : List (List ℕ)) (x : List ℕ) → xs ≡ a ++ (x ∷ b) → (y : List ℕ) → Memᴰ y (a ++ b) → Memᴰ y xs
      kept a b x d y i = rw d (part (Memᴰ.append_cases a i))
        where
          part : Memᴰ y a ⊎ Memᴰ y b → Memᴰ y (a ++ (x ∷ b))
          part (inl j) = Memᴰ.append_left (x ∷ b) j
          part (inr j) = Memᴰ.append_right a (Memᴰ.tail j)

      twice : (a b : List (List ℕ)) (x : List ℕ) → xs ≡ a ++ (x ∷ b) → Memᴰ x b → ⊥
      twice a b x d m = omega (arith, e, ap length d, length-append a b, length-append a (x ∷ b), l.least (a ++ b) cover)
        where
          cover : Cover r (a ++ b)
          cover = record {
            maximal = λ y i. h.maximal y (kept a b x d y i);
            together = λ g c p. let (y, i, q) = h.together g c p in (y, still a b x d m y i, q);
          }

      from : (a b : List (List ℕ)) → xs ≡ a ++ b → Sorted (λ (x y : List ℕ). x ≢ y) b
      from a [] d = tt
      from a (x ∷ b) d = (
        All_of (λ (y : List ℕ). x ≢ y) b (λ y m q. twice a b x d (Memᴰ.cast q m)),
        from (a ++ (x ∷ [])) b
            (d ∙ sym (append_assoc a (x ∷ []) b)),
      )
