-- From a list of sets that together hold all pairs of a table to an irreducible one among its members (`reduce`): take one after the
-- other, and drop it where those kept so far and those still to come do without it. Chains do not occur here.
use mathlib.Core.Path.{◌≡◌, sym, ◌∙◌}
use mathlib.Core.Logic.{◌⊎◌, inl, inr, ◌≢◌}
use mathlib.Core.List.Memᴰ
use mathlib.Core.List.{List, [], ◌∷◌, Memᴰ}
use Prim.Native.Nat.{ℕ}
use Rattle.table.specs.Pairs.{Has}
use Rattle.conflicts.specs.Covers.{Together}
use Rattle.conflicts.proofs.Searching.{has_dec, all_or, pairs_or}

-- a member of the list holds the pair, or none does
held_or : (l : List (List ℕ)) (g c : ℕ) → ((x : List ℕ) → Memᴰ x l → Has x g c → ⊥) ⊎ ((x : List ℕ) × Memᴰ x l × Has x g c)
held_or l g c = all_or (λ (x : List ℕ). Has x g c → ⊥) (λ (x : List ℕ). Has x g c) l (λ x m. go x (has_dec x g c))
  where
    go : (x : List ℕ) → Dec (Has x g c) → (Has x g c → ⊥) ⊎ Has x g c
    go x (yes h) = inr h
    go x (no h) = inl h

module _ (r : List ℕ) where
  together_map : (K L : List ℕ → Type 0) → ((x : List ℕ) → K x → L x) → Together r K → Together r L
  together_map K L f t g c p = let x = t g c p in (x.0, f x.0 x.1, x.2)

  abbrev In : List (List ℕ) → List (List ℕ) → List ℕ → Type 0
  In k l x = Memᴰ x k ⊎ Memᴰ x l

  together_or : (k l : List (List ℕ)) → Together r (In k l) ⊎ (Together r (In k l) → ⊥)
  together_or k l =
      go (pairs_or r (λ g c. (x : List ℕ) × In k l x × Has x g c) (λ g c. (x : List ℕ) → In k l x → Has x g c → ⊥)
      (λ g c p. each g c (held_or k g c) (held_or l g c)))
    where
      each : (g c : ℕ) → ((x : List ℕ) → Memᴰ x k → Has x g c → ⊥) ⊎ ((x : List ℕ) × Memᴰ x k × Has x g c)
          → ((x : List ℕ) → Memᴰ x l → Has x g c → ⊥) ⊎ ((x : List ℕ) × Memᴰ x l × Has x g c)
          → ((x : List ℕ) × In k l x × Has x g c) ⊎ ((x : List ℕ) → In k l x → Has x g c → ⊥)
      each g c (inr x) b = inl (x.0, inl x.1, x.2)
      each g c (inl a) (inr x) = inl (x.0, inr x.1, x.2)
      each g c (inl a) (inl b) = inr none
        where
          none : (x : List ℕ) → In k l x → Has x g c → ⊥
          none x (inl m) h = a x m h
          none x (inr m) h = b x m h

      go : Together r (In k l) ⊎ ((g : ℕ) × (c : ℕ) × Has r g c × ((x : List ℕ) → In k l x → Has x g c → ⊥)) → Together r (In k l) ⊎ (Together r (In k l) → ⊥)
      go (inl t) = inl t
      go (inr w) = inr (λ t. let x = t w.0 w.1 w.2 in w.3 x.0 x.1 x.2)

  -- of k and l, none of k can be dropped
  abbrev Needed : List (List ℕ) → List (List ℕ) → Type 0
  Needed k l = (x : List ℕ) → Memᴰ x k → Together r (λ y. In k l y × (y ≢ x)) → ⊥

  -- what is left of k and l
  pub record Reduced (k l : List (List ℕ)) : Type 0 where
    pub members : List (List ℕ)
    pub among : (x : List ℕ) → Memᴰ x members → In k l x
    pub together : Together r (λ x. Memᴰ x members)
    pub needed : (x : List ℕ) → Memᴰ x members → Together r (λ y. Memᴰ y members × (y ≢ x)) → ⊥

  reduce_from : (l k : List (List ℕ)) → Together r (In k l) → Needed k l → Reduced k l
  reduce_from [] k t n = record {
    members = k;
    among = λ x m. inl m;
    together = together_map (In k []) (λ x. Memᴰ x k) kept t;
    needed = λ x m u. n x m (together_map (λ y. Memᴰ y k × (y ≢ x)) (λ y. In k [] y × (y ≢ x)) (λ y w. (inl w.0, w.1)) u);
  }
    where
      kept : (x : List ℕ) → In k [] x → Memᴰ x k
      kept x (inl m) = m
      kept x (inr m) = absurd (Memᴰ.not-nil m)
  reduce_from (z ∷ l) k t n = go (together_or k l) (reduce_from l)
    where
      later : (x : List ℕ) → In k l x → In k (z ∷ l) x
      later x (inl m) = inl m
      later x (inr m) = inr (Memᴰ.tail m)

      head : (x : List ℕ) → (x ≡ z) ⊎ Memᴰ x k → In k (z ∷ l) x
      head x (inl e) = inr (Memᴰ.head e)
      head x (inr m) = inl m

      back : (x : List ℕ) → In (z ∷ k) l x → In k (z ∷ l) x
      back x (inl m) = head x (Memᴰ.cases_cons m)
      back x (inr m) = inr (Memᴰ.tail m)

      tail : (x : List ℕ) → (x ≡ z) ⊎ Memᴰ x l → In (z ∷ k) l x
      tail x (inl e) = inl (Memᴰ.head e)
      tail x (inr m) = inr m

      moved : (x : List ℕ) → In k (z ∷ l) x → In (z ∷ k) l x
      moved x (inl m) = inl (Memᴰ.tail m)
      moved x (inr m) = tail x (Memᴰ.cases_cons m)

      -- without z, what is left of k and z is of k
      others : (y x : List ℕ) → y ≢ x → x ≡ z → In (z ∷ k) l y → In k l y
      others y x d e (inr m) = inr m
      others y x d e (inl m) = pick (Memᴰ.cases_cons m)
        where
          pick : (y ≡ z) ⊎ Memᴰ y k → In k l y
          pick (inl a) = absurd (d (a ∙ sym e))
          pick (inr a) = inl a

      go : Together r (In k l) ⊎ (Together r (In k l) → ⊥) → ((k : List (List ℕ)) → Together r (In k l) → Needed k l → Reduced k l) → Reduced k (z ∷ l)
      go (inl u) on = record { members = a.members; among = λ x m. later x (a.among x m); together = a.together; needed = a.needed }
        where
          a : Reduced k l
          a = on k u (λ x m v. n x m (together_map (λ y. In k l y × (y ≢ x)) (λ y. In k (z ∷ l) y × (y ≢ x)) (λ y w. (later y w.0, w.1)) v))
      go (inr u) on = record { members = a.members; among = λ x m. back x (a.among x m); together = a.together; needed = a.needed }
        where
          need : (x : List ℕ) → (x ≡ z) ⊎ Memᴰ x k → Together r (λ y. In (z ∷ k) l y × (y ≢ x)) → ⊥
          need x (inl e) v = u (together_map (λ y. In (z ∷ k) l y × (y ≢ x)) (In k l) (λ y w. others y x w.1 e w.0) v)
          need x (inr m) v = n x m (together_map (λ y. In (z ∷ k) l y × (y ≢ x)) (λ y. In k (z ∷ l) y × (y ≢ x)) (λ y w. (back y w.0, w.1)) v)

          a : Reduced (z ∷ k) l
          a = on (z ∷ k) (together_map (In k (z ∷ l)) (In (z ∷ k) l) moved t) (λ x m. need x (Memᴰ.cases_cons m))

  pub reduce : (l : List (List ℕ)) → Together r (λ x. Memᴰ x l) → Reduced [] l
  reduce l t = reduce_from l [] (together_map (λ x. Memᴰ x l) (In [] l) (λ x m. inr m) t) (λ x m. absurd (Memᴰ.not-nil m))
