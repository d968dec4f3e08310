-- The order of pairs by their conflicts: whether the conflicts of one pair include those of another, decided with an example to the contrary
-- (`include_or`), and for every pair of the table an essential one whose conflicts include its own (`essential_above`). One pass over the pairs
-- finds it: go on to each pair whose conflicts include those of the pair in hand.
use mathlib.Core.Path.{◌≡◌, refl}
use mathlib.Core.Logic.{◌⊎◌, inl, inr}
use mathlib.Core.List.Memᴰ
use mathlib.Core.List.{List, [], ◌∷◌, Memᴰ}
use Prim.Native.Nat.{ℕ}
use Rattle.table.specs.Pairs.{Has}
use Rattle.conflicts.specs.Conflicts.{Conflict, Includes, Essential}
use Rattle.conflicts.proofs.Searching.{cross, no_cross, Pair, pairs_of, mem_pairs, pairs_mem, pairs_or}

module _ (r : List ℕ) where
  -- h:d has a conflict that is none of g:c
  pub record Lacks (g c h d : ℕ) : Type 0 where
    pub gauge : ℕ
    pub case : ℕ
    pub conflict : Conflict r h d gauge case
    pub crossed : Has r g case ⊎ Has r gauge c

  pub lacks_not : (g c h d : ℕ) → Lacks g c h d → Includes r g c h d → ⊥
  lacks_not g c h d w f = no_cross r g c w.gauge w.case (f w.gauge w.case w.conflict) w.crossed

  pub include_or : (g c h d : ℕ) → Has r g c → Has r h d → Includes r g c h d ⊎ Lacks g c h d
  include_or g c h d p q =
      go (pairs_or r (λ k e. Conflict r h d k e → Conflict r g c k e) (λ k e. Conflict r h d k e × (Has r g e ⊎ Has r k c))
      (λ k e x. each k e (cross r h d k e q x) (cross r g c k e p x)))
    where
      each : (k e : ℕ) → Conflict r h d k e ⊎ (Has r h e ⊎ Has r k d) → Conflict r g c k e ⊎ (Has r g e ⊎ Has r k c)
          → (Conflict r h d k e → Conflict r g c k e) ⊎ (Conflict r h d k e × (Has r g e ⊎ Has r k c))
      each k e (inr x) b = inl (λ v. absurd (no_cross r h d k e v x))
      each k e (inl v) (inl w) = inl (λ u. w)
      each k e (inl v) (inr y) = inr (v, y)

      go : ((k e : ℕ) → Has r k e → Conflict r h d k e → Conflict r g c k e) ⊎ ((k : ℕ) × (e : ℕ) × Has r k e × (Conflict r h d k e × (Has r g e ⊎ Has r k c)))
          → Includes r g c h d ⊎ Lacks g c h d
      go (inl f) = inl (λ k e v. f k e v.pair v)
      go (inr w) = inr (record { gauge = w.0; case = w.1; conflict = w.3.0; crossed = w.3.1 })

  -- a pair whose conflicts include those of g:c, and which no pair of the list exceeds
  record Above (l : List Pair) (g c : ℕ) : Type 0 where
    gauge : ℕ
    case : ℕ
    pair : Has r gauge case
    over : Includes r gauge case g c
    top : (p : Pair) → Memᴰ p l → Includes r p.0 p.1 gauge case → Includes r gauge case p.0 p.1

  climb : (l : List Pair) → ((p : Pair) → Memᴰ p l → Has r p.0 p.1) → (g c : ℕ) → Has r g c → Above l g c
  climb [] f g c p = record { gauge = g; case = c; pair = p; over = λ k e v. v; top = λ q m. absurd (Memᴰ.not-nil m) }
  climb (z ∷ l) f g c p = go (include_or z.0 z.1 g c (f z (Memᴰ.head refl)) p) (climb l (λ q m. f q (Memᴰ.tail m)))
    where
      go : Includes r z.0 z.1 g c ⊎ Lacks z.0 z.1 g c → ((h d : ℕ) → Has r h d → Above l h d) → Above (z ∷ l) g c
      go (inl i) on =
          record { gauge = a.gauge; case = a.case; pair = a.pair; over = λ k e v. a.over k e (i k e v); top = λ q m. at q (Memᴰ.cases_cons m) }
        where
          a : Above l z.0 z.1
          a = on z.0 z.1 (f z (Memᴰ.head refl))

          at : (q : Pair) → (q ≡ z) ⊎ Memᴰ q l → Includes r q.0 q.1 a.gauge a.case → Includes r a.gauge a.case q.0 q.1
          at q (inl e) j = rw e a.over
          at q (inr m) j = a.top q m j
      go (inr w) on = record { gauge = a.gauge; case = a.case; pair = a.pair; over = a.over; top = λ q m. at q (Memᴰ.cases_cons m) }
        where
          a : Above l g c
          a = on g c p

          at : (q : Pair) → (q ≡ z) ⊎ Memᴰ q l → Includes r q.0 q.1 a.gauge a.case → Includes r a.gauge a.case q.0 q.1
          at q (inl e) j = absurd (lacks_not z.0 z.1 g c w (λ k d v. let j' = rw e at j in j' k d (a.over k d v)))
          at q (inr m) j = a.top q m j

  pub record EssentialAbove (g c : ℕ) : Type 0 where
    pub gauge : ℕ
    pub case : ℕ
    pub essential : Essential r gauge case
    pub over : Includes r gauge case g c

  pub essential_above : (g c : ℕ) → Has r g c → EssentialAbove g c
  essential_above g c p = record {
    gauge = a.gauge;
    case = a.case;
    essential = record { pair = a.pair; none = λ h d q x. x.strict (a.top (h, d) (mem_pairs r h d q) x.include) };
    over = a.over;
  }
    where
      a : Above (pairs_of r) g c
      a = climb (pairs_of r) (pairs_mem r) g c p
