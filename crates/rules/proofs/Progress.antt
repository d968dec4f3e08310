-- What is still to be handed out in a state, and that a move keeps it; and that a move keeps the picks fitting the
-- phase. The front of the leaves that calls hand out rests on this, with no word on when the machine ends.
use mathlib.Core.Path.{◌≡◌, refl, sym, ◌∙◌}
use mathlib.Core.List.Memᴰ
use mathlib.Core.List.{List, [], ◌∷◌, ◌++◌, head?, append_assoc, append-nil}
use Prim.Native.Nat.{ℕ, zero, suc, ◌-◌}
use native.Mathlib.Omega.{arith}
use lib.ListN.{length}
use Rattle.rules.specs.Machine.{cut_last, Phase, Down, Handed, Back, Ended, Given, nothing, hands, ends, take_back, down, back}
use Rattle.rules.specs.ByNumber.{above, step}
use Rattle.rules.specs.private.Fitting.{Valid, Fits}
use Rattle.rules.proofs.Sequences.{mem_split}
use Rattle.rules.proofs.Trees.{by_last, cut_snoc, length_snoc, each, branch, Tree, leaves, valid_up, valid_kid, valid_snoc, kid_fits, above_kid}

each_same : (f k : List ℕ → List (List ℕ)) (p l : List ℕ) → ((g : ℕ) → f (p ++ (g ∷ [])) ≡ k (p ++ (g ∷ []))) → each f p l ≡ each k p l
each_same f k p [] h = refl
each_same f k p (g ∷ gs) h = rw (h g, each_same f k p gs h)

module _ (kids : List ℕ → List ℕ) (n : ℕ) where
  -- the leaves below p
  abbrev below : List ℕ → List (List ℕ)
  below p = leaves kids (n - length p) p

  -- the leaves that are after those below q ++ p, and below q
  abbrev later : List ℕ → List ℕ → List (List ℕ)
  later q [] = []
  later q (x ∷ xs) = later (q ++ (x ∷ [])) xs ++ each below q (above x (kids q))

  -- the leaves that are still to be handed out
  abbrev pub rest : List ℕ → Phase → List (List ℕ)
  rest p Down = below p ++ later [] p
  rest p Handed = later [] p
  rest p (Back g) = each below p (above g (kids p)) ++ later [] p
  rest p Ended = []

  later_snoc : (q p : List ℕ) (g : ℕ) → later q (p ++ (g ∷ [])) ≡ each below (q ++ p) (above g (kids (q ++ p))) ++ later q p
  later_snoc q [] g = simp append-nil
  later_snoc q (x ∷ xs) g = rw (later_snoc (q ++ (x ∷ [])) xs g) (simp append_assoc)

-- what a move gives, before what is still to be handed out
abbrev pub listed : Given → List (List ℕ) → List (List ℕ)
listed nothing l = l
listed (hands p) l = p ∷ l
listed ends l = l

module _ (kids : List ℕ → List ℕ) (n : ℕ) (t : Tree kids n) where
  below-kids : (p : List ℕ) → Valid kids p → below kids n p ≡ branch (below kids n) p (kids p)
  below-kids p v = go (n - length p) (kids p) refl refl
    where
      go : (f : ℕ) (k : List ℕ) → n - length p ≡ f → kids p ≡ k → leaves kids f p ≡ branch (below kids n) p k
      go zero [] ef ek = refl
      go zero (g ∷ gs) ef ek = absurd (omega (arith, kid_fits kids n t p g v (rw ek (Memᴰ.head refl))))
      go (suc f) [] ef ek = rw ek
      go (suc f) (g ∷ gs) ef ek =
          rw ek (each_same (leaves kids f) (below kids n) p (g ∷ gs) (λ h. let e : n - suc (length p) ≡ f = omega arith in rw (length_snoc p h, e)))

  -- removing the last pick
  take_rest : (p : List ℕ)
      → listed (take_back (cut_last p)).given (rest kids n (take_back (cut_last p)).next.picks (take_back (cut_last p)).next.phase) ≡ later kids n [] p
  take_rest p =
      by_last
      (λ (p : List ℕ).
      listed (take_back (cut_last p)).given (rest kids n (take_back (cut_last p)).next.picks (take_back (cut_last p)).next.phase) ≡ later kids n [] p)
      refl
      (λ p g _. rw (cut_snoc p g) (sym (later_snoc kids n [] p g)))
      p

  -- appending the kid g
  append_rest : (p a : List ℕ) (g : ℕ) (b : List ℕ) → Valid kids p → kids p ≡ a ++ (g ∷ b)
      → rest kids n (p ++ (g ∷ [])) Down ≡ each (below kids n) p (g ∷ b) ++ later kids n [] p
  append_rest p a g b v e = rw (later_snoc kids n [] p g, above_kid kids n t p a g b v e) (simp append_assoc)

  -- a move keeps what is still to be handed out
  pub move_rest : (p : List ℕ) (f : Phase) → Fits kids p f
      → listed (step kids p f).given (rest kids n (step kids p f).next.picks (step kids p f).next.phase) ≡ rest kids n p f
  move_rest p Down v = go (kids p) refl
    where
      go : (k : List ℕ) → kids p ≡ k
          → listed (down p (head? k)).given (rest kids n (down p (head? k)).next.picks (down p (head? k)).next.phase) ≡ below kids n p ++ later kids n [] p
      go [] e = rw (below-kids p v, e)
      go (g ∷ gs) e = rw (below-kids p v, e) (append_rest p [] g gs v e)
  move_rest p Handed h = take_rest p
  move_rest p (Back g) h = go (mem_split g (kids p) h.1)
    where
      on : (a b : List ℕ) → kids p ≡ a ++ (g ∷ b)
          → listed (back p (head? b)).given (rest kids n (back p (head? b)).next.picks (back p (head? b)).next.phase)
          ≡ each (below kids n) p b ++ later kids n [] p
      on a [] e = take_rest p
      on a (x ∷ xs) e = append_rest p (a ++ (g ∷ [])) x xs h.0 (e ∙ sym (append_assoc a (g ∷ []) (x ∷ xs)))

      go : (a : List ℕ) × (b : List ℕ) × (kids p ≡ a ++ (g ∷ b))
          → listed (step kids p (Back g)).given (rest kids n (step kids p (Back g)).next.picks (step kids p (Back g)).next.phase) ≡ rest kids n p (Back g)
      go r = rw (above_kid kids n t p r.0 g r.1 h.0 r.2) (on r.0 r.1 r.2)
  move_rest p Ended h = refl

  -- and the picks still go with the phase
  take_fits : (p : List ℕ) → Valid kids p → Fits kids (take_back (cut_last p)).next.picks (take_back (cut_last p)).next.phase
  take_fits p = by_last (λ (p : List ℕ). Valid kids p → Fits kids (take_back (cut_last p)).next.picks (take_back (cut_last p)).next.phase)
      (λ v. refl)
      (λ p g _ v. rw (cut_snoc p g) (valid_up kids p g v, valid_kid kids p g v))
      p

  pub move_fits : (p : List ℕ) (f : Phase) → Fits kids p f → Fits kids (step kids p f).next.picks (step kids p f).next.phase
  move_fits p Down v = go (kids p) refl
    where
      go : (k : List ℕ) → kids p ≡ k → Fits kids (down p (head? k)).next.picks (down p (head? k)).next.phase
      go [] e = (v, e)
      go (g ∷ gs) e = valid_snoc kids p g v (rw e (Memᴰ.head refl))
  move_fits p Handed h = take_fits p h.0
  move_fits p (Back g) h = go (mem_split g (kids p) h.1)
    where
      on : (a b : List ℕ) → kids p ≡ a ++ (g ∷ b) → Fits kids (back p (head? b)).next.picks (back p (head? b)).next.phase
      on a [] e = take_fits p h.0
      on a (x ∷ xs) e = valid_snoc kids p x h.0 (rw e (Memᴰ.append_right a (Memᴰ.tail (Memᴰ.head refl))))

      go : (a : List ℕ) × (b : List ℕ) × (kids p ≡ a ++ (g ∷ b)) → Fits kids (step kids p (Back g)).next.picks (step kids p (Back g)).next.phase
      go r = rw (above_kid kids n t p r.0 g r.1 h.0 r.2) (on r.0 r.1 r.2)
  move_fits p Ended h = h
