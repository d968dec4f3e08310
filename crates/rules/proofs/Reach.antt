-- The states that some number of moves from a fresh start leads to are those whose picks fit the phase (`reachable`):
-- the machine goes through all below each kid and comes back, so it reaches every valid sequence, in every phase that
-- fits.
use mathlib.Core.Path.{◌≡◌, refl, ap, sym, ◌∙◌, subst}
use mathlib.Core.Logic.{◌↔◌}
use mathlib.Core.List.Memᴰ
use mathlib.Core.List.{List, [], ◌∷◌, ◌++◌, append_assoc, Memᴰ}
use Prim.Native.Nat.{ℕ, zero, suc, ◌+◌, ◌≤◌}
use native.Mathlib.Nat.{zero-add, suc-add}
use native.Mathlib.Omega.{arith}
use lib.ListN.{length}
use Rattle.rules.specs.Machine.{cut_last, Phase, Down, Handed, Back, Ended, State, at, fresh, take_back}
use Rattle.rules.specs.ByNumber.{move, after, Reached}
use Rattle.rules.specs.private.Fitting.{Valid, Fits}
use Rattle.rules.proofs.Sequences.{mem_split}
use Rattle.rules.proofs.Trees.{by_last, cut_snoc, length_snoc, Tree, valid_up, valid_kid, valid_snoc, kid_fits, above_kid}
use Rattle.rules.proofs.Progress.{move_fits}

module _ (kids : List ℕ → List ℕ) where
  -- t comes after some number of moves from s
  abbrev Leads : State → State → Type 0
  Leads s t = (k : ℕ) × (after kids k s ≡ t)

  after_add : (j k : ℕ) (s : State) → after kids (j + k) s ≡ after kids k (after kids j s)
  after_add zero k s = rw zero-add
  after_add (suc j) k s = rw suc-add (after_add j k (move kids s).next)

  then : {s t u : State} → Leads s t → Leads t u → Leads s u
  then {s} {t} {u} (j, e) (k, f) = (j + k, after_add j k s ∙ (ap (after kids k) e ∙ f))

  one : (s t : State) → (move kids s).next ≡ t → Leads s t
  one s t e = (1, e)

module _ (kids : List ℕ → List ℕ) (n : ℕ) (t : Tree kids n) where
  -- from Back at the kid g the machine goes on through the kids after it, and leaves p
  siblings : (p a : List ℕ) (g : ℕ) (b : List ℕ) → ((h : ℕ) → Memᴰ h (kids p) → Leads kids (at (p ++ (h ∷ [])) Down) (at p (Back h)))
      → Valid kids p → kids p ≡ a ++ (g ∷ b) → Leads kids (at p (Back g)) (take_back (cut_last p)).next
  siblings p a g [] sub v e = one kids (at p (Back g)) (take_back (cut_last p)).next (rw (above_kid kids n t p a g [] v e))
  siblings p a g (x ∷ xs) sub v e =
      then kids (one kids (at p (Back g)) (at (p ++ (x ∷ [])) Down) (rw (above_kid kids n t p a g (x ∷ xs) v e)))
      (then kids (sub x (rw e (Memᴰ.append_right a (Memᴰ.tail (Memᴰ.head refl)))))
      (siblings p (a ++ (g ∷ [])) x xs sub v (e ∙ sym (append_assoc a (g ∷ []) (x ∷ xs)))))

  -- from Down at p the machine goes through all below p, and leaves p
  finish : (f : ℕ) (p : List ℕ) → Valid kids p → n ≤ f + length p → Leads kids (at p Down) (take_back (cut_last p)).next
  finish zero p v l = go (kids p) refl
    where
      go : (k : List ℕ) → kids p ≡ k → Leads kids (at p Down) (take_back (cut_last p)).next
      go [] e = then kids (one kids (at p Down) (at p Handed) (rw e)) (one kids (at p Handed) _ refl)
      go (g ∷ gs) e = absurd (omega (arith, kid_fits kids n t p g v (rw e (Memᴰ.head refl))))
  finish (suc f) p v l =
      go (kids p) refl
      (λ (h : ℕ) (m : Memᴰ h (kids p)). rw (cut_snoc p h) at (finish f (p ++ (h ∷ [])) (valid_snoc kids p h v m) (omega (arith, length_snoc p h))))
    where
      go : (k : List ℕ) → kids p ≡ k → ((h : ℕ) → Memᴰ h (kids p) → Leads kids (at (p ++ (h ∷ [])) Down) (at p (Back h)))
          → Leads kids (at p Down) (take_back (cut_last p)).next
      go [] e sub = then kids (one kids (at p Down) (at p Handed) (rw e)) (one kids (at p Handed) _ refl)
      go (g ∷ gs) e sub =
          then kids (one kids (at p Down) (at (p ++ (g ∷ [])) Down) (rw e))
          (then kids (sub g (rw e (Memᴰ.head refl))) (siblings p [] g gs sub v e))

  kid_finish : (p : List ℕ) (g : ℕ) → Valid kids p → Memᴰ g (kids p) → Leads kids (at (p ++ (g ∷ [])) Down) (at p (Back g))
  kid_finish p g v m = rw (cut_snoc p g) at (finish n (p ++ (g ∷ [])) (valid_snoc kids p g v m) (omega arith))

  -- from Down at p the machine reaches each kid
  arrive : (p a : List ℕ) → Valid kids p → (g : ℕ) (b : List ℕ) → kids p ≡ a ++ (g ∷ b) → Leads kids (at p Down) (at (p ++ (g ∷ [])) Down)
  arrive p a v = by_last (λ (a : List ℕ). (g : ℕ) (b : List ℕ) → kids p ≡ a ++ (g ∷ b) → Leads kids (at p Down) (at (p ++ (g ∷ [])) Down))
      (λ g b e. one kids (at p Down) (at (p ++ (g ∷ [])) Down) (rw e))
      (λ a h on g b e.
      let k : kids p ≡ a ++ (h ∷ (g ∷ b)) = e ∙ append_assoc a (h ∷ []) (g ∷ b) in
      then kids (on h (g ∷ b) k)
      (then kids (kid_finish p h v (rw k (Memᴰ.append_right a (Memᴰ.head refl))))
      (one kids (at p (Back h)) (at (p ++ (g ∷ [])) Down) (rw (above_kid kids n t p a h (g ∷ b) v k)))))
      a

  reach_down : (p : List ℕ) → Valid kids p → Leads kids fresh (at p Down)
  reach_down p = by_last (λ (p : List ℕ). Valid kids p → Leads kids fresh (at p Down))
      (λ v. (0, refl))
      (λ p g on v.
      let u = valid_up kids p g v in
      let r = mem_split g (kids p) (valid_kid kids p g v) in
      then kids (on u) (arrive p r.0 u g r.1 r.2))
      p

  reach : (p : List ℕ) (f : Phase) → Fits kids p f → Leads kids fresh (at p f)
  reach p Down v = reach_down p v
  reach p Handed h = then kids (reach_down p h.0) (one kids (at p Down) (at p Handed) (rw h.1))
  reach p (Back g) h = then kids (reach_down (p ++ (g ∷ [])) (valid_snoc kids p g h.0 h.1)) (kid_finish p g h.0 h.1)
  reach p Ended h = rw h (finish n [] tt (omega arith))

  fits_after : (k : ℕ) (s : State) → Fits kids s.picks s.phase → Fits kids (after kids k s).picks (after kids k s).phase
  fits_after zero s h = h
  fits_after (suc k) s h = fits_after k (move kids s).next (move_fits kids n t s.picks s.phase h)

  -- the states that are reached are those whose picks go with their phase
  pub reachable : (s : State) → Reached kids s ↔ Fits kids s.picks s.phase
  reachable s = (
    λ r. subst (λ (x : State). Fits kids x.picks x.phase) r.leads (fits_after r.count fresh tt),
    λ h. let r = reach s.picks s.phase h in record { count = r.0; leads = r.1 },
  )
