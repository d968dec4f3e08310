-- The leaves below a sequence q of a tree in the sense of crate `rules`: all start with q, and no other leaf does. So the leaves of the tree are some that
-- do not start with q, then those below q, then some that do not (`around`); and the last two are what is still to be handed out Down at q.
use mathlib.Core.Path.{◌≡◌, refl, sym, ap, ◌∙◌, subst}
use mathlib.Core.List.Memᴰ
use mathlib.Core.List.{List, [], ◌∷◌, ◌++◌, append_assoc, append-nil, Memᴰ}
use Prim.Native.Nat.{ℕ, zero, suc, ◌-◌}
use native.Mathlib.Nat.{sub-zero}
use native.Mathlib.Omega.{arith}
use lib.ListN.{length}
use Rattle.rules.specs.Sequences.{All, Sorted, Before}
use Rattle.rules.specs.Machine.{Down, Handed, State, at, fresh, Given, nothing, hands, ends}
use Rattle.rules.specs.ByNumber.{move, after}
use Rattle.rules.specs.private.Fitting.{ValidFrom, Valid, Fits}
use Rattle.rules.proofs.Sequences.{All_map, All_get, All_of, before_irrefl}
use Rattle.rules.proofs.Trees.{each, branch, Tree, leaves}
use Rattle.rules.proofs.Leaves.{under, found_below, leaves-ascend, leaf-iff}
use Rattle.rules.proofs.Progress.{rest, listed, move_rest, move_fits}
use Rattle.rules.proofs.Reach.{reachable}
use Rattle.parts.specs.Parts.{StartsWith}

-- ---- lists that ascend
module _ {A : Type 0} (r : A → A → Type 0) where
  pub sorted_right : (a b : List A) → Sorted r (a ++ b) → Sorted r b
  sorted_right [] b h = h
  sorted_right (x ∷ a) b h = sorted_right a b h.1

  all_right : (p : A → Type 0) (a b : List A) → All p (a ++ b) → All p b
  all_right p [] b h = h
  all_right p (x ∷ a) b h = all_right p a b h.1

  pub sorted_cross : (a b : List A) → Sorted r (a ++ b) → {x y : A} → Memᴰ x a → Memᴰ y b → r x y
  sorted_cross [] b h m k = elim m [ ]
  sorted_cross (z ∷ a) b h {x} {y} (Memᴰ.head e) k = subst (λ (w : A). r w y) (sym e) (All_get (r z) k (all_right (r z) a b h.0))
  sorted_cross (z ∷ a) b h (Memᴰ.tail m) k = sorted_cross a b h.1 m k

module _ (kids : List ℕ → List ℕ) where
  -- what follows in a valid sequence
  pub valid_drop : (a q s : List ℕ) → ValidFrom kids a (q ++ s) → ValidFrom kids (a ++ q) s
  valid_drop a [] s h = rw append-nil h
  valid_drop a (x ∷ q) s h = rw append_assoc at (valid_drop (a ++ (x ∷ [])) q s h.1)

  -- the leaves below q start with q, and there is one
  pub below_start : (f : ℕ) (q : List ℕ) → All (StartsWith q) (leaves kids f q)
  below_start f q = All_map (λ l h. record { rest = h.0; is = h.1 }) (leaves kids f q) (under kids f q)

  pub below_some : (f : ℕ) (q : List ℕ) → (l : List ℕ) × Memᴰ l (leaves kids f q)
  below_some zero q = (q, Memᴰ.head refl)
  below_some (suc f) q = go (kids q) (λ g. below_some f (q ++ (g ∷ [])))
    where
      go : (k : List ℕ) → ((g : ℕ) → (l : List ℕ) × Memᴰ l (leaves kids f (q ++ (g ∷ [])))) → (l : List ℕ) × Memᴰ l (branch (leaves kids f) q k)
      go [] on = (q, Memᴰ.head refl)
      go (g ∷ k) on = ((on g).0, Memᴰ.append_left (each (leaves kids f) q k) (on g).1)

  module _ (n : ℕ) (t : Tree kids n) where
    -- ---- what is still to be handed out
    -- moves hand out a front of it
    front_rest : (k : ℕ) (s : State) → Fits kids s.picks s.phase
        → (h : List (List ℕ)) × (h ++ rest kids n (after kids k s).picks (after kids k s).phase ≡ rest kids n s.picks s.phase)
    front_rest zero s f = ([], refl)
    front_rest (suc k) s f =
        go (move kids s).given (move_rest kids n t s.picks s.phase f) (front_rest k (move kids s).next (move_fits kids n t s.picks s.phase f))
      where
        later : List (List ℕ)
        later = rest kids n (after kids k (move kids s).next).picks (after kids k (move kids s).next).phase

        next : List (List ℕ)
        next = rest kids n (move kids s).next.picks (move kids s).next.phase

        go : (g : Given) → listed g next ≡ rest kids n s.picks s.phase → (h : List (List ℕ)) × (h ++ later ≡ next)
            → (h : List (List ℕ)) × (h ++ later ≡ rest kids n s.picks s.phase)
        go nothing e r = (r.0, r.1 ∙ e)
        go (hands p) e r = (p ∷ r.0, ap (λ (x : List (List ℕ)). p ∷ x) r.1 ∙ e)
        go ends e r = (r.0, r.1 ∙ e)

    -- ---- the leaves around those below q
    abbrev pub below : List ℕ → List (List ℕ)
    below q = leaves kids (n - length q) q

    abbrev pub beyond : List ℕ → List (List ℕ)
    beyond q = rest kids n q Handed

    pub record Around (q : List ℕ) : Type 0 where
      pub sooner : List (List ℕ)
      pub whole : sooner ++ (below q ++ beyond q) ≡ leaves kids n []
      pub none-sooner : All (λ (l : List ℕ). StartsWith q l → ⊥) sooner
      pub none-beyond : All (λ (l : List ℕ). StartsWith q l → ⊥) (beyond q)

    leaf-below : (q l : List ℕ) → Valid kids q → Memᴰ l (leaves kids n []) → StartsWith q l → Memᴰ l (below q)
    leaf-below q l v m h =
        let k = (leaf-iff kids n t l).0 m in
        let w : Valid kids (q ++ h.rest) = subst (Valid kids) h.is k.0 in
        Memᴰ.cast h.is (found_below kids n t (n - length q) q h.rest v (valid_drop [] q h.rest w) (subst (λ (x : List ℕ). kids x ≡ []) h.is k.1)
        (omega (arith, t.depth q v)))

    pub around : (q : List ℕ) → Valid kids q → Around q
    around q v = record {
      sooner = h;
      whole = w;
      none-sooner = All_of (λ (l : List ℕ). StartsWith q l → ⊥) h (λ l m s.
          before_irrefl l (sorted_cross Before h (below q ++ beyond q) sorted m
          (Memᴰ.append_left (beyond q) (leaf-below q l v (subst (λ (x : List (List ℕ)). Memᴰ l x) w (Memᴰ.append_left (below q ++ beyond q) m)) s))));
      none-beyond = All_of (λ (l : List ℕ). StartsWith q l → ⊥) (beyond q) (λ l m s.
          before_irrefl l (sorted_cross Before (below q) (beyond q) (sorted_right Before h (below q ++ beyond q) sorted)
          (leaf-below q l v (subst (λ (x : List (List ℕ)). Memᴰ l x) w (Memᴰ.append_right h (Memᴰ.append_right (below q) m))) s) m));
    }
      where
        reached : (k : ℕ) × (after kids k fresh ≡ at q Down)
        reached = let r = (reachable kids n t (at q Down)).1 v in (r.count, r.leads)

        front : (h : List (List ℕ)) × (h ++ (below q ++ beyond q) ≡ rest kids n [] Down)
        front =
            let r = front_rest reached.0 fresh tt in
            (r.0, subst (λ (x : State). r.0 ++ rest kids n x.picks x.phase ≡ rest kids n [] Down) reached.1 r.1)

        h : List (List ℕ)
        h = front.0

        from-fresh : rest kids n [] Down ≡ leaves kids n []
        from-fresh = simp (append-nil, sub-zero)

        w : h ++ (below q ++ beyond q) ≡ leaves kids n []
        w = front.1 ∙ from-fresh

        sorted : Sorted Before (h ++ (below q ++ beyond q))
        sorted = subst (Sorted Before) (sym w) (leaves-ascend kids n t)
