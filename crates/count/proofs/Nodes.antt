-- The nodes of a tree of number sequences, in order: they ascend, so each is there once, and they are the valid
-- sequences; there are at least as many as leaves. What they are for a table is in Reached.antt.
use mathlib.Core.Path.{refl, sym, ◌∙◌}
use mathlib.Core.Logic.{inr, ◌↔◌, ◌≢◌}
use mathlib.Core.List.{List, [], ◌∷◌, ◌++◌, append_assoc, append-nil, Memᴰ}
use Prim.Native.Nat.{ℕ, zero, suc, ◌+◌, ◌≤◌}
use native.Mathlib.Omega.{arith}
use lib.ListN.{length, length-append}
use Rattle.rules.specs.Sequences.{All, Sorted, Before}
use Rattle.rules.specs.private.Fitting.{ValidFrom, Valid}
use Rattle.rules.proofs.Sequences.{All_map, All_get, Sorted_map, before_irrefl}
use Rattle.rules.proofs.Trees.{each, branch, Tree, leaves, length_snoc, valid_snoc, kid_fits}
use Rattle.rules.proofs.Leaves.{Under, each_all, each_sorted, each_mem}

before_longer : (p : List ℕ) (g : ℕ) (s : List ℕ) → Before p ((p ++ (g ∷ [])) ++ s)
before_longer [] g s = tt
before_longer (x ∷ p) g s = inr (refl, before_longer p g s)

module _ (kids : List ℕ → List ℕ) where
  -- p and all below it; the count is how many more numbers may follow p
  abbrev pub nodes : ℕ → List ℕ → List (List ℕ)
  nodes zero p = p ∷ []
  nodes (suc f) p = p ∷ each (nodes f) p (kids p)

  under : (f : ℕ) (p : List ℕ) → All (Under p) (nodes f p)
  under zero p = (([], sym (append-nil p)), tt)
  under (suc f) p = (
    ([], sym (append-nil p)),
    each_all (Under p) (nodes f) p (kids p)
        (λ g _. All_map (λ q x. (g ∷ x.0, x.1 ∙ append_assoc p (g ∷ []) x.0)) (nodes f (p ++ (g ∷ []))) (under f (p ++ (g ∷ [])))),
  )

  module _ (n : ℕ) (t : Tree kids n) where
    sorted-below : (f : ℕ) (p : List ℕ) → Valid kids p → Sorted Before (nodes f p)
    sorted-below zero p v = (tt, tt)
    sorted-below (suc f) p v = (
      each_all (Before p) (nodes f) p (kids p)
          (λ g _. All_map (λ q x. rw x.1 (before_longer p g x.0)) (nodes f (p ++ (g ∷ []))) (under f (p ++ (g ∷ [])))),
      each_sorted (nodes f) p (kids p) (t.ascends p v) (λ g. under f (p ++ (g ∷ [])))
          (λ g m. sorted-below f (p ++ (g ∷ [])) (valid_snoc kids p g v m)),
    )

    valid-below : (f : ℕ) (p : List ℕ) → Valid kids p → All (Valid kids) (nodes f p)
    valid-below zero p v = (v, tt)
    valid-below (suc f) p v = (v, each_all (Valid kids) (nodes f) p (kids p) (λ g m. valid-below f (p ++ (g ∷ [])) (valid_snoc kids p g v m)))

    found_below : (f : ℕ) (p s : List ℕ) → Valid kids p → ValidFrom kids p s → n ≤ f + length p → Memᴰ (p ++ s) (nodes f p)
    found_below zero p [] v h l = Memᴰ.head (append-nil p)
    found_below zero p (x ∷ xs) v h l = absurd (omega (arith, kid_fits kids n t p x v h.0))
    found_below (suc f) p [] v h l = Memᴰ.head (append-nil p)
    found_below (suc f) p (x ∷ xs) v h l =
        Memᴰ.tail (each_mem (nodes f) p (p ++ (x ∷ xs)) h.0
        (rw append_assoc at (found_below f (p ++ (x ∷ [])) xs (valid_snoc kids p x v h.0) h.1 (omega (arith, length_snoc p x)))))

    pub node-iff : (q : List ℕ) → Memᴰ q (nodes n []) ↔ Valid kids q
    node-iff q = ((λ m. All_get (Valid kids) m (valid-below n [] tt)), λ h. found_below n [] q tt h (omega arith))

    pub nodes-once : Sorted (λ (p q : List ℕ). p ≢ q) (nodes n [])
    nodes-once = Sorted_map (λ p q h e. before_irrefl q (rw e at h)) (nodes n []) (sorted-below n [] tt)

  -- no more leaves than nodes
  pub leaves-nodes : (f : ℕ) (p : List ℕ) → length (leaves kids f p) ≤ length (nodes f p)
  leaves-nodes zero p = omega arith
  leaves-nodes (suc f) p = go (kids p) (λ g. leaves-nodes f (p ++ (g ∷ [])))
    where
      below : ℕ → List (List ℕ)
      below g = leaves kids f (p ++ (g ∷ []))

      above : ℕ → List (List ℕ)
      above g = nodes f (p ++ (g ∷ []))

      all : (l : List ℕ) → ((g : ℕ) → length (below g) ≤ length (above g)) → length (each (leaves kids f) p l) ≤ length (each (nodes f) p l)
      all [] h = omega arith
      all (g ∷ l) h = omega (arith, all l h, h g, length-append (below g) (each (leaves kids f) p l), length-append (above g) (each (nodes f) p l))

      go : (k : List ℕ) → ((g : ℕ) → length (below g) ≤ length (above g))
          → length (branch (leaves kids f) p k) ≤ suc (length (each (nodes f) p k))
      go [] h = omega arith
      go (g ∷ l) h = omega (arith, all (g ∷ l) h)
