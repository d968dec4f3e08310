-- Finite ordered trees of number sequences, given by `kids`, and their leaves in order: the definitions that the laws
-- are about, lists taken from their end, and sequences valid step by step. Which the leaves are and how many is in
-- Leaves.antt.
use mathlib.Core.Path.{◌≡◌, refl, ap}
use mathlib.Core.List.{List, [], ◌∷◌, ◌++◌, append_assoc, append-nil, Memᴰ}
use Prim.Native.Nat.{ℕ, zero, suc, ◌≤◌, ◌<◌}
use native.Mathlib.Omega.{arith}
use lib.ListN.{length}
use Rattle.rules.specs.Machine.{cut, cut_cons, cut_last}
use Rattle.rules.specs.ByNumber.{above}
use Rattle.rules.specs.private.Fitting.{ValidFrom, Valid}
use Rattle.rules.proofs.Sequences.{Ascending, above_at}

-- ---- lists from their end
pub by_last : (P : List ℕ → Type 0) → P [] → ((p : List ℕ) (g : ℕ) → P p → P (p ++ (g ∷ []))) → (p : List ℕ) → P p
by_last P z s p = from [] p z
  where
    from : (q p : List ℕ) → P q → P (q ++ p)
    from q [] h = rw append-nil h
    from q (x ∷ xs) h = rw append_assoc at (from (q ++ (x ∷ [])) xs (s q x h))

pub cut_snoc : (p : List ℕ) (g : ℕ) → cut_last (p ++ (g ∷ [])) ≡ cut p g
cut_snoc [] g = refl
cut_snoc (x ∷ xs) g = ap (cut_cons x) (cut_snoc xs g)

pub length_snoc : (p : List ℕ) (g : ℕ) → length (p ++ (g ∷ [])) ≡ suc (length p)
length_snoc [] g = refl
length_snoc (x ∷ xs) g = ap suc (length_snoc xs g)

-- ---- leaves
-- the leaves below p ++ (g ∷ []) for each g of a list in turn, where `below` gives the leaves below a sequence
abbrev pub each : (List ℕ → List (List ℕ)) → List ℕ → List ℕ → List (List ℕ)
each below p [] = []
each below p (g ∷ gs) = below (p ++ (g ∷ [])) ++ each below p gs

-- the leaves below p, given its kids: p itself where it has none
abbrev pub branch : (List ℕ → List (List ℕ)) → List ℕ → List ℕ → List (List ℕ)
branch below p [] = p ∷ []
branch below p (g ∷ gs) = each below p (g ∷ gs)

module _ (kids : List ℕ → List ℕ) where
  -- the kids ascend, and no valid sequence is longer than n
  pub record Tree (n : ℕ) : Type 0 where
    pub ascends : (p : List ℕ) → Valid kids p → Ascending (kids p)
    pub depth : (p : List ℕ) → Valid kids p → length p ≤ n

  -- the leaves below p, in order; the count is how many more numbers may follow p
  abbrev pub leaves : ℕ → List ℕ → List (List ℕ)
  leaves zero p = p ∷ []
  leaves (suc f) p = branch (leaves f) p (kids p)

  -- ---- valid sequences, from the end
  valid_split : (q p : List ℕ) (g : ℕ) → ValidFrom kids q (p ++ (g ∷ [])) → ValidFrom kids q p × Memᴰ g (kids (q ++ p))
  valid_split q [] g h = (tt, rw append-nil (h.0))
  valid_split q (x ∷ xs) g h =
      let r = valid_split (q ++ (x ∷ [])) xs g (h.1) in
      ((h.0, r.0), rw append_assoc at (r.1))

  valid_join : (q p : List ℕ) (g : ℕ) → ValidFrom kids q p → Memᴰ g (kids (q ++ p)) → ValidFrom kids q (p ++ (g ∷ []))
  valid_join q [] g h m = (rw append-nil at m, tt)
  valid_join q (x ∷ xs) g h m = (h.0, valid_join (q ++ (x ∷ [])) xs g (h.1) (rw append_assoc m))

  pub valid_up : (p : List ℕ) (g : ℕ) → Valid kids (p ++ (g ∷ [])) → Valid kids p
  valid_up p g h = (valid_split [] p g h).0

  pub valid_kid : (p : List ℕ) (g : ℕ) → Valid kids (p ++ (g ∷ [])) → Memᴰ g (kids p)
  valid_kid p g h = (valid_split [] p g h).1

  pub valid_snoc : (p : List ℕ) (g : ℕ) → Valid kids p → Memᴰ g (kids p) → Valid kids (p ++ (g ∷ []))
  valid_snoc p g h m = valid_join [] p g h m

module _ (kids : List ℕ → List ℕ) (n : ℕ) (t : Tree kids n) where
  pub kid_fits : (p : List ℕ) (g : ℕ) → Valid kids p → Memᴰ g (kids p) → length p < n
  kid_fits p g v m = omega (arith, t.depth (p ++ (g ∷ [])) (valid_snoc kids p g v m), length_snoc p g)

  -- above a kid are the kids after it
  pub above_kid : (p a : List ℕ) (g : ℕ) (b : List ℕ) → Valid kids p → kids p ≡ a ++ (g ∷ b) → above g (kids p) ≡ b
  above_kid p a g b v e = rw e (above_at a g b (rw e at (t.ascends p v)))
