-- The leaves of a tree: they ascend number by number (`leaves-ascend`), they are the valid sequences without kids (`leaf-iff`), and there are at most
-- n! of them where each step leaves one number fewer to choose from (`leaf-count`).
--
-- In order: laws of `each` and `branch`, for any leaves below; the three theorems. Nothing of moves is here.
use mathlib.Core.Path.{◌≡◌, refl, sym, ◌∙◌}
use mathlib.Core.Logic.{◌↔◌}
use mathlib.Core.List.Memᴰ
use mathlib.Core.List.{List, [], ◌∷◌, ◌++◌, append_assoc, append-nil, Memᴰ}
use Prim.Native.Nat.{ℕ, zero, suc, ◌+◌, ◌-◌, ◌*◌, ◌≤◌, ◌<◌}
use native.Mathlib.Nat.{mul-le-mul_right}
use native.Mathlib.Omega.{arith}
use lib.ListN.{length, length-append}
use Rattle.rules.specs.Sequences.{All, Sorted, Before, factorial}
use Rattle.rules.specs.private.Fitting.{ValidFrom, Valid}
use Rattle.rules.proofs.Sequences.{Ascending, All_map, All_append, All_get, Sorted_append, before_part}
use Rattle.rules.proofs.Trees.{each, branch, Tree, leaves, length_snoc, valid_snoc, kid_fits}

-- q begins with p
abbrev pub Under : List ℕ → List ℕ → Type 0
Under p q = (s : List ℕ) × (q ≡ p ++ s)

pub each_all : (P : List ℕ → Type 0) (f : List ℕ → List (List ℕ)) (p l : List ℕ) → ((g : ℕ) → Memᴰ g l → All P (f (p ++ (g ∷ [])))) → All P (each f p l)
each_all P f p [] h = tt
each_all P f p (g ∷ gs) h = All_append P (f (p ++ (g ∷ []))) (each f p gs) (h g (Memᴰ.head refl)) (each_all P f p gs (λ x m. h x (Memᴰ.tail m)))

branch_all : (P : List ℕ → Type 0) (f : List ℕ → List (List ℕ)) (p k : List ℕ) → (k ≡ [] → P p) → ((g : ℕ) → Memᴰ g k → All P (f (p ++ (g ∷ []))))
    → All P (branch f p k)
branch_all P f p [] z h = (z refl, tt)
branch_all P f p (g ∷ gs) z h = each_all P f p (g ∷ gs) h

pub each_sorted : (f : List ℕ → List (List ℕ)) (p l : List ℕ) → Ascending l → ((g : ℕ) → All (Under (p ++ (g ∷ []))) (f (p ++ (g ∷ []))))
    → ((g : ℕ) → Memᴰ g l → Sorted Before (f (p ++ (g ∷ [])))) → Sorted Before (each f p l)
each_sorted f p [] a u h = tt
each_sorted f p (g ∷ gs) a u h =
    Sorted_append Before (f (p ++ (g ∷ []))) (each f p gs) (h g (Memᴰ.head refl)) (each_sorted f p gs a.1 u (λ x m. h x (Memᴰ.tail m)))
    (All_map after (f (p ++ (g ∷ []))) (u g))
  where
    -- what is below g comes before what is below the later ones
    after : (q : List ℕ) → Under (p ++ (g ∷ [])) q → All (Before q) (each f p gs)
    after q x =
        each_all (Before q) f p gs
        (λ y m. All_map (λ r z. rw (x.1, z.1) (before_part p g y x.0 z.0 (All_get (λ k. g < k) m a.0))) (f (p ++ (y ∷ []))) (u y))

branch_sorted : (f : List ℕ → List (List ℕ)) (p k : List ℕ) → Ascending k → ((g : ℕ) → All (Under (p ++ (g ∷ []))) (f (p ++ (g ∷ []))))
    → ((g : ℕ) → Memᴰ g k → Sorted Before (f (p ++ (g ∷ [])))) → Sorted Before (branch f p k)
branch_sorted f p [] a u h = (tt, tt)
branch_sorted f p (g ∷ gs) a u h = each_sorted f p (g ∷ gs) a u h

each-length : (f : List ℕ → List (List ℕ)) (p l : List ℕ) (c : ℕ) → ((g : ℕ) → Memᴰ g l → length (f (p ++ (g ∷ []))) ≤ c)
    → length (each f p l) ≤ length l * c
each-length f p [] c h = omega arith
each-length f p (g ∷ gs) c h =
    omega (arith, length-append (f (p ++ (g ∷ []))) (each f p gs), h g (Memᴰ.head refl), each-length f p gs c (λ x m. h x (Memᴰ.tail m)))

branch-length : (f : List ℕ → List (List ℕ)) (p k : List ℕ) (c d : ℕ) → 1 ≤ c → 1 ≤ d → length k ≤ d
    → ((g : ℕ) → Memᴰ g k → length (f (p ++ (g ∷ []))) ≤ c) → length (branch f p k) ≤ d * c
branch-length f p [] c d hc hd hk h = omega (arith, mul-le-mul_right c hd)
branch-length f p (g ∷ gs) c d hc hd hk h = omega (arith, mul-le-mul_right c hk, each-length f p (g ∷ gs) c h)

pub each_mem : (f : List ℕ → List (List ℕ)) (p : List ℕ) {g : ℕ} {l : List ℕ} (q : List ℕ) → Memᴰ g l → Memᴰ q (f (p ++ (g ∷ [])))
    → Memᴰ q (each f p l)
each_mem f p q (Memᴰ.head {xs = xs} e) m = Memᴰ.append_left (each f p xs) (rw e at m)
each_mem f p q (Memᴰ.tail {x = x} i) m = Memᴰ.append_right (f (p ++ (x ∷ []))) (each_mem f p q i m)

branch_mem : (f : List ℕ → List (List ℕ)) (p : List ℕ) {g : ℕ} {l : List ℕ} (q : List ℕ) → Memᴰ g l → Memᴰ q (f (p ++ (g ∷ [])))
    → Memᴰ q (branch f p l)
branch_mem f p q (Memᴰ.head {x = x} {xs = xs} e) m = each_mem f p {l = x ∷ xs} q (Memᴰ.head e) m
branch_mem f p q (Memᴰ.tail {x = x} {xs = xs} i) m = each_mem f p {l = x ∷ xs} q (Memᴰ.tail i) m

fact_pos : (n : ℕ) → 1 ≤ factorial n
fact_pos zero = omega arith
fact_pos (suc n) = omega (arith, fact_pos n)

module _ (kids : List ℕ → List ℕ) where
  -- the leaves below p begin with p
  pub under : (f : ℕ) (p : List ℕ) → All (Under p) (leaves kids f p)
  under zero p = (([], sym (append-nil p)), tt)
  under (suc f) p = branch_all (Under p) (leaves kids f) p (kids p) (λ _. ([], sym (append-nil p)))
      (λ g _. All_map (λ q x. (g ∷ x.0, x.1 ∙ append_assoc p (g ∷ []) x.0)) (leaves kids f (p ++ (g ∷ []))) (under f (p ++ (g ∷ []))))

  -- how many
  module _ (n : ℕ) (few : (p : List ℕ) → Valid kids p → length (kids p) ≤ n - length p) where
    count-below : (f : ℕ) (p : List ℕ) → Valid kids p → f + length p ≡ n → length (leaves kids f p) ≤ factorial f
    count-below zero p v e = omega arith
    count-below (suc f) p v e = branch-length (leaves kids f) p (kids p) (factorial f) (suc f) (fact_pos f) (omega arith) (omega (arith, few p v))
        (λ g m. count-below f (p ++ (g ∷ [])) (valid_snoc kids p g v m) (omega (arith, length_snoc p g)))

    pub leaf-count : length (leaves kids n []) ≤ factorial n
    leaf-count = count-below n [] tt (omega arith)

  module _ (n : ℕ) (t : Tree kids n) where
    sorted-below : (f : ℕ) (p : List ℕ) → Valid kids p → Sorted Before (leaves kids f p)
    sorted-below zero p v = (tt, tt)
    sorted-below (suc f) p v =
        branch_sorted (leaves kids f) p (kids p) (t.ascends p v) (λ g. under f (p ++ (g ∷ [])))
        (λ g m. sorted-below f (p ++ (g ∷ [])) (valid_snoc kids p g v m))

    -- the order
    pub leaves-ascend : Sorted Before (leaves kids n [])
    leaves-ascend = sorted-below n [] tt

    -- at the full depth there are no kids
    bare : (p : List ℕ) → Valid kids p → n ≤ length p → kids p ≡ []
    bare p v l = go (kids p) refl
      where
        go : (k : List ℕ) → kids p ≡ k → k ≡ []
        go [] e = refl
        go (g ∷ gs) e = absurd (omega (arith, kid_fits kids n t p g v (rw e (Memᴰ.head refl))))

    -- the leaves are the valid sequences without kids
    leaf-below : (f : ℕ) (p : List ℕ) → Valid kids p → n ≤ f + length p → All (λ (q : List ℕ). Valid kids q × (kids q ≡ [])) (leaves kids f p)
    leaf-below zero p v l = ((v, bare p v (omega arith)), tt)
    leaf-below (suc f) p v l = branch_all (λ (q : List ℕ). Valid kids q × (kids q ≡ [])) (leaves kids f) p (kids p) (λ e. (v, e))
        (λ g m. leaf-below f (p ++ (g ∷ [])) (valid_snoc kids p g v m) (omega (arith, length_snoc p g)))

    -- and each of them that begins with p is below p
    pub found_below : (f : ℕ) (p s : List ℕ) → Valid kids p → ValidFrom kids p s → kids (p ++ s) ≡ [] → n ≤ f + length p → Memᴰ (p ++ s) (leaves kids f p)
    found_below zero p [] v h e l = Memᴰ.head (append-nil p)
    found_below zero p (x ∷ xs) v h e l = absurd (omega (arith, kid_fits kids n t p x v h.0))
    found_below (suc f) p [] v h e l = let k : kids p ≡ [] = rw append-nil at e in rw (append-nil, k) (Memᴰ.head refl)
    found_below (suc f) p (x ∷ xs) v h e l = branch_mem (leaves kids f) p (p ++ (x ∷ xs)) h.0
        (rw append_assoc at (found_below f (p ++ (x ∷ [])) xs (valid_snoc kids p x v h.0) h.1 (rw append_assoc e) (omega (arith, length_snoc p x))))

    pub leaf-iff : (q : List ℕ) → Memᴰ q (leaves kids n []) ↔ (Valid kids q × (kids q ≡ []))
    leaf-iff q =
        ((λ m. All_get (λ (q : List ℕ). Valid kids q × (kids q ≡ [])) m (leaf-below n [] tt (omega arith))), λ h. found_below n [] q tt h.0 h.1 (omega arith))
