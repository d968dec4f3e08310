-- The list theorem: the chains of the leaves, in the order of the leaves, are the gauge list of the rows (`gauge_list`).
--
-- In order: what holds of every list of a table, whatever its key: no other list is (`list_unique`), two have the same members (`lists_same`) and are
-- equally long (`lists_length`), keys that agree have the same lists (`list_keys`); the theorem; no more leaves than n! for n rows (`leaves_few`).
--
-- Elsewhere: leaves and maximal chains, Maximal.antt; the case side, BothSides.antt.
use mathlib.Core.Path.{◌≡◌, sym, subst}
use mathlib.Core.Logic.{◌↔◌}
use mathlib.Core.List.Memᴰ
use mathlib.Core.List.{List, [], ◌∷◌, map, Memᴰ}
use Prim.Native.Nat.{ℕ, ◌≤◌}
use native.Mathlib.Omega.{arith}
use lib.ListN.{length}
use Rattle.table.specs.Chains.{IsMaximal}
use Rattle.rules.specs.Sequences.{All, Sorted, Before, factorial}
use Rattle.rules.proofs.Sequences.{All_of, Sorted_map, before_irrefl, before_trans, sorted_unique, distinct_length}
use Rattle.rules.proofs.Trees.{leaves}
use Rattle.rules.proofs.Leaves.{leaves-ascend, leaf-iff, leaf-count}
use Rattle.lists.specs.ByNumber.{ComesBefore}
use Rattle.lists.specs.ByNumber.{pick_seq}
use Rattle.lists.specs.Lists.{Earlier, SideList}
use Rattle.lists.specs.ByNumber.{candidates}
use Rattle.lists.specs.OnTable.{chain_of}
use Rattle.lists.proofs.Candidates.{IsLeaf}
use Rattle.lists.proofs.CandidateTree.{candidate_tree, candidates_few}
use Rattle.lists.proofs.Maximal.{leaf_maximal, maximal_leaf, maximal_chain_of, leaf_pick_seq}

-- ---- any list of a table
module _ {r : List ℕ} {key : List ℕ → List ℕ} where
  pub list_unique : (xs ys : List (List ℕ)) → SideList r key xs → SideList r key ys → xs ≡ ys
  list_unique xs ys a b =
      sorted_unique (Earlier key) (λ x. before_irrefl (key x)) (λ x y z h k. search (before_trans, h, k)) xs ys a.ascends b.ascends
      (λ x. (λ m. (b.members x).1 ((a.members x).0 m), λ m. (a.members x).1 ((b.members x).0 m)))

-- two lists of one table, whatever the keys: the same members, so equally many
module _ {r : List ℕ} {key key' : List ℕ → List ℕ} (xs ys : List (List ℕ)) (a : SideList r key xs) (b : SideList r key' ys) where
  pub lists_same : (x : List ℕ) → Memᴰ x xs ↔ Memᴰ x ys
  lists_same x = (λ m. (b.members x).1 ((a.members x).0 m), λ m. (a.members x).1 ((b.members x).0 m))

  pub lists_length : length xs ≡ length ys
  lists_length = omega (arith, distinct_length xs ys a.once (λ x m. (lists_same x).0 m), distinct_length ys xs b.once (λ x m. (lists_same x).1 m))

-- a list that ascends has no set twice
pub listed : {r : List ℕ} {key : List ℕ → List ℕ} (xs : List (List ℕ)) → ((x : List ℕ) → Memᴰ x xs ↔ IsMaximal r x)
    → Sorted (Earlier key) xs → SideList r key xs
listed {r} {key} xs m a = record { members = m; once = Sorted_map (λ x y h e. before_irrefl (key y) (rw e at h)) xs a; ascends = a }

-- keys that agree on the maximal chains have the same lists
sorted_keys : (key key' : List ℕ → List ℕ) (xs : List (List ℕ)) → All (λ (x : List ℕ). key x ≡ key' x) xs → Sorted (Earlier key) xs → Sorted (Earlier key') xs
sorted_keys key key' [] h s = tt
sorted_keys key key' (x ∷ xs) h s = (after xs h.1 s.0, sorted_keys key key' xs h.1 s.1)
  where
    after : (ys : List (List ℕ)) → All (λ (y : List ℕ). key y ≡ key' y) ys → All (Earlier key x) ys → All (Earlier key' x) ys
    after [] k t = tt
    after (y ∷ ys) k t = (rw (h.0, k.0) at (t.0), after ys k.1 t.1)

pub list_keys : (r : List ℕ) (key key' : List ℕ → List ℕ) → ((x : List ℕ) → IsMaximal r x → key x ≡ key' x) → (xs : List (List ℕ)) → SideList r key xs
    → SideList r key' xs
list_keys r key key' e xs l = record {
  members = l.members;
  once = l.once;
  ascends = sorted_keys key key' xs (All_of (λ (x : List ℕ). key x ≡ key' x) xs (λ x m. e x ((l.members x).0 m))) l.ascends;
}

-- ---- the list of rows
module _ (r : List ℕ) where
  -- the leaves of the candidates, and their chains
  abbrev pub picks_in_order : List (List ℕ)
  picks_in_order = leaves (candidates r) (length r) []

  abbrev pub chains_in_order : List (List ℕ)
  chains_in_order = map (chain_of r) picks_in_order

  leaf_of : (p : List ℕ) → Memᴰ p picks_in_order ↔ IsLeaf r p
  leaf_of p = leaf-iff (candidates r) (length r) (candidate_tree r) p

  chains_ascend : (l : List (List ℕ)) → All (IsLeaf r) l → Sorted Before l → Sorted ComesBefore (map (chain_of r) l)
  chains_ascend [] h s = tt
  chains_ascend (p ∷ l) h s = (after l h.1 s.0, chains_ascend l h.1 s.1)
    where
      after : (m : List (List ℕ)) → All (IsLeaf r) m → All (Before p) m → All (ComesBefore (chain_of r p)) (map (chain_of r) m)
      after [] a b = tt
      after (q ∷ m) a b = (rw (leaf_pick_seq r p h.0, leaf_pick_seq r q a.0) b.0, after m a.1 b.1)

  -- ---- the gauge list
  pub gauge_list : SideList r pick_seq chains_in_order
  gauge_list =
      listed {key = pick_seq} chains_in_order (λ x. (into x, onto x))
      (chains_ascend picks_in_order (All_of (IsLeaf r) picks_in_order (λ p m. (leaf_of p).0 m)) (leaves-ascend (candidates r) (length r) (candidate_tree r)))
    where
      into : (x : List ℕ) → Memᴰ x chains_in_order → IsMaximal r x
      into x m = let k = Memᴰ.of_map (chain_of r) picks_in_order m in subst (IsMaximal r) k.2 (leaf_maximal r k.0 ((leaf_of k.0).0 k.1))

      onto : (x : List ℕ) → IsMaximal r x → Memᴰ x chains_in_order
      onto x m = Memᴰ.cast (sym (maximal_chain_of r x m)) (Memᴰ.map (chain_of r) ((leaf_of (pick_seq x)).1 (maximal_leaf r x m)))

  -- no more leaves than orders of the rows
  pub leaves_few : length picks_in_order ≤ factorial (length r)
  leaves_few = leaf-count (candidates r) (length r) (candidates_few r)
