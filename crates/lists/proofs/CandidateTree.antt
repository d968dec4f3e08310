-- The candidates of a table make a tree in the sense of crate `rules`: they ascend, no valid sequence of picks is longer than the table
-- has rows, and each pick leaves one gauge fewer to choose from. So the laws of `rules` hold of the runs of a table.
use mathlib.Core.Logic.{◌↔◌}
use mathlib.Core.List.{List, [], ◌∷◌, ◌++◌, append-nil}
use Prim.Native.Nat.{ℕ, ◌+◌, ◌-◌, ◌≤◌}
use native.Mathlib.Omega.{arith}
use lib.ListN.{length}
use lib.Seq.{append_snoc}
use Rattle.rules.specs.Machine.{State}
use Rattle.rules.specs.ByNumber.{Reached}
use Rattle.rules.specs.private.Fitting.{ValidFrom, Valid, Fits}
use Rattle.rules.proofs.Trees.{Tree}
use Rattle.rules.proofs.Reach.{reachable}
use Rattle.lists.specs.ByNumber.{candidate, candidates}
use Rattle.lists.proofs.Unpicked.{free, free_nil, free_drop}
use Rattle.lists.proofs.Selecting.{select_ascends, select_free}
use Rattle.lists.proofs.Candidates.{Cand, cand-of, mem_candidates}

module _ (rows : List ℕ) where
  candidates_free : (q : List ℕ) → length (candidates rows q) ≤ free q (length rows)
  unfolding candidates
  candidates_free q = select_free q (candidate rows q) (λ i t. (cand-of rows q i t).fresh) (length rows)

  valid_free : (a p : List ℕ) → ValidFrom (candidates rows) a p → free (a ++ p) (length rows) + length p ≤ free a (length rows)
  valid_free a [] v = rw (append-nil a) (omega arith)
  valid_free a (g ∷ p) v =
      let c : Cand rows a g = (mem_candidates rows a g).0 v.0 in
      let r : free (a ++ (g ∷ p)) (length rows) + length p ≤ free (a ++ (g ∷ [])) (length rows) =
      rw (append_snoc a g p) at (valid_free (a ++ (g ∷ [])) p v.1) in
      omega (arith, free_drop a g (length rows) c.fresh c.below)

  pub candidates_few : (p : List ℕ) → Valid (candidates rows) p → length (candidates rows p) ≤ length rows - length p
  candidates_few p v = omega (arith, candidates_free p, valid_free [] p v, free_nil (length rows))

  pub candidate_tree : Tree (candidates rows) (length rows)
  unfolding candidates
  candidate_tree = record {
    ascends = λ p v. select_ascends (candidate rows p) (length rows);
    depth = λ p v. omega (arith, valid_free [] p v, free_nil (length rows));
  }

-- the states that some number of moves leads to are those whose picks fit the phase
pub reached_fits : (r : List ℕ) (x : State) → Reached (candidates r) x ↔ Fits (candidates r) x.picks x.phase
reached_fits r x = reachable (candidates r) (length r) (candidate_tree r) x
