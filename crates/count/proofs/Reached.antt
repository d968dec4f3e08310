-- The nodes of the candidates of the arranged rows, by index, are the pick sequences that the rules can reach under a preference, each once
-- (`pick_sequences`), and the recursive step's two numbers (specs/private/Below.antt) are how many nodes and leaves there are below the picks made
-- (`calls_nodes`, `ladders_leaves`).
use mathlib.Core.Path.{◌≡◌, refl, sym, ap, ◌∙◌, fun_ext}
use mathlib.Core.Logic.{◌↔◌, ◌≢◌}
use mathlib.Core.Bool.{Bool, true, false, cond}
use mathlib.Core.List.Memᴰ
use mathlib.Core.List.{List, [], ◌∷◌, ◌++◌, map, append_assoc, Memᴰ}
use Prim.Native.Nat.{ℕ, zero, suc, ◌≤◌, ◌<◌}
use native.Mathlib.Decide.{dec_lt}
use native.Mathlib.Omega.{arith}
use lib.Dec.{T, not_T}
use lib.ListN.{length, length-append, set}
use borrow.Author.Tests.{le-ltb}
use Rattle.sets.specs.Sets.{meet}
use Rattle.sets.proofs.Tests.{is_true, is_false}
use Rattle.table.specs.Pairs.{row}
use Rattle.rules.specs.Sequences.{All, Sorted}
use Rattle.rules.specs.Machine.{Phase, Down, Handed, Back, Ended, State, at}
use Rattle.rules.specs.private.Fitting.{Valid, Fits}
use Rattle.rules.proofs.Sequences.{All_of}
use Rattle.rules.proofs.Trees.{each, branch, leaves}
use Rattle.lists.specs.Arrangements.{IsArrangement, place_of}
use Rattle.lists.specs.Lists.{Side}
use Rattle.lists.specs.Picks.{select}
use Rattle.lists.specs.ByNumber.{candidate, candidates}
use Rattle.lists.proofs.Selecting.{mem_select, select_nil}
use Rattle.lists.proofs.Candidates.{cand-of}
use Rattle.lists.specs.private.Arranging.{index_at, prefer}
use Rattle.lists.proofs.CandidateTree.{candidate_tree}
use Rattle.lists.proofs.PlacedCandidates.{AllBelow, places_back}
use Rattle.lists.proofs.PlacedRuns.{good_below, reached_placed}
use Rattle.search.proofs.AfterPicks.{Rows, After, candidate_wide, after_pick}
use Rattle.count.specs.Counting.{ReachedPicks, PickSequences}
use Rattle.count.specs.private.Below.{sum_below, is_candidate, calls_in, ladders_in}
use Rattle.count.proofs.Sums.{sum_zero, sum_in, sum_out, sum_skip, sum_same}
use Rattle.count.proofs.Unpicked.{candidate_inside}
use Rattle.count.proofs.Turns.{ladders_none, ladders_some}
use Rattle.count.proofs.Nodes.{nodes, node-iff, nodes-once}

-- ---- the sequences that the rules can reach
-- lists that differ still do where a map that is undone on them is made of each
distinct_map : (f back : List ℕ → List ℕ) (l : List (List ℕ)) → All (λ (p : List ℕ). back (f p) ≡ p) l → Sorted (λ (p q : List ℕ). p ≢ q) l
    → Sorted (λ (p q : List ℕ). p ≢ q) (map f l)
distinct_map f back [] h s = tt
distinct_map f back (p ∷ l) h s = (after l h.1 s.0, distinct_map f back l h.1 s.1)
  where
    after : (m : List (List ℕ)) → All (λ (q : List ℕ). back (f q) ≡ q) m → All (λ (q : List ℕ). p ≢ q) m → All (λ (q : List ℕ). f p ≢ q) (map f m)
    after [] k t = tt
    after (q ∷ m) k t = ((λ e. t.0 (sym h.0 ∙ ap back e ∙ k.0)), after m k.1 t.1)

module _ (s : Side) (o : List ℕ) (counted : length s.rows ≡ s.count) (a : IsArrangement s.count o) where
  abbrev rows : List ℕ
  rows = (prefer o s).rows

  -- the pick sequences of the arranged rows, by place
  abbrev placed : List (List ℕ)
  placed = nodes (candidates rows) (length rows) []

  fits_valid : (p : List ℕ) (f : Phase) → Fits (candidates rows) p f → Valid (candidates rows) p
  fits_valid p Down h = h
  fits_valid p Handed h = h.0
  fits_valid p (Back g) h = h.0
  fits_valid p Ended h = rw h tt

  node_of : (p : List ℕ) → Memᴰ p placed ↔ Valid (candidates rows) p
  node_of p = node-iff (candidates rows) (length rows) (candidate_tree rows) p

  low : (p : List ℕ) → Valid (candidates rows) p → AllBelow s.count p
  low p v = (good_below s o counted a (at p Down) v).picks

  abbrev pub reached_in_order : List (List ℕ)
  reached_in_order = map (map (index_at o)) placed

  pub pick_sequences : PickSequences s o reached_in_order
  pick_sequences = record {
    once =
        distinct_map (map (index_at o)) (map (place_of o)) placed
        (All_of (λ (p : List ℕ). map (place_of o) (map (index_at o) p) ≡ p) placed (λ p m. places_back s.count o a p (low p ((node_of p).0 m))))
        (nodes-once (candidates rows) (length rows) (candidate_tree rows));
    members = λ p. (λ m. into p (Memᴰ.of_map (map (index_at o)) placed m), onto p);
  }
    where
      into : (p : List ℕ) → (q : List ℕ) × Memᴰ q placed × (map (index_at o) q ≡ p) → ReachedPicks s o p
      into p (q, m, e) = record {
        phase = Down;
        reached = (reached_placed s o counted a (at p Down)).1
            (record { state = at q Down; good = (node_of q).0 m; is = ap (λ (x : List ℕ). at x Down) e });
      }

      onto : (p : List ℕ) → ReachedPicks s o p → Memᴰ p reached_in_order
      onto p r =
          let x = (reached_placed s o counted a (at p r.phase)).0 r.reached in
          Memᴰ.cast (sym (ap (λ (y : State). y.picks) x.is))
          (Memᴰ.map (map (index_at o)) ((node_of x.state.picks).1 (fits_valid x.state.picks x.state.phase x.good)))

-- ---- how many, as a sum over the candidates
module _ (f : List ℕ → List (List ℕ)) (p : List ℕ) where
  each_append : (a b : List ℕ) → each f p (a ++ b) ≡ each f p a ++ each f p b
  each_append [] b = refl
  each_append (g ∷ a) b =
      ap (λ (l : List (List ℕ)). f (p ++ (g ∷ [])) ++ l) (each_append a b) ∙ sym (append_assoc (f (p ++ (g ∷ []))) (each f p a) (each f p b))

  each_sum : (c : ℕ → Bool) (n : ℕ) → length (each f p (select c n)) ≡ sum_below c (λ g. length (f (p ++ (g ∷ [])))) n
  unfolding select
  each_sum c zero = sym (sum_zero c (λ g. length (f (p ++ (g ∷ [])))))
  each_sum c (suc n) = go (c n) refl (each_sum c n)
    where
      go : (b : Bool) → c n ≡ b → length (each f p (select c n)) ≡ sum_below c (λ g. length (f (p ++ (g ∷ [])))) n
          → length (each f p (cond b (select c n ++ (n ∷ [])) (select c n))) ≡ sum_below c (λ g. length (f (p ++ (g ∷ [])))) (suc n)
      go true e ih =
          omega (
            arith,
            ap length (each_append (select c n) (n ∷ [])),
            length-append (each f p (select c n)) (each f p (n ∷ [])),
            length-append (f (p ++ (n ∷ []))) [],
            sum_in c (λ g. length (f (p ++ (g ∷ [])))) n e,
          )
      go false e ih = ih ∙ sym (sum_out c (λ g. length (f (p ++ (g ∷ [])))) n e)

module _ (r : List ℕ) (ok : Rows r) (p u : List ℕ) (left : ℕ) (o : After r p u left) where
  -- the candidates by the rows of the unpicked gauges are the table's, and past the table there is none
  same : (g : ℕ) → is_candidate u left g ≡ candidate r p g
  same g = candidate_wide r p u left ok o g

  none_past : (i : ℕ) → length r ≤ i → candidate r p i ≡ false
  unfolding candidate
  none_past i l = rw (le-ltb i (length r) l)

  no_cand : candidates r p ≡ [] → (i : ℕ) → is_candidate u left i ≡ false
  unfolding candidates
  no_cand e i = same i ∙ go (dec_lt i (length r))
    where
      go : Dec (i < length r) → candidate r p i ≡ false
      go (yes l) = is_false (candidate r p i) (not_T (candidate r p i) (select_nil (candidate r p) (length r) i e l))
      go (no l) = none_past i (omega arith)

  some_cand : (x : ℕ) (k : List ℕ) → candidates r p ≡ x ∷ k → (x < 64) × (is_candidate u left x ≡ true)
  unfolding candidates
  some_cand x k e =
      let m : (x < length r) × T (candidate r p x) = (mem_select (candidate r p) (length r) x).0 (rw e (Memᴰ.head refl)) in
      (omega (arith, m.0, ok.few), same x ∙ is_true (candidate r p x) m.1)

  -- a sum over the candidates, by the rows of the unpicked gauges and by the table
  same_sum : (f : List ℕ → List (List ℕ)) (h : ℕ → ℕ) → ((g : ℕ) → is_candidate u left g ≡ true → h g ≡ length (f (p ++ (g ∷ []))))
      → sum_below (is_candidate u left) h 64 ≡ length (each f p (candidates r p))
  unfolding candidates
  same_sum f h k =
      sum_same (is_candidate u left) h below 64 (λ i _ e. k i e)
      ∙ ap (λ (c : ℕ → Bool). sum_below c below 64) (fun_ext same)
      ∙ sum_skip (candidate r p) below (length r) 64 ok.few (λ i l _. none_past i l)
      ∙ sym (each_sum f p (candidate r p) (length r))
    where
      below : ℕ → ℕ
      below g = length (f (p ++ (g ∷ [])))

module _ (r : List ℕ) (ok : Rows r) where
  -- the rows after one candidate more
  picked : (p u : List ℕ) (left : ℕ) → After r p u left → (g : ℕ) → is_candidate u left g ≡ true → After r (p ++ (g ∷ [])) (set u g 0) (meet (row u g) left)
  picked p u left o g e =
      let c : T (candidate r p g) = rw (← same r ok p u left o g, e) tt in
      after_pick r p u left g (is_false _ (cand-of r p g c).fresh) (candidate_inside u left g e) o

  pub calls_nodes : (f : ℕ) (p u : List ℕ) (left : ℕ) → After r p u left → calls_in f u left ≡ length (nodes (candidates r) f p)
  unfolding calls_in
  calls_nodes zero p u left o = refl
  calls_nodes (suc f) p u left o =
      ap suc (same_sum r ok p u left o (nodes (candidates r) f) (λ g. calls_in f (set u g 0) (meet (row u g) left))
      (λ g e. calls_nodes f (p ++ (g ∷ [])) (set u g 0) (meet (row u g) left) (picked p u left o g e)))

  pub ladders_leaves : (f : ℕ) (p u : List ℕ) (left : ℕ) → After r p u left → ladders_in f u left ≡ length (leaves (candidates r) f p)
  unfolding ladders_in
  ladders_leaves zero p u left o = refl
  ladders_leaves (suc f) p u left o =
      go (candidates r p) refl (λ g e. ladders_leaves f (p ++ (g ∷ [])) (set u g 0) (meet (row u g) left) (picked p u left o g e))
    where
      at_one : ℕ → ℕ
      at_one g = ladders_in f (set u g 0) (meet (row u g) left)

      go : (k : List ℕ) → candidates r p ≡ k → ((g : ℕ) → is_candidate u left g ≡ true → at_one g ≡ length (leaves (candidates r) f (p ++ (g ∷ []))))
          → ladders_in (suc f) u left ≡ length (branch (leaves (candidates r) f) p k)
      go [] e h = ladders_none u left (suc f) (λ i _. no_cand r ok p u left o e i)
      go (x ∷ k) e h =
          let (l, c) = some_cand r ok p u left o x k e in
          ladders_some u left f x l c
          ∙ same_sum r ok p u left o (leaves (candidates r) f) at_one h
          ∙ ap (λ (m : List ℕ). length (each (leaves (candidates r) f) p m)) e
