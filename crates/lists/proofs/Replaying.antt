-- Picks handed in, judged in one pass. After the picks q there are three numbers: the left cases l, the left cases b
-- before the last picks that left the same, and the place k behind the last pick. `Clear` says that no unpicked gauge
-- is against the picks: one that has all left cases left the same as the last picks, and comes after the last.
-- `Stands`: the picks can have been made exactly when all is clear.
use mathlib.Core.Path.{◌≡◌, refl, sym, ap, ◌∙◌}
use mathlib.Core.List.{List, [], ◌∷◌, ◌++◌}
use Prim.Native.Nat.{ℕ, suc, ◌≤◌, ◌<◌}
use native.Mathlib.Decide.{ℕ_discrete, dec_lt}
use native.Mathlib.Omega.{arith}
use lib.ListN.{length}
use Rattle.sets.specs.Sets.{meet, ◌⊆◌}
use Rattle.sets.proofs.Order.{sub_refl, sub_trans, meet_comm, meet_left, meet_right, meet_glb}
use Rattle.table.specs.Pairs.{row}
use Rattle.rules.specs.private.Fitting.{Valid}
use Rattle.rules.proofs.Trees.{valid_up, valid_kid, valid_snoc}
use Rattle.lists.specs.Picks.{common, remainder}
use Rattle.lists.specs.ByNumber.{candidates}
use Rattle.lists.proofs.Unpicked.{Un, un_left, un_ne, un_snoc}
use Rattle.lists.proofs.Remainders.{common_snoc, remainder_left}
use Rattle.lists.proofs.Candidates.{Cand, mem_candidates}

module _ (rows : List ℕ) (full : ℕ) (inside : (i : ℕ) → row rows i ⊆ full) where
  abbrev pub Clear : List ℕ → ℕ → ℕ → ℕ → Type 0
  Clear q b l k = (h : ℕ) → Un q h → l ⊆ row rows h → (meet (row rows h) b ≡ l) × (k ≤ h)

  pub record Stands (q : List ℕ) (b l k : ℕ) : Type 0 where
    pub left : l ≡ common rows q full
    pub forth : Valid (candidates rows) q → Clear q b l k
    pub back : Clear q b l k → Valid (candidates rows) q

  pub stands_none : Stands [] full full 0
  unfolding common
  stands_none = record { left = refl; forth = λ v h u s. (meet_comm (row rows h) full ∙ s, omega arith); back = λ c. tt }

  -- ---- one pick more
  module _ (q : List ℕ) (b l k g own : ℕ) (s : Stands q b l k) (eo : own ≡ meet (row rows g) l) where
    -- a remainder is the row within the left cases
    rem : (h : ℕ) → remainder rows q h ≡ meet (row rows h) l
    rem h = remainder_left rows full q h (inside h) ∙ ap (meet (row rows h)) (sym s.left)

    own-rem : remainder rows q g ≡ own
    own-rem = rem g ∙ sym eo

    own-left : own ⊆ l
    own-left = rw (eo) (meet_right (row rows g) l)

    left-more : own ≡ common rows (q ++ (g ∷ [])) full
    left-more = eo ∙ meet_comm (row rows g) l ∙ ap (λ (x : ℕ). meet x (row rows g)) s.left ∙ sym (common_snoc rows q g full)

    -- what a remainder that holds the pick's own cases says of its row
    over : (h : ℕ) → own ⊆ remainder rows q h → own ⊆ row rows h
    over h c = sub_trans own (remainder rows q h) (row rows h) c (rw (rem h) (meet_left (row rows h) l))

    under : (h : ℕ) → own ⊆ row rows h → own ⊆ remainder rows q h
    under h c = rw (rem h) (meet_glb own (row rows h) l c own-left)

    -- the pick is a candidate, so a gauge that has its cases has the same remainder and comes after it
    behind : Cand rows q g → (h : ℕ) → Un (q ++ (g ∷ [])) h → own ⊆ row rows h → (meet (row rows h) l ≡ own) × (suc g ≤ h)
    behind c h u o =
        let e : remainder rows q h ≡ remainder rows q g = c.top h (un_left q g h u) (rw (own-rem) (under h o)) in
        (sym (rem h) ∙ e ∙ own-rem, later e)
      where
        later : remainder rows q h ≡ remainder rows q g → suc g ≤ h
        later e = go (dec_lt h g)
          where
            go : Dec (h < g) → suc g ≤ h
            go (yes y) = absurd (c.first h (un_left q g h u) y e)
            go (no n) = let ne : ¬ (h ≡ g) = un_ne q g h u in pick (ℕ_discrete h g) ne n
              where
                pick : Dec (h ≡ g) → ¬ (h ≡ g) → ¬ (h < g) → suc g ≤ h
                pick (yes e') ne n = absurd (ne e')
                pick (no e') ne n = omega arith

    -- a gauge is the pick, or unpicked behind it
    split_by : {P : Type 0} (h : ℕ) → Un q h → (h ≡ g → P) → (Un (q ++ (g ∷ [])) h → P) → Dec (h ≡ g) → P
    split_by h u f n (yes e) = f e
    split_by h u f n (no e) = n (un_snoc q g h u e)

    split : {P : Type 0} (h : ℕ) → Un q h → (h ≡ g → P) → (Un (q ++ (g ∷ [])) h → P) → P
    split h u f n = split_by h u f n (ℕ_discrete h g)

    -- all is clear behind the pick, so it is a candidate
    cand-clear : (b' : ℕ) → g < length rows → Un q g → ¬ (own ≡ 0) → ((h : ℕ) → own ⊆ row rows h → meet (row rows h) b' ≡ own → meet (row rows h) l ≡ own)
        → Clear (q ++ (g ∷ [])) b' own (suc g) → Cand rows q g
    cand-clear b' below fresh filled same c = record {
      below = below;
      fresh = fresh;
      filled = λ e. filled (sym own-rem ∙ e);
      top = λ h u o.
          split h u (λ e. ap (remainder rows q) e)
          (λ v. let w : own ⊆ row rows h = over h (rw (own-rem) at o) in rem h ∙ same h w (c h v w).0 ∙ sym own-rem);
      first = λ h u y e.
          split h u (λ d. omega arith) (λ v. let z : suc g ≤ h = (c h v (over h (rw (← own-rem, ← e) (sub_refl (remainder rows q h))))).1 in omega arith);
    }

    -- the pick has all left cases: it must have left the same as the last picks, and come after the last
    module _ (e : own ≡ l) where
      has_left : l ⊆ row rows g
      has_left = meet_comm l (row rows g) ∙ sym eo ∙ e

      pub twin-needed : Valid (candidates rows) (q ++ (g ∷ [])) → (meet (row rows g) b ≡ l) × (k ≤ g)
      twin-needed v = s.forth (valid_up (candidates rows) q g v) g ((mem_candidates rows q g).0 (valid_kid (candidates rows) q g v)).fresh has_left

      pub stands-twin : g < length rows → Un q g → ¬ (own ≡ 0) → meet (row rows g) b ≡ l → k ≤ g → Stands (q ++ (g ∷ [])) b own (suc g)
      stands-twin below fresh filled m y = record {
        left = left-more;
        forth = λ v h u o. (
          (s.forth (valid_up (candidates rows) q g v) h (un_left q g h u) (rw e at o)).0 ∙ sym e,
          (behind ((mem_candidates rows q g).0 (valid_kid (candidates rows) q g v)) h u o).1,
        );
        back = λ c.
            valid_snoc (candidates rows) q g
            (s.back (λ h u o. split h u (λ d. rw d (m, y)) (λ v. ((c h v (rw e o)).0 ∙ e, let z : suc g ≤ h = (c h v (rw e o)).1 in omega arith))))
            ((mem_candidates rows q g).1 (cand-clear b below fresh filled (λ h o z. meet_comm (row rows h) l ∙ rw e at o ∙ sym e) c));
      }

    -- the pick leaves fewer cases
    pub stands_fewer : ¬ (own ≡ l) → g < length rows → Un q g → ¬ (own ≡ 0) → Stands (q ++ (g ∷ [])) l own (suc g)
    stands_fewer ne below fresh filled = record {
      left = left-more;
      forth = λ v. behind ((mem_candidates rows q g).0 (valid_kid (candidates rows) q g v));
      back = λ c. valid_snoc (candidates rows) q g (s.back (λ h u o. split h u
          (λ d. absurd (ne (eo ∙ rw d at (meet_comm (row rows h) l ∙ o))))
          (λ v. absurd (ne (sym (c h v (sub_trans own l (row rows h) own-left o)).0 ∙ meet_comm (row rows h) l ∙ o)))))
          ((mem_candidates rows q g).1 (cand-clear l below fresh filled (λ h o z. z) c));
    }
