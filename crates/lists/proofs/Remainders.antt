-- Remainders by inclusion: after one pick more, what is left of a row lies under what was left of it (`step_left`) and under what was left of the
-- pick (`step_right`), and is the largest that does (`step_glb`). Last, a row past the table (`remainder_past`), and the remainder as the code
-- computes it, by a mask of the left cases (`remainder_left`).
use mathlib.Core.Path.{◌≡◌, refl}
use mathlib.Core.List.{List, [], ◌∷◌, ◌++◌}
use Prim.Native.Nat.{ℕ, ◌≤◌}
use lib.ListN.{length}
use Rattle.sets.specs.Sets.{meet, ◌⊆◌}
use Rattle.sets.proofs.Order.{sub_refl, sub_trans, sub_zero, sub_antisym, meet_left, meet_right, meet_glb}
use Rattle.table.specs.Pairs.{row}
use Rattle.table.proofs.Places.{row_past}
use Rattle.lists.specs.Picks.{common, remainder}

module _ (rows : List ℕ) where
  pub common_sub : (q : List ℕ) (x : ℕ) → common rows q x ⊆ x
  unfolding common
  common_sub [] x = sub_refl x
  common_sub (g ∷ q) x = sub_trans (common rows q (meet x (row rows g))) (meet x (row rows g)) x (common_sub q (meet x (row rows g))) (meet_left x (row rows g))

  pub common_snoc : (q : List ℕ) (g x : ℕ) → common rows (q ++ (g ∷ [])) x ≡ meet (common rows q x) (row rows g)
  unfolding common
  common_snoc [] g x = refl
  common_snoc (h ∷ q) g x = common_snoc q g (meet x (row rows h))

  -- z is within what is left, so it is within what is left of each y above it
  common_into : (q : List ℕ) (z x y : ℕ) → z ⊆ common rows q x → z ⊆ y → z ⊆ common rows q y
  unfolding common
  common_into [] z x y h k = k
  common_into (g ∷ q) z x y h k =
      let m : ℕ = meet x (row rows g) in
      let b : z ⊆ m = sub_trans z (common rows q m) m h (common_sub q m) in
      common_into q z m (meet y (row rows g)) h
      (meet_glb z y (row rows g) k (sub_trans z m (row rows g) b (meet_right x (row rows g))))

  pub step_left : (q : List ℕ) (g i : ℕ) → remainder rows (q ++ (g ∷ [])) i ⊆ remainder rows q i
  step_left q g i = rw (common_snoc q g (row rows i)) (meet_left (remainder rows q i) (row rows g))

  pub step_right : (q : List ℕ) (g i : ℕ) → remainder rows (q ++ (g ∷ [])) i ⊆ remainder rows q g
  step_right q g i =
      common_into q (remainder rows (q ++ (g ∷ [])) i) (row rows i) (row rows g) (step_left q g i)
      (rw (common_snoc q g (row rows i)) (meet_right (remainder rows q i) (row rows g)))

  pub step_glb : (q : List ℕ) (g i z : ℕ) → z ⊆ remainder rows q i → z ⊆ remainder rows q g → z ⊆ remainder rows (q ++ (g ∷ [])) i
  step_glb q g i z h k =
      rw (common_snoc q g (row rows i))
      (meet_glb z (remainder rows q i) (row rows g) h (sub_trans z (remainder rows q g) (row rows g) k (common_sub q (row rows g))))

  pub remainder_past : (q : List ℕ) (i : ℕ) → length rows ≤ i → remainder rows q i ≡ 0
  remainder_past q i h = sub_zero (remainder rows q i) (rw (row_past rows i h) (common_sub q 0))

  -- the remainder is the row commoned to the left cases
  pub remainder_left : (full : ℕ) (p : List ℕ) (g : ℕ) → row rows g ⊆ full → remainder rows p g ≡ meet (row rows g) (common rows p full)
  remainder_left full p g h =
      let r : ℕ = remainder rows p g in
      let l : ℕ = common rows p full in
      let m : ℕ = meet (row rows g) l in
      let rg : r ⊆ row rows g = common_sub p (row rows g) in
      sub_antisym r m
      (meet_glb r (row rows g) l rg (common_into p r (row rows g) full (sub_refl r) (sub_trans r (row rows g) full rg h)))
      (common_into p m full (row rows g) (meet_right (row rows g) l) (meet_left (row rows g) l))
