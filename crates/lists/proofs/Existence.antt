-- A candidate exists where an unpicked remainder is not empty, even one whose remainder contains a given set (`candidate_over`): of the
-- remainders that contain it, take the largest, the lowest of equals. So where no candidate is, nothing is left.
use mathlib.Core.Path.{◌≡◌, refl, sym, ap, subst}
use mathlib.Core.Logic.{◌⊎◌, inl, inr}
use mathlib.Core.Bool.{Bool, true, false, not, ◌||◌, cond}
use mathlib.Core.List.{List, []}
use Prim.Native.Nat.{ℕ, ◌<◌}
use native.Mathlib.Nat.{not-suc-le-zero}
use native.Mathlib.Decide.{ℕ_discrete, dec_lt}
use native.Mathlib.Omega.{arith}
use lib.Dec.{T, eqb, eqb→eq}
use lib.ListN.{length}
use lib.Count.{ones}
use borrow.Author.Tests.{eq-eqb}
use Rattle.basics.proofs.Clash.{clash}
use Rattle.sets.specs.Sets.{meet, ◌⊆◌}
use Rattle.sets.proofs.Order.{sub_trans, sub_zero, zero_sub, ones_eq, ones_empty, ones_zero}
use Rattle.lists.specs.PickSequence.{is_in}
use Rattle.lists.specs.ByNumber.{best}
use Rattle.lists.specs.Picks.{remainder}
use Rattle.lists.specs.ByNumber.{candidates}
use Rattle.sets.proofs.Tests.{test, is_true, is_false}
use Rattle.lists.proofs.Unpicked.{Un}
use Rattle.lists.proofs.Remainders.{remainder_past}
use Rattle.lists.proofs.Taking.{best_in_lem, best_max, best_first}
use Rattle.lists.proofs.Candidates.{Cand, no_candidate}

module _ (rows : List ℕ) where
  abbrev R : List ℕ → ℕ → ℕ
  R q i = remainder rows q i

  -- the number of cases of the remainder of an unpicked index, where it contains x
  over : List ℕ → ℕ → ℕ → ℕ
  over q x h = cond (is_in h q || not (eqb (meet x (R q h)) x)) 0 (ones (R q h))

  over_yes : (q : List ℕ) (x h : ℕ) → Un q h → x ⊆ R q h → over q x h ≡ ones (R q h)
  unfolding over
  over_yes q x h u s = rw (is_false (is_in h q) u, eq-eqb (meet x (R q h)) x s)

  over_pos : (q : List ℕ) (x h : ℕ) → 0 < over q x h → Un q h × (x ⊆ R q h)
  unfolding over
  over_pos q x h l = go (test (is_in h q)) (test (eqb (meet x (R q h)) x))
    where
      right : (b : Bool) → (b || true) ≡ true
      right true = refl
      right false = refl

      none : (b : Bool) → b ≡ true → 0 < cond b 0 (ones (R q h)) → ⊥
      none true e l = not-suc-le-zero l
      none false e l = clash cc

      go : T (is_in h q) ⊎ T (not (is_in h q)) → T (eqb (meet x (R q h)) x) ⊎ T (not (eqb (meet x (R q h)) x)) → Un q h × (x ⊆ R q h)
      go (inl m) d = absurd (none (is_in h q || not (eqb (meet x (R q h)) x)) (rw (is_true (is_in h q) m)) l)
      go (inr m) (inl d) = (m, eqb→eq (meet x (R q h)) x d)
      go (inr m) (inr d) = absurd (none (is_in h q || not (eqb (meet x (R q h)) x)) (rw (is_false (eqb (meet x (R q h)) x) d) (right (is_in h q))) l)

  pub filled_below : (q : List ℕ) (h : ℕ) → ¬ (R q h ≡ 0) → h < length rows
  filled_below q h f = go (dec_lt h (length rows))
    where
      go : Dec (h < length rows) → h < length rows
      go (yes l) = l
      go (no l) = absurd (f (remainder_past rows q h (omega arith)))

  pub ones_pos : (a : ℕ) → ¬ (a ≡ 0) → 0 < ones a
  ones_pos a f = go (ℕ_discrete (ones a) 0)
    where
      go : Dec (ones a ≡ 0) → 0 < ones a
      go (yes e) = absurd (f (ones_empty a e))
      go (no e) = omega arith

  pub candidate_over : (q : List ℕ) (x h : ℕ) → Un q h → x ⊆ R q h → ¬ (R q h ≡ 0) → (g : ℕ) × Cand rows q g × (x ⊆ R q g)
  candidate_over q x h u s f = (g, record { below = best_in_lem w n h (filled_below q h f); fresh = found.0; filled = filled; top = top; first = first }, found.1)
    where
      n : ℕ
      n = length rows

      w : ℕ → ℕ
      w = over q x

      g : ℕ
      g = best w n

      pos : 0 < w g
      pos = omega (arith, best_max w n h (filled_below q h f), over_yes q x h u s, ones_pos (R q h) f)

      found : Un q g × (x ⊆ R q g)
      found = over_pos q x g pos

      at_g : w g ≡ ones (R q g)
      at_g = over_yes q x g found.0 found.1

      filled : ¬ (R q g ≡ 0)
      filled e = omega (arith, pos, at_g, ones_zero, ap ones e)

      top : (j : ℕ) → Un q j → R q g ⊆ R q j → R q j ≡ R q g
      top j v c =
          let full : ¬ (R q j ≡ 0) = λ e. filled (sub_zero (R q g) (subst (λ (y : ℕ). R q g ⊆ y) e c)) in
          sym (ones_eq (R q g) (R q j) c
          (omega (arith, best_max w n j (filled_below q j full), at_g, over_yes q x j v (sub_trans x (R q g) (R q j) found.1 c))))

      first : (j : ℕ) → Un q j → j < g → ¬ (R q j ≡ R q g)
      first j v l e = omega (arith, best_first w n j l, at_g, ap ones e, over_yes q x j v (rw e found.1))

  pub nothing_left : (q : List ℕ) → candidates rows q ≡ [] → (i : ℕ) → Un q i → R q i ≡ 0
  nothing_left q e i u = go (ℕ_discrete (R q i) 0)
    where
      go : Dec (R q i ≡ 0) → R q i ≡ 0
      go (yes d) = d
      go (no d) = let c = candidate_over q 0 i u (zero_sub (R q i)) d in absurd (no_candidate rows q c.0 e c.1)
