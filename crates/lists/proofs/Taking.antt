-- How a pick sequence is taken from a set. Tables and candidates are not here.
--
-- In order: the best of some scores is one of them, the greatest, and the lowest of those (`best_in_lem`, `best_max`, `best_first`); scores of rows
-- (`score_un`, `score_in`); one turn (`next_is`, `take_none`, `take_stop`, `take_more`); no score exactly where every row not taken is empty
-- (`all_empty`); what is taken was not taken, has a row that is not empty, a largest one, the lowest of those (`next-in` to `next-first`).
use mathlib.Core.Path.{◌≡◌, refl, ap}
use mathlib.Core.Logic.{◌⊎◌, inl, inr}
use mathlib.Core.List.{List, [], ◌∷◌, ◌++◌}
use Prim.Native.Nat.{ℕ, zero, suc, ◌≤◌, ◌<◌, suc-le-suc}
use native.Mathlib.Nat.{not-suc-le-zero, le_refl}
use native.Mathlib.Decide.{ℕ_discrete, dec_lt}
use native.Mathlib.Omega.{arith}
use lib.Dec.{T}
use lib.ListN.{length}
use lib.Count.{ones}
use borrow.Author.Tests.{eq-eqb, ne_eqb, lt-ltb, le-ltb}
use Rattle.sets.proofs.Order.{ones_empty, ones_zero}
use Rattle.table.specs.Pairs.{row}
use Rattle.table.proofs.Places.{row_past}
use Rattle.lists.specs.PickSequence.{is_in, score}
use Rattle.lists.specs.ByNumber.{best, take_from}
use Rattle.sets.proofs.Tests.{test, is_true, is_false}
use Rattle.lists.proofs.Unpicked.{Un}

-- ---- the best score
module _ (f : ℕ → ℕ) where
  best_zero : best f 0 ≡ 0
  unfolding best
  best_zero = refl

  best_new : (n : ℕ) → f (best f n) < f n → best f (suc n) ≡ n
  unfolding best
  best_new n h = rw (lt-ltb (f (best f n)) (f n) h)

  best_old : (n : ℕ) → ¬ (f (best f n) < f n) → best f (suc n) ≡ best f n
  unfolding best
  best_old n h = rw (le-ltb (f (best f n)) (f n) (omega arith))

  best_lt : (n : ℕ) → best f (suc n) ≤ n
  best_lt zero = go (dec_lt (f (best f 0)) (f 0))
    where
      go : Dec (f (best f 0) < f 0) → best f 1 ≤ 0
      go (yes h) = omega (arith, best_new 0 h)
      go (no h) = omega (arith, best_old 0 h, best_zero)
  best_lt (suc n) = go (best_lt n) (dec_lt (f (best f (suc n))) (f (suc n)))
    where
      go : best f (suc n) ≤ n → Dec (f (best f (suc n)) < f (suc n)) → best f (suc (suc n)) ≤ suc n
      go l (yes h) = omega (arith, best_new (suc n) h)
      go l (no h) = omega (arith, best_old (suc n) h)

  pub best_in_lem : (n g : ℕ) → g < n → best f n < n
  best_in_lem zero g h = absurd (not-suc-le-zero h)
  best_in_lem (suc n) g h = suc-le-suc (best_lt n)

  pub best_max : (n j : ℕ) → j < n → f j ≤ f (best f n)
  best_max zero j h = absurd (not-suc-le-zero h)
  best_max (suc n) j h = go (best_max n j) (ℕ_discrete j n) (dec_lt (f (best f n)) (f n))
    where
      go : (j < n → f j ≤ f (best f n)) → Dec (j ≡ n) → Dec (f (best f n) < f n) → f j ≤ f (best f (suc n))
      go ih (yes e) (yes l) = rw (best_new n l, e) (le_refl (f n))
      go ih (no e) (yes l) = rw (best_new n l) (omega (arith, ih (omega arith)))
      go ih (yes e) (no l) = rw (best_old n l, e) (omega arith)
      go ih (no e) (no l) = rw (best_old n l) (ih (omega arith))

  pub best_first : (n j : ℕ) → j < best f n → f j < f (best f n)
  best_first zero j h = absurd (omega (arith, best_zero))
  best_first (suc n) j h = go (best_first n j) (dec_lt (f (best f n)) (f n))
    where
      go : (j < best f n → f j < f (best f n)) → Dec (f (best f n) < f n) → f j < f (best f (suc n))
      go ih (yes l) = rw (best_new n l) (omega (arith, best_max n j (rw (best_new n l) at h)))
      go ih (no l) = rw (best_old n l) (ih (rw (best_old n l) at h))

  best_unique : (n g : ℕ) → g < n → ((j : ℕ) → j < n → f j ≤ f g) → ((j : ℕ) → j < g → f j < f g) → best f n ≡ g
  best_unique n g h m l = go (dec_lt (best f n) g) (dec_lt g (best f n))
    where
      go : Dec (best f n < g) → Dec (g < best f n) → best f n ≡ g
      go (yes a) d = absurd (omega (arith, l (best f n) a, best_max n g h))
      go (no a) (yes b) = absurd (omega (arith, best_first n g b, m (best f n) (best_in_lem n g h)))
      go (no a) (no b) = omega arith

-- ---- the scores of a set, after those taken
module _ (s q : List ℕ) where
  pub score_un : (i : ℕ) → Un q i → score s q i ≡ ones (row s i)
  unfolding score
  score_un i u = rw (is_false (is_in i q) u)

  pub score_in : (i : ℕ) → T (is_in i q) → score s q i ≡ 0
  unfolding score
  score_in i t = rw (is_true (is_in i q) t)

  score_le : (i : ℕ) → score s q i ≤ ones (row s i)
  score_le i = go (test (is_in i q))
    where
      go : T (is_in i q) ⊎ Un q i → score s q i ≤ ones (row s i)
      go (inl t) = omega (arith, score_in i t)
      go (inr u) = omega (arith, score_un i u)

  score_pos : (i : ℕ) → 0 < score s q i → Un q i × (i < length s)
  score_pos i l = (a (test (is_in i q)), b (dec_lt i (length s)))
    where
      a : T (is_in i q) ⊎ Un q i → Un q i
      a (inl t) = absurd (omega (arith, score_in i t))
      a (inr u) = u

      b : Dec (i < length s) → i < length s
      b (yes d) = d
      b (no d) = absurd (omega (arith, score_le i, ones_zero, ap ones (row_past s i (omega arith))))

  unfoldable pub next : ℕ
  next = best (score s q) (length s)

  pub next_is : (g : ℕ) → g < length s → ((j : ℕ) → j < length s → score s q j ≤ score s q g) → ((j : ℕ) → j < g → score s q j < score s q g) → next ≡ g
  unfolding next
  next_is g = best_unique (score s q) (length s) g

  pub take_none : take_from s q 0 ≡ []
  unfolding take_from
  take_none = refl

  pub take_stop : (n : ℕ) → score s q next ≡ 0 → take_from s q (suc n) ≡ []
  unfolding take_from next
  take_stop n e = rw (eq-eqb (score s q next) 0 e)

  pub take_more : (n : ℕ) → ¬ (score s q next ≡ 0) → take_from s q (suc n) ≡ next ∷ take_from s (q ++ (next ∷ [])) n
  unfolding take_from next
  take_more n e = rw (ne_eqb (score s q next) 0 e)

  -- no score anywhere: every row that was not taken is empty
  pub all_empty : score s q next ≡ 0 → (i : ℕ) → Un q i → row s i ≡ 0
  unfolding next
  all_empty e i u = go (dec_lt i (length s))
    where
      go : Dec (i < length s) → row s i ≡ 0
      go (yes l) = ones_empty (row s i) (omega (arith, best_max (score s q) (length s) i l, score_un i u))
      go (no l) = row_past s i (omega arith)

  -- a score somewhere: the next one to take
  module _ (e : ¬ (score s q next ≡ 0)) where
    pub next-in : Un q next × (next < length s)
    next-in = score_pos next (omega arith)

    pub next-filled : ¬ (row s next ≡ 0)
    next-filled z = omega (arith, score_le next, ones_zero, ap ones z)

    pub next-max : (i : ℕ) → Un q i → ones (row s i) ≤ ones (row s next)
    unfolding next
    next-max i u = go (dec_lt i (length s))
      where
        go : Dec (i < length s) → ones (row s i) ≤ ones (row s next)
        go (yes l) = omega (arith, best_max (score s q) (length s) i l, score_un i u, score_un next next-in.0)
        go (no l) = omega (arith, ones_zero, ap ones (row_past s i (omega arith)))

    pub next-first : (i : ℕ) → Un q i → i < next → ones (row s i) < ones (row s next)
    unfolding next
    next-first i u l = omega (arith, best_first (score s q) (length s) i l, score_un i u, score_un next next-in.0)
