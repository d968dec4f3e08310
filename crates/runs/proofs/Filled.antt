-- Counting the places that are not zero: a list of numbers padded with zeros has as many as it has numbers, and where
-- as many are in front, the rest are zeros.
use mathlib.Core.Path.{◌≡◌, refl, sym, ap, ◌∙◌}
use mathlib.Core.Bool.{Bool, cond}
use mathlib.Core.List.{List, map}
use Prim.Native.Nat.{ℕ, zero, suc, ◌+◌, ◌≤◌, ◌<◌}
use native.Mathlib.Decide.{ℕ_discrete, dec_lt}
use native.Mathlib.Omega.{arith}
use lib.ListN.{length, get_or, get_or-eq_default}
use borrow.Author.Tests.{eq-eqb, ne_eqb}
use Rattle.table.specs.Tables.{padded}
use Rattle.table.proofs.Padding.{pad_get_or}
use Rattle.replay.proofs.Numbers.{length_numbers, get_or_numbers}
use Rattle.runs.specs.private.Working.{filled}

-- one place more
pub filled_none : (k : List ℕ) → filled k 0 ≡ 0
unfolding filled
filled_none k = refl

pub filled_zero : (k : List ℕ) (n : ℕ) → get_or k n 0 ≡ 0 → filled k (suc n) ≡ filled k n
unfolding filled
filled_zero k n e = let d : filled k n + 0 ≡ filled k n = omega arith in ap (λ (b : Bool). filled k n + cond b 0 1) (eq-eqb (get_or k n 0) 0 e) ∙ d

pub filled_some : (k : List ℕ) (n : ℕ) → ¬ (get_or k n 0 ≡ 0) → filled k (suc n) ≡ suc (filled k n)
unfolding filled
filled_some k n e = let d : filled k n + 1 ≡ suc (filled k n) = omega arith in ap (λ (b : Bool). filled k n + cond b 0 1) (ne_eqb (get_or k n 0) 0 e) ∙ d

module _ (k : List ℕ) where
  -- not more than there are places
  pub filled_most : (n : ℕ) → filled k n ≤ n
  filled_most zero = omega (arith, filled_none k)
  filled_most (suc n) = go (filled_most n) (ℕ_discrete (get_or k n 0) 0)
    where
      go : filled k n ≤ n → Dec (get_or k n 0 ≡ 0) → filled k (suc n) ≤ suc n
      go l (yes e) = omega (arith, filled_zero k n e)
      go l (no e) = omega (arith, filled_some k n e)

  -- all of the first m
  filled_all : (m : ℕ) → ((i : ℕ) → i < m → ¬ (get_or k i 0 ≡ 0)) → filled k m ≡ m
  filled_all zero f = filled_none k
  filled_all (suc m) f = filled_some k m (f m (omega arith)) ∙ ap suc (filled_all m (λ i l. f i (omega arith)))

  -- none from m on
  filled_rest : (m n : ℕ) → m ≤ n → ((i : ℕ) → m ≤ i → i < n → get_or k i 0 ≡ 0) → filled k n ≡ filled k m
  filled_rest m zero l f = let e : m ≡ 0 = omega arith in ap (filled k) (sym e)
  filled_rest m (suc n) l f = go (λ y. filled_rest m n y (λ i a b. f i a (omega arith))) (dec_lt n m)
    where
      go : (m ≤ n → filled k n ≡ filled k m) → Dec (n < m) → filled k (suc n) ≡ filled k m
      go h (yes y) = let e : m ≡ suc n = omega arith in ap (filled k) (sym e)
      go h (no y) = filled_zero k n (f n (omega arith) (omega arith)) ∙ h (omega arith)

  -- and one from m on is one more
  filled_up : (m n : ℕ) → m ≤ n → filled k m ≤ filled k n
  filled_up m zero l = let e : m ≡ 0 = omega arith in omega (arith, ap (filled k) e)
  filled_up m (suc n) l = go (λ y. filled_up m n y) (dec_lt n m) (ℕ_discrete (get_or k n 0) 0)
    where
      go : (m ≤ n → filled k m ≤ filled k n) → Dec (n < m) → Dec (get_or k n 0 ≡ 0) → filled k m ≤ filled k (suc n)
      go h (yes y) d = let e : m ≡ suc n = omega arith in omega (arith, ap (filled k) e)
      go h (no y) (yes e) = omega (arith, filled_zero k n e, h (omega arith))
      go h (no y) (no e) = omega (arith, filled_some k n e, h (omega arith))

  pub rest_zero : (m : ℕ) → filled k 64 ≡ m → ((i : ℕ) → i < m → ¬ (get_or k i 0 ≡ 0)) → (i : ℕ) → m ≤ i → i < 64 → get_or k i 0 ≡ 0
  rest_zero m e f i a b = go (ℕ_discrete (get_or k i 0) 0)
    where
      go : Dec (get_or k i 0 ≡ 0) → get_or k i 0 ≡ 0
      go (yes z) = z
      go (no z) = absurd (omega (arith, filled_all m f, filled_up m i a, filled_some k i z, filled_up (suc i) 64 (omega arith)))

-- picks by number, padded with zeros
pub filled_picks : (p : List ℕ) → length p ≤ 64 → filled (padded (map suc p)) 64 ≡ length p
filled_picks p l =
    filled_rest (padded (map suc p)) (length p) 64 l (λ i a b. pad_get_or (map suc p) i ∙ get_or-eq_default (map suc p) 0 (omega (arith, length_numbers p)))
    ∙ filled_all (padded (map suc p)) (length p) (λ i b e. omega (arith, pad_get_or (map suc p) i, get_or_numbers p i b))
