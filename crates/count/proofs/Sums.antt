-- Sums over the numbers below a bound at which a test holds: how a sum goes on with its bound, and two sums compared.
use mathlib.Core.Path.{◌≡◌, refl, sym, ap, ◌∙◌}
use mathlib.Core.Bool.{Bool, true, false, cond}
use Prim.Native.Nat.{ℕ, zero, suc, ◌+◌, ◌≤◌, ◌<◌}
use native.Mathlib.Decide.{ℕ_discrete}
use native.Mathlib.Omega.{arith}
use Rattle.count.specs.private.Below.{sum_below}

module _ (c : ℕ → Bool) where
  pub sum_zero : (f : ℕ → ℕ) → sum_below c f 0 ≡ 0
  unfolding sum_below
  sum_zero f = refl

  sum_suc : (f : ℕ → ℕ) (n : ℕ) → sum_below c f (suc n) ≡ sum_below c f n + cond (c n) (f n) 0
  unfolding sum_below
  sum_suc f n = refl

  pub sum_in : (f : ℕ → ℕ) (n : ℕ) → c n ≡ true → sum_below c f (suc n) ≡ sum_below c f n + f n
  sum_in f n e = sum_suc f n ∙ ap (λ (b : Bool). sum_below c f n + cond b (f n) 0) e

  pub sum_out : (f : ℕ → ℕ) (n : ℕ) → c n ≡ false → sum_below c f (suc n) ≡ sum_below c f n
  sum_out f n e = let d : sum_below c f n + 0 ≡ sum_below c f n = omega arith in sum_suc f n ∙ ap (λ (b : Bool). sum_below c f n + cond b (f n) 0) e ∙ d

  -- from a to n the test never holds
  pub sum_skip : (f : ℕ → ℕ) (a n : ℕ) → a ≤ n → ((i : ℕ) → a ≤ i → i < n → c i ≡ false) → sum_below c f n ≡ sum_below c f a
  sum_skip f a zero l h = let e : a ≡ 0 = omega arith in ap (sum_below c f) (sym e)
  sum_skip f a (suc n) l h = go (ℕ_discrete a (suc n)) (λ k. sum_skip f a n k (λ i x y. h i x (omega arith)))
    where
      go : Dec (a ≡ suc n) → (a ≤ n → sum_below c f n ≡ sum_below c f a) → sum_below c f (suc n) ≡ sum_below c f a
      go (yes e) ih = ap (sum_below c f) (sym e)
      go (no e) ih = sum_out f n (h n (omega arith) (omega arith)) ∙ ih (omega arith)

  pub sum_none : (f : ℕ → ℕ) (n : ℕ) → ((i : ℕ) → i < n → c i ≡ false) → sum_below c f n ≡ 0
  sum_none f n h = sum_skip f 0 n (omega arith) (λ i x y. h i y) ∙ sum_zero f

  pub sum_mono : (f : ℕ → ℕ) (a n : ℕ) → a ≤ n → sum_below c f a ≤ sum_below c f n
  sum_mono f a zero l = let e : a ≡ 0 = omega arith in rw e (omega arith)
  sum_mono f a (suc n) l = go (ℕ_discrete a (suc n)) (sum_mono f a n)
    where
      go : Dec (a ≡ suc n) → (a ≤ n → sum_below c f a ≤ sum_below c f n) → sum_below c f a ≤ sum_below c f (suc n)
      go (yes e) ih = rw e (omega arith)
      go (no e) ih = omega (arith, ih (omega arith), sum_suc f n)

  pub sum_le : (f g : ℕ → ℕ) (n : ℕ) → ((i : ℕ) → f i ≤ g i) → sum_below c f n ≤ sum_below c g n
  sum_le f g zero h = omega (arith, sum_zero f)
  sum_le f g (suc n) h = go (c n) refl (sum_le f g n h)
    where
      go : (b : Bool) → c n ≡ b → sum_below c f n ≤ sum_below c g n → sum_below c f (suc n) ≤ sum_below c g (suc n)
      go true e ih = omega (arith, sum_in f n e, sum_in g n e, h n)
      go false e ih = omega (arith, sum_out f n e, sum_out g n e)

  pub sum_same : (f g : ℕ → ℕ) (n : ℕ) → ((i : ℕ) → i < n → c i ≡ true → f i ≡ g i) → sum_below c f n ≡ sum_below c g n
  sum_same f g zero h = sum_zero f ∙ sym (sum_zero g)
  sum_same f g (suc n) h = go (c n) refl (sum_same f g n (λ i l. h i (omega arith)))
    where
      go : (b : Bool) → c n ≡ b → sum_below c f n ≡ sum_below c g n → sum_below c f (suc n) ≡ sum_below c g (suc n)
      go true e ih = omega (arith, sum_in f n e, sum_in g n e, h n (omega arith) e)
      go false e ih = omega (arith, sum_out f n e, sum_out g n e)
