-- One turn of each loop over the readings: a set of places built from below, and the tests of single places.
use mathlib.Core.Path.{◌≡◌, refl, sym, ap, ◌∙◌}
use mathlib.Core.Bool.{Bool, true, false, cond}
use mathlib.Core.List.{List}
use Prim.Native.Nat.{ℕ, zero, suc, ◌+◌, ◌*◌, ◌/◌, ◌%◌, ◌^◌, ◌≤◌, ◌<◌}
use native.Mathlib.Nat.{pow-suc, one-mul, add-zero}
use native.Mathlib.Numerals.{add-one}
use native.Mathlib.Omega.{arith}
use lib.IntN.{ℤ, nat_abs}
use lib.Pow.{shl_exact, pow_mono}
use borrow.Author.Tests.{le-leb, lt-leb}
use Rattle.table.specs.Pairs.{row}
use Rattle.recorded.specs.Tests.{reading, place_fits, fits_at, set_below, within_at}

-- ---- sets of places
pub set_lt : (f : ℕ → Bool) (n : ℕ) → set_below f n < 2 ^ n
unfolding set_below
set_lt f zero = omega arith
set_lt f (suc n) = go (f n) (set_lt f n)
  where
    go : (b : Bool) → set_below f n < 2 ^ n → set_below f n + cond b (2 ^ n) 0 < 2 ^ suc n
    go true h = omega (arith, pow-suc 2 n)
    go false h = omega (arith, pow-suc 2 n)

shifted : (k : ℕ) → k < 64 → 1 * 2 ^ k % 2 ^ 64 ≡ 2 ^ k
shifted k h = shl_exact {a = 1} 1 k 64 (omega arith) (omega arith) ∙ one-mul (2 ^ k)

-- s is the set of the places below k at which f holds
pub record Below (f : ℕ → Bool) (s k : ℕ) : Type 0 where
  pub most : k ≤ 64
  pub is : s ≡ set_below f k

pub below_none : (f : ℕ → Bool) → Below f 0 0
unfolding set_below
below_none f = record { most = omega arith; is = refl }

module _ (f : ℕ → Bool) (s k : ℕ) (b : Below f s k) (h : k < 64) where
  pub below_room : s + 1 * 2 ^ k % 2 ^ 64 < 2 ^ 64
  below_room = omega (arith, b.is, set_lt f k, shifted k h, pow-suc 2 k, pow_mono {i = suc k} {j = 64} (omega arith))

  module _ (t : Bool) (e : t ≡ f k) where
    pub below_in : t ≡ true → Below f (s + 1 * 2 ^ k % 2 ^ 64) (k + 1)
    unfolding set_below
    below_in y = record { most = omega arith; is = rw (add-one k, sym e ∙ y, shifted k h) (ap (λ (x : ℕ). x + 2 ^ k) b.is) }

    pub below_out : t ≡ false → Below f s (k + 1)
    unfolding set_below
    below_out n = record { most = omega arith; is = rw (add-one k, sym e ∙ n) (b.is ∙ sym (add-zero (set_below f k))) }

pub below_all_lem : (f : ℕ → Bool) (s k : ℕ) → Below f s k → 64 ≤ k → s ≡ set_below f 64
below_all_lem f s k b h = let z : k ≡ 64 = omega (arith, b.most) in b.is ∙ ap (set_below f) z

-- ---- single places
pub fits_place : (rows : List ℕ) (vs : List ℤ) (p : ℕ) (t : Bool) → t ≡ place_fits (row rows (p / 64)) (p % 64) (reading vs p) → t ≡ fits_at rows vs p
unfolding fits_at
fits_place rows vs p t e = e

pub within_no : (vs : List ℤ) (p m : ℕ) → m ≡ nat_abs (reading vs p) → 1000000 < m → false ≡ within_at vs p
unfolding within_at
within_no vs p m e h = sym (lt-leb (nat_abs (reading vs p)) 1000000 (omega arith))

pub within_yes : (vs : List ℤ) (p m : ℕ) → m ≡ nat_abs (reading vs p) → m ≤ 1000000 → true ≡ within_at vs p
unfolding within_at
within_yes vs p m e h = sym (le-leb (nat_abs (reading vs p)) 1000000 (omega arith))
