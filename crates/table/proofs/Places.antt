-- From numbers to places: 01 numbers gauges and cases from 1, rows and bits are counted from 0. A pair of the numbers suc i, suc k is
-- bit k of row i (`has_place`, `place_has`); the laws here say so of pairs, inclusion and chains, and the other files use places alone.
use mathlib.Core.Path.{◌≡◌, refl, sym, subst}
use mathlib.Core.Logic.{◌⊎◌, inl, inr, ◌↔◌}
use mathlib.Core.Bool.{Bool, true, false}
use mathlib.Core.List.{List, [], ◌∷◌}
use Prim.Native.Nat.{ℕ, zero, suc, ◌-◌, ◌^◌, ◌≤◌, ◌<◌}
use native.Mathlib.Nat.{not-suc-le-zero, le_of_suc-le-suc, zero-div, div-eq_of_lt, lt_of_lt_of_le}
use native.Mathlib.Decide.{dec_le, dec_lt}
use native.Mathlib.Omega.{arith}
use lib.Dec.{T}
use lib.ListN.{length}
use lib.Seq.{ext_get_or}
use Rattle.basics.proofs.Clash.{clash}
use Rattle.sets.specs.Sets.{bit, ◌⊆◌}
use Rattle.sets.proofs.Tests.{is_true}
use Rattle.sets.proofs.Order.{sub_bit, bits_sub, sub_antisym}
use Rattle.table.specs.Pairs.{row, Has, Within, Cases}
use Rattle.table.specs.Chains.{IsChain}
use lib.Pow.{pow_mono}

no_bit : (k : ℕ) → T (bit 0 k) → ⊥
unfolding bit
no_bit k t = rw (zero-div (2 ^ k)) at t

less_one : (n : ℕ) → suc n - 1 ≡ n
less_one n = omega arith

pub has_place : (s : List ℕ) (i k : ℕ) → Has s (suc i) (suc k) → T (bit (row s i) k)
has_place s i k h = rw (less_one i, less_one k) at h.set

pub place_has : (s : List ℕ) (i k : ℕ) → T (bit (row s i) k) → Has s (suc i) (suc k)
place_has s i k t = record { gauge = omega arith; case = omega arith; set = rw (less_one i, less_one k) t }

-- what holds of the pairs suc i : suc k holds of every pair, since there is no other
pub by_place_lem : (s : List ℕ) (P : ℕ → ℕ → Type 0) → ((i k : ℕ) → T (bit (row s i) k) → P (suc i) (suc k)) → (g c : ℕ) → Has s g c → P g c
by_place_lem s P f zero c h = absurd (not-suc-le-zero h.gauge)
by_place_lem s P f (suc i) zero h = absurd (not-suc-le-zero h.case)
by_place_lem s P f (suc i) (suc k) h = f i k (has_place s i k h)

pub row_past : (s : List ℕ) (i : ℕ) → length s ≤ i → row s i ≡ 0
row_past [] i h = refl
row_past (x ∷ s) zero h = absurd (not-suc-le-zero h)
row_past (x ∷ s) (suc i) h = row_past s i (le_of_suc-le-suc h)

-- ---- inclusion, by rows
pub within_sub : (r s : List ℕ) → Within r s → (i : ℕ) → row s i ⊆ row r i
within_sub r s w i = bits_sub (row s i) (row r i) (λ k t. has_place r i k (w.inside (suc i) (suc k) (place_has s i k t)))

pub sub_within : (r s : List ℕ) → length s ≡ length r → ((i : ℕ) → row s i ⊆ row r i) → Within r s
sub_within r s e f = record {
  size = e;
  inside = by_place_lem s (Has r) (λ i k t. place_has r i k (sub_bit (row s i) (row r i) k (f i) t));
}

pub within_refl : (s : List ℕ) → Within s s
within_refl s = record { size = refl; inside = λ g c h. h }

-- equally many rows that hold the same pairs are the same
pub same_pairs_rows : (x y : List ℕ) → length x ≡ length y → ((g c : ℕ) → Has x g c ↔ Has y g c) → x ≡ y
same_pairs_rows x y n f =
    ext_get_or 0 x y n (λ i l. sub_antisym (row x i) (row y i)
    (within_sub y x (record { size = n; inside = λ g c. (f g c).0 }) i) (within_sub x y (record { size = sym n; inside = λ g c. (f g c).1 }) i))

-- ---- chains, by places
abbrev pub CrossPlaces : List ℕ → Type 0
CrossPlaces s = (i j c d : ℕ) → T (bit (row s i) c) → T (bit (row s j) d) → T (bit (row s i) d) ⊎ T (bit (row s j) c)

pub chain_places : (s : List ℕ) → IsChain s → CrossPlaces s
chain_places s h i j c d t u = go (h (suc i) (suc j) (suc c) (suc d) (place_has s i c t) (place_has s j d u))
  where
    go : Has s (suc i) (suc d) ⊎ Has s (suc j) (suc c) → T (bit (row s i) d) ⊎ T (bit (row s j) c)
    go (inl p) = inl (has_place s i d p)
    go (inr p) = inr (has_place s j c p)

pub places_chain : (s : List ℕ) → CrossPlaces s → IsChain s
places_chain s f g h c d p q =
    by_place_lem s (λ g c. Has s g d ⊎ Has s h c) (λ i k t. by_place_lem s (λ h d. Has s (suc i) d ⊎ Has s h (suc k)) (λ j l u. go i j k l (f i j k l t u)) h d q) g c p
  where
    go : (i j k l : ℕ) → T (bit (row s i) l) ⊎ T (bit (row s j) k) → Has s (suc i) (suc l) ⊎ Has s (suc j) (suc k)
    go i j k l (inl t) = inl (place_has s i l t)
    go i j k l (inr t) = inr (place_has s j k t)

-- ---- a pair, by the test of its bit
pub no_gauge : (s : List ℕ) (g c : ℕ) → ((1 ≤ g) × (g ≤ length s) → ⊥) → (false ≡ true) ↔ Has s g c
no_gauge s g c out = (λ e. clash cc, λ h. absurd (past h))
  where
    past : Has s g c → ⊥
    past h = out (h.gauge, go (dec_le g (length s)))
      where
        go : Dec (g ≤ length s) → g ≤ length s
        go (yes l) = l
        go (no l) = absurd (no_bit (c - 1) (subst (λ (r : ℕ). T (bit r (c - 1))) (row_past s (g - 1) (omega arith)) h.set))

pub has_bit : (s : List ℕ) (g c : ℕ) (t : Bool) → 1 ≤ g → 1 ≤ c → t ≡ bit (row s (g - 1)) (c - 1) → (t ≡ true) ↔ Has s g c
has_bit s g c t l k e = (
  λ d. record { gauge = l; case = k; set = rw (← e, d) tt },
  λ h. is_true t (rw (← e) at h.set),
)

-- ---- the cases of rows
bit_past : (a k : ℕ) → a < 2 ^ k → bit a k ≡ false
unfolding bit
bit_past a k l = rw (div-eq_of_lt l)

-- rows below 2 ^ w have their cases below w
pub small_cases : (w : ℕ) (rows : List ℕ) → ((i : ℕ) → row rows i < 2 ^ w) → Cases w rows
small_cases w rows h i k t = go (dec_lt k w)
  where
    go : Dec (k < w) → k < w
    go (yes l) = l
    go (no l) = absurd (subst T (bit_past (row rows i) k (lt_of_lt_of_le (h i) (pow_mono (omega arith)))) t)
