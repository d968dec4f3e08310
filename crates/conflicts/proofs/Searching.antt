-- Decisions on pairs: whether a set holds one, whether two are conflicts; the finite list of a table's pairs; and searches over finite lists,
-- which end with "all" or with an example to the contrary. Nothing of chains is here.
use mathlib.Core.Path.{◌≡◌, refl, sym, ap, ◌∙◌, subst}
use mathlib.Core.Logic.{◌⊎◌, inl, inr, ◌≢◌}
use mathlib.Core.Bool.{Bool, true, false, not, cond}
use mathlib.Core.List.Memᴰ
use mathlib.Core.List.{List, [], ◌∷◌, ◌++◌, Memᴰ}
use Prim.Native.Nat.{ℕ, zero, suc, ◌-◌, ◌/◌, ◌%◌, ◌≤◌, ◌<◌}
use native.Mathlib.Nat.{not-suc-le-zero}
use native.Mathlib.Decide.{ℕ_discrete, dec_le, dec_lt}
use native.Mathlib.Omega.{arith}
use lib.Dec.{T, T_not, eqb→eq}
use lib.ListN.{length}
use Rattle.sets.specs.Sets.{bit}
use Rattle.sets.proofs.Tests.{test}
use Rattle.sets.proofs.Digits.{bit_zero, bit-suc}
use Rattle.table.specs.Pairs.{row, Has}
use Rattle.table.proofs.Places.{place_has, by_place_lem, row_past}
use Rattle.conflicts.specs.Conflicts.{Conflict}

-- ---- one pair
pub has_dec : (s : List ℕ) (g c : ℕ) → Dec (Has s g c)
has_dec s g c = go (dec_le 1 g) (dec_le 1 c) (test (bit (row s (g - 1)) (c - 1)))
  where
    go : Dec (1 ≤ g) → Dec (1 ≤ c) → T (bit (row s (g - 1)) (c - 1)) ⊎ T (not (bit (row s (g - 1)) (c - 1))) → Dec (Has s g c)
    go (yes a) (yes b) (inl t) = yes (record { gauge = a; case = b; set = t })
    go (yes a) (yes b) (inr t) = no (λ h. T_not (bit (row s (g - 1)) (c - 1)) t h.set)
    go (yes a) (no b) t = no (λ h. b h.case)
    go (no a) b t = no (λ h. a h.gauge)

-- of two pairs of which one crossed pair is missing, the gauges and the cases differ
pub apart_follows : (r : List ℕ) (g c h d : ℕ) → Has r g c → Has r h d → (Has r g d → ⊥) → (g ≢ h) × (c ≢ d)
apart_follows r g c h d p q a = (λ e. a (subst (λ (x : ℕ). Has r x d) (sym e) q), λ e. a (subst (λ (x : ℕ). Has r g x) e p))

-- two pairs of the table are conflicts, or one of the crossed pairs is in the table
pub cross : (r : List ℕ) (g c h d : ℕ) → Has r g c → Has r h d → Conflict r g c h d ⊎ (Has r g d ⊎ Has r h c)
cross r g c h d p q = go (has_dec r g d) (has_dec r h c)
  where
    go : Dec (Has r g d) → Dec (Has r h c) → Conflict r g c h d ⊎ (Has r g d ⊎ Has r h c)
    go (yes a) b = inr (inl a)
    go (no a) (yes b) = inr (inr b)
    go (no a) (no b) = let x = apart_follows r g c h d p q a in inl (record { pair = q; gauges = x.0; cases = x.1; missing = a; missing_back = b })

pub no_cross : (r : List ℕ) (g c h d : ℕ) → Conflict r g c h d → Has r g d ⊎ Has r h c → ⊥
no_cross r g c h d v (inl a) = v.missing a
no_cross r g c h d v (inr b) = v.missing_back b

-- ---- the pairs of a table, as a list
abbrev pub Pair : Type 0
Pair = ℕ × ℕ

-- gauge g with the cases of the row a that are at most n
cases_to : ℕ → ℕ → ℕ → List Pair
cases_to a g zero = []
cases_to a g (suc k) = cond (bit a k) ((g, suc k) ∷ cases_to a g k) (cases_to a g k)

-- the pairs of the gauges that are at most n
pairs_to : List ℕ → ℕ → List Pair
pairs_to r zero = []
pairs_to r (suc i) = cases_to (row r i) (suc i) (row r i) ++ pairs_to r i

pub pairs_of : List ℕ → List Pair
pairs_of r = pairs_to r (length r)

-- a case of a set is below the set's own number
bit_below : (a k : ℕ) → T (bit a k) → k < a
bit_below a zero t = let e : a % 2 ≡ 1 = eqb→eq (a % 2) 1 (rw (bit_zero a) at t) in omega arith
bit_below a (suc k) t = let l : k < a / 2 = bit_below (a / 2) k (rw (bit-suc a k) at t) in omega arith

cases_to_lem : (a g n k : ℕ) → k < n → T (bit a k) → Memᴰ (g, suc k) (cases_to a g n)
unfolding cases_to
cases_to_lem a g zero k l t = absurd (not-suc-le-zero l)
cases_to_lem a g (suc n) k l t = go (ℕ_discrete k n) (bit a n) refl (cases_to_lem a g n k)
  where
    go : Dec (k ≡ n) → (b : Bool) → bit a n ≡ b → (k < n → T (bit a k) → Memᴰ (g, suc k) (cases_to a g n))
        → Memᴰ (g, suc k) (cond b ((g, suc n) ∷ cases_to a g n) (cases_to a g n))
    go (yes e) true d ih = Memᴰ.head (ap (λ (x : ℕ). (g, suc x)) e)
    go (yes e) false d ih = absurd (subst T (ap (bit a) e ∙ d) t)
    go (no e) true d ih = Memᴰ.tail (ih (omega arith) t)
    go (no e) false d ih = ih (omega arith) t

to_cases : (a g n : ℕ) (p : Pair) → Memᴰ p (cases_to a g n) → (k : ℕ) × (p ≡ (g, suc k)) × T (bit a k)
unfolding cases_to
to_cases a g zero p m = absurd (Memᴰ.not-nil m)
to_cases a g (suc n) p m = go (bit a n) refl m (to_cases a g n p)
  where
    Out : Type 0
    Out = (k : ℕ) × (p ≡ (g, suc k)) × T (bit a k)

    go : (b : Bool) → bit a n ≡ b → Memᴰ p (cond b ((g, suc n) ∷ cases_to a g n) (cases_to a g n)) → (Memᴰ p (cases_to a g n) → Out) → Out
    go true d m ih = pick (Memᴰ.cases_cons m)
      where
        pick : (p ≡ (g, suc n)) ⊎ Memᴰ p (cases_to a g n) → Out
        pick (inl e) = (n, e, rw d tt)
        pick (inr k) = ih k
    go false d m ih = ih m

pairs_to_lem : (r : List ℕ) (n i k : ℕ) → i < n → T (bit (row r i) k) → Memᴰ (suc i, suc k) (pairs_to r n)
unfolding pairs_to
pairs_to_lem r zero i k l t = absurd (not-suc-le-zero l)
pairs_to_lem r (suc n) i k l t = go (ℕ_discrete i n) (pairs_to_lem r n i k)
  where
    go : Dec (i ≡ n) → (i < n → T (bit (row r i) k) → Memᴰ (suc i, suc k) (pairs_to r n))
        → Memᴰ (suc i, suc k) (cases_to (row r n) (suc n) (row r n) ++ pairs_to r n)
    go (yes e) ih =
        Memᴰ.append_left (pairs_to r n) (subst (λ (x : ℕ). Memᴰ (suc x, suc k) (cases_to (row r n) (suc n) (row r n))) (sym e)
        (cases_to_lem (row r n) (suc n) (row r n) k (bit_below (row r n) k (rw e at t)) (rw e at t)))
    go (no e) ih = Memᴰ.append_right (cases_to (row r n) (suc n) (row r n)) (ih (omega arith) t)

to_pairs : (r : List ℕ) (n : ℕ) (p : Pair) → Memᴰ p (pairs_to r n) → Has r p.0 p.1
unfolding pairs_to
to_pairs r zero p m = absurd (Memᴰ.not-nil m)
to_pairs r (suc n) p m = go (Memᴰ.append_cases (cases_to (row r n) (suc n) (row r n)) m) (to_pairs r n p)
  where
    go : Memᴰ p (cases_to (row r n) (suc n) (row r n)) ⊎ Memᴰ p (pairs_to r n) → (Memᴰ p (pairs_to r n) → Has r p.0 p.1) → Has r p.0 p.1
    go (inl k) ih = let c = to_cases (row r n) (suc n) (row r n) p k in subst (λ (x : Pair). Has r x.0 x.1) (sym c.1) (place_has r n c.0 c.2)
    go (inr k) ih = ih k

-- a row with a case is one of the set's rows
pub row_below : (s : List ℕ) (i k : ℕ) → T (bit (row s i) k) → i < length s
row_below s i k t = go (dec_lt i (length s))
  where
    go : Dec (i < length s) → i < length s
    go (yes l) = l
    go (no l) = let u : T (bit 0 k) = rw (row_past s i (omega arith)) at t in absurd (not-suc-le-zero (bit_below 0 k u))

pub mem_pairs : (r : List ℕ) (g c : ℕ) → Has r g c → Memᴰ (g, c) (pairs_of r)
unfolding pairs_of
mem_pairs r g c h = by_place_lem r (λ g c. Memᴰ (g, c) (pairs_to r (length r))) (λ i k t. pairs_to_lem r (length r) i k (row_below r i k t) t) g c h

pub pairs_mem : (r : List ℕ) (p : Pair) → Memᴰ p (pairs_of r) → Has r p.0 p.1
unfolding pairs_of
pairs_mem r p m = to_pairs r (length r) p m

-- ---- searches
module _ {A : Type 0} (P Q : A → Type 0) where
  pub all_or : (l : List A) → ((a : A) → Memᴰ a l → P a ⊎ Q a) → ((a : A) → Memᴰ a l → P a) ⊎ ((a : A) × Memᴰ a l × Q a)
  all_or [] f = inl (λ a m. absurd (Memᴰ.not-nil m))
  all_or (x ∷ l) f = go (f x (Memᴰ.head refl)) (all_or l (λ a m. f a (Memᴰ.tail m)))
    where
      Out : Type 0
      Out = ((a : A) → Memᴰ a (x ∷ l) → P a) ⊎ ((a : A) × Memᴰ a (x ∷ l) × Q a)

      go : P x ⊎ Q x → ((a : A) → Memᴰ a l → P a) ⊎ ((a : A) × Memᴰ a l × Q a) → Out
      go (inr q) r = inr (x, Memᴰ.head refl, q)
      go (inl p) (inr r) = inr (r.0, Memᴰ.tail r.1, r.2)
      go (inl p) (inl r) = inl (λ a m. at a (Memᴰ.cases_cons m))
        where
          at : (a : A) → (a ≡ x) ⊎ Memᴰ a l → P a
          at a (inl e) = rw e p
          at a (inr k) = r a k

-- every pair of the table, or one to the contrary
pub pairs_or : (r : List ℕ) (P Q : ℕ → ℕ → Type 0) → ((g c : ℕ) → Has r g c → P g c ⊎ Q g c)
    → ((g c : ℕ) → Has r g c → P g c) ⊎ ((g : ℕ) × (c : ℕ) × Has r g c × Q g c)
pairs_or r P Q f = go (all_or (λ (p : Pair). P p.0 p.1) (λ (p : Pair). Q p.0 p.1) (pairs_of r) (λ p m. f p.0 p.1 (pairs_mem r p m)))
  where
    go : ((p : Pair) → Memᴰ p (pairs_of r) → P p.0 p.1) ⊎ ((p : Pair) × Memᴰ p (pairs_of r) × Q p.0 p.1)
        → ((g c : ℕ) → Has r g c → P g c) ⊎ ((g : ℕ) × (c : ℕ) × Has r g c × Q g c)
    go (inl h) = inl (λ g c k. h (g, c) (mem_pairs r g c k))
    go (inr h) = inr (h.0.0, h.0.1, pairs_mem r h.0 h.1, h.2)
