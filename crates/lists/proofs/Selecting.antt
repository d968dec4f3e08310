-- The numbers below a bound at which a test holds, as a list.
--
-- In order: which they are (`select_nil`, `mem_select`); that they ascend (`select_ascends`); that the first is the one that a search from below finds,
-- which is how code finds the lowest candidate (`head-select`, `above-select`); and that there are no more of them than unpicked indices where the
-- test holds of unpicked ones only (`select_free`).
use mathlib.Core.Path.{◌≡◌, refl, ap, ◌∙◌, subst}
use mathlib.Core.Logic.{◌⊎◌, inl, inr, ◌↔◌}
use mathlib.Core.Bool.{Bool, true, false, ◌&&◌, cond}
use mathlib.Core.Option.{some}
use mathlib.Core.List.Memᴰ
use mathlib.Core.List.{List, [], ◌∷◌, ◌++◌, head?, append-nil, Memᴰ}
use Prim.Native.Nat.{ℕ, zero, suc, ◌≤◌, ◌<◌}
use native.Mathlib.Nat.{not-suc-le-zero}
use native.Mathlib.Decide.{ℕ_discrete, dec_lt}
use native.Mathlib.Omega.{arith}
use lib.Dec.{T, not_T, ltb}
use lib.ListN.{length, length-append}
use Rattle.basics.proofs.Clash.{clash}
use Rattle.rules.specs.Sequences.{All}
use Rattle.rules.specs.ByNumber.{above}
use Rattle.rules.proofs.Sequences.{Ascending, All_get, All_of, Sorted_append}
use Rattle.lists.specs.Picks.{select}
use Rattle.sets.proofs.Tests.{is_false}
use Rattle.lists.proofs.Unpicked.{Un, free, free_suc}

snoc_not_nil : (l : List ℕ) (g : ℕ) → l ++ (g ∷ []) ≡ [] → ⊥
snoc_not_nil [] g e = clash cc
snoc_not_nil (x ∷ l) g e = clash cc

pub select_nil : (f : ℕ → Bool) (n i : ℕ) → select f n ≡ [] → i < n → T (f i) → ⊥
unfolding select
select_nil f zero i e h t = not-suc-le-zero h
select_nil f (suc n) i e h t = go (f n) refl (ℕ_discrete i n) (λ d. select_nil f n i d) e
  where
    go : (b : Bool) → f n ≡ b → Dec (i ≡ n) → (select f n ≡ [] → i < n → T (f i) → ⊥) → cond b (select f n ++ (n ∷ [])) (select f n) ≡ [] → ⊥
    go true d ih r z = snoc_not_nil (select f n) n z
    go false d (yes q) r z = let u : T (f n) = rw (← q) t in subst T d u
    go false d (no q) r z = r z (omega arith) t

pub nil_select : (f : ℕ → Bool) (n : ℕ) → ((i : ℕ) → i < n → T (f i) → ⊥) → select f n ≡ []
unfolding select
nil_select f zero h = refl
nil_select f (suc n) h = rw (is_false (f n) (not_T (f n) (h n (omega arith)))) (nil_select f n (λ i l. h i (omega arith)))

pub mem_select : (f : ℕ → Bool) (n i : ℕ) → Memᴰ i (select f n) ↔ ((i < n) × T (f i))
unfolding select
mem_select f zero i = (λ m. absurd (Memᴰ.not-nil m), λ h. absurd (not-suc-le-zero h.0))
mem_select f (suc n) i = go (f n) refl (mem_select f n i) (ℕ_discrete i n)
  where
    go : (b : Bool) → f n ≡ b → Memᴰ i (select f n) ↔ ((i < n) × T (f i)) → Dec (i ≡ n)
        → Memᴰ i (cond b (select f n ++ (n ∷ [])) (select f n)) ↔ ((i < suc n) × T (f i))
    go true d r (yes e) = (λ m. (omega arith, rw (e, d) tt), λ h. Memᴰ.append_right (select f n) (Memᴰ.head e))
    go true d r (no e) = (λ m. back (Memᴰ.append_cases (select f n) m), λ h. Memᴰ.append_left (n ∷ []) (r.1 (omega (arith, h.0), h.1)))
      where
        back : Memᴰ i (select f n) ⊎ Memᴰ i (n ∷ []) → (i < suc n) × T (f i)
        back (inl m) = (omega (arith, (r.0 m).0), (r.0 m).1)
        back (inr m) = absurd (e (Memᴰ.eq_of_singleton m))
    go false d r (yes e) = (λ m. absurd (omega (arith, (r.0 m).0)), λ h. let u : T (f n) = rw (← e) h.1 in absurd (subst T d u))
    go false d r (no e) = (λ m. (omega (arith, (r.0 m).0), (r.0 m).1), λ h. r.1 (omega (arith, h.0), h.1))

pub select_ascends : (f : ℕ → Bool) (n : ℕ) → Ascending (select f n)
unfolding select
select_ascends f zero = tt
select_ascends f (suc n) = go (f n) (select_ascends f n)
  where
    go : (b : Bool) → Ascending (select f n) → Ascending (cond b (select f n ++ (n ∷ [])) (select f n))
    go true h =
        Sorted_append ◌<◌ (select f n) (n ∷ []) h (tt, tt)
        (All_of (λ (a : ℕ). All (λ (x : ℕ). a < x) (n ∷ [])) (select f n) (λ a m. (((mem_select f n a).0 m).0, tt)))
    go false h = h

-- ---- the lowest, as a search finds it: of all of them, and of those above a number
pub head_least : (g : ℕ) (l : List ℕ) (i : ℕ) → Ascending (g ∷ l) → Memᴰ i (g ∷ l) → g ≤ i
head_least g l i a m = go (Memᴰ.cases_cons m)
  where
    go : (i ≡ g) ⊎ Memᴰ i l → g ≤ i
    go (inl e) = omega arith
    go (inr k) = let d : g < i = All_get (λ (x : ℕ). g < x) k a.0 in omega arith

pub head-select : (f : ℕ → Bool) (n i : ℕ) → i < n → T (f i) → ((j : ℕ) → j < i → T (f j) → ⊥) → head? (select f n) ≡ some i
head-select f n i l t h = go (select f n) refl
  where
    go : (k : List ℕ) → select f n ≡ k → head? k ≡ some i
    go [] e = absurd (select_nil f n i e l t)
    go (x ∷ k) e = ap some (low (dec_lt x i))
      where
        below : x ≤ i
        below = head_least x k i (rw e at (select_ascends f n)) (rw (← e) ((mem_select f n i).1 (l, t)))

        low : Dec (x < i) → x ≡ i
        low (yes d) = absurd (h x d ((mem_select f n x).0 (rw e (Memᴰ.head refl))).1)
        low (no d) = omega (arith, below)

pub above-select : (g : ℕ) (f : ℕ → Bool) (n : ℕ) → above g (select f n) ≡ select (λ i. ltb g i && f i) n
unfolding select
above-select g f zero = refl
above-select g f (suc n) = go (f n) (ltb g n) refl (above-select g f n)
  where
    snoc : (l : List ℕ) (b : Bool) → ltb g n ≡ b → above g (l ++ (n ∷ [])) ≡ above g l ++ cond b (n ∷ []) []
    snoc [] b e = rw e
    snoc (x ∷ l) b e = part (ltb g x) (snoc l b e)
      where
        part : (c : Bool) → above g (l ++ (n ∷ [])) ≡ above g l ++ cond b (n ∷ []) []
            → cond c (x ∷ above g (l ++ (n ∷ []))) (above g (l ++ (n ∷ []))) ≡ cond c (x ∷ above g l) (above g l) ++ cond b (n ∷ []) []
        part true h = ap (λ (m : List ℕ). x ∷ m) h
        part false h = h

    go : (b c : Bool) → ltb g n ≡ c → above g (select f n) ≡ select (λ i. ltb g i && f i) n
        → above g (cond b (select f n ++ (n ∷ [])) (select f n)) ≡ cond (c && b) (select (λ i. ltb g i && f i) n ++ (n ∷ [])) (select (λ i. ltb g i && f i) n)
    go true true e h = snoc (select f n) true e ∙ ap (λ (l : List ℕ). l ++ (n ∷ [])) h
    go true false e h = snoc (select f n) false e ∙ append-nil (above g (select f n)) ∙ h
    go false true e h = h
    go false false e h = h

pub select_free : (q : List ℕ) (f : ℕ → Bool) → ((i : ℕ) → T (f i) → Un q i) → (n : ℕ) → length (select f n) ≤ free q n
unfolding select
select_free q f h zero = omega arith
select_free q f h (suc n) = go (f n) refl (select_free q f h n)
  where
    go : (b : Bool) → f n ≡ b → length (select f n) ≤ free q n → length (cond b (select f n ++ (n ∷ [])) (select f n)) ≤ free q (suc n)
    go true e l = omega (arith, length-append (select f n) (n ∷ []), (free_suc q n).0 (h n (rw e tt)))
    go false e l = omega (arith, (free_suc q n).1)
