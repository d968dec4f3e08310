-- Where the indices of an arrangement are: each at one place, and at each place one of them. The second is by
-- counting: an index that is not below n would be one too many.
--
-- In order: a list and one index (`times`, `place_of`); members; the indices below n in turn; an arrangement
-- (`index_place`, `place_index`, `index_injective`); which lists are one (`arrangement_of`), "1, 2, 3 and on" among
-- them (`plain_arrangement`).
use mathlib.Core.Path.{◌≡◌, refl, sym, ap, ◌∙◌, subst}
use mathlib.Core.Logic.{◌⊎◌, inl, inr, ◌↔◌, ◌≢◌}
use mathlib.Core.List.Memᴰ
use mathlib.Core.List.{List, [], ◌∷◌, Memᴰ}
use Prim.Native.Nat.{ℕ, zero, suc, ◌≤◌, ◌<◌}
use native.Mathlib.Nat.{not-suc-le-zero, le_of_suc-le-suc}
use native.Mathlib.Decide.{ℕ_discrete, dec_lt}
use native.Mathlib.Omega.{arith}
use lib.ListN.{length, get_or}
use borrow.Author.Tests.{eq-eqb, ne_eqb}
use Rattle.sets.specs.Lists.{tabulate}
use Rattle.sets.proofs.Tabulated.{length-tabulate, get_or-tabulate}
use Rattle.rules.specs.Sequences.{All, Sorted}
use Rattle.rules.proofs.Sequences.{All_of, All_get, distinct_length}
use Rattle.lists.specs.Arrangements.{times, IsArrangement, place_of, plain}
use Rattle.lists.specs.private.Arranging.{index_at}

-- ---- an index and the rest of a list
pub times_hit : (i x : ℕ) (o : List ℕ) → i ≡ x → times i (x ∷ o) ≡ suc (times i o)
unfolding times
times_hit i x o e = rw (eq-eqb i x e)

pub times_miss : (i x : ℕ) (o : List ℕ) → i ≢ x → times i (x ∷ o) ≡ times i o
unfolding times
times_miss i x o e = rw (ne_eqb i x e)

pub times_none : (i : ℕ) → times i [] ≡ 0
unfolding times
times_none i = refl

place_hit : (i x : ℕ) (o : List ℕ) → i ≡ x → place_of (x ∷ o) i ≡ 0
unfolding place_of
place_hit i x o e = rw (eq-eqb i x e)

place_miss : (i x : ℕ) (o : List ℕ) → i ≢ x → place_of (x ∷ o) i ≡ suc (place_of o i)
unfolding place_of
place_miss i x o e = rw (ne_eqb i x e)

-- the place of an index that is in the list, and of one that is not
pub place_stands : (o : List ℕ) (i : ℕ) → 1 ≤ times i o → (place_of o i < length o) × (index_at o (place_of o i) ≡ i)
place_stands [] i h = absurd (omega (arith, times_none i))
place_stands (x ∷ o) i h = go (ℕ_discrete i x) (place_stands o i)
  where
    go : Dec (i ≡ x) → (1 ≤ times i o → (place_of o i < length o) × (index_at o (place_of o i) ≡ i))
        → (place_of (x ∷ o) i < suc (length o)) × (index_at (x ∷ o) (place_of (x ∷ o) i) ≡ i)
    go (yes e) ih = rw (place_hit i x o e) (omega arith, sym e)
    go (no e) ih = let k = ih (omega (arith, times_miss i x o e)) in rw (place_miss i x o e) (omega (arith, k.0), k.1)

times_at : (o : List ℕ) (k : ℕ) → k < length o → 1 ≤ times (index_at o k) o
times_at [] k h = absurd (not-suc-le-zero h)
times_at (x ∷ o) zero h = omega (arith, times_hit x x o refl)
times_at (x ∷ o) (suc k) h = go (ℕ_discrete (index_at o k) x) (times_at o k (le_of_suc-le-suc h))
  where
    go : Dec (index_at o k ≡ x) → 1 ≤ times (index_at o k) o → 1 ≤ times (index_at o k) (x ∷ o)
    go (yes e) ih = omega (arith, times_hit (index_at o k) x o e)
    go (no e) ih = omega (arith, times_miss (index_at o k) x o e, ih)

-- an index that is there once is nowhere but at its place
place_only : (o : List ℕ) (k : ℕ) → k < length o → times (index_at o k) o ≡ 1 → place_of o (index_at o k) ≡ k
place_only [] k h e = absurd (not-suc-le-zero h)
place_only (x ∷ o) zero h e = place_hit x x o refl
place_only (x ∷ o) (suc k) h e = go (ℕ_discrete (index_at o k) x) (place_only o k (le_of_suc-le-suc h)) (times_at o k (le_of_suc-le-suc h))
  where
    go : Dec (index_at o k ≡ x) → (times (index_at o k) o ≡ 1 → place_of o (index_at o k) ≡ k) → 1 ≤ times (index_at o k) o → place_of (x ∷ o) (index_at o k) ≡ suc k
    go (yes d) ih m = absurd (omega (arith, times_hit (index_at o k) x o d, m))
    go (no d) ih m = place_miss (index_at o k) x o d ∙ ap suc (ih (sym (times_miss (index_at o k) x o d) ∙ e))

-- ---- members
pub mem_at : (l : List ℕ) (k : ℕ) → k < length l → Memᴰ (get_or l k 0) l
mem_at [] k h = absurd (not-suc-le-zero h)
mem_at (x ∷ l) zero h = Memᴰ.head refl
mem_at (x ∷ l) (suc k) h = Memᴰ.tail (mem_at l k (le_of_suc-le-suc h))

mem_times : (o : List ℕ) (i : ℕ) → Memᴰ i o → 1 ≤ times i o
mem_times [] i m = elim m [ ]
mem_times (x ∷ l) i (Memᴰ.head e) = omega (arith, times_hit i x l e)
mem_times (x ∷ l) i (Memᴰ.tail m) = go (ℕ_discrete i x) (mem_times l i m)
  where
    go : Dec (i ≡ x) → 1 ≤ times i l → 1 ≤ times i (x ∷ l)
    go (yes e) h = omega (arith, times_hit i x l e)
    go (no e) h = omega (arith, times_miss i x l e, h)

pub mem_tabulate : (f : ℕ → ℕ) (n a : ℕ) → Memᴰ a (tabulate f n) → (k : ℕ) × (k < n) × (a ≡ f k)
unfolding tabulate
mem_tabulate f zero a m = absurd (Memᴰ.not-nil m)
mem_tabulate f (suc n) a m = go (mem_tabulate (λ i. f (suc i)) n a) (Memᴰ.cases_cons m)
  where
    go : (Memᴰ a (tabulate (λ i. f (suc i)) n) → (k : ℕ) × (k < n) × (a ≡ f (suc k))) → (a ≡ f 0) ⊎ Memᴰ a (tabulate (λ i. f (suc i)) n)
        → (k : ℕ) × (k < suc n) × (a ≡ f k)
    go ih (inl e) = (0, omega arith, e)
    go ih (inr k) = let r = ih k in (suc r.0, omega (arith, r.1), r.2)

-- ---- the indices below n, in turn
pub tabulate_distinct : (f : ℕ → ℕ) (n : ℕ) → ((i j : ℕ) → f i ≡ f j → i ≡ j) → Sorted (λ (a b : ℕ). a ≢ b) (tabulate f n)
unfolding tabulate
tabulate_distinct f zero h = tt
tabulate_distinct f (suc n) h = (
  All_of (λ (b : ℕ). f 0 ≢ b) (tabulate (λ i. f (suc i)) n) (λ b m e. later (mem_tabulate (λ i. f (suc i)) n b m) e),
  tabulate_distinct (λ i. f (suc i)) n (λ i j e. omega (arith, h (suc i) (suc j) e)),
)
  where
    later : {b : ℕ} → (k : ℕ) × (k < n) × (b ≡ f (suc k)) → f 0 ≡ b → ⊥
    later (k, l, d) e = omega (arith, h 0 (suc k) (e ∙ d))

plain_distinct : (n : ℕ) → Sorted (λ (a b : ℕ). a ≢ b) (plain n)
plain_distinct n = tabulate_distinct (λ i. i) n (λ i j e. e)

pub length-plain : (n : ℕ) → length (plain n) ≡ n
length-plain n = length-tabulate (λ i. i) n

pub index_plain : (n i : ℕ) → i < n → index_at (plain n) i ≡ i
index_plain n i l = get_or-tabulate (λ i. i) n i l

plain_mem : (n i : ℕ) → Memᴰ i (plain n) ↔ (i < n)
plain_mem n i = (
  λ m. into (mem_tabulate (λ i. i) n i m),
  λ h. subst (λ (a : ℕ). Memᴰ a (plain n)) (index_plain n i h) (mem_at (plain n) i (omega (arith, length-plain n))),
)
  where
    into : (k : ℕ) × (k < n) × (i ≡ k) → i < n
    into (k, l, e) = omega (arith, l, e)

-- ---- an arrangement
module _ (n : ℕ) (o : List ℕ) (a : IsArrangement n o) where
  pub index_place : (i : ℕ) → i < n → index_at o (place_of o i) ≡ i
  index_place i h = (place_stands o i (omega (arith, a.once i h))).1

  pub place_below : (i : ℕ) → i < n → place_of o i < n
  place_below i h = omega (arith, a.size, (place_stands o i (omega (arith, a.once i h))).0)

  -- an index in o that is not below n would be one too many
  stands_within : (i : ℕ) → Memᴰ i o → Dec (i < n) → i < n
  stands_within i m (yes h) = h
  stands_within i m (no h) = absurd (omega (arith, a.size, length-plain n, distinct_length (i ∷ plain n) o (others, plain_distinct n) all))
    where
      others : All (λ (b : ℕ). i ≢ b) (plain n)
      others = All_of (λ (b : ℕ). i ≢ b) (plain n) (λ b k e. h (omega (arith, e, (plain_mem n b).0 k)))

      stands : (b : ℕ) → b < n → Memᴰ b o
      stands b k = subst (λ (x : ℕ). Memᴰ x o) (index_place b k) (mem_at o (place_of o b) (omega (arith, a.size, place_below b k)))

      all : (b : ℕ) → Memᴰ b (i ∷ plain n) → Memᴰ b o
      all b k = go (Memᴰ.cases_cons k)
        where
          go : (b ≡ i) ⊎ Memᴰ b (plain n) → Memᴰ b o
          go (inl e) = subst (λ (x : ℕ). Memᴰ x o) (sym e) m
          go (inr k) = stands b ((plain_mem n b).0 k)

  pub in_range_lem : (i : ℕ) → Memᴰ i o → i < n
  in_range_lem i m = stands_within i m (dec_lt i n)

  pub index_below : (k : ℕ) → k < n → index_at o k < n
  index_below k h = in_range_lem (index_at o k) (mem_at o k (omega (arith, a.size)))

  pub place_index : (k : ℕ) → k < n → place_of o (index_at o k) ≡ k
  place_index k h = place_only o k (omega (arith, a.size)) (a.once (index_at o k) (index_below k h))

  pub index_injective : (j k : ℕ) → j < n → k < n → index_at o j ≡ index_at o k → j ≡ k
  index_injective j k h l e = sym (place_index j h) ∙ ap (place_of o) e ∙ place_index k l

-- ---- which lists are arrangements
-- different indices, as many as there are below n, and all of them below n: one that is not among them would be one
-- too many
times_few : (i : ℕ) (o : List ℕ) → Sorted (λ (a b : ℕ). a ≢ b) o → times i o ≤ 1
times_few i [] d = omega (arith, times_none i)
times_few i (x ∷ o) d = go (ℕ_discrete i x) (times_few i o d.1) (ℕ_discrete (times i o) 0)
  where
    go : Dec (i ≡ x) → times i o ≤ 1 → Dec (times i o ≡ 0) → times i (x ∷ o) ≤ 1
    go (yes e) ih (yes z) = omega (arith, times_hit i x o e)
    go (yes e) ih (no z) =
        let k : (place_of o i < length o) × (index_at o (place_of o i) ≡ i) = place_stands o i (omega arith) in
        absurd (All_get (λ (b : ℕ). x ≢ b) (mem_at o (place_of o i) k.0) d.0 (sym (k.1 ∙ e)))
    go (no e) ih z = omega (arith, times_miss i x o e, ih)

pub arrangement_of : (n : ℕ) (o : List ℕ) → length o ≡ n → ((i : ℕ) → Memᴰ i o → i < n) → Sorted (λ (a b : ℕ). a ≢ b) o → IsArrangement n o
arrangement_of n o e r d = record { size = e; once = λ i h. go i h (ℕ_discrete (times i o) 0) }
  where
    go : (i : ℕ) → i < n → Dec (times i o ≡ 0) → times i o ≡ 1
    go i h (no z) = omega (arith, times_few i o d)
    go i h (yes z) = absurd (omega (arith, length-plain n, distinct_length (i ∷ o) (plain n) (All_of (λ (b : ℕ). i ≢ b) o (λ b m q. none b m q), d) all))
      where
        none : (b : ℕ) → Memᴰ b o → i ≡ b → ⊥
        none b m q = omega (arith, z, mem_times o i (subst (λ (x : ℕ). Memᴰ x o) (sym q) m))

        all : (b : ℕ) → Memᴰ b (i ∷ o) → Memᴰ b (plain n)
        all b m = pick (Memᴰ.cases_cons m)
          where
            pick : (b ≡ i) ⊎ Memᴰ b o → Memᴰ b (plain n)
            pick (inl q) = (plain_mem n b).1 (omega (arith, q))
            pick (inr k) = (plain_mem n b).1 (r b k)

pub plain_arrangement : (n : ℕ) → IsArrangement n (plain n)
plain_arrangement n = arrangement_of n (plain n) (length-plain n) (λ i m. (plain_mem n i).0 m) (plain_distinct n)
