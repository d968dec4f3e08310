-- Preferences as 64 numbers: the test says that they hold an arrangement (`preference_is`), by row index, padded with
-- zeros.
use mathlib.Core.Path.{◌≡◌, refl, sym, ap, ap₂, ◌∙◌, subst}
use mathlib.Core.Logic.{◌⊎◌, inl, inr, ◌↔◌, ◌≢◌}
use mathlib.Core.Bool.{Bool, ◌||◌}
use mathlib.Core.List.Memᴰ
use mathlib.Core.List.{List, [], ◌∷◌, map, Memᴰ}
use Prim.Native.Nat.{ℕ, zero, suc, ◌-◌, ◌≤◌, ◌<◌}
use native.Mathlib.Decide.{ℕ_discrete, dec_lt}
use native.Mathlib.Omega.{arith}
use lib.Dec.{T, eqb, eqb→eq, ltb, ltb→lt}
use lib.ListN.{length, take, get_or, replicate, length-map, get_or-eq_default}
use lib.Seq.{take_at, get_or-take, length-take-le}
use borrow.Author.Tests.{lt-ltb}
use Rattle.sets.specs.Lists.{tabulate, all_below}
use Rattle.sets.proofs.Tests.{and_l, and_r, and_i, or_e, or_r, eq→eqb}
use Rattle.sets.proofs.Tabulated.{all_at, all_of, length-tabulate}
use Rattle.table.proofs.Padding.{pad_get_or, pad_ext}
use Rattle.rules.specs.Sequences.{All}
use Rattle.rules.proofs.Sequences.{All_of, distinct_length}
use Rattle.lists.specs.Arrangements.{times, IsArrangement}
use Rattle.lists.specs.private.Arranging.{index_at}
use Rattle.lists.proofs.Standing.{times_hit, times_miss, times_none, place_stands, mem_at, mem_tabulate, tabulate_distinct}
use Rattle.lists.proofs.Arranging.{get_or-map}
use Rattle.preference.specs.Preferences.{is_preference, order_of, numbers_of}
use Rattle.preference.specs.private.Testing.{zeros_from}

pub record IsPreference (n : ℕ) (k : List ℕ) : Type 0 where
  pub arranged : IsArrangement n (order_of n k)
  pub held : k ≡ numbers_of (order_of n k)

-- ---- indices and numbers
pub numbers_at_lem : (o : List ℕ) (i : ℕ) → i < length o → get_or (map suc o) i 0 ≡ suc (index_at o i)
numbers_at_lem o i l = get_or-map suc o i l

pub order_numbers : (n : ℕ) (o : List ℕ) → length o ≡ n → order_of n (numbers_of o) ≡ o
order_numbers n o e =
    ap (map (λ x. x - 1)) (take_at (map suc o) (replicate (64 - length (map suc o)) 0) n (length-map o suc ∙ e)) ∙ down o
  where
    down : (l : List ℕ) → map (λ x. x - 1) (map suc l) ≡ l
    down [] = refl
    down (x ∷ l) = let d : suc x - 1 ≡ x = omega arith in ap₂ (λ (a : ℕ) (b : List ℕ). a ∷ b) d (down l)

module _ (n : ℕ) (k : List ℕ) (few : n ≤ 64) (long : length k ≡ 64) where
  pub length_order : length (order_of n k) ≡ n
  length_order = length-map (take n k) (λ x. x - 1) ∙ length-take-le n k (omega arith)

  pub order_at : (i : ℕ) → i < n → index_at (order_of n k) i ≡ get_or k i 0 - 1
  order_at i l = get_or-map (λ x. x - 1) (take n k) i (omega (arith, length-take-le n k (omega arith))) ∙ ap (λ (x : ℕ). x - 1) (get_or-take n k i 0 l)

  -- numbers that are not 0 in front, zeros after them
  pub held_of : ((i : ℕ) → i < n → 1 ≤ get_or k i 0) → ((i : ℕ) → n ≤ i → i < 64 → get_or k i 0 ≡ 0) → k ≡ numbers_of (order_of n k)
  held_of front rest =
      pad_ext k (map suc (order_of n k)) long (omega (arith, length-map (order_of n k) suc, length_order)) (λ i. go i (dec_lt i n) (dec_lt i 64))
    where
      past : (i : ℕ) → ¬ (i < n) → get_or (map suc (order_of n k)) i 0 ≡ 0
      past i l = get_or-eq_default (map suc (order_of n k)) 0 (omega (arith, length-map (order_of n k) suc, length_order))

      go : (i : ℕ) → Dec (i < n) → Dec (i < 64) → get_or k i 0 ≡ get_or (map suc (order_of n k)) i 0
      go i (yes l) d = sym (numbers_at_lem (order_of n k) i (omega (arith, length_order)) ∙ ap suc (order_at i l) ∙ omega (arith, front i l))
      go i (no l) (yes d) = rest i (omega arith) d ∙ sym (past i l)
      go i (no l) (no d) = get_or-eq_default k 0 (omega (arith, long)) ∙ sym (past i l)

  -- and back
  pub held_front : IsPreference n k → (i : ℕ) → i < n → get_or k i 0 ≡ suc (index_at (order_of n k) i)
  held_front p i l =
      ap (λ (x : List ℕ). get_or x i 0) p.held ∙ pad_get_or (map suc (order_of n k)) i ∙ numbers_at_lem (order_of n k) i (omega (arith, length_order))

  held_rest : IsPreference n k → (i : ℕ) → n ≤ i → get_or k i 0 ≡ 0
  held_rest p i l =
      ap (λ (x : List ℕ). get_or x i 0) p.held ∙ pad_get_or (map suc (order_of n k)) i
      ∙ get_or-eq_default (map suc (order_of n k)) 0 (omega (arith, length-map (order_of n k) suc, length_order))

-- ---- the zeros after them
pub zeros_at : (n : ℕ) (k : List ℕ) → T (zeros_from n k) → (i : ℕ) → n ≤ i → i < 64 → get_or k i 0 ≡ 0
unfolding zeros_from
zeros_at n k t i l h = go (or_e (ltb i n) (eqb (get_or k i 0) 0) (all_at (λ i. ltb i n || eqb (get_or k i 0) 0) 64 i t h))
  where
    go : T (ltb i n) ⊎ T (eqb (get_or k i 0) 0) → get_or k i 0 ≡ 0
    go (inl a) = absurd (omega (arith, ltb→lt i n a))
    go (inr b) = eqb→eq (get_or k i 0) 0 b

pub zeros_of : (n : ℕ) (k : List ℕ) → ((i : ℕ) → n ≤ i → i < 64 → get_or k i 0 ≡ 0) → T (zeros_from n k)
unfolding zeros_from
zeros_of n k f = all_of (λ i. ltb i n || eqb (get_or k i 0) 0) 64 (λ i h. go i h (dec_lt i n))
  where
    go : (i : ℕ) → i < 64 → Dec (i < n) → T (ltb i n || eqb (get_or k i 0) 0)
    go i h (yes l) = rw (lt-ltb i n l) tt
    go i h (no l) = or_r (ltb i n) (eqb (get_or k i 0) 0) (eq→eqb (get_or k i 0) 0 (f i (omega arith) h))

-- ---- each number once
times-suc : (i : ℕ) (o : List ℕ) → times (suc i) (map suc o) ≡ times i o
times-suc i [] = times_none (suc i) ∙ sym (times_none i)
times-suc i (x ∷ o) = go (ℕ_discrete i x) (times-suc i o)
  where
    go : Dec (i ≡ x) → times (suc i) (map suc o) ≡ times i o → times (suc i) (suc x ∷ map suc o) ≡ times i (x ∷ o)
    go (yes e) ih = times_hit (suc i) (suc x) (map suc o) (ap suc e) ∙ ap suc ih ∙ sym (times_hit i x o e)
    go (no e) ih = times_miss (suc i) (suc x) (map suc o) (λ d. e (omega (arith, d))) ∙ ih ∙ sym (times_miss i x o e)

-- where each of 1..n is once among n numbers, 0 is not: it would be one too many
no_zero : (n : ℕ) (l : List ℕ) → length l ≡ n → ((i : ℕ) → i < n → times (suc i) l ≡ 1) → Memᴰ 0 l → ⊥
no_zero n l e once m =
    omega (arith, e, length-tabulate suc n, distinct_length (0 ∷ tabulate suc n) l (others, tabulate_distinct suc n (λ i j d. omega (arith, d))) all)
  where
    others : All (λ (b : ℕ). 0 ≢ b) (tabulate suc n)
    others = All_of (λ (b : ℕ). 0 ≢ b) (tabulate suc n) (λ b k d. let r = mem_tabulate suc n b k in omega (arith, d, r.2))

    stands : (i : ℕ) → i < n → Memᴰ (suc i) l
    stands i h =
        let k = place_stands l (suc i) (omega (arith, once i h)) in
        subst (λ (x : ℕ). Memᴰ x l) k.1 (mem_at l _ k.0)

    all : (b : ℕ) → Memᴰ b (0 ∷ tabulate suc n) → Memᴰ b l
    all b k = go (Memᴰ.cases_cons k)
      where
        go : (b ≡ 0) ⊎ Memᴰ b (tabulate suc n) → Memᴰ b l
        go (inl d) = subst (λ (x : ℕ). Memᴰ x l) (sym d) m
        go (inr j) = let r = mem_tabulate suc n b j in subst (λ (x : ℕ). Memᴰ x l) (sym r.2) (stands r.0 r.1)

-- ---- the test
module _ (n : ℕ) (k : List ℕ) (few : n ≤ 64) (long : length k ≡ 64) where
  front : List ℕ
  front = take n k

  once_test : ℕ → Bool
  once_test i = eqb (times (suc i) (take n k)) 1

  parts : T (is_preference n k) ↔ (T (all_below once_test n) × T (zeros_from n k))
  unfolding is_preference zeros_from once_test
  parts = (
    λ t. (and_l (all_below once_test n) (zeros_from n k) t, and_r (all_below once_test n) (zeros_from n k) t),
    λ h. and_i (all_below once_test n) (zeros_from n k) h.0 h.1,
  )

  -- the numbers in front, by their indices
  front_is : ((i : ℕ) → i < n → 1 ≤ get_or k i 0) → take n k ≡ map suc (order_of n k)
  front_is f = up (take n k) (λ i l. go i l)
    where
      go : (i : ℕ) → i < length (take n k) → 1 ≤ get_or (take n k) i 0
      go i l =
          let h : i < n = omega (arith, length-take-le n k (omega arith)) in
          omega (arith, f i h, get_or-take n k i 0 h)

      up : (l : List ℕ) → ((i : ℕ) → i < length l → 1 ≤ get_or l i 0) → l ≡ map suc (map (λ x. x - 1) l)
      up [] h = refl
      up (x ∷ l) h =
          let d : x ≡ suc (x - 1) = omega (arith, h 0 (omega arith)) in
          ap₂ (λ (a : ℕ) (b : List ℕ). a ∷ b) d (up l (λ i b. h (suc i) (omega arith)))

  pub preference_of : T (is_preference n k) → IsPreference n k
  unfolding once_test
  preference_of t =
      record {
        arranged = record {
          size = length_order n k few long;
          once = λ i l. sym (times-suc i (order_of n k)) ∙ ap (times (suc i)) (sym (front_is low)) ∙ once i l;
        };
        held = held_of n k few long low (zeros_at n k (parts.0 t).1);
      }
    where
      once : (i : ℕ) → i < n → times (suc i) (take n k) ≡ 1
      once i l = eqb→eq (times (suc i) (take n k)) 1 (all_at once_test n i (parts.0 t).0 l)

      low : (i : ℕ) → i < n → 1 ≤ get_or k i 0
      low i l = go (ℕ_discrete (get_or k i 0) 0)
        where
          go : Dec (get_or k i 0 ≡ 0) → 1 ≤ get_or k i 0
          go (no d) = omega arith
          go (yes d) =
              absurd (no_zero n (take n k) (length-take-le n k (omega arith)) once
              (subst (λ (x : ℕ). Memᴰ x (take n k)) (get_or-take n k i 0 l ∙ d) (mem_at (take n k) i (omega (arith, length-take-le n k (omega arith))))))

  pub of_preference : IsPreference n k → T (is_preference n k)
  unfolding once_test
  of_preference p =
      parts.1 (
        all_of once_test n (λ i l. eq→eqb (times (suc i) (take n k)) 1
            (ap (times (suc i)) (front_is (λ j h. omega (arith, held_front n k few long p j h))) ∙ times-suc i (order_of n k) ∙ p.arranged.once i l)),
        zeros_of n k (λ i l h. held_rest n k few long p i l),
      )

  pub preference_is : T (is_preference n k) ↔ IsPreference n k
  preference_is = (preference_of, of_preference)

-- of the test, the zeros alone
pub zeros_in : (n : ℕ) (k : List ℕ) → T (is_preference n k) → T (zeros_from n k)
unfolding is_preference zeros_from
zeros_in n k t = and_r (all_below (λ i. eqb (times (suc i) (take n k)) 1) n) (all_below (λ i. ltb i n || eqb (get_or k i 0) 0) 64) t

-- of more than 64 numbers there is none
pub none_large : (n : ℕ) (k : List ℕ) → 64 < n → length k ≡ 64 → T (is_preference n k) → ⊥
unfolding is_preference
none_large n k few long t =
    omega (arith, length-tabulate suc n, distinct_length (tabulate suc n) (take n k) (tabulate_distinct suc n (λ i j d. omega (arith, d))) all, short n k)
  where
    each : (i : ℕ) → i < n → times (suc i) (take n k) ≡ 1
    each i l =
        eqb→eq (times (suc i) (take n k)) 1
        (all_at (λ i. eqb (times (suc i) (take n k)) 1) n i
        (and_l (all_below (λ i. eqb (times (suc i) (take n k)) 1) n) (all_below (λ i. ltb i n || eqb (get_or k i 0) 0) 64) t) l)

    all : (b : ℕ) → Memᴰ b (tabulate suc n) → Memᴰ b (take n k)
    all b m =
        let r = mem_tabulate suc n b m in
        let s = place_stands (take n k) (suc r.0) (omega (arith, each r.0 r.1)) in
        subst (λ (x : ℕ). Memᴰ x (take n k)) (s.1 ∙ sym r.2) (mem_at (take n k) _ s.0)

    short : (j : ℕ) (l : List ℕ) → length (take j l) ≤ length l
    short zero l = omega arith
    short (suc j) [] = omega arith
    short (suc j) (x ∷ l) = omega (arith, short j l)
