-- Pick sequences by place (Preferred.antt) are those of the arranged sets: the sequence of a set, ties by place, is
-- that of the arranged set, each place by its index (`sequence_placed`), and so its places are the sequence of the
-- arranged set (`places_placed`).
--
-- In order: the best of a list, by place; scores; what is taken, one after the other; the whole sequence.
use mathlib.Core.Path.{◌≡◌, refl, sym, ap, ◌∙◌}
use mathlib.Core.Bool.{Bool, true, false, cond}
use mathlib.Core.List.{List, [], ◌∷◌, ◌++◌, map}
use Prim.Native.Nat.{ℕ, zero, suc, ◌≤◌, ◌<◌}
use native.Mathlib.Decide.{ℕ_discrete}
use native.Mathlib.Omega.{arith}
use lib.Dec.{eqb, ltb}
use lib.ListN.{length, get_or-append}
use borrow.Author.Tests.{eq-eqb, ne_eqb}
use Rattle.rules.proofs.Sequences.{All_append}
use Rattle.rules.proofs.Trees.{by_last, length_snoc}
use Rattle.rules.proofs.Renaming.{map_snoc}
use Rattle.lists.specs.Arrangements.{IsArrangement, place_of}
use Rattle.lists.specs.PickSequence.{score}
use Rattle.lists.specs.ByNumber.{best, take_from, pick_seq}
use Rattle.lists.specs.Preferred.{best_from, best_in, take_by, pick_seq_by, places_of}
use Rattle.lists.specs.private.Arranging.{index_at, arrange}
use Rattle.lists.proofs.Taking.{best_in_lem, next, take_none, take_stop, take_more, next-in}
use Rattle.lists.proofs.Arranging.{arrange_moves, length-arrange}
use Rattle.lists.proofs.PlacedCandidates.{AllBelow, places_back, is_in_index}

-- ---- the best of a list
best_low : (f : ℕ → ℕ) (n : ℕ) → best f n ≤ n
unfolding best
best_low f zero = omega arith
best_low f (suc n) = omega (arith, best_in_lem f (suc n) n (omega arith))

best_same : (f g : ℕ → ℕ) (n : ℕ) → ((i : ℕ) → i < n → f i ≡ g i) → best f n ≡ best g n
unfolding best
best_same f g zero h = refl
best_same f g (suc n) h =
    rw (best_same f g n (λ i l. h i (omega arith)), h (best g n) (omega (arith, best_low g n)), h n (omega arith))

best_last : (f : ℕ → ℕ) (n : ℕ) → best f (suc n) ≡ cond (ltb (f (best f n)) (f n)) n (best f n)
unfolding best
best_last f n = refl

from_none : (f : ℕ → ℕ) (b : ℕ) → best_from f b [] ≡ b
unfolding best_from
from_none f b = refl

from_snoc : (f : ℕ → ℕ) (b : ℕ) (l : List ℕ) (x : ℕ) → best_from f b (l ++ (x ∷ [])) ≡ cond (ltb (f (best_from f b l)) (f x)) x (best_from f b l)
unfolding best_from
from_snoc f b [] x = refl
from_snoc f b (g ∷ l) x = from_snoc f (cond (ltb (f b) (f g)) g b) l x

last_is : (y : ℕ) (l : List ℕ) (x : ℕ) → index_at (y ∷ (l ++ (x ∷ []))) (suc (length l)) ≡ x
last_is y [] x = refl
last_is y (z ∷ l) x = last_is z l x

-- the best of a list that is not empty is at the best place
from_places : (f : ℕ → ℕ) (y : ℕ) (l : List ℕ) → best_from f y l ≡ index_at (y ∷ l) (best (λ i. f (index_at (y ∷ l) i)) (suc (length l)))
from_places f y =
    by_last (λ (l : List ℕ). best_from f y l ≡ index_at (y ∷ l) (best (λ i. f (index_at (y ∷ l) i)) (suc (length l)))) one more
  where
    one : best_from f y [] ≡ index_at (y ∷ []) (best (λ i. f (index_at (y ∷ []) i)) 1)
    one =
        let z : best (λ i. f (index_at (y ∷ []) i)) 1 ≡ 0 = omega (arith, best_in_lem (λ i. f (index_at (y ∷ []) i)) 1 0 (omega arith)) in
        from_none f y ∙ ap (index_at (y ∷ [])) (sym z)

    more : (l : List ℕ) (x : ℕ) → best_from f y l ≡ index_at (y ∷ l) (best (λ i. f (index_at (y ∷ l) i)) (suc (length l)))
        → best_from f y (l ++ (x ∷ [])) ≡ index_at (y ∷ (l ++ (x ∷ []))) (best (λ i. f (index_at (y ∷ (l ++ (x ∷ []))) i)) (suc (length (l ++ (x ∷ [])))))
    more l x ih =
        from_snoc f y l x ∙ ap (λ (c : ℕ). cond (ltb (f c) (f x)) x c) (ih ∙ sym (old b low)) ∙ go (ltb (f (index_at k b)) (f x)) refl
      where
        k : List ℕ
        k = y ∷ (l ++ (x ∷ []))

        fk : ℕ → ℕ
        fk i = f (index_at k i)

        fm : ℕ → ℕ
        fm i = f (index_at (y ∷ l) i)

        b : ℕ
        b = best fm (suc (length l))

        low : b < suc (length l)
        low = best_in_lem fm (suc (length l)) 0 (omega arith)

        old : (i : ℕ) → i < suc (length l) → index_at k i ≡ index_at (y ∷ l) i
        old i h = get_or-append (y ∷ l) (x ∷ []) 0 i h

        same : best fk (suc (length l)) ≡ b
        same = best_same fk fm (suc (length l)) (λ i h. ap f (old i h))

        at-end : best fk (suc (length (l ++ (x ∷ [])))) ≡ cond (ltb (fk b) (f x)) (suc (length l)) b
        at-end =
            ap (λ (n : ℕ). best fk (suc n)) (length_snoc l x) ∙ best_last fk (suc (length l))
            ∙ rw (same, last_is y l x)

        go : (t : Bool) → ltb (fk b) (f x) ≡ t → cond t x (index_at k b) ≡ index_at k (best fk (suc (length (l ++ (x ∷ [])))))
        go t e = sym (ap (index_at k) (at-end ∙ ap (λ (v : Bool). cond v (suc (length l)) b) e) ∙ part t)
          where
            part : (t : Bool) → index_at k (cond t (suc (length l)) b) ≡ cond t x (index_at k b)
            part true = last_is y l x
            part false = refl

in_places_lem : (f : ℕ → ℕ) (l : List ℕ) → 0 < length l → best_in f l ≡ index_at l (best (λ i. f (index_at l i)) (length l))
unfolding best_in
in_places_lem f [] h = absurd (omega arith)
in_places_lem f (y ∷ l) h = from_places f y l

-- ---- what a pick sequence takes is below the number of rows
take_below : (s q : List ℕ) (k : ℕ) → AllBelow (length s) (take_from s q k)
take_below s q zero = rw (take_none s q) tt
take_below s q (suc k) = go (ℕ_discrete (score s q (next s q)) 0) (take_below s (q ++ (next s q ∷ [])) k)
  where
    go : Dec (score s q (next s q) ≡ 0) → AllBelow (length s) (take_from s (q ++ (next s q ∷ [])) k) → AllBelow (length s) (take_from s q (suc k))
    go (yes e) ih = rw (take_stop s q k e) tt
    go (no e) ih = rw (take_more s q k e) ((next-in s q e).1, ih)

module _ (n : ℕ) (o : List ℕ) (a : IsArrangement n o) (x : List ℕ) (e : length x ≡ n) where
  abbrev num : ℕ → ℕ
  num = index_at o

  abbrev set : List ℕ
  set = arrange o x

  score_placed : (q : List ℕ) (i : ℕ) → AllBelow n q → i < n → score x (map num q) (num i) ≡ score set q i
  unfolding score
  score_placed q i h l = rw (is_in_index n o a q i h l, (arrange_moves n o a).at x i l)

  best_placed : (q : List ℕ) → AllBelow n q → 0 < n → best_in (score x (map num q)) o ≡ num (next set q)
  unfolding next
  best_placed q h l =
      in_places_lem (score x (map num q)) o (omega (arith, a.size))
      ∙ ap num (ap (best (λ i. score x (map num q) (num i))) a.size
      ∙ best_same (λ i. score x (map num q) (num i)) (score set q) n (λ i k. score_placed q i h k)
      ∙ ap (best (score set q)) (sym (length-arrange n o a x)))

  next_low : (q : List ℕ) → 0 < n → next set q < n
  unfolding next
  next_low q l = omega (arith, length-arrange n o a x, best_in_lem (score set q) (length set) 0 (omega (arith, length-arrange n o a x)))

  takes_placed : (q : List ℕ) (k : ℕ) → AllBelow n q → 0 < n → take_by o x (map num q) k ≡ map num (take_from set q k)
  unfolding take_by
  takes_placed q zero h l = ap (map num) (sym (take_none set q))
  takes_placed q (suc k) h l =
      rw (best_placed q h l, score_placed q (next set q) h (next_low q l))
      (go (ℕ_discrete (score set q (next set q)) 0)
      (takes_placed (q ++ (next set q ∷ [])) k (All_append (λ (i : ℕ). i < n) q (next set q ∷ []) h (next_low q l, tt)) l))
    where
      go : Dec (score set q (next set q) ≡ 0)
          → take_by o x (map num (q ++ (next set q ∷ []))) k ≡ map num (take_from set (q ++ (next set q ∷ [])) k)
          → cond (eqb (score set q (next set q)) 0) [] (num (next set q) ∷ take_by o x (map num q ++ (num (next set q) ∷ [])) k)
          ≡ map num (take_from set q (suc k))
      go (yes z) ih = rw (eq-eqb (score set q (next set q)) 0 z, take_stop set q k z)
      go (no z) ih =
          rw (ne_eqb (score set q (next set q)) 0 z, take_more set q k z)
          (ap (λ (t : List ℕ). num (next set q) ∷ t) (ap (λ (p : List ℕ). take_by o x p k) (sym (map_snoc num q (next set q))) ∙ ih))

  pub sequence_placed : pick_seq_by o x ≡ map num (pick_seq set)
  unfolding pick_seq_by pick_seq take_by take_from
  sequence_placed = go (length x) refl (length set) (length-arrange n o a x ∙ sym e)
    where
      go : (k : ℕ) → length x ≡ k → (j : ℕ) → j ≡ length x → take_by o x [] k ≡ map num (take_from set [] j)
      go zero d zero f = refl
      go zero d (suc j) f = absurd (omega (arith, d))
      go (suc k) d zero f = absurd (omega (arith, d))
      go (suc k) d (suc j) f =
          takes_placed [] (suc k) tt (omega (arith, d, e)) ∙ ap (λ (i : ℕ). map num (take_from set [] i)) (sym d ∙ sym f)

  pub sequence_below : AllBelow n (pick_seq set)
  unfolding pick_seq
  sequence_below = rw (← length-arrange n o a x) (take_below set [] (length set))

  pub places_placed : places_of o x ≡ pick_seq set
  places_placed = ap (map (place_of o)) sequence_placed ∙ places_back n o a (pick_seq set) sequence_below
