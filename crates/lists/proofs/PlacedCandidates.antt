-- Candidates by place (Preferred.antt) are the candidates of the arranged rows, by number there: the candidates after the picks q of the arranged
-- rows, each by its own index, are those by place after the same picks by index (`candidates-placed`). `num` is the index at a place.
--
-- In order: a list of places and their indices; remainders; one candidate, test by test; all of them, in order.
use mathlib.Core.Path.{◌≡◌, refl, sym, ap, ap₂, ◌∙◌}
use mathlib.Core.Bool.{Bool, true, false, not, ◌&&◌, ◌||◌, cond}
use mathlib.Core.List.{List, [], ◌∷◌, ◌++◌, map}
use Prim.Native.Nat.{ℕ, zero, suc, ◌<◌}
use native.Mathlib.Decide.{ℕ_discrete}
use native.Mathlib.Omega.{arith}
use lib.Dec.{T, eqb}
use lib.ListN.{length, get_or-append}
use borrow.Author.Tests.{eq-eqb, ne_eqb, lt-ltb}
use Rattle.sets.specs.Sets.{meet}
use Rattle.sets.specs.Lists.{all_below}
use Rattle.sets.proofs.Tabulated.{all_at, all_of}
use Rattle.table.specs.Pairs.{row}
use Rattle.rules.specs.Sequences.{All}
use Rattle.rules.proofs.Sequences.{All_of}
use Rattle.rules.proofs.Trees.{by_last, length_snoc}
use Rattle.rules.proofs.Renaming.{map_snoc}
use Rattle.lists.specs.Arrangements.{IsArrangement, place_of}
use Rattle.lists.specs.PickSequence.{is_in}
use Rattle.lists.specs.Picks.{common, remainder, select}
use Rattle.lists.specs.ByNumber.{rules_out, candidate, candidates}
use Rattle.lists.specs.Preferred.{rules_out_by, candidate_by, chosen, candidates_by}
use Rattle.lists.specs.private.Arranging.{index_at, arrange}
use Rattle.lists.proofs.Standing.{index_place, place_below, index_below, place_index, index_injective}
use Rattle.lists.proofs.Arranging.{arrange_moves, length-arrange}
use Rattle.lists.proofs.Candidates.{mem_candidates}

-- numbers below n
abbrev pub AllBelow : ℕ → List ℕ → Type 0
AllBelow n q = All (λ (i : ℕ). i < n) q

-- tests that say the same are equal
same_test : (x y : Bool) → (T x → T y) → (T y → T x) → x ≡ y
same_test true true h k = refl
same_test true false h k = absurd (h tt)
same_test false true h k = absurd (k tt)
same_test false false h k = refl

-- ---- what is chosen of a list, by place
chosen_snoc : (f : ℕ → Bool) (l : List ℕ) (x : ℕ) → chosen f (l ++ (x ∷ [])) ≡ cond (f x) (chosen f l ++ (x ∷ [])) (chosen f l)
unfolding chosen
chosen_snoc f [] x = refl
chosen_snoc f (y ∷ l) x = rw (chosen_snoc f l x) (go (f y) (f x))
  where
    go : (b c : Bool) → cond b (y ∷ cond c (chosen f l ++ (x ∷ [])) (chosen f l)) (cond c (chosen f l ++ (x ∷ [])) (chosen f l))
        ≡ cond c (cond b (y ∷ chosen f l) (chosen f l) ++ (x ∷ [])) (cond b (y ∷ chosen f l) (chosen f l))
    go true true = refl
    go true false = refl
    go false true = refl
    go false false = refl

select_same : (f g : ℕ → Bool) (n : ℕ) → ((i : ℕ) → i < n → f i ≡ g i) → select f n ≡ select g n
unfolding select
select_same f g zero h = refl
select_same f g (suc n) h = rw (h n (omega arith), select_same f g n (λ i l. h i (omega arith)))

select_below : (f : ℕ → Bool) (n : ℕ) → AllBelow n (select f n)
unfolding select
select_below f zero = tt
select_below f (suc n) = go (f n) (wider (select f n) (select_below f n))
  where
    wider : (l : List ℕ) → AllBelow n l → AllBelow (suc n) l
    wider [] h = tt
    wider (x ∷ l) h = (omega (arith, h.0), wider l h.1)

    more : (l : List ℕ) → AllBelow (suc n) l → AllBelow (suc n) (l ++ (n ∷ []))
    more [] h = (omega arith, tt)
    more (x ∷ l) h = (h.0, more l h.1)

    go : (b : Bool) → AllBelow (suc n) (select f n) → AllBelow (suc n) (cond b (select f n ++ (n ∷ [])) (select f n))
    go true h = more (select f n) h
    go false h = h

map_same : (f g : ℕ → ℕ) (l : List ℕ) → All (λ (i : ℕ). f i ≡ g i) l → map f l ≡ map g l
map_same f g [] h = refl
map_same f g (x ∷ l) h = ap₂ (λ (a : ℕ) (b : List ℕ). a ∷ b) h.0 (map_same f g l h.1)

at_last : (l : List ℕ) (x : ℕ) → index_at (l ++ (x ∷ [])) (length l) ≡ x
at_last [] x = refl
at_last (y ∷ l) x = at_last l x

chosen_places : (f : ℕ → Bool) (l : List ℕ) → chosen f l ≡ map (index_at l) (select (λ i. f (index_at l i)) (length l))
unfolding chosen select
chosen_places f = by_last (λ (l : List ℕ). chosen f l ≡ map (index_at l) (select (λ i. f (index_at l i)) (length l))) none more
  where
    none : chosen f [] ≡ map (index_at []) (select (λ i. f (index_at [] i)) 0)
    none = refl

    more : (l : List ℕ) (x : ℕ) → chosen f l ≡ map (index_at l) (select (λ i. f (index_at l i)) (length l))
        → chosen f (l ++ (x ∷ [])) ≡ map (index_at (l ++ (x ∷ []))) (select (λ i. f (index_at (l ++ (x ∷ [])) i)) (length (l ++ (x ∷ []))))
    more l x ih = chosen_snoc f l x ∙ sym (rw (length_snoc l x, at_last l x, early) (go (f x)))
      where
        k : List ℕ
        k = l ++ (x ∷ [])

        old : (i : ℕ) → i < length l → index_at k i ≡ index_at l i
        old i h = get_or-append l (x ∷ []) 0 i h

        early : select (λ i. f (index_at k i)) (length l) ≡ select (λ i. f (index_at l i)) (length l)
        early = select_same (λ i. f (index_at k i)) (λ i. f (index_at l i)) (length l) (λ i h. ap f (old i h))

        low : map (index_at k) (select (λ i. f (index_at l i)) (length l)) ≡ chosen f l
        low =
            map_same (index_at k) (index_at l) (select (λ i. f (index_at l i)) (length l))
            (olds (select (λ i. f (index_at l i)) (length l)) (select_below (λ i. f (index_at l i)) (length l))) ∙ sym ih
          where
            olds : (m : List ℕ) → AllBelow (length l) m → All (λ (i : ℕ). index_at k i ≡ index_at l i) m
            olds [] h = tt
            olds (i ∷ m) h = (old i h.0, olds m h.1)

        go : (b : Bool) → map (index_at k) (cond b (select (λ i. f (index_at l i)) (length l) ++ (length l ∷ [])) (select (λ i. f (index_at l i)) (length l)))
            ≡ cond b (chosen f l ++ (x ∷ [])) (chosen f l)
        go true =
            map_snoc (index_at k) (select (λ i. f (index_at l i)) (length l)) (length l)
            ∙ ap₂ (λ (a : List ℕ) (b : ℕ). a ++ (b ∷ [])) low (at_last l x)
        go false = low

module _ (n : ℕ) (o : List ℕ) (a : IsArrangement n o) where
  abbrev num : ℕ → ℕ
  num = index_at o

  -- ---- places below n, and their indices
  pub places_back : (q : List ℕ) → AllBelow n q → map (place_of o) (map num q) ≡ q
  places_back [] h = refl
  places_back (i ∷ q) h = ap₂ (λ (x : ℕ) (l : List ℕ). x ∷ l) (place_index n o a i h.0) (places_back q h.1)

  -- picked by index, picked by place
  pub is_in_index : (q : List ℕ) (i : ℕ) → AllBelow n q → i < n → is_in (num i) (map num q) ≡ is_in i q
  unfolding is_in
  is_in_index [] i h l = refl
  is_in_index (x ∷ q) i h l = go (ℕ_discrete i x) (is_in_index q i h.1 l)
    where
      go : Dec (i ≡ x) → is_in (num i) (map num q) ≡ is_in i q → (eqb (num i) (num x) || is_in (num i) (map num q)) ≡ (eqb i x || is_in i q)
      go (yes e) ih = rw (eq-eqb i x e, eq-eqb (num i) (num x) (ap num e))
      go (no e) ih = rw (ne_eqb i x e, ne_eqb (num i) (num x) (λ d. e (index_injective n o a i x l h.0 d))) ih

  -- what holds at every place holds at every index
  pub all_index : (f g : ℕ → Bool) → ((i : ℕ) → i < n → f (num i) ≡ g i) → all_below f n ≡ all_below g n
  all_index f g h = same_test (all_below f n) (all_below g n)
      (λ t. all_of g n (λ i l. rw (← h i l) (all_at f n (num i) t (index_below n o a i l))))
      (λ t. all_of f n (λ i l.
      let k : place_of o i < n = place_below n o a i l in
      rw (← index_place n o a i l, h (place_of o i) k) (all_at g n (place_of o i) t k)))

  module _ (r : List ℕ) (e : length r ≡ n) where
    abbrev rows : List ℕ
    rows = arrange o r

    -- ---- remainders
    common-placed : (q : List ℕ) (x : ℕ) → AllBelow n q → common r (map num q) x ≡ common rows q x
    unfolding common
    common-placed [] x h = refl
    common-placed (i ∷ q) x h =
        ap (λ (y : ℕ). common r (map num q) (meet x y)) (sym ((arrange_moves n o a).at r i h.0)) ∙ common-placed q (meet x (row rows i)) h.1

    pub remainder-placed : (q : List ℕ) (i : ℕ) → AllBelow n q → i < n → remainder r (map num q) (num i) ≡ remainder rows q i
    remainder-placed q i h l = ap (common r (map num q)) (sym ((arrange_moves n o a).at r i l)) ∙ common-placed q (row rows i) h

    -- ---- one candidate
    module _ (q : List ℕ) (b : AllBelow n q) where
      ruled-placed : (g h : ℕ) → g < n → h < n → rules_out_by o r (map num q) (num g) (num h) ≡ rules_out rows q g h
      unfolding rules_out_by rules_out
      ruled-placed g h k l =
          rw (is_in_index q h b l, remainder-placed q g b k, remainder-placed q h b l, place_index n o a h l, place_index n o a g k)

      candidate-placed : (g : ℕ) → g < n → candidate_by o r (map num q) (num g) ≡ candidate rows q g
      unfolding candidate_by candidate
      candidate-placed g k =
          rw (e, length-arrange n o a r, is_in_index q g b k, remainder-placed q g b k, lt-ltb (num g) n (index_below n o a g k), lt-ltb g n k)
          (ap (λ (x : Bool). not (is_in g q) && (not (eqb (remainder rows q g) 0) && x))
          (all_index (λ h. not (rules_out_by o r (map num q) (num g) h)) (λ h. not (rules_out rows q g h)) (λ h l. ap not (ruled-placed g h k l))))

      -- ---- all of them
      pub candidates-placed : candidates_by o r (map num q) ≡ map num (candidates rows q)
      unfolding candidates_by candidates
      candidates-placed =
          chosen_places (candidate_by o r (map num q)) o
          ∙ ap (map num)
          (ap (select (λ i. candidate_by o r (map num q) (num i))) a.size
          ∙ select_same (λ i. candidate_by o r (map num q) (num i)) (candidate rows q) n candidate-placed
          ∙ sym (ap (select (candidate rows q)) (length-arrange n o a r)))

    pub candidates-below : (q : List ℕ) → AllBelow n (candidates rows q)
    candidates-below q =
        All_of (λ (i : ℕ). i < n) (candidates rows q) (λ i m. omega (arith, length-arrange n o a r, ((mem_candidates rows q i).0 m).below))
