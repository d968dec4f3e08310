-- What the search finds, over any ladders and pairs. At k: the first arranged sequence of at most k ladders, or none
-- where there is none (`search-right`). Every list of ladders that covers the pairs can be arranged, with no more of
-- them (`arrange`), so none is missed (`none-covers`). Over all k: a cover is found wherever each pair is held by a
-- ladder (`fewest-rule`), it has the number k at which it is found (`rule-number`), no cover has fewer
-- (`rule-least`), and it is the first of those (`found_first`). "First" is by an order in which the ladders ascend.
use mathlib.Core.Path.{◌≡◌, refl, sym, ap, ap₂, ◌∙◌, subst}
use mathlib.Core.Logic.{◌⊎◌, inl, inr, ◌↔◌}
use mathlib.Core.Bool.{Bool, not}
use mathlib.Core.Option.{Option, none, some}
use mathlib.Core.List.Memᴰ
use mathlib.Core.List.{List, [], ◌∷◌, ◌++◌, Memᴰ, cons≢nil}
use Prim.Native.Nat.{ℕ, zero, suc, ◌+◌, ◌≤◌, ◌<◌}
use native.Mathlib.Decide.{dec_lt, ℕ_discrete}
use native.Mathlib.Nat.{not-suc-le-zero}
use native.Mathlib.Omega.{arith}
use lib.Dec.{T, T_not}
use lib.ListN.{length, length-append}
use Rattle.basics.proofs.Clash.{clash}
use Rattle.sets.proofs.Tests.{test, is_true, is_false}
use Rattle.rules.specs.Sequences.{All, Sorted}
use Rattle.rules.proofs.Sequences.{All_get, mem_split}
use Rattle.covers.specs.Searching.{Outcome, under, uncovered, try_each, search, search_from, fewest, tried_below, ByRule, Arranged, Ahead}

-- ---- first
module _ {P L : Type 0} (holds : L → P → Bool) (before : L → L → Type 0) where
  -- c is the first of the sequences of at most k of the ladders ls that are arranged: every other one comes after it
  pub record FirstArranged (ls : List L) (k : ℕ) (left : List P) (c : List L) : Type 0 where
    pub from : (l : L) → Memᴰ l c → Memᴰ l ls
    pub few : length c ≤ k
    pub arranged : Arranged holds left c
    pub first : (d : List L) → ((l : L) → Memᴰ l d → Memᴰ l ls) → length d ≤ k → Arranged holds left d → (c ≡ d) ⊎ Ahead before c d

-- ---- the outcome under one ladder
pub under_found : {L : Type 0} (l : L) (o next : Outcome L) (c : List L) → o.cover ≡ some c
    → under l o next ≡ record { tried = suc o.tried; cover = some (l ∷ c) }
unfolding under
under_found l o next c e = rw (e, under)

pub under_next : {L : Type 0} (l : L) (o next : Outcome L) → o.cover ≡ none
    → under l o next ≡ record { tried = suc (o.tried + next.tried); cover = next.cover }
unfolding under
under_next l o next e = rw (e, under)

whole : {L : Type 0} (o : Outcome L) (n : ℕ) (c : List L) → o.tried ≡ n → o.cover ≡ some c → o ≡ record { tried = n; cover = some c }
whole {L} o n c d e = ap₂ (λ (m : ℕ) (x : Option (List L)). record { tried = m; cover = x }) d e

module _ {P L : Type 0} (holds : L → P → Bool) where
  -- ---- the definitions, clause by clause
  uncovered_nil : (l : L) → uncovered holds l [] ≡ []
  unfolding uncovered
  uncovered_nil l = refl

  uncovered_held : (l : L) (p : P) (left : List P) → T (holds l p) → uncovered holds l (p ∷ left) ≡ uncovered holds l left
  unfolding uncovered
  uncovered_held l p left t = rw (is_true (holds l p) t)

  uncovered_left : (l : L) (p : P) (left : List P) → T (not (holds l p)) → uncovered holds l (p ∷ left) ≡ p ∷ uncovered holds l left
  unfolding uncovered
  uncovered_left l p left t = rw (is_false (holds l p) t)

  pub try_none : (on : List P → Outcome L) (p : P) (left : List P) → try_each holds on p left [] ≡ record { tried = 0; cover = none }
  unfolding try_each
  try_none on p left = refl

  pub try_held : (on : List P → Outcome L) (p : P) (left : List P) (l : L) (ls : List L) → T (holds l p)
      → try_each holds on p left (l ∷ ls) ≡ under l (on (uncovered holds l left)) (try_each holds on p left ls)
  unfolding try_each
  try_held on p left l ls t = rw (is_true (holds l p) t, try_each)

  pub try_other : (on : List P → Outcome L) (p : P) (left : List P) (l : L) (ls : List L) → T (not (holds l p))
      → try_each holds on p left (l ∷ ls) ≡ try_each holds on p left ls
  unfolding try_each
  try_other on p left l ls t = rw (is_false (holds l p) t, try_each)

  pub search_nil : (ls : List L) (k : ℕ) → search holds ls k [] ≡ record { tried = 0; cover = some [] }
  unfolding search
  search_nil ls zero = refl
  search_nil ls (suc k) = refl

  pub search_zero : (ls : List L) (p : P) (left : List P) → search holds ls 0 (p ∷ left) ≡ record { tried = 0; cover = none }
  unfolding search
  search_zero ls p left = refl

  pub search-suc : (ls : List L) (k : ℕ) (p : P) (left : List P) → search holds ls (suc k) (p ∷ left) ≡ try_each holds (search holds ls k) p (p ∷ left) ls
  unfolding search
  search-suc ls k p left = refl

  -- ---- what is still uncovered
  pub mem_uncovered : (l : L) (left : List P) (p : P) → Memᴰ p (uncovered holds l left) ↔ (Memᴰ p left × T (not (holds l p)))
  mem_uncovered l [] p = (λ m. absurd (Memᴰ.not-nil (rw (uncovered_nil l) at m)), λ h. absurd (Memᴰ.not-nil h.0))
  mem_uncovered l (q ∷ left) p = go (test (holds l q)) (mem_uncovered l left p)
    where
      go : T (holds l q) ⊎ T (not (holds l q)) → Memᴰ p (uncovered holds l left) ↔ (Memᴰ p left × T (not (holds l p)))
          → Memᴰ p (uncovered holds l (q ∷ left)) ↔ (Memᴰ p (q ∷ left) × T (not (holds l p)))
      go (inl t) ih = rw (uncovered_held l q left t) (λ m. (Memᴰ.tail (ih.0 m).0, (ih.0 m).1), λ h. in_left (Memᴰ.cases_cons h.0) h.1)
        where
          in_left : (p ≡ q) ⊎ Memᴰ p left → T (not (holds l p)) → Memᴰ p (uncovered holds l left)
          in_left (inl e) u = absurd (T_not (holds l p) u (rw e t))
          in_left (inr m) u = ih.1 (m, u)
      go (inr t) ih = rw (uncovered_left l q left t) (λ m. out (Memᴰ.cases_cons m), λ h. back (Memᴰ.cases_cons h.0) h.1)
        where
          out : (p ≡ q) ⊎ Memᴰ p (uncovered holds l left) → Memᴰ p (q ∷ left) × T (not (holds l p))
          out (inl e) = (Memᴰ.head e, rw e t)
          out (inr m) = (Memᴰ.tail (ih.0 m).0, (ih.0 m).1)

          back : (p ≡ q) ⊎ Memᴰ p left → T (not (holds l p)) → Memᴰ p (q ∷ uncovered holds l left)
          back (inl e) u = Memᴰ.head e
          back (inr m) u = Memᴰ.tail (ih.1 (m, u))

  length-uncovered : (l : L) (left : List P) → length (uncovered holds l left) ≤ length left
  length-uncovered l [] = rw (uncovered_nil l) (omega arith)
  length-uncovered l (p ∷ left) = go (test (holds l p)) (length-uncovered l left)
    where
      go : T (holds l p) ⊎ T (not (holds l p)) → length (uncovered holds l left) ≤ length left → length (uncovered holds l (p ∷ left)) ≤ suc (length left)
      go (inl t) h = rw (uncovered_held l p left t) (omega arith)
      go (inr t) h = rw (uncovered_left l p left t) (omega arith)

  -- ---- covers, and sequences of ladders of a list
  -- every pair is held by one of the ladders
  abbrev pub Covered : List P → List L → Type 0
  Covered left c = (p : P) → Memᴰ p left → (l : L) × Memᴰ l c × T (holds l p)

  abbrev pub From : List L → List L → Type 0
  From ls c = (l : L) → Memᴰ l c → Memᴰ l ls

  from_cons : (ls : List L) (l : L) (c : List L) → Memᴰ l ls → From ls c → From ls (l ∷ c)
  from_cons ls l c m f k n = go (Memᴰ.cases_cons n)
    where
      go : (k ≡ l) ⊎ Memᴰ k c → Memᴰ k ls
      go (inl e) = rw e m
      go (inr h) = f k h

  pub arranged_covers : (left : List P) (c : List L) → Arranged holds left c → Covered left c
  arranged_covers left [] a p m = absurd (Memᴰ.not-nil (rw a at m))
  arranged_covers [] (l ∷ c) a p m = absurd a
  arranged_covers (q ∷ left) (l ∷ c) a p m = go (test (holds l p)) (arranged_covers (uncovered holds l (q ∷ left)) c a.1 p)
    where
      go : T (holds l p) ⊎ T (not (holds l p)) → (Memᴰ p (uncovered holds l (q ∷ left)) → (k : L) × Memᴰ k c × T (holds k p))
          → (k : L) × Memᴰ k (l ∷ c) × T (holds k p)
      go (inl t) ih = (l, Memᴰ.head refl, t)
      go (inr t) ih = let r = ih ((mem_uncovered l (q ∷ left) p).1 (m, t)) in (r.0, Memᴰ.tail r.1, r.2)

  -- a list that covers the pairs, arranged: no more ladders, none that the list has not, and all of it where they are
  -- as many
  pub record ArrangedOf (left : List P) (c d : List L) : Type 0 where
    pub arranged : Arranged holds left d
    pub from : From c d
    pub few : length d ≤ length c
    pub same : length c ≤ length d → From d c

  arranged_nil : (c : List L) → ArrangedOf [] c []
  arranged_nil c = record { arranged = refl; from = λ l m. absurd (Memᴰ.not-nil m); few = omega arith; same = λ b l m. absurd (none_in c b l m) }
    where
      none_in : (c : List L) → length c ≤ 0 → (l : L) → Memᴰ l c → ⊥
      none_in [] b l m = Memᴰ.not-nil m
      none_in (x ∷ c) b l m = not-suc-le-zero b

  pub arrange : (n : ℕ) (left : List P) (c : List L) → length c ≤ n → Covered left c → (d : List L) × ArrangedOf left c d
  arrange zero [] c b h = ([], arranged_nil c)
  arrange (suc n) [] c b h = ([], arranged_nil c)
  arrange zero (p ∷ left) [] b h = absurd (Memᴰ.not-nil (h p (Memᴰ.head refl)).1)
  arrange zero (p ∷ left) (l ∷ c) b h = absurd (not-suc-le-zero b)
  arrange (suc n) (p ∷ left) c b h = go (h p (Memᴰ.head refl)) (λ l. arrange n (uncovered holds l (p ∷ left)))
    where
      go : (l : L) × Memᴰ l c × T (holds l p)
          → ((l : L) (d : List L) → length d ≤ n → Covered (uncovered holds l (p ∷ left)) d → (e : List L) × ArrangedOf (uncovered holds l (p ∷ left)) d e)
          → (d : List L) × ArrangedOf (p ∷ left) c d
      go (l, m, t) ih = rest (mem_split l c m)
        where
          rest : (a : List L) × (b : List L) × (c ≡ a ++ (l ∷ b)) → (d : List L) × ArrangedOf (p ∷ left) c d
          rest (x, y, e) = (
            l ∷ r.0,
            record {
              arranged = (t, r.1.arranged);
              from = from_cons c l r.0 m (λ k j. back k (Memᴰ.append_cases x (r.1.from k j)));
              few = omega (arith, r.1.few, size);
              same = λ b k j. into k (r.1.same (omega (arith, size))) (Memᴰ.append_cases x (rw e at j));
            },
          )
            where
              size : length c ≡ suc (length (x ++ y))
              size = rw e (omega (arith, length-append x y, length-append x (l ∷ y)))

              back : (k : L) → Memᴰ k x ⊎ Memᴰ k y → Memᴰ k c
              back k (inl j) = rw e (Memᴰ.append_left (l ∷ y) j)
              back k (inr j) = rw e (Memᴰ.append_right x (Memᴰ.tail j))

              covered : Covered (uncovered holds l (p ∷ left)) (x ++ y)
              covered q j = keep (h q ((mem_uncovered l (p ∷ left) q).0 j).0)
                where
                  last : (k : L) → T (holds k q) → (k ≡ l) ⊎ Memᴰ k y → (k : L) × Memᴰ k (x ++ y) × T (holds k q)
                  last k u (inl d) = absurd (T_not (holds l q) ((mem_uncovered l (p ∷ left) q).0 j).1 (rw (← d) u))
                  last k u (inr i) = (k, Memᴰ.append_right x i, u)

                  part : (k : L) → T (holds k q) → Memᴰ k x ⊎ Memᴰ k (l ∷ y) → (k : L) × Memᴰ k (x ++ y) × T (holds k q)
                  part k u (inl i) = (k, Memᴰ.append_left y i, u)
                  part k u (inr i) = last k u (Memᴰ.cases_cons i)

                  keep : (k : L) × Memᴰ k c × T (holds k q) → (k : L) × Memᴰ k (x ++ y) × T (holds k q)
                  keep (k, i, u) = part k u (Memᴰ.append_cases x (rw e at i))

              r : (e : List L) × ArrangedOf (uncovered holds l (p ∷ left)) (x ++ y) e
              r = ih l (x ++ y) (omega (arith, size)) covered

              after : (k : L) → From r.0 (x ++ y) → (k ≡ l) ⊎ Memᴰ k y → Memᴰ k (l ∷ r.0)
              after k f (inl d) = Memᴰ.head d
              after k f (inr j) = Memᴰ.tail (f k (Memᴰ.append_right x j))

              into : (k : L) → From r.0 (x ++ y) → Memᴰ k x ⊎ Memᴰ k (l ∷ y) → Memᴰ k (l ∷ r.0)
              into k f (inl j) = Memᴰ.tail (f k (Memᴰ.append_left y j))
              into k f (inr j) = after k f (Memᴰ.cases_cons j)

  -- where each pair is held by a ladder, as many ladders as pairs suffice
  as_many : (ls : List L) (n : ℕ) (left : List P) → length left ≤ n → Covered left ls → (d : List L) × Arranged holds left d × From ls d × (length d ≤ n)
  as_many ls zero [] b h = ([], refl, λ l m. absurd (Memᴰ.not-nil m), omega arith)
  as_many ls (suc n) [] b h = ([], refl, λ l m. absurd (Memᴰ.not-nil m), omega arith)
  as_many ls zero (p ∷ left) b h = absurd (not-suc-le-zero b)
  as_many ls (suc n) (p ∷ left) b h = go (h p (Memᴰ.head refl)) (λ l. as_many ls n (uncovered holds l (p ∷ left)))
    where
      go : (l : L) × Memᴰ l ls × T (holds l p)
          → ((l : L) → length (uncovered holds l (p ∷ left)) ≤ n → Covered (uncovered holds l (p ∷ left)) ls
          → (e : List L) × Arranged holds (uncovered holds l (p ∷ left)) e × From ls e × (length e ≤ n))
          → (d : List L) × Arranged holds (p ∷ left) d × From ls d × (length d ≤ suc n)
      go (l, m, t) ih = (l ∷ r.0, (t, r.1), from_cons ls l r.0 m r.2, omega (arith, r.3))
        where
          r : (e : List L) × Arranged holds (uncovered holds l (p ∷ left)) e × From ls e × (length e ≤ n)
          r = ih l (rw (uncovered_held l p left t) (omega (arith, length-uncovered l left))) (λ q j. h q ((mem_uncovered l (p ∷ left) q).0 j).0)

  -- ---- the search at k
  module _ (before : L → L → Type 0) (ls : List L) where
    abbrev UpTo : List L → List L → Type 0
    UpTo c d = (c ≡ d) ⊎ Ahead before c d

    up-cons : (l m : L) (c d : List L) → m ≡ l → UpTo c d → UpTo (l ∷ c) (m ∷ d)
    up-cons l m c d e (inl h) = inl (cc)
    up-cons l m c d e (inr h) = inr (inr (sym e, h))

    -- no arranged sequence of at most k ladders, or the first one
    abbrev pub Right : ℕ → List P → Option (List L) → Type 0
    Right k left none = (d : List L) → From ls d → length d ≤ k → Arranged holds left d → ⊥
    Right k left (some c) = FirstArranged holds before ls k left c

    -- the same of the sequences that begin with a ladder of `rest` that holds p
    record FirstOf (k : ℕ) (p : P) (left : List P) (rest c : List L) : Type 0 where
      head : L
      tail : List L
      is : c ≡ head ∷ tail
      among : Memᴰ head rest
      held : T (holds head p)
      from : From ls tail
      few : length tail ≤ k
      arranged : Arranged holds (uncovered holds head left) tail
      first : (l : L) → Memᴰ l rest → T (holds l p) → (d : List L) → From ls d → length d ≤ k → Arranged holds (uncovered holds l left) d
          → UpTo (head ∷ tail) (l ∷ d)

    -- no such sequence begins with l
    abbrev Bars : ℕ → P → List P → L → Type 0
    Bars k p left l = T (holds l p) → (d : List L) → From ls d → length d ≤ k → Arranged holds (uncovered holds l left) d → ⊥

    abbrev RightOf : ℕ → P → List P → List L → Option (List L) → Type 0
    RightOf k p left rest none = (l : L) → Memᴰ l rest → Bars k p left l
    RightOf k p left rest (some c) = FirstOf k p left rest c

    right-skip : (k : ℕ) (p : P) (left : List P) (l : L) (rest : List L) → Bars k p left l → (o : Option (List L)) → RightOf k p left rest o
        → RightOf k p left (l ∷ rest) o
    right-skip k p left l rest n none r = λ m j. go m (Memᴰ.cases_cons j)
      where
        go : (m : L) → (m ≡ l) ⊎ Memᴰ m rest → Bars k p left m
        go m (inl e) = subst (Bars k p left) (sym e) n
        go m (inr i) = r m i
    right-skip k p left l rest n (some c) r = record {
      head = r.head;
      tail = r.tail;
      is = r.is;
      among = Memᴰ.tail r.among;
      held = r.held;
      from = r.from;
      few = r.few;
      arranged = r.arranged;
      first = λ m j t d f b a. go m t d f b a (Memᴰ.cases_cons j);
    }
      where
        go : (m : L) → T (holds m p) → (d : List L) → From ls d → length d ≤ k → Arranged holds (uncovered holds m left) d → (m ≡ l) ⊎ Memᴰ m rest
            → UpTo (r.head ∷ r.tail) (m ∷ d)
        go m t d f b a (inl e) = absurd (subst (Bars k p left) (sym e) n t d f b a)
        go m t d f b a (inr i) = r.first m i t d f b a

    right-here : (k : ℕ) (p : P) (left : List P) (l : L) (rest : List L) → All (before l) rest → T (holds l p) → (c : List L)
        → FirstArranged holds before ls k (uncovered holds l left) c
        → FirstOf k p left (l ∷ rest) (l ∷ c)
    right-here k p left l rest s t c r = record {
      head = l;
      tail = c;
      is = refl;
      among = Memᴰ.head refl;
      held = t;
      from = r.from;
      few = r.few;
      arranged = r.arranged;
      first = λ m j u d f b a. go m d f b a (Memᴰ.cases_cons j);
    }
      where
        go : (m : L) (d : List L) → From ls d → length d ≤ k → Arranged holds (uncovered holds m left) d → (m ≡ l) ⊎ Memᴰ m rest → UpTo (l ∷ c) (m ∷ d)
        go m d f b a (inl e) = up-cons l m c d e (r.first d f b (subst (λ (x : L). Arranged holds (uncovered holds x left) d) e a))
        go m d f b a (inr i) = inr (inl (All_get (before l) i s))

    module _ (k : ℕ) (on : List P → Outcome L) (right : (left : List P) → Right k left (on left).cover) (p : P) (left : List P) where
      try-right : (rest : List L) → Sorted before rest → RightOf k p left rest (try_each holds on p left rest).cover
      try-right [] s = subst (RightOf k p left []) (sym (ap (λ (o : Outcome L). o.cover) (try_none on p left))) (λ l m. absurd (Memᴰ.not-nil m))
      try-right (l ∷ rest) s = go (test (holds l p)) (try-right rest s.1)
        where
          next : Outcome L
          next = try_each holds on p left rest

          at : T (holds l p) → (o : Option (List L)) → (on (uncovered holds l left)).cover ≡ o → Right k (uncovered holds l left) o
              → RightOf k p left rest next.cover → RightOf k p left (l ∷ rest) (under l (on (uncovered holds l left)) next).cover
          at t none e r ih =
              subst (RightOf k p left (l ∷ rest)) (sym (ap (λ (o : Outcome L). o.cover) (under_next l (on (uncovered holds l left)) next e)))
              (right-skip k p left l rest (λ u. r) next.cover ih)
          at t (some c) e r ih =
              subst (RightOf k p left (l ∷ rest)) (sym (ap (λ (o : Outcome L). o.cover) (under_found l (on (uncovered holds l left)) next c e)))
              (right-here k p left l rest s.0 t c r)

          go : T (holds l p) ⊎ T (not (holds l p)) → RightOf k p left rest next.cover
              → RightOf k p left (l ∷ rest) (try_each holds on p left (l ∷ rest)).cover
          go (inl t) ih =
              subst (RightOf k p left (l ∷ rest)) (sym (ap (λ (o : Outcome L). o.cover) (try_held on p left l rest t)))
              (at t (on (uncovered holds l left)).cover refl (right (uncovered holds l left)) ih)
          go (inr t) ih =
              subst (RightOf k p left (l ∷ rest)) (sym (ap (λ (o : Outcome L). o.cover) (try_other on p left l rest t)))
              (right-skip k p left l rest (λ u. absurd (T_not (holds l p) t u)) next.cover ih)

    right-nil : (k : ℕ) → FirstArranged holds before ls k [] []
    right-nil k = record { from = λ l m. absurd (Memᴰ.not-nil m); few = omega arith; arranged = refl; first = λ d f b a. go d a }
      where
        go : (d : List L) → Arranged holds [] d → UpTo [] d
        go [] a = inl refl
        go (l ∷ d) a = absurd a

    right-cons : (k : ℕ) (p : P) (left : List P) (o : Option (List L)) → RightOf k p (p ∷ left) ls o → Right (suc k) (p ∷ left) o
    right-cons k p left none r = none-at
      where
        none-at : (d : List L) → From ls d → length d ≤ suc k → Arranged holds (p ∷ left) d → ⊥
        none-at [] f b a = cons≢nil a
        none-at (l ∷ d) f b a = r l (f l (Memᴰ.head refl)) a.0 d (λ m j. f m (Memᴰ.tail j)) (omega arith) a.1
    right-cons k p left (some c) r = rw r.is record {
      from = from_cons ls r.head r.tail r.among r.from;
      few = omega (arith, r.few);
      arranged = (r.held, r.arranged);
      first = first;
    }
      where
        first : (d : List L) → From ls d → length d ≤ suc k → Arranged holds (p ∷ left) d → UpTo (r.head ∷ r.tail) d
        first [] f b a = absurd (cons≢nil a)
        first (l ∷ d) f b a = r.first l (f l (Memᴰ.head refl)) a.0 d (λ m j. f m (Memᴰ.tail j)) (omega arith) a.1

    module _ (sorted : Sorted before ls) where
      pub search-right : (k : ℕ) (left : List P) → Right k left (search holds ls k left).cover
      search-right zero [] = subst (Right 0 []) (sym (ap (λ (o : Outcome L). o.cover) (search_nil ls 0))) (right-nil 0)
      search-right zero (p ∷ left) = subst (Right 0 (p ∷ left)) (sym (ap (λ (o : Outcome L). o.cover) (search_zero ls p left))) none-at
        where
          none-at : (d : List L) → From ls d → length d ≤ 0 → Arranged holds (p ∷ left) d → ⊥
          none-at [] f b a = cons≢nil a
          none-at (l ∷ d) f b a = not-suc-le-zero b
      search-right (suc k) [] = subst (Right (suc k) []) (sym (ap (λ (o : Outcome L). o.cover) (search_nil ls (suc k)))) (right-nil (suc k))
      search-right (suc k) (p ∷ left) =
          subst (Right (suc k) (p ∷ left)) (sym (ap (λ (o : Outcome L). o.cover) (search-suc ls k p left)))
          (right-cons k p left (try_each holds (search holds ls k) p (p ∷ left) ls).cover
          (try-right k (search holds ls k) (search-right k) p (p ∷ left) ls sorted))

  -- ---- over all k
  pub from_last : (ls : List L) (left : List P) (k : ℕ) → search_from holds ls left k 0 ≡ search holds ls k left
  unfolding search_from
  from_last ls left k = refl

  pub from_found : (ls : List L) (left : List P) (k n : ℕ) (c : List L) → (search holds ls k left).cover ≡ some c
      → search_from holds ls left k n ≡ search holds ls k left
  unfolding search_from
  from_found ls left k zero c e = refl
  from_found ls left k (suc n) c e = rw (e, search_from) (whole (search holds ls k left) (search holds ls k left).tried c refl e)

  pub from_next : (ls : List L) (left : List P) (k n : ℕ) → (search holds ls k left).cover ≡ none
      → search_from holds ls left k (suc n) ≡ record {
        tried = (search holds ls k left).tried + (search_from holds ls left (suc k) n).tried;
        cover =
            (search_from holds ls left (suc k) n).cover;
      }
  unfolding search_from
  from_next ls left k n e = rw (e, search_from)

  tried-suc : (ls : List L) (left : List P) (k : ℕ) → tried_below holds ls left (suc k) ≡ tried_below holds ls left k + (search holds ls k left).tried
  unfolding tried_below
  tried-suc ls left k = refl

  tried_zero : (ls : List L) (left : List P) → tried_below holds ls left 0 ≡ 0
  unfolding tried_below
  tried_zero ls left = refl

  -- found at m, so found from k on, at m or sooner
  record FoundFrom (ls : List L) (left : List P) (k : ℕ) (o : Outcome L) : Type 0 where
    at : ℕ
    found : List L
    here : (search holds ls at left).cover ≡ some found
    sooner : (j : ℕ) → k ≤ j → j < at → (search holds ls j left).cover ≡ none
    count : tried_below holds ls left k + o.tried ≡ tried_below holds ls left (suc at)
    cover : o.cover ≡ some found

  found_here : (ls : List L) (left : List P) (k n : ℕ) (c : List L) → (search holds ls k left).cover ≡ some c
      → FoundFrom ls left k (search_from holds ls left k n)
  found_here ls left k n c e = rw (from_found ls left k n c e) record {
    at = k;
    found = c;
    here = e;
    sooner = λ j a b. absurd (omega arith);
    count = sym (tried-suc ls left k);
    cover = e;
  }

  found_from : (ls : List L) (left : List P) (n k m : ℕ) (c : List L) → k ≤ m → m ≤ k + n → (search holds ls m left).cover ≡ some c
      → FoundFrom ls left k (search_from holds ls left k n)
  found_from ls left zero k m c l h e = let d : m ≡ k = omega arith in found_here ls left k 0 c (subst (λ (x : ℕ). (search holds ls x left).cover ≡ some c) d e)
  found_from ls left (suc n) k m c l h e = go (search holds ls k left).cover refl (λ l' h'. found_from ls left n (suc k) m c l' h' e)
    where
      go : (o : Option (List L)) → (search holds ls k left).cover ≡ o → (suc k ≤ m → m ≤ suc k + n
          → FoundFrom ls left (suc k) (search_from holds ls left (suc k) n))
          → FoundFrom ls left k (search_from holds ls left k (suc n))
      go (some d) q ih = found_here ls left k (suc n) d q
      go none q ih = rw (from_next ls left k n q) record {
        at = r.at;
        found = r.found;
        here = r.here;
        sooner = λ j a b. before j a b (ℕ_discrete j k);
        count = omega (arith, r.count, tried-suc ls left k);
        cover = r.cover;
      }
        where
          later : Dec (m ≡ k) → suc k ≤ m
          later (yes d) = let z : some c ≡ none = sym e ∙ ap (λ (x : ℕ). (search holds ls x left).cover) d ∙ q in clash cc
          later (no d) = omega arith

          r : FoundFrom ls left (suc k) (search_from holds ls left (suc k) n)
          r = ih (later (ℕ_discrete m k)) (omega arith)

          before : (j : ℕ) → k ≤ j → j < r.at → Dec (j ≡ k) → (search holds ls j left).cover ≡ none
          before j a b (yes d) = rw d q
          before j a b (no d) = r.sooner j (omega arith) b

  module _ (before : L → L → Type 0) (ls : List L) (sorted : Sorted before ls) (left : List P) where
    -- no cover at k: no arranged sequence, and no list of ladders that covers, has k or fewer
    none-arranged : (k : ℕ) → (search holds ls k left).cover ≡ none → (d : List L) → From ls d → length d ≤ k → Arranged holds left d → ⊥
    none-arranged k e = subst (Right before ls k left) e (search-right before ls sorted k left)

    none-covers : (k : ℕ) → (search holds ls k left).cover ≡ none → (d : List L) → From ls d → Covered left d → length d ≤ k → ⊥
    none-covers k e d f h b = let r = arrange (length d) left d (omega arith) h in
        none-arranged k e r.0 (λ l m. f l (r.1.from l m)) (omega (arith, r.1.few)) r.1.arranged

    pub found_first : (k : ℕ) (c : List L) → (search holds ls k left).cover ≡ some c → FirstArranged holds before ls k left c
    found_first k c e = subst (Right before ls k left) e (search-right before ls sorted k left)

    module _ (k : ℕ) (c : List L) (o : Outcome L) (r : ByRule holds ls left k c o) where
      -- the rule's cover has k ladders
      pub rule-number : length c ≡ k
      rule-number = go (dec_lt (length c) k)
        where
          a : FirstArranged holds before ls k left c
          a = found_first k c r.found

          go : Dec (length c < k) → length c ≡ k
          go (yes l) = absurd (none-arranged (length c) (r.not_before (length c) l) c a.from (omega arith) a.arranged)
          go (no l) = omega (arith, a.few)

      -- no list of the ladders that covers the pairs has fewer
      pub rule-least : (d : List L) → From ls d → Covered left d → k ≤ length d
      rule-least d f h = go (dec_lt (length d) k)
        where
          go : Dec (length d < k) → k ≤ length d
          go (yes l) = absurd (none-covers (length d) (r.not_before (length d) l) d f h (omega arith))
          go (no l) = omega arith

    -- the rule gives a cover, wherever each pair is held by a ladder
    pub fewest-rule : Covered left ls → (k : ℕ) × (c : List L) × ByRule holds ls left k c (fewest holds ls left)
    unfolding fewest
    fewest-rule h = go (search holds ls n left).cover refl
      where
        n : ℕ
        n = length left

        go : (o : Option (List L)) → (search holds ls n left).cover ≡ o → (k : ℕ) × (c : List L) × ByRule holds ls left k c (search_from holds ls left 0 n)
        go none e = let r = as_many ls n left (omega arith) h in absurd (none-arranged n e r.0 r.2 r.3 r.1)
        go (some d) e = (
          r.at,
          r.found,
          record {
            found = r.here;
            not_before = λ j l. r.sooner j (omega arith) l;
            outcome = whole (search_from holds ls left 0 n) (tried_below holds ls left (suc r.at)) r.found (omega (arith, r.count, tried_zero ls left))
                r.cover;
          },
        )
          where
            r : FoundFrom ls left 0 (search_from holds ls left 0 n)
            r = found_from ls left n 0 n d (omega arith) (omega arith) e

    -- and as soon as a cover is found at k and at no smaller number, that is the outcome
    pub rule-is : Covered left ls → (k : ℕ) (c : List L) → (search holds ls k left).cover ≡ some c → ((j : ℕ) → j < k → (search holds ls j left).cover ≡ none)
        → fewest holds ls left ≡ record { tried = tried_below holds ls left k + (search holds ls k left).tried; cover = some c }
    rule-is h k c e n = go (fewest-rule h)
      where
        go : (k : ℕ) × (c : List L) × ByRule holds ls left k c (fewest holds ls left)
            → fewest holds ls left ≡ record { tried = tried_below holds ls left k + (search holds ls k left).tried; cover = some c }
        go (m, d, r) = r.outcome ∙ ap₂ (λ (x : ℕ) (y : Option (List L)). record { tried = x; cover = y })
            (ap (λ (x : ℕ). tried_below holds ls left (suc x)) same ∙ tried-suc ls left k) covers
          where
            not-both : (j : ℕ) (x : List L) → (search holds ls j left).cover ≡ some x → (search holds ls j left).cover ≡ none → ⊥
            not-both j x p q = let z : some x ≡ none = sym p ∙ q in clash cc

            order : Dec (m < k) → Dec (k < m) → m ≡ k
            order (yes l) b = absurd (not-both m d r.found (n m l))
            order (no l) (yes b) = absurd (not-both k c e (r.not_before k b))
            order (no l) (no b) = omega arith

            same : m ≡ k
            same = order (dec_lt m k) (dec_lt k m)

            covers : some d ≡ some c
            covers = sym r.found ∙ ap (λ (x : ℕ). (search holds ls x left).cover) same ∙ e

    -- so up to any n at which there is a cover the search finds the same
    pub from-fewest : Covered left ls → (n k : ℕ) (c : List L) → k ≤ n → (search holds ls k left).cover ≡ some c
        → search_from holds ls left 0 n ≡ fewest holds ls left
    from-fewest h n k c l e =
        whole (search_from holds ls left 0 n) (tried_below holds ls left r.at + (search holds ls r.at left).tried) r.found
        (omega (arith, r.count, tried_zero ls left, tried-suc ls left r.at)) r.cover
        ∙ sym (rule-is h r.at r.found r.here (λ j b. r.sooner j (omega arith) b))
      where
        r : FoundFrom ls left 0 (search_from holds ls left 0 n)
        r = found_from ls left n 0 k c (omega arith) (omega arith) e

-- ---- no two sequences come before each other
pub ahead_apart : {L : Type 0} (before : L → L → Type 0) → ((l : L) → before l l → ⊥) → ((l m n : L) → before l m → before m n → before l n)
    → (c d : List L) → Ahead before c d → Ahead before d c → ⊥
ahead_apart before irrefl trans [] d h k = h
ahead_apart before irrefl trans (l ∷ c) [] h k = h
ahead_apart before irrefl trans (l ∷ c) (m ∷ d) (inl h) (inl k) = irrefl l (trans l m l h k)
ahead_apart before irrefl trans (l ∷ c) (m ∷ d) (inl h) (inr k) = irrefl l (subst (before l) k.0 h)
ahead_apart before irrefl trans (l ∷ c) (m ∷ d) (inr h) (inl k) = irrefl m (subst (before m) h.0 k)
ahead_apart before irrefl trans (l ∷ c) (m ∷ d) (inr h) (inr k) = ahead_apart before irrefl trans c d h.1 k.1
