-- The pick named, and the picks made before the pair's own, whatever the question.
--
-- In order: one pick at a time; what is found among the picks made before `own`: none that lacks, or the first of all picks that does
-- (`search_before`); two tests that agree on the picks find the same (`first_same`); the first is one pick (`first_unique`); the search from
-- a place on (`turn-own` to `turn_end`), as the code's loop has it (Searching.antt).
use mathlib.Core.Path.{◌≡◌, refl, sym, ap, ◌∙◌, subst}
use mathlib.Core.Logic.{◌⊎◌, inl, inr, ⊎_elim}
use mathlib.Core.Bool.{Bool, true, false}
use mathlib.Core.List.Memᴰ
use mathlib.Core.List.{List, [], ◌∷◌, ◌++◌, map, Memᴰ}
use Prim.Native.Nat.{ℕ, suc, ◌+◌, ◌≤◌, ◌<◌}
use native.Mathlib.Numerals.{add-one}
use native.Mathlib.Decide.{ℕ_discrete}
use native.Mathlib.Omega.{arith}
use lib.ListN.{length, drop, get_or, length-drop}
use lib.Seq.{drop-cons}
use borrow.Author.Tests.{eq-eqb, ne_eqb}
use Rattle.explain.specs.Reasons.{first_lacking, IsFirstLacking, made_before}

-- ---- one pick at a time
module _ (meets : ℕ → Bool) where
  lacking_none : first_lacking meets [] ≡ 0
  unfolding first_lacking
  lacking_none = refl

  lacking_here : (x : ℕ) (p : List ℕ) → meets x ≡ false → first_lacking meets (x ∷ p) ≡ x
  unfolding first_lacking
  lacking_here x p e = rw e

  lacking_later : (x : ℕ) (p : List ℕ) → meets x ≡ true → first_lacking meets (x ∷ p) ≡ first_lacking meets p
  unfolding first_lacking
  lacking_later x p e = rw e

module _ (own : ℕ) where
  pub before_none : made_before own [] ≡ []
  unfolding made_before
  before_none = refl

  pub before_own : (x : ℕ) (p : List ℕ) → own ≡ x → made_before own (x ∷ p) ≡ []
  unfolding made_before
  before_own x p e = rw (eq-eqb own x e)

  before_more : (x : ℕ) (p : List ℕ) → ¬ (own ≡ x) → made_before own (x ∷ p) ≡ x ∷ made_before own p
  unfolding made_before
  before_more x p e = rw (ne_eqb own x e)

  -- no pick is made before the first
  pub not_before : (x : ℕ) (l : List ℕ) → l ≡ [] → Memᴰ x l → ⊥
  not_before x l e m = Memᴰ.not-nil (subst (Memᴰ x) e m)

  -- and those before a later one are the first, and those before it among the others
  module _ (g : ℕ) (p : List ℕ) (e : ¬ (own ≡ g)) where
    pub before_head : Memᴰ g (made_before own (g ∷ p))
    before_head = subst (Memᴰ g) (sym (before_more g p e)) (Memᴰ.head refl)

    pub before-tail : (x : ℕ) → Memᴰ x (made_before own p) → Memᴰ x (made_before own (g ∷ p))
    before-tail x m = subst (Memᴰ x) (sym (before_more g p e)) (Memᴰ.tail m)

    pub before-cases : (x : ℕ) → Memᴰ x (made_before own (g ∷ p)) → (x ≡ g) ⊎ Memᴰ x (made_before own p)
    before-cases x m = Memᴰ.cases_cons (subst (Memᴰ x) (before_more g p e) m)

-- ---- what is found among the picks made before `own`
module _ (meets : ℕ → Bool) (own : ℕ) where
  pub record None (l : List ℕ) : Type 0 where
    pub blank : first_lacking meets (made_before own l) ≡ 0
    pub meet : (x : ℕ) → Memᴰ x (made_before own l) → meets x ≡ true

  pub record Found (l : List ℕ) (x : ℕ) : Type 0 where
    pub positive : 0 < x
    pub among : Memᴰ x (made_before own l)
    pub front : first_lacking meets (made_before own l) ≡ x
    pub whole : first_lacking meets l ≡ x
    pub first : IsFirstLacking meets l x

  none_left : (l : List ℕ) → made_before own l ≡ [] → None l
  none_left l e = record { blank = ap (first_lacking meets) e ∙ lacking_none meets; meet = λ x m. absurd (not_before own x (made_before own l) e m) }

  pub search_before : (p : List ℕ) → None (map suc p) ⊎ ((x : ℕ) × Found (map suc p) x)
  search_before [] = inl (none_left [] (before_none own))
  search_before (g ∷ p) = go (ℕ_discrete own n) (meets n) refl (search_before p)
    where
      n : ℕ
      n = suc g

      l : List ℕ
      l = map suc p

      go : Dec (own ≡ n) → (b : Bool) → meets n ≡ b → None l ⊎ ((x : ℕ) × Found l x) → None (n ∷ l) ⊎ ((x : ℕ) × Found (n ∷ l) x)
      go (yes e) b d ih = inl (none_left (n ∷ l) (before_own own n l e))
      go (no e) false d ih = inr (
        n,
        record {
          positive = omega arith;
          among = before_head own n l e;
          front = ap (first_lacking meets) (before_more own n l e) ∙ lacking_here meets n (made_before own l) d;
          whole = lacking_here meets n l d;
          first = record { sooner = []; later = l; picked = refl; lacks = d; none = λ y m. absurd (Memᴰ.not-nil m) };
        },
      )
      go (no e) true d (inl z) = inl (record {
        blank = ap (first_lacking meets) (before_more own n l e) ∙ lacking_later meets n (made_before own l) d ∙ z.blank;
        meet = λ x m. ⊎_elim (λ y. ap meets y ∙ d) (λ y. z.meet x y) (before-cases own n l e x m);
      })
      go (no e) true d (inr (x, f)) = inr (
        x,
        record {
          positive = f.positive;
          among = before-tail own n l e x f.among;
          front = ap (first_lacking meets) (before_more own n l e) ∙ lacking_later meets n (made_before own l) d ∙ f.front;
          whole = lacking_later meets n l d ∙ f.whole;
          first = record {
            sooner = n ∷ f.first.sooner;
            later = f.first.later;
            picked = ap (λ (z : List ℕ). n ∷ z) f.first.picked;
            lacks = f.first.lacks;
            none = λ y m. ⊎_elim (λ z. ap meets z ∙ d) (λ z. f.first.none y z) (Memᴰ.cases_cons m);
          };
        },
      )

-- ---- tests that agree on the picks
module _ (f m : ℕ → Bool) (own : ℕ) where
  same_left : (l : List ℕ) → made_before own l ≡ [] → first_lacking f (made_before own l) ≡ first_lacking m (made_before own l)
  same_left l e = ap (first_lacking f) e ∙ lacking_none f ∙ sym (ap (first_lacking m) e ∙ lacking_none m)

  pub first_same : (p : List ℕ) → ((j : ℕ) → Memᴰ j p → f (suc j) ≡ m (suc j))
      → first_lacking f (made_before own (map suc p)) ≡ first_lacking m (made_before own (map suc p))
  first_same [] h = same_left [] (before_none own)
  first_same (g ∷ p) h = go (ℕ_discrete own n) (m n) refl (first_same p (λ j z. h j (Memᴰ.tail z)))
    where
      n : ℕ
      n = suc g

      l : List ℕ
      l = map suc p

      here : f n ≡ m n
      here = h g (Memᴰ.head refl)

      go : Dec (own ≡ n) → (b : Bool) → m n ≡ b → first_lacking f (made_before own l) ≡ first_lacking m (made_before own l)
          → first_lacking f (made_before own (n ∷ l)) ≡ first_lacking m (made_before own (n ∷ l))
      go (yes e) b d ih = same_left (n ∷ l) (before_own own n l e)
      go (no e) false d ih =
          ap (first_lacking f) (before_more own n l e) ∙ lacking_here f n (made_before own l) (here ∙ d)
          ∙ sym (ap (first_lacking m) (before_more own n l e) ∙ lacking_here m n (made_before own l) d)
      go (no e) true d ih =
          ap (first_lacking f) (before_more own n l e) ∙ lacking_later f n (made_before own l) (here ∙ d) ∙ ih
          ∙ sym (ap (first_lacking m) (before_more own n l e) ∙ lacking_later m n (made_before own l) d)

-- ---- the first is one pick
passed : (meets : ℕ → Bool) (x : ℕ) (later : List ℕ) → meets x ≡ false → (s : List ℕ) → ((y : ℕ) → Memᴰ y s → meets y ≡ true)
    → first_lacking meets (s ++ (x ∷ later)) ≡ x
passed meets x later d [] n = lacking_here meets x later d
passed meets x later d (y ∷ s) n =
    lacking_later meets y (s ++ (x ∷ later)) (n y (Memᴰ.head refl)) ∙ passed meets x later d s (λ z m. n z (Memᴰ.tail m))

pub first_unique : (meets : ℕ → Bool) (l : List ℕ) (x : ℕ) → IsFirstLacking meets l x → first_lacking meets l ≡ x
first_unique meets l x f = ap (first_lacking meets) f.picked ∙ passed meets x f.later f.lacks f.sooner f.none

-- ---- the search from a place on
module _ (meets : ℕ → Bool) (own : ℕ) (l : List ℕ) where
  abbrev pub from : ℕ → ℕ
  from i = first_lacking meets (made_before own (drop i l))

  module _ (i : ℕ) (low : i < length l) where
    here : from i ≡ first_lacking meets (made_before own (get_or l i 0 ∷ drop (suc i) l))
    here = ap (λ (z : List ℕ). first_lacking meets (made_before own z)) (drop-cons l i 0 low)

    pub turn-own : get_or l i 0 ≡ own → 0 ≡ from i
    turn-own e = sym (here ∙ ap (first_lacking meets) (before_own own (get_or l i 0) (drop (suc i) l) (sym e)) ∙ lacking_none meets)

    module _ (e : get_or l i 0 ≡ own → ⊥) where
      more : from i ≡ first_lacking meets (get_or l i 0 ∷ made_before own (drop (suc i) l))
      more = here ∙ ap (first_lacking meets) (before_more own (get_or l i 0) (drop (suc i) l) (λ d. e (sym d)))

      pub turn-lacks : meets (get_or l i 0) ≡ false → get_or l i 0 ≡ from i
      turn-lacks d = sym (more ∙ lacking_here meets (get_or l i 0) (made_before own (drop (suc i) l)) d)

      pub turn_on : meets (get_or l i 0) ≡ true → from (i + 1) ≡ from i
      turn_on d = ap from (add-one i) ∙ sym (more ∙ lacking_later meets (get_or l i 0) (made_before own (drop (suc i) l)) d)

  pub turn_end : (i : ℕ) → length l ≤ i → 0 ≡ from i
  turn_end i h =
      sym (ap (λ (z : List ℕ). first_lacking meets (made_before own z)) (gone (drop i l) (omega (arith, length-drop i l)))
      ∙ ap (first_lacking meets) (before_none own) ∙ lacking_none meets)
    where
      gone : (z : List ℕ) → length z ≡ 0 → z ≡ []
      gone [] e = refl
      gone (x ∷ z) e = absurd (omega arith)
