-- Laws of lists that ascend. Nothing of trees or moves is here.
--
-- In order: what holds of each element (`All_map`, `All_append`, `All_get`, `All_of`); appending and mapping
-- (`Sorted_append`, `Sorted_map`); the elements above one (`above_at`); the order number by number (`before_irrefl`,
-- `before_trans`, `before_part`); two lists against each other: lists that ascend and have the same members are equal
-- (`sorted_unique`), and a list without repetitions whose members are all in another is no longer
-- (`distinct_length`).
use mathlib.Core.Path.{◌≡◌, refl, ap, sym, ◌∙◌}
use mathlib.Core.Logic.{◌⊎◌, inl, inr, ◌↔◌, ◌≢◌}
use mathlib.Core.List.Memᴰ
use mathlib.Core.List.{List, [], ◌∷◌, ◌++◌, Memᴰ}
use Prim.Native.Nat.{ℕ, suc, ◌≤◌, ◌<◌}
use native.Mathlib.Omega.{arith}
use lib.ListN.{length, length-append}
use borrow.Author.Tests.{lt-ltb, le-ltb}
use Rattle.rules.specs.Sequences.{All, Sorted, Before}
use Rattle.rules.specs.ByNumber.{above}

-- a strictly ascending list of numbers
abbrev pub Ascending : List ℕ → Type 0
Ascending l = Sorted ◌<◌ l

-- ---- each element
pub All_map : {A : Type 0} {p q : A → Type 0} → ((a : A) → p a → q a) → (l : List A) → All p l → All q l
All_map f [] h = tt
All_map f (x ∷ xs) h = (f x h.0, All_map f xs h.1)

pub All_append : {A : Type 0} (p : A → Type 0) (s t : List A) → All p s → All p t → All p (s ++ t)
All_append p [] t h k = k
All_append p (x ∷ xs) t h k = (h.0, All_append p xs t h.1 k)

pub All_get : {A : Type 0} (p : A → Type 0) {a : A} {l : List A} → Memᴰ a l → All p l → p a
All_get p (Memᴰ.head e) h = rw e h.0
All_get p (Memᴰ.tail m) h = All_get p m h.1

pub All_of : {A : Type 0} (p : A → Type 0) (l : List A) → ((a : A) → Memᴰ a l → p a) → All p l
All_of p [] h = tt
All_of p (x ∷ xs) h = (h x (Memᴰ.head refl), All_of p xs (λ a m. h a (Memᴰ.tail m)))

-- ---- ascending lists
pub Sorted_append : {A : Type 0} (r : A → A → Type 0) (s t : List A) → Sorted r s → Sorted r t → All (λ a. All (r a) t) s → Sorted r (s ++ t)
Sorted_append r [] t h k c = k
Sorted_append r (x ∷ xs) t h k c = (All_append (r x) xs t h.0 c.0, Sorted_append r xs t h.1 k c.1)

pub Sorted_map : {A : Type 0} {r q : A → A → Type 0} → ((a b : A) → r a b → q a b) → (l : List A) → Sorted r l → Sorted q l
Sorted_map f [] h = tt
Sorted_map f (x ∷ xs) h = (All_map (f x) xs h.0, Sorted_map f xs h.1)

above_all : (g : ℕ) (l : List ℕ) → All (λ x. g < x) l → above g l ≡ l
above_all g [] h = refl
above_all g (x ∷ xs) h = rw (lt-ltb g x h.0) (ap (λ (t : List ℕ). x ∷ t) (above_all g xs h.1))

-- in an ascending list, above an element are those after it
pub above_at : (a : List ℕ) (g : ℕ) (b : List ℕ) → Ascending (a ++ (g ∷ b)) → above g (a ++ (g ∷ b)) ≡ b
above_at [] g b h = rw (le-ltb g g (omega arith)) (above_all g b h.0)
above_at (x ∷ xs) g b h = rw (le-ltb g x (let l : x < g = at xs h.0 in omega arith)) (above_at xs g b h.1)
  where
    at : (l : List ℕ) → All (λ y. x < y) (l ++ (g ∷ b)) → x < g
    at [] k = k.0
    at (y ∷ ys) k = at ys k.1

-- ---- the order number by number
pub before_irrefl : (l : List ℕ) → Before l l → ⊥
before_irrefl [] h = h
before_irrefl (x ∷ xs) (inl h) = omega arith
before_irrefl (x ∷ xs) (inr h) = before_irrefl xs h.1

pub before_trans : (a b c : List ℕ) → Before a b → Before b c → Before a c
before_trans [] [] c h k = absurd h
before_trans [] (y ∷ ys) [] h k = absurd k
before_trans [] (y ∷ ys) (z ∷ zs) h k = tt
before_trans (x ∷ xs) [] c h k = absurd h
before_trans (x ∷ xs) (y ∷ ys) [] h k = absurd k
before_trans (x ∷ xs) (y ∷ ys) (z ∷ zs) (inl h) (inl k) = inl (omega arith)
before_trans (x ∷ xs) (y ∷ ys) (z ∷ zs) (inl h) (inr k) = inl (omega arith)
before_trans (x ∷ xs) (y ∷ ys) (z ∷ zs) (inr h) (inl k) = inl (omega arith)
before_trans (x ∷ xs) (y ∷ ys) (z ∷ zs) (inr h) (inr k) = inr (h.0 ∙ k.0, before_trans xs ys zs h.1 k.1)

-- two lists that part after p
pub before_part : (p : List ℕ) (g h : ℕ) (a b : List ℕ) → g < h → Before ((p ++ (g ∷ [])) ++ a) ((p ++ (h ∷ [])) ++ b)
before_part [] g h a b l = inl l
before_part (x ∷ xs) g h a b l = inr (refl, before_part xs g h a b l)

-- ---- two lists against each other
module _ {A : Type 0} (r : A → A → Type 0) (irrefl : (a : A) → r a a → ⊥) (trans : (a b c : A) → r a b → r b c → r a c) where
  -- the head of an ascending list is not found again
  later_only : (x : A) (xs : List A) → All (r x) xs → (y : A) → y ≡ x → Memᴰ y xs → ⊥
  later_only x xs h y e m = irrefl x (rw e at (All_get (r x) m h))

  -- two ascending lists with the same members are equal
  pub sorted_unique : (xs ys : List A) → Sorted r xs → Sorted r ys → ((a : A) → Memᴰ a xs ↔ Memᴰ a ys) → xs ≡ ys
  sorted_unique [] [] s t e = refl
  sorted_unique [] (y ∷ ys) s t e = absurd (Memᴰ.not-nil ((e y).1 (Memᴰ.head refl)))
  sorted_unique (x ∷ xs) [] s t e = absurd (Memᴰ.not-nil ((e x).0 (Memᴰ.head refl)))
  sorted_unique (x ∷ xs) (y ∷ ys) s t e = join (sorted_unique xs ys s.1 t.1 (λ a. (into a, onto a)))
    where
      heads : (x ≡ y) ⊎ Memᴰ x ys → (y ≡ x) ⊎ Memᴰ y xs → x ≡ y
      heads (inl p) q = p
      heads (inr p) (inl q) = sym q
      heads (inr p) (inr q) = absurd (irrefl x (trans x y x (All_get (r x) q s.0) (All_get (r y) p t.0)))

      same : x ≡ y
      same = heads (Memᴰ.cases_cons ((e x).0 (Memᴰ.head refl))) (Memᴰ.cases_cons ((e y).1 (Memᴰ.head refl)))

      into : (a : A) → Memᴰ a xs → Memᴰ a ys
      into a m = go (Memᴰ.cases_cons ((e a).0 (Memᴰ.tail m)))
        where
          go : (a ≡ y) ⊎ Memᴰ a ys → Memᴰ a ys
          go (inl p) = absurd (later_only x xs s.0 a (p ∙ sym same) m)
          go (inr p) = p

      onto : (a : A) → Memᴰ a ys → Memᴰ a xs
      onto a m = go (Memᴰ.cases_cons ((e a).1 (Memᴰ.tail m)))
        where
          go : (a ≡ x) ⊎ Memᴰ a xs → Memᴰ a xs
          go (inl p) = absurd (later_only y ys t.0 a (p ∙ same) m)
          go (inr p) = p

      join : xs ≡ ys → x ∷ xs ≡ y ∷ ys
      join q = let p : x ≡ y = same in cc

module _ {A : Type 0} where
  pub mem_split : (a : A) (l : List A) → Memᴰ a l → (b : List A) × (c : List A) × (l ≡ b ++ (a ∷ c))
  mem_split a [] m = elim m [ ]
  mem_split a (x ∷ xs) (Memᴰ.head e) = ([], xs, ap (λ (y : A). y ∷ xs) (sym e))
  mem_split a (x ∷ xs) (Memᴰ.tail m) = let r = mem_split a xs m in (x ∷ r.0, r.1, ap (λ (l : List A). x ∷ l) (r.2))

  -- what is in a list and is not a given element of it is in the rest
  mem_other : (x : A) (b c : List A) (a : A) → a ≢ x → Memᴰ a (b ++ (x ∷ c)) → Memᴰ a (b ++ c)
  mem_other x b c a n m = go (Memᴰ.append_cases b m)
    where
      last : (a ≡ x) ⊎ Memᴰ a c → Memᴰ a (b ++ c)
      last (inl e) = absurd (n e)
      last (inr k) = Memᴰ.append_right b k

      go : Memᴰ a b ⊎ Memᴰ a (x ∷ c) → Memᴰ a (b ++ c)
      go (inl k) = Memᴰ.append_left c k
      go (inr k) = last (Memᴰ.cases_cons k)

  -- a list without repetitions, all in another, is no longer than it
  pub distinct_length : (xs ys : List A) → Sorted (λ (a b : A). a ≢ b) xs → ((a : A) → Memᴰ a xs → Memᴰ a ys) → length xs ≤ length ys
  distinct_length [] ys d h = omega arith
  distinct_length (x ∷ xs) ys d h = go (distinct_length xs) (mem_split x ys (h x (Memᴰ.head refl)))
    where
      go : ((zs : List A) → Sorted (λ (a b : A). a ≢ b) xs → ((a : A) → Memᴰ a xs → Memᴰ a zs) → length xs ≤ length zs)
          → (b : List A) × (c : List A) × (ys ≡ b ++ (x ∷ c)) → suc (length xs) ≤ length ys
      go on (b, c, e) =
          let r : length xs ≤ length (b ++ c) =
          on (b ++ c) d.1 (λ a m. mem_other x b c a (λ q. All_get (λ (y : A). x ≢ y) m d.0 (sym q)) (rw e at (h a (Memᴰ.tail m)))) in
          rw e (omega (arith, length-append b c, length-append b (x ∷ c)))
