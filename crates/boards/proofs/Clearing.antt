-- What is still uncovered under a ladder, as a board (`uncovered-places`), and the first place of a board (`places_first`, `places_none`).
use mathlib.Core.Path.{◌≡◌, refl, sym, ap, ap₂, ◌∙◌, subst}
use mathlib.Core.Logic.{◌⊎◌, inl, inr}
use mathlib.Core.Bool.{Bool, true, false, not, ◌&&◌, cond}
use mathlib.Core.Option.{some, some-injective}
use mathlib.Core.List.{List, [], ◌∷◌, ◌++◌, head?, append-nil}
use Prim.Native.Nat.{ℕ, zero, suc, ◌*◌, ◌+◌, ◌-◌, ◌/◌, ◌%◌, ◌^◌, ◌<◌}
use native.Mathlib.Nat.{pow-suc, div-add-mod'}
use native.Mathlib.Omega.{arith}
use lib.Dec.{T, eqb}
use lib.Arith.{digits_div, digits_mod}
use Rattle.sets.specs.Sets.{bit}
use Rattle.sets.specs.First.{First}
use Rattle.sets.proofs.Digits.{lt2, bit_zero, bit-suc, digit}
use Rattle.sets.proofs.OnePlace.{none_in}
use Rattle.sets.proofs.Order.{bit-meet}
use Rattle.lists.specs.Picks.{select}
use Rattle.lists.proofs.Selecting.{select_nil, nil_select, head-select}
use Rattle.covers.specs.Searching.{uncovered}
use Rattle.boards.specs.Boards.{places}
use Rattle.boards.specs.private.Clearing.{minus}

-- ---- what is still uncovered
not_digit : (x : ℕ) → (x ≡ 0) ⊎ (x ≡ 1) → eqb (1 - x) 1 ≡ not (eqb x 1)
not_digit x (inl e) = rw e
not_digit x (inr e) = rw e

bit_others : (n b k : ℕ) → k < n → b < 2 ^ n → bit (2 ^ n - 1 - b) k ≡ not (bit b k)
bit_others zero b k l h = absurd (omega arith)
bit_others (suc n) b k l h = go (λ j m x. bit_others n (b / 2) j m x) k l
  where
    q : ℕ
    q = 2 ^ n - 1 - b / 2

    half : b / 2 < 2 ^ n
    half = omega (arith, div-add-mod' b 2, pow-suc 2 n)

    split : 2 ^ suc n - 1 - b ≡ q * 2 + (1 - b % 2)
    split = omega (arith, div-add-mod' b 2, pow-suc 2 n, lt2 b, half)

    go : ((k : ℕ) → k < n → b / 2 < 2 ^ n → bit (2 ^ n - 1 - b / 2) k ≡ not (bit (b / 2) k)) → (k : ℕ) → k < suc n → bit (2 ^ suc n - 1 - b) k ≡ not (bit b k)
    go ih zero l = bit_zero (2 ^ suc n - 1 - b) ∙ ap (λ (x : ℕ). eqb (x % 2) 1) split ∙ ap (λ (x : ℕ). eqb x 1) (digits_mod q (omega arith))
        ∙ not_digit (b % 2) (digit (b % 2) (lt2 b)) ∙ ap not (sym (bit_zero b))
    go ih (suc k) l =
        bit-suc (2 ^ suc n - 1 - b) k ∙ ap (λ (x : ℕ). bit (x / 2) k) split ∙ ap (λ (x : ℕ). bit x k) (digits_div q (omega arith))
        ∙ ih k (omega arith) half ∙ ap not (sym (bit-suc b k))

bit-minus : (a b k : ℕ) → k < 64 → b < 2 ^ 64 → bit (minus a b) k ≡ (bit a k && not (bit b k))
unfolding minus
bit-minus a b k l h = bit-meet a (2 ^ 64 - 1 - b) k ∙ ap (λ (x : Bool). bit a k && x) (bit_others 64 b k l h)

select_ext : (f g : ℕ → Bool) (n : ℕ) → ((j : ℕ) → j < n → f j ≡ g j) → select f n ≡ select g n
unfolding select
select_ext f g zero h = refl
select_ext f g (suc n) h = ap₂ (λ (b : Bool) (l : List ℕ). cond b (l ++ (n ∷ [])) l) (h n (omega arith)) (select_ext f g n (λ j l. h j (omega arith)))

uncovered_snoc : (l : ℕ) (xs : List ℕ) (n : ℕ) → uncovered bit l (xs ++ (n ∷ [])) ≡ uncovered bit l xs ++ cond (bit l n) [] (n ∷ [])
unfolding uncovered
uncovered_snoc l [] n = refl
uncovered_snoc l (x ∷ xs) n = go (bit l x) (uncovered_snoc l xs n)
  where
    go : (b : Bool) → uncovered bit l (xs ++ (n ∷ [])) ≡ uncovered bit l xs ++ cond (bit l n) [] (n ∷ [])
        → cond b (uncovered bit l (xs ++ (n ∷ []))) (x ∷ uncovered bit l (xs ++ (n ∷ []))) ≡ cond b (uncovered bit l xs) (x ∷ uncovered bit l xs) ++ cond
        (bit l n) [] (n ∷ [])
    go true e = e
    go false e = ap (λ (y : List ℕ). x ∷ y) e

uncovered-select : (l : ℕ) (f : ℕ → Bool) (n : ℕ) → uncovered bit l (select f n) ≡ select (λ j. f j && not (bit l j)) n
unfolding select uncovered
uncovered-select l f zero = refl
uncovered-select l f (suc n) = go (f n) (bit l n) refl (uncovered-select l f n)
  where
    go : (b d : Bool) → bit l n ≡ d → uncovered bit l (select f n) ≡ select (λ j. f j && not (bit l j)) n
        → uncovered bit l (cond b (select f n ++ (n ∷ [])) (select f n)) ≡ cond (b && not d) (select (λ j. f j && not (bit l j)) n ++ (n ∷ []))
        (select (λ j. f j && not (bit l j)) n)
    go true true e ih = uncovered_snoc l (select f n) n ∙ ap (λ (x : Bool). uncovered bit l (select f n) ++ cond x [] (n ∷ [])) e
        ∙ append-nil (uncovered bit l (select f n)) ∙ ih
    go true false e ih = uncovered_snoc l (select f n) n ∙ ap (λ (x : Bool). uncovered bit l (select f n) ++ cond x [] (n ∷ [])) e
        ∙ ap (λ (y : List ℕ). y ++ (n ∷ [])) ih
    go false d e ih = ih

pub uncovered-places : (l left : ℕ) → l < 2 ^ 64 → uncovered bit l (places left) ≡ places (minus left l)
uncovered-places l left h =
    uncovered-select l (bit left) 64 ∙ select_ext (λ j. bit left j && not (bit l j)) (bit (minus left l)) 64 (λ j b. sym (bit-minus left l j b h))

-- ---- the first place
pub places_none : (a : ℕ) → a ≡ 0 → places a ≡ []
places_none a e = nil_select (bit a) 64 (λ i l t. subst T (none_in i) (subst (λ (x : ℕ). T (bit x i)) e t))

pub places_first : (a p : ℕ) → First a p → ¬ (a ≡ 0) → (rest : List ℕ) × (places a ≡ p ∷ rest)
places_first a p f ne = go (places a) refl
  where
    here : T (bit a p)
    here = rw (f.some ne).here tt

    first : head? (places a) ≡ some p
    first = head-select (bit a) 64 p (f.some ne).below here (λ j l t. subst T ((f.some ne).none j l) t)

    go : (l : List ℕ) → places a ≡ l → (rest : List ℕ) × (places a ≡ p ∷ rest)
    go [] e = absurd (select_nil (bit a) 64 p e (f.some ne).below here)
    go (x ∷ rest) e = (rest, e ∙ ap (λ (y : ℕ). y ∷ rest) (some-injective x p (ap head? (sym e) ∙ first)))
