-- What each answer and each turn of the judges' private steps says of the tests that they compute.
use mathlib.Core.Path.{◌≡◌, refl, sym, ap, ◌∙◌, fun_ext}
use mathlib.Core.Bool.{Bool, true, false, ◌&&◌, and-false}
use mathlib.Core.List.{List}
use Prim.Native.Nat.{ℕ, zero, suc, ◌+◌, ◌≤◌, ◌<◌}
use native.Mathlib.Numerals.{add-one}
use native.Mathlib.Omega.{arith}
use lib.Bits.{bit_and}
use lib.Dec.{eqb, ltb}
use lib.ListN.{length, take}
use Rattle.std.proofs.Common.{take_all}
use Rattle.std.specs.List.{list_all}
use Rattle.std.proofs.lemmas.List.Folds.{list_all_more}
use borrow.Author.Tests.{eq-eqb, ne_eqb, lt-ltb, le-ltb, le-leb, lt-leb}
use Rattle.sets.specs.Sets.{meet, is_subset, is_proper_subset}
use Rattle.sets.specs.Lists.{all_below}
use Rattle.table.specs.Pairs.{row}
use Rattle.judge.specs.WidestRows.{narrowed, widest, widest_of}
use Rattle.judge.specs.private.RowTests.{nested, nested_with, all_nested}

-- ---- nested rows, as the chain of calls reads
list_is_below : (p : ℕ → Bool) (xs : List ℕ) → list_all p xs ≡ all_below (λ i. p (row xs i)) (length xs)
unfolding all_below
list_is_below p xs = ap (list_all p) (sym (take_all (length xs) xs (omega arith))) ∙ go (length xs) (omega arith)
  where
    go : (i : ℕ) → i ≤ length xs → list_all p (take i xs) ≡ all_below (λ j. p (row xs j)) i
    go zero h = refl
    go (suc i) h = rw (← add-one i) (list_all_more p xs i 0 (omega arith)) ∙ ap (λ b. b && p (row xs i)) (go i (omega arith))

pub nested_list : (xs : List ℕ) → list_all (λ a. list_all (nested a) xs) xs ≡ all_nested xs (length xs)
unfolding all_nested nested_with
nested_list xs =
    list_is_below (λ a. list_all (nested a) xs) xs
    ∙ ap (λ (f : ℕ → Bool). all_below f (length xs)) (fun_ext (λ i. list_is_below (nested (row xs i)) xs))

-- ---- narrowed
pub narrow_out : (x a b : ℕ) (t : Bool) → t ≡ is_subset a b → t ≡ false → x ≡ narrowed x a b
unfolding narrowed is_proper_subset
narrow_out x a b t e d = rw (← e, d)

pub narrow_same : (x a b : ℕ) (t : Bool) → t ≡ is_subset a b → t ≡ true → a ≡ b → x ≡ narrowed x a b
unfolding narrowed is_proper_subset
narrow_same x a b t e d f = rw (← e, d, eq-eqb a b f)

pub narrow_in : (x a b : ℕ) (t : Bool) → t ≡ is_subset a b → t ≡ true → (a ≡ b → ⊥) → bit_and x b ≡ narrowed x a b
unfolding narrowed is_proper_subset meet
narrow_in x a b t e d f = rw (← e, d, ne_eqb a b f)

-- ---- widest: there is no row i, or not n rows, or it is that over the first n
module _ (s : List ℕ) (x i n : ℕ) where
  pub widest_past : 64 ≤ i → x ≡ widest_of s x i n
  unfolding widest_of
  widest_past h = rw (le-ltb i 64 h)

  pub widest_long : 64 < n → x ≡ widest_of s x i n
  unfolding widest_of
  widest_long h = rw (lt-leb n 64 h, and-false (ltb i 64))

  pub widest_in : i < 64 → n ≤ 64 → widest_of s x i n ≡ widest s x i n
  unfolding widest_of
  widest_in h k = rw (lt-ltb i 64 h, le-leb n 64 k)

pub widest_start : (s : List ℕ) (x i : ℕ) → x ≡ widest s x i 0
unfolding widest
widest_start s x i = refl

pub widest_more : (s : List ℕ) (x i j wide new : ℕ) → wide ≡ widest s x i j → new ≡ narrowed wide (row s i) (row s j) → new ≡ widest s x i (j + 1)
unfolding widest
widest_more s x i j wide new e d = rw (add-one j, ← e) d

-- the turn's own test, from the widest row that was computed
pub widest_test : (r s : List ℕ) (n i most : ℕ) (t : Bool) → i < n → n ≤ 64 → most ≡ widest_of s (row r i) i n → eqb most (row s i) ≡ t
    → t ≡ eqb (widest s (row r i) i n) (row s i)
widest_test r s n i most t l m e d = sym d ∙ ap (λ (x : ℕ). eqb x (row s i)) (e ∙ widest_in s (row r i) i n (omega arith) m)
