-- A loop over the places of a set (`Passed`), and the store of unions that such loops fill: one law for each start, turn and end.
use mathlib.Core.Path.{◌≡◌, refl, sym, ap, ◌∙◌, subst}
use mathlib.Core.Bool.{Bool, true, false, not, ◌&&◌}
use mathlib.Core.List.{List}
use Prim.Native.Nat.{ℕ, ◌+◌, ◌*◌, ◌<◌}
use native.Mathlib.Decide.{ℕ_discrete}
use native.Mathlib.Omega.{arith}
use lib.Dec.{T, eqb}
use lib.Count.{count_trailing_zeros}
use lib.ListN.{get_or}
use borrow.Author.Tests.{ne_eqb}
use Rattle.sets.specs.Sets.{bit}
use Rattle.sets.specs.First.{Lowest, Rest}
use Rattle.sets.proofs.Tests.{and_l}
use Rattle.sets.proofs.OnePlace.{none_in}
use Rattle.table.specs.Pairs.{row}
use Rattle.essentials.specs.private.Unions.{against, Stored}

-- ---- a loop over the places of a set: P holds of those passed
pub record Passed (P : ℕ → Type 0) (all rest : ℕ) : Type 0 where
  pub inside : (k : ℕ) → T (bit rest k) → T (bit all k)
  pub done : (k : ℕ) → T (bit all k) → bit rest k ≡ false → P k

-- the set after a turn: a place of it was there before, and one that was there and is not k still is
pub rest_before : (rest after k : ℕ) → Rest rest after → T (bit after k) → T (bit rest k)
rest_before rest after k r t = and_l (bit rest k) (not (eqb k (count_trailing_zeros 64 rest))) (rw (r.bits k) at t)

rest_other : (rest after k j : ℕ) → k ≡ count_trailing_zeros 64 rest → Rest rest after → ¬ (j ≡ k) → bit after j ≡ bit rest j
rest_other rest after k j e r d =
    r.bits j ∙ ap (λ (x : Bool). bit rest j && not x) (ne_eqb j (count_trailing_zeros 64 rest) (λ z. d (z ∙ sym e))) ∙ and-true (bit rest j)
  where
    and-true : (x : Bool) → (x && true) ≡ x
    and-true true = refl
    and-true false = refl

pub passed_more : (P Q : ℕ → Type 0) (all rest after k : ℕ) → Passed P all rest → k ≡ count_trailing_zeros 64 rest → Rest rest after
    → ((j : ℕ) → ¬ (j ≡ k) → P j → Q j) → Q k → Passed Q all after
passed_more P Q all rest after k p e r on here =
    record { inside = λ j t. p.inside j (rest_before rest after j r t); done = λ j t d. go j t d (ℕ_discrete j k) }
  where
    go : (j : ℕ) → T (bit all j) → bit after j ≡ false → Dec (j ≡ k) → Q j
    go j t d (yes z) = subst Q (sym z) here
    go j t d (no z) = on j z (p.done j t (sym (rest_other rest after k j e r z) ∙ d))

pub passed_all : (P : ℕ → Type 0) (all rest : ℕ) → Passed P all rest → rest ≡ 0 → (k : ℕ) → T (bit all k) → P k
passed_all P all rest p e k t = p.done k t (ap (λ (x : ℕ). bit x k) e ∙ none_in k)

-- the lowest place of what is left
pub next_in : (P : ℕ → Type 0) (all rest k : ℕ) → Passed P all rest → Lowest rest k → T (bit all k)
next_in P all rest k p l = p.inside k (rw l.here tt)

-- ---- the store
pub record Storing (r : List ℕ) (n i : ℕ) (store : List ℕ) (rest : ℕ) : Type 0 where
  pub stored : Stored r n i store
  pub passed : Passed (λ (k : ℕ). k < 64 → get_or store (i * 64 + k) 0 ≡ against r (row r i) k n) (row r i) rest

pub storing_all : (r : List ℕ) (n i : ℕ) (store : List ℕ) (rest : ℕ) → Storing r n i store rest → rest ≡ 0 → Stored r n (i + 1) store
storing_all r n i store rest s e = record { size = s.stored.size; entry = λ j k y z t. go j k y z t (ℕ_discrete j i) }
  where
    go : (j k : ℕ) → j < i + 1 → k < 64 → T (bit (row r j) k) → Dec (j ≡ i) → get_or store (j * 64 + k) 0 ≡ against r (row r j) k n
    go j k y z t (yes d) =
        subst (λ (x : ℕ). T (bit (row r x) k) → get_or store (x * 64 + k) 0 ≡ against r (row r x) k n) (sym d)
        (λ u. passed_all (λ (k : ℕ). k < 64 → get_or store (i * 64 + k) 0 ≡ against r (row r i) k n) (row r i) rest s.passed e k u z) t
    go j k y z t (no d) = s.stored.entry j k (omega arith) z t
