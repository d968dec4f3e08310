-- The list of the pairs of a set: each pair of it, each once, by gauge and then case (`pairs_listed`), and no other list is that
-- (`pair_list_unique`). The test of a pair decides `Has`.
use mathlib.Core.Path.{◌≡◌, refl, sym, ap, subst, subst₂}
use mathlib.Core.Logic.{◌⊎◌, inl, inr}
use mathlib.Core.List.Memᴰ
use mathlib.Core.List.{List, [], ◌∷◌, ◌++◌, map, Memᴰ}
use Prim.Native.Nat.{ℕ, zero, suc, ◌+◌, ◌≤◌, ◌<◌}
use native.Mathlib.Omega.{arith}
use lib.Dec.{T}
use Rattle.sets.specs.Sets.{bit}
use Rattle.table.specs.Pairs.{row, Has, Cases}
use Rattle.table.proofs.Places.{place_has, by_place_lem}
use Rattle.sets.proofs.OnePlace.{none_in}
use Rattle.rules.specs.Sequences.{All, Sorted}
use Rattle.rules.proofs.Sequences.{Ascending, All_of, Sorted_append, sorted_unique}
use Rattle.lists.specs.Picks.{select}
use Rattle.lists.proofs.Selecting.{mem_select, select_ascends}
use Rattle.pairs.specs.PairOrder.{Pair, holds, PairBefore, PairList, pairs_from, pairs}

-- ---- the test of a pair
pub holds_has : (x : List ℕ) (p : Pair) → 1 ≤ p.0 → 1 ≤ p.1 → T (holds x p) → Has x p.0 p.1
unfolding holds
holds_has x p g c t = record { gauge = g; case = c; set = t }

pub has_holds : (x : List ℕ) (p : Pair) → Has x p.0 p.1 → T (holds x p)
unfolding holds
has_holds x p h = h.set

-- ---- the order of pairs
pub pair_irrefl : (p : Pair) → PairBefore p p → ⊥
pair_irrefl p (inl h) = omega arith
pair_irrefl p (inr h) = omega (arith, h.1)

pub pair_trans : (p q r : Pair) → PairBefore p q → PairBefore q r → PairBefore p r
pair_trans p q r (inl h) (inl k) = inl (omega arith)
pair_trans p q r (inl h) (inr k) = inl (omega (arith, k.0))
pair_trans p q r (inr h) (inl k) = inl (omega (arith, h.0))
pair_trans p q r (inr h) (inr k) = inr (omega (arith, h.0, k.0), omega (arith, h.1, k.1))

-- ---- the list
from_nil : (w g : ℕ) → pairs_from w g [] ≡ []
unfolding pairs_from
from_nil w g = refl

from_cons : (w g a : ℕ) (x : List ℕ) → pairs_from w g (a ∷ x) ≡ map (λ k. (g, suc k)) (select (bit a) w) ++ pairs_from w (suc g) x
unfolding pairs_from
from_cons w g a x = refl

-- a place of the rows x, of which the first is that of gauge g
record PlaceOf (w g : ℕ) (x : List ℕ) (p : Pair) : Type 0 where
  index : ℕ
  place : ℕ
  gauge : p.0 ≡ g + index
  case : p.1 ≡ suc place
  set : T (bit (row x index) place)

of_row : (w g a : ℕ) (p : Pair) → Memᴰ p (map (λ (k : ℕ). (g, suc k)) (select (bit a) w)) → (k : ℕ) × (p ≡ (g, suc k)) × T (bit a k)
of_row w g a p m = let r = Memᴰ.of_map (λ (k : ℕ). (g, suc k)) (select (bit a) w) m in (r.0, sym r.2, ((mem_select (bit a) w r.0).0 r.1).1)

from_place : (w g : ℕ) (x : List ℕ) (p : Pair) → Memᴰ p (pairs_from w g x) → PlaceOf w g x p
from_place w g [] p m = absurd (Memᴰ.not-nil (rw (from_nil w g) at m))
from_place w g (a ∷ x) p m =
    go (Memᴰ.append_cases (map (λ (k : ℕ). (g, suc k)) (select (bit a) w)) (rw (from_cons w g a x) at m)) (from_place w (suc g) x p)
  where
    go : Memᴰ p (map (λ (k : ℕ). (g, suc k)) (select (bit a) w)) ⊎ Memᴰ p (pairs_from w (suc g) x)
        → (Memᴰ p (pairs_from w (suc g) x) → PlaceOf w (suc g) x p)
        → PlaceOf w g (a ∷ x) p
    go (inl j) ih =
        let r = of_row w g a p j in
        record { index = 0; place = r.0; gauge = omega (arith, ap (λ (q : Pair). q.0) r.1); case = ap (λ (q : Pair). q.1) r.1; set = r.2 }
    go (inr j) ih = let r = ih j in record { index = suc r.index; place = r.place; gauge = omega (arith, r.gauge); case = r.case; set = r.set }

place_from : (w g : ℕ) (x : List ℕ) (i k : ℕ) → k < w → T (bit (row x i) k) → Memᴰ (g + i, suc k) (pairs_from w g x)
place_from w g [] i k l t = absurd (subst T (none_in k) t)
place_from w g (a ∷ x) zero k l t =
    let e : g + 0 ≡ g = omega arith in
    rw (from_cons w g a x, e) (Memᴰ.append_left (pairs_from w (suc g) x) (Memᴰ.map (λ (k : ℕ). (g, suc k)) ((mem_select (bit a) w k).1 (l, t))))
place_from w g (a ∷ x) (suc i) k l t =
    let e : g + suc i ≡ suc g + i = omega arith in
    rw (from_cons w g a x) (Memᴰ.append_right (map (λ (k : ℕ). (g, suc k)) (select (bit a) w))
    (Memᴰ.cast (ap (λ (n : ℕ). (n, suc k)) e) (place_from w (suc g) x i k l t)))

row_ascends : (g : ℕ) (l : List ℕ) → Ascending l → Sorted PairBefore (map (λ (k : ℕ). (g, suc k)) l)
row_ascends g [] a = tt
row_ascends g (k ∷ l) a = (after l a.0, row_ascends g l a.1)
  where
    after : (m : List ℕ) → All (λ j. k < j) m → All (PairBefore (g, suc k)) (map (λ (k : ℕ). (g, suc k)) m)
    after [] b = tt
    after (j ∷ m) b = (inr (refl, omega (arith, b.0)), after m b.1)

from_ascends : (w g : ℕ) (x : List ℕ) → Sorted PairBefore (pairs_from w g x)
from_ascends w g [] = rw (from_nil w g) tt
from_ascends w g (a ∷ x) =
    rw (from_cons w g a x)
    (Sorted_append PairBefore here (pairs_from w (suc g) x) (row_ascends g (select (bit a) w) (select_ascends (bit a) w)) (from_ascends w (suc g) x)
    (All_of (λ (p : Pair). All (PairBefore p) (pairs_from w (suc g) x)) here
    (λ p m. All_of (PairBefore p) (pairs_from w (suc g) x) (λ q j. cross p q m (from_place w (suc g) x q j)))))
  where
    here : List Pair
    here = map (λ (k : ℕ). (g, suc k)) (select (bit a) w)

    cross : (p q : Pair) → Memᴰ p here → PlaceOf w (suc g) x q → PairBefore p q
    cross p q m r = inl (omega (arith, ap (λ (q : Pair). q.0) (of_row w g a p m).1, r.gauge))

pub pairs_listed : (w : ℕ) (x : List ℕ) → Cases w x → PairList x (pairs w x)
pairs_listed w x h = record { ascends = from_ascends w 1 x; members = λ p. (into p, onto p) }
  where
    into : (p : Pair) → Memᴰ p (pairs w x) → Has x p.0 p.1
    into p m = at (from_place w 1 x p m)
      where
        at : PlaceOf w 1 x p → Has x p.0 p.1
        at r = let e : suc r.index ≡ p.0 = omega (arith, r.gauge) in subst₂ (Has x) e (sym r.case) (place_has x r.index r.place r.set)

    onto : (p : Pair) → Has x p.0 p.1 → Memᴰ p (pairs w x)
    onto p t =
        by_place_lem x (λ g c. Memᴰ (g, c) (pairs w x))
        (λ i k b. let e : suc i ≡ 1 + i = omega arith in rw e (place_from w 1 x i k (h i k b) b)) p.0 p.1 t

pub pair_list_unique : (x : List ℕ) (ps qs : List Pair) → PairList x ps → PairList x qs → ps ≡ qs
pair_list_unique x ps qs a b =
    sorted_unique PairBefore pair_irrefl pair_trans ps qs a.ascends b.ascends
    (λ p. (λ m. (b.members p).1 ((a.members p).0 m), λ m. (a.members p).1 ((b.members p).0 m)))
