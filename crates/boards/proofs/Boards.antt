-- The places of a table's board are its pairs, in order (`places-pairs`), so the search over the boards of the ladders is the search over the
-- ladders (`board-from`).
use mathlib.Core.Path.{◌≡◌, refl, sym, ap, ◌∙◌, subst}
use mathlib.Core.Logic.{inl, inr}
use mathlib.Core.List.Memᴰ
use mathlib.Core.List.{List, [], ◌∷◌, map, Memᴰ}
use Prim.Native.Nat.{ℕ, suc, ◌+◌, ◌-◌, ◌*◌, ◌/◌, ◌%◌, ◌≤◌, ◌<◌}
use native.Mathlib.Nat.{div-add-mod', mod-lt, zero-lt-suc}
use native.Mathlib.Decide.{dec_lt}
use native.Mathlib.Omega.{arith}
use lib.Dec.{T}
use lib.Bits.{and_le_r}
use lib.ListN.{length}
use Rattle.sets.specs.Sets.{bit, meet, ◌⊆◌}
use Rattle.sets.proofs.OnePlace.{none_in}
use Rattle.table.specs.Pairs.{row, Has, Within, Cases}
use Rattle.table.proofs.Places.{row_past, place_has, within_sub}
use Rattle.rules.specs.Sequences.{All, Sorted}
use Rattle.rules.proofs.Sequences.{Ascending, sorted_unique}
use Rattle.lists.specs.ByNumber.{pick_seq}
use Rattle.lists.specs.Lists.{SideList}
use Rattle.lists.proofs.Selecting.{mem_select, select_ascends}
use Rattle.pairs.specs.PairOrder.{Pair, holds, PairBefore, PairList, pairs}
use Rattle.pairs.proofs.Pairs.{pairs_listed, has_holds}
use Rattle.covers.specs.Searching.{search_from}
use Rattle.boards.specs.Boards.{board, place, places}
use Rattle.boards.proofs.Transfer.{mapped, Agrees, from_map}
use Rattle.boards.proofs.Bits.{Small, bit-board}

-- a set of pairs of a set of at most 8 cases
pub small_within : (r x : List ℕ) → Small r → Within r x → Small x
unfolding meet
small_within r x h w i =
    let s : row x i ⊆ row r i = within_sub r x w i in
    omega (arith, and_le_r (row x i) (row r i), s, h i)

-- ---- the places are the pairs, in order
-- a table of at most 8 by 8
pub record Fits8 (w : ℕ) (r : List ℕ) : Type 0 where
  pub rows : length r ≤ 8
  pub wide : w ≤ 8
  pub cases : Cases w r
  pub small : Small r

module _ (w : ℕ) (r : List ℕ) (t : Fits8 w r) where
  listed : PairList r (pairs w r)
  listed = pairs_listed w r t.cases

  -- the case of a pair is at most 8, and its gauge too
  record In8 (p : Pair) : Type 0 where
    gauge_low : 1 ≤ p.0
    gauge_high : p.0 ≤ 8
    case_low : 1 ≤ p.1
    case_high : p.1 ≤ 8

  in_8 : (p : Pair) → Has r p.0 p.1 → In8 p
  in_8 p h = record {
    gauge_low = h.gauge;
    gauge_high = go (dec_lt (p.0 - 1) (length r));
    case_low = h.case;
    case_high = omega (arith, t.cases (p.0 - 1) (p.1 - 1) h.set, t.wide, h.case);
  }
    where
      go : Dec (p.0 - 1 < length r) → p.0 ≤ 8
      go (yes l) = omega (arith, t.rows)
      go (no l) = absurd (subst T (none_in (p.1 - 1)) (subst (λ (a : ℕ). T (bit a (p.1 - 1))) (row_past r (p.0 - 1) (omega arith)) h.set))

  place_order : (p q : Pair) → In8 p → In8 q → PairBefore p q → place p < place q
  place_order p q a b (inl h) = omega (arith, a, b)
  place_order p q a b (inr h) = omega (arith, a, b, h.0, h.1)

  places_ascend : (ps : List Pair) → ((p : Pair) → Memᴰ p ps → In8 p) → Sorted PairBefore ps → Ascending (map place ps)
  places_ascend [] h s = tt
  places_ascend (p ∷ ps) h s = (after ps (λ q m. h q (Memᴰ.tail m)) s.0, places_ascend ps (λ q m. h q (Memᴰ.tail m)) s.1)
    where
      after : (qs : List Pair) → ((q : Pair) → Memᴰ q qs → In8 q) → All (PairBefore p) qs → All (λ j. place p < j) (map place qs)
      after [] k b = tt
      after (q ∷ qs) k b = (place_order p q (h p (Memᴰ.head refl)) (k q (Memᴰ.head refl)) b.0, after qs (λ a m. k a (Memᴰ.tail m)) b.1)

  -- the bit of a place is that of the pair, in every set of pairs of r
  bit-place : (x : List ℕ) → Small x → (p : Pair) → Has r p.0 p.1 → bit (board x) (place p) ≡ holds x p
  unfolding holds
  bit-place x h p k = bit-board x h (p.0 - 1) (p.1 - 1) (let a = in_8 p k in omega (arith, a))

  pub places-pairs : places (board r) ≡ map place (pairs w r)
  places-pairs =
      sorted_unique ◌<◌ (λ a h. omega arith) (λ a b c h k. omega arith) (places (board r)) (map place (pairs w r)) (select_ascends (bit (board r)) 64)
      (places_ascend (pairs w r) (λ p m. in_8 p ((listed.members p).0 m)) listed.ascends) (λ j. (into j, onto j))
    where
      into : (j : ℕ) → Memᴰ j (places (board r)) → Memᴰ j (map place (pairs w r))
      into j m = Memᴰ.cast at (Memᴰ.map place ((listed.members (suc (j / 8), suc (j % 8))).1 (place_has r (j / 8) (j % 8) bit_at)))
        where
          split : 8 * (j / 8) + j % 8 ≡ j
          split = omega (arith, div-add-mod' j 8)

          at : j ≡ place (suc (j / 8), suc (j % 8))
          at = omega (arith, div-add-mod' j 8)

          bit_at : T (bit (row r (j / 8)) (j % 8))
          bit_at = subst T (ap (bit (board r)) (sym split) ∙ bit-board r t.small (j / 8) (j % 8) (mod-lt j (zero-lt-suc 7)))
              ((mem_select (bit (board r)) 64 j).0 m).1

      onto : (j : ℕ) → Memᴰ j (map place (pairs w r)) → Memᴰ j (places (board r))
      onto j m =
          let k = Memᴰ.of_map place (pairs w r) m in
          let h : Has r k.0.0 k.0.1 = (listed.members k.0).0 k.1 in
          let a : In8 k.0 = in_8 k.0 h in
          Memᴰ.cast (sym k.2) ((mem_select (bit (board r)) 64 (place k.0)).1
          (omega (arith, a), subst T (sym (bit-place r t.small k.0 h)) (has_holds r k.0 h)))

  -- ---- the search over the numbers is the search over the sets
  module _ (ls : List (List ℕ)) (gl : SideList r pick_seq ls) where
    small-ladder : (l : List ℕ) → Memᴰ l ls → Small l
    small-ladder l m = small_within r l t.small ((gl.members l).0 m).within

    agrees : Agrees holds bit board place ls (pairs w r)
    agrees l m p j = bit-place l (small-ladder l m) p ((listed.members p).0 j)

    pub board-from : (k n : ℕ) → search_from bit (map board ls) (places (board r)) k n ≡ mapped board (search_from holds ls (pairs w r) k n)
    board-from k n =
        ap (λ (left : List ℕ). search_from bit (map board ls) left k n) places-pairs ∙ from_map holds bit board place ls (pairs w r) agrees k n
