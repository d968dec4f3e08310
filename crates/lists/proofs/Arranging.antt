-- Rows in the order of a preference, and back: what each row is, that one undoes the other (`unarrange-arrange`,
-- `arrange-unarrange`), and that inclusion, chains and maximal chains are kept (`arrange_maximal`,
-- `unarrange_maximal`). The first two of these hold of any rows that are moved about, so they are proved once for
-- both ways (`Moves`). "The arrangement 1, 2, 3 and on" changes nothing (`arrange-plain`).
use mathlib.Core.Path.{◌≡◌, refl, sym, ap, ◌∙◌, subst}
use mathlib.Core.Logic.{inl, inr}
use mathlib.Core.List.{List, [], ◌∷◌, map}
use Prim.Native.Nat.{ℕ, zero, suc, ◌<◌}
use native.Mathlib.Nat.{not-suc-le-zero, le_of_suc-le-suc}
use native.Mathlib.Decide.{dec_lt}
use native.Mathlib.Omega.{arith}
use lib.ListN.{length, get_or, length-map}
use lib.Seq.{ext_get_or}
use Rattle.sets.specs.Sets.{◌⊆◌}
use Rattle.sets.proofs.Order.{zero_sub}
use Rattle.sets.proofs.Tabulated.{length-tabulate, get_or-tabulate}
use Rattle.table.specs.Pairs.{row, Within}
use Rattle.table.specs.Chains.{IsChain, IsMaximal}
use Rattle.table.proofs.Places.{row_past, within_sub, sub_within}
use Rattle.table.proofs.Nesting.{Nested, chain_nested, nested_chain}
use Rattle.lists.specs.Arrangements.{IsArrangement, place_of, plain}
use Rattle.lists.specs.private.Arranging.{index_at, arrange, unarrange}
use Rattle.lists.proofs.Standing.{index_place, place_below, index_below, place_index, length-plain, index_plain}

pub get_or-map : (f : ℕ → ℕ) (l : List ℕ) (i : ℕ) → i < length l → get_or (map f l) i 0 ≡ f (get_or l i 0)
get_or-map f [] i h = absurd (not-suc-le-zero h)
get_or-map f (x ∷ l) zero h = refl
get_or-map f (x ∷ l) (suc i) h = get_or-map f l i (le_of_suc-le-suc h)

-- ---- rows moved about: of every set, row i of what f makes of it is the set's row `from i`, for n rows
pub record Moves (n : ℕ) (f : List ℕ → List ℕ) (from : ℕ → ℕ) : Type 0 where
  pub size : (x : List ℕ) → length (f x) ≡ n
  pub at : (x : List ℕ) (i : ℕ) → i < n → row (f x) i ≡ row x (from i)

module _ (n : ℕ) (f : List ℕ → List ℕ) (from : ℕ → ℕ) (m : Moves n f from) where
  past : (x : List ℕ) (i : ℕ) → ¬ (i < n) → row (f x) i ≡ 0
  past x i l = row_past (f x) i (omega (arith, m.size x))

  moved_within : (r x : List ℕ) → Within r x → Within (f r) (f x)
  moved_within r x w = sub_within (f r) (f x) (m.size x ∙ sym (m.size r)) (λ i. go i (dec_lt i n))
    where
      go : (i : ℕ) → Dec (i < n) → row (f x) i ⊆ row (f r) i
      go i (yes l) = rw (m.at x i l, m.at r i l) (within_sub r x w (from i))
      go i (no l) = subst (λ (y : ℕ). y ⊆ row (f r) i) (sym (past x i l)) (zero_sub (row (f r) i))

  moved_chain : (x : List ℕ) → IsChain x → IsChain (f x)
  moved_chain x c = nested_chain (f x) (λ i j. go i j (dec_lt i n) (dec_lt j n))
    where
      go : (i j : ℕ) → Dec (i < n) → Dec (j < n) → Nested (row (f x) i) (row (f x) j)
      go i j (yes l) (yes k) = rw (m.at x i l, m.at x j k) (chain_nested x c (from i) (from j))
      go i j (no l) d = inl (subst (λ (y : ℕ). y ⊆ row (f x) j) (sym (past x i l)) (zero_sub (row (f x) j)))
      go i j (yes l) (no k) = inr (subst (λ (y : ℕ). y ⊆ row (f x) i) (sym (past x j k)) (zero_sub (row (f x) i)))

-- maximal chains are moved to maximal chains, where another move undoes it
module _ (n : ℕ) (f g : List ℕ → List ℕ) (from to : ℕ → ℕ) (m : Moves n f from) (k : Moves n g to) (there : (y : List ℕ) → length y ≡ n → f (g y) ≡ y)
    (back : (x : List ℕ) → length x ≡ n → g (f x) ≡ x) where
  moved_maximal : (r x : List ℕ) → length r ≡ n → IsMaximal r x → IsMaximal (f r) (f x)
  moved_maximal r x e h = record {
    within = moved_within n f from m r x h.within;
    chain = moved_chain n f from m x h.chain;
    largest = λ s v c q.
        sym (there s (v.size ∙ m.size r))
        ∙ ap f (h.largest (g s)
        (subst (λ (z : List ℕ). Within z (g s)) (back r e) (moved_within n g to k (f r) s v))
        (moved_chain n g to k s c)
        (subst (Within (g s)) (back x (h.within.size ∙ e)) (moved_within n g to k s (f x) q)));
  }

module _ (n : ℕ) (o : List ℕ) (a : IsArrangement n o) where
  -- ---- what each row is
  pub arrange_moves : Moves n (arrange o) (index_at o)
  unfolding arrange
  arrange_moves = record { size = λ x. length-map o (row x) ∙ a.size; at = λ x i l. get_or-map (row x) o i (omega (arith, a.size)) }

  pub unarrange_moves : Moves n (unarrange o) (place_of o)
  unfolding unarrange
  unarrange_moves = record {
    size = λ y. length-tabulate (λ i. row y (place_of o i)) (length o) ∙ a.size;
    at = λ y i l. get_or-tabulate (λ i. row y (place_of o i)) (length o) i (omega (arith, a.size));
  }

  pub length-arrange : (x : List ℕ) → length (arrange o x) ≡ n
  length-arrange x = arrange_moves.size x

  -- row i is at its place
  row_place : (x : List ℕ) (i : ℕ) → i < n → row (arrange o x) (place_of o i) ≡ row x i
  row_place x i l = arrange_moves.at x (place_of o i) (place_below n o a i l) ∙ ap (row x) (index_place n o a i l)

  -- ---- one undoes the other
  pub unarrange-arrange : (x : List ℕ) → length x ≡ n → unarrange o (arrange o x) ≡ x
  unarrange-arrange x e =
      ext_get_or 0 (unarrange o (arrange o x)) x (unarrange_moves.size (arrange o x) ∙ sym e)
      (λ i l.
      let k : i < n = omega (arith, unarrange_moves.size (arrange o x)) in
      unarrange_moves.at (arrange o x) i k ∙ row_place x i k)

  pub arrange-unarrange : (y : List ℕ) → length y ≡ n → arrange o (unarrange o y) ≡ y
  arrange-unarrange y e =
      ext_get_or 0 (arrange o (unarrange o y)) y (arrange_moves.size (unarrange o y) ∙ sym e)
      (λ i l.
      let k : i < n = omega (arith, arrange_moves.size (unarrange o y)) in
      arrange_moves.at (unarrange o y) i k ∙ unarrange_moves.at y (index_at o i) (index_below n o a i k) ∙ ap (row y) (place_index n o a i k))

  -- ---- chains and maximal chains
  pub arrange_within : (r x : List ℕ) → Within r x → Within (arrange o r) (arrange o x)
  arrange_within = moved_within n (arrange o) (index_at o) arrange_moves

  pub unarrange_within : (r x : List ℕ) → Within r x → Within (unarrange o r) (unarrange o x)
  unarrange_within = moved_within n (unarrange o) (place_of o) unarrange_moves

  pub arrange_chain : (x : List ℕ) → IsChain x → IsChain (arrange o x)
  arrange_chain = moved_chain n (arrange o) (index_at o) arrange_moves

  pub arrange_maximal : (r x : List ℕ) → length r ≡ n → IsMaximal r x → IsMaximal (arrange o r) (arrange o x)
  arrange_maximal = moved_maximal n (arrange o) (unarrange o) (index_at o) (place_of o) arrange_moves unarrange_moves arrange-unarrange unarrange-arrange

  pub unarrange_maximal : (r y : List ℕ) → length r ≡ n → IsMaximal (arrange o r) y → IsMaximal r (unarrange o y)
  unarrange_maximal r y e h =
      subst (λ (z : List ℕ). IsMaximal z (unarrange o y)) (unarrange-arrange r e)
      (moved_maximal n (unarrange o) (arrange o) (place_of o) (index_at o) unarrange_moves arrange_moves unarrange-arrange arrange-unarrange (arrange o r) y
      (length-arrange r) h)

pub arrange-plain : (n : ℕ) (x : List ℕ) → length x ≡ n → arrange (plain n) x ≡ x
unfolding arrange
arrange-plain n x e =
    ext_get_or 0 (map (row x) (plain n)) x (length-map (plain n) (row x) ∙ length-plain n ∙ sym e)
    (λ i l.
    let k : i < n = omega (arith, length-map (plain n) (row x), length-plain n) in
    get_or-map (row x) (plain n) i (omega (arith, length-plain n)) ∙ ap (row x) (index_plain n i k))
