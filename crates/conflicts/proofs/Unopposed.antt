-- A maximal chain holds every pair of the table that has no conflict in it (`unopposed_held`; Lemma 4 of source document 003). Let the pair
-- be case k of row i. The rows of the chain that are not within row i of the table, and row i itself, are to be raised by the cases
-- common to their table rows. Every other row lies within those cases, so the rows stay nested; no conflict, so k is one of those cases; and
-- the chain is maximal, so it had them before.
use mathlib.Core.Path.{◌≡◌, refl, sym, ◌∙◌, subst}
use mathlib.Core.Logic.{◌⊎◌, inl, inr}
use mathlib.Core.Bool.{Bool, not, ◌||◌, cond}
use mathlib.Core.List.{List, [], ◌∷◌, Memᴰ}
use Prim.Native.Nat.{ℕ, ◌<◌}
use native.Mathlib.Decide.{dec_lt}
use native.Mathlib.Omega.{arith}
use lib.Dec.{T, T_not, eqb, eqb→eq, eqb_refl}
use lib.ListN.{length}
use Rattle.sets.specs.Sets.{bit, meet, join, ◌⊆◌, is_subset}
use Rattle.sets.specs.Lists.{tabulate}
use Rattle.sets.proofs.Tests.{test, and_i, or_l, or_r, or_e, is_true, is_false}
use Rattle.sets.proofs.Order.{Breaks, sub_or, sub_bit, bits_sub, bit-meet, sub_refl, sub_trans, sub_zero, meet_right, subset_is, is_subset_lem}
use Rattle.sets.proofs.Joins.{join_left, join_right, join_lub}
use Rattle.sets.proofs.Tabulated.{length-tabulate, get_or-tabulate}
use Rattle.table.specs.Pairs.{row}
use Rattle.table.specs.Chains.{IsMaximal}
use Rattle.table.proofs.Places.{row_past, within_sub, sub_within}
use Rattle.table.proofs.Nesting.{Nested, chain_nested, nested_chain}
use Rattle.lists.specs.Picks.{common, select}
use Rattle.lists.proofs.Remainders.{common_sub}
use Rattle.lists.proofs.Selecting.{mem_select}
use Rattle.conflicts.proofs.Searching.{row_below}

-- ---- the cases of a set that are common to some rows
module _ (r : List ℕ) where
  common-row : (p : List ℕ) (x g : ℕ) → Memᴰ g p → common r p x ⊆ row r g
  unfolding common
  common-row [] x g m = elim m [ ]
  common-row (h ∷ p) x g (Memᴰ.head e) =
      rw e (sub_trans (common r p (meet x (row r h))) (meet x (row r h)) (row r h) (common_sub r p (meet x (row r h))) (meet_right x (row r h)))
  common-row (h ∷ p) x g (Memᴰ.tail m) = common-row p (meet x (row r h)) g m

  common-bit : (p : List ℕ) (x k : ℕ) → T (bit x k) → ((g : ℕ) → Memᴰ g p → T (bit (row r g) k)) → T (bit (common r p x) k)
  unfolding common
  common-bit [] x k t f = t
  common-bit (h ∷ p) x k t f =
      common-bit p (meet x (row r h)) k (rw (bit-meet x (row r h) k) (and_i (bit x k) (bit (row r h) k) t (f h (Memᴰ.head refl))))
      (λ g m. f g (Memᴰ.tail m))

join_mono : (a b z : ℕ) → a ⊆ b → join a z ⊆ join b z
join_mono a b z h = join_lub a z (join b z) (sub_trans a b (join b z) h (join_left b z)) (join_right b z)

nested_join : (a b z : ℕ) → Nested a b → Nested (join a z) (join b z)
nested_join a b z (inl h) = inl (join_mono a b z h)
nested_join a b z (inr h) = inr (join_mono b a z h)

module _ (r m : List ℕ) (mx : IsMaximal r m) (i k : ℕ) (t : T (bit (row r i) k))
    (unopposed : (j l : ℕ) → T (bit (row m j) l) → T (bit (row r i) l) ⊎ T (bit (row r j) k)) where
  -- the rows that are raised
  raised : ℕ → Bool
  raised j = eqb j i || not (is_subset (row m j) (row r i))

  -- by what
  Z : ℕ
  Z = common r (select raised (length r)) (row r i)

  new : ℕ → ℕ
  new j = cond (raised j) (join (row m j) Z) (row m j)

  new_yes : (j : ℕ) → T (raised j) → new j ≡ join (row m j) Z
  unfolding new
  new_yes j u = rw (is_true (raised j) u)

  new_no : (j : ℕ) → T (not (raised j)) → new j ≡ row m j
  unfolding new
  new_no j u = rw (is_false (raised j) u)

  inside : (j : ℕ) → row m j ⊆ row r j
  inside j = within_sub r m mx.within j

  nested : (a b : ℕ) → Nested (row m a) (row m b)
  nested a b = chain_nested m mx.chain a b

  raised_i : T (raised i)
  unfolding raised
  raised_i = or_l (eqb i i) (not (is_subset (row m i) (row r i))) (eqb_refl i)

  -- a row that is raised is row i, or has a case that row i lacks
  raised_why : (j : ℕ) → T (raised j) → (j ≡ i) ⊎ Breaks (row m j) (row r i)
  unfolding raised
  raised_why j u = go (or_e (eqb j i) (not (is_subset (row m j) (row r i))) u)
    where
      pick : T (not (is_subset (row m j) (row r i))) → (row m j ⊆ row r i) ⊎ Breaks (row m j) (row r i) → (j ≡ i) ⊎ Breaks (row m j) (row r i)
      pick v (inl s) = absurd (T_not (is_subset (row m j) (row r i)) v (rw (is_subset_lem (row m j) (row r i) s) tt))
      pick v (inr b) = inr b

      go : T (eqb j i) ⊎ T (not (is_subset (row m j) (row r i))) → (j ≡ i) ⊎ Breaks (row m j) (row r i)
      go (inl e) = inl (eqb→eq j i e)
      go (inr v) = pick v (sub_or (row m j) (row r i))

  low : (j : ℕ) → T (not (raised j)) → row m j ⊆ row r i
  unfolding raised
  low j u = go (test (is_subset (row m j) (row r i)))
    where
      go : T (is_subset (row m j) (row r i)) ⊎ T (not (is_subset (row m j) (row r i))) → row m j ⊆ row r i
      go (inl v) = subset_is (row m j) (row r i) (is_true (is_subset (row m j) (row r i)) v)
      go (inr v) = absurd (T_not (raised j) u (or_r (eqb j i) (not (is_subset (row m j) (row r i))) v))

  -- a raised row is one of the table's
  raised_row : (j : ℕ) → T (raised j) → Memᴰ j (select raised (length r))
  unfolding Breaks
  raised_row j u = (mem_select raised (length r) j).1 (go (raised_why j u), u)
    where
      go : (j ≡ i) ⊎ Breaks (row m j) (row r i) → j < length r
      go (inl e) = omega (arith, row_below r i k t)
      go (inr b) = omega (arith, row_below m j b.0 b.1, mx.within.size)

  Z_row : (j : ℕ) → T (raised j) → Z ⊆ row r j
  unfolding Z
  Z_row j u = common-row r (select raised (length r)) (row r i) j (raised_row j u)

  -- a case of Z: one of row i, and of each row with a case that row i lacks
  Z_bit : (l : ℕ) → T (bit (row r i) l) → ((j : ℕ) → Breaks (row m j) (row r i) → T (bit (row r j) l)) → T (bit Z l)
  unfolding Z
  Z_bit l u f = common-bit r (select raised (length r)) (row r i) l u (λ j v. go j (raised_why j ((mem_select raised (length r) j).0 v).1))
    where
      go : (j : ℕ) → (j ≡ i) ⊎ Breaks (row m j) (row r i) → T (bit (row r j) l)
      go j (inl e) = rw e u
      go j (inr b) = f j b

  -- k is one
  Z_k : T (bit Z k)
  unfolding Breaks
  Z_k = Z_bit k t (λ j b. go j b (unopposed j b.0 b.1))
    where
      go : (j : ℕ) (b : Breaks (row m j) (row r i)) → T (bit (row r i) b.0) ⊎ T (bit (row r j) k) → T (bit (row r j) k)
      go j b (inl u) = absurd (T_not (bit (row r i) b.0) b.2 u)
      go j b (inr u) = u

  -- and so are all of a row that is not raised
  low_Z : (j : ℕ) → T (not (raised j)) → row m j ⊆ Z
  unfolding Breaks
  low_Z j u = bits_sub (row m j) Z (λ l v. Z_bit l (sub_bit (row m j) (row r i) l (low j u) v) (λ h b. go h b l v (nested j h)))
    where
      go : (h : ℕ) → Breaks (row m h) (row r i) → (l : ℕ) → T (bit (row m j) l) → Nested (row m j) (row m h) → T (bit (row r h) l)
      go h b l v (inl s) = sub_bit (row m h) (row r h) l (inside h) (sub_bit (row m j) (row m h) l s v)
      go h b l v (inr s) =
          absurd (T_not (bit (row r i) b.0) b.2 (sub_bit (row m h) (row r i) b.0 (sub_trans (row m h) (row m j) (row r i) s (low j u)) b.1))

  -- ---- the raised chain
  new_inside : (j : ℕ) → new j ⊆ row r j
  new_inside j = go (test (raised j))
    where
      go : T (raised j) ⊎ T (not (raised j)) → new j ⊆ row r j
      go (inl u) = rw (new_yes j u) (join_lub (row m j) Z (row r j) (inside j) (Z_row j u))
      go (inr u) = rw (new_no j u) (inside j)

  new_above : (j : ℕ) → row m j ⊆ new j
  new_above j = go (test (raised j))
    where
      go : T (raised j) ⊎ T (not (raised j)) → row m j ⊆ new j
      go (inl u) = rw (new_yes j u) (join_left (row m j) Z)
      go (inr u) = rw (new_no j u) (sub_refl (row m j))

  new_nested : (a b : ℕ) → Nested (new a) (new b)
  new_nested a b = go (test (raised a)) (test (raised b))
    where
      under : (a b : ℕ) → T (not (raised a)) → T (raised b) → new a ⊆ new b
      under a b u v = rw (new_no a u, new_yes b v) (sub_trans (row m a) Z (join (row m b) Z) (low_Z a u) (join_right (row m b) Z))

      go : T (raised a) ⊎ T (not (raised a)) → T (raised b) ⊎ T (not (raised b)) → Nested (new a) (new b)
      go (inl u) (inl v) = rw (new_yes a u, new_yes b v) (nested_join (row m a) (row m b) Z (nested a b))
      go (inl u) (inr v) = inr (under b a v u)
      go (inr u) (inl v) = inl (under a b u v)
      go (inr u) (inr v) = rw (new_no a u, new_no b v) (nested a b)

  raise : List ℕ
  raise = tabulate new (length r)

  row_raise : (j : ℕ) → row raise j ≡ new j
  unfolding raise
  row_raise j = go (dec_lt j (length r))
    where
      go : Dec (j < length r) → row (tabulate new (length r)) j ≡ new j
      go (yes l) = get_or-tabulate new (length r) j l
      go (no l) =
          row_past (tabulate new (length r)) j (omega (arith, length-tabulate new (length r)))
          ∙ sym (sub_zero (new j) (rw (← row_past r j (omega arith)) (new_inside j)))

  same : raise ≡ m
  unfolding raise
  same = mx.largest raise
      (sub_within r raise (length-tabulate new (length r)) (λ j. rw (row_raise j) (new_inside j)))
      (nested_chain raise (λ a b. rw (row_raise a, row_raise b) (new_nested a b)))
      (sub_within raise m (mx.within.size ∙ sym (length-tabulate new (length r))) (λ j. rw (row_raise j) (new_above j)))

  pub unopposed_held : T (bit (row m i) k)
  unopposed_held =
      subst (λ (x : List ℕ). T (bit (row x i) k)) same
      (rw (row_raise i, new_yes i raised_i) (sub_bit Z (join (row m i) Z) k (join_right (row m i) Z) Z_k))
