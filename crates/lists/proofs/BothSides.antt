-- The two sides of one table. A side is fair where its own rows' maximal chains are the table's, each seen through the side and given back.
--
-- In order: the gauge side and the case side of a legal table are fair (`gauge_fair`, `case_fair`); the list of a fair side exists (`side_list_lem`),
-- every list of a legal table has at most (min G L)! members (`list_few`).
--
-- Elsewhere: no other list is, `list_unique` in Listed.antt.
use mathlib.Core.Path.{◌≡◌, refl, sym, ◌∙◌, subst}
use mathlib.Core.List.Memᴰ
use mathlib.Core.List.{List, [], ◌∷◌, map, map-map, Memᴰ}
use Prim.Native.Nat.{ℕ, ◌≤◌, min}
use native.Mathlib.Nat.{min-eq_left, min-eq_right}
use native.Mathlib.Decide.{dec_le}
use native.Mathlib.Omega.{arith}
use lib.ListN.{length, length-map}
use Rattle.table.specs.declared.Table.{Table}
use Rattle.table.specs.Chains.{IsMaximal}
use Rattle.table.specs.Pairs.{Cases}
use Rattle.transpose.specs.Transposing.{transpose}
use Rattle.table.specs.Tables.{Legal, table_rows}
use Rattle.transpose.proofs.Transposition.{length-transpose, cases_transpose, cases_within, transpose_twice, maximal_transpose}
use Rattle.table.proofs.Legality.{length_rows, legal_cases}
use Rattle.rules.specs.Sequences.{All, Sorted, factorial}
use Rattle.rules.proofs.Sequences.{All_of}
use Rattle.lists.specs.ByNumber.{ComesBefore}
use Rattle.lists.specs.Lists.{Earlier, SideList, Side, gauge_side, case_side}
use Rattle.lists.specs.ByNumber.{sequence_of}
use Rattle.lists.specs.OnTable.{chain_of, hand_out}
use Rattle.lists.proofs.Listed.{picks_in_order, chains_in_order, listed, lists_length, gauge_list, leaves_few}

pub record Fair (t : Table) (s : Side) : Type 0 where
  pub counted : length s.rows ≡ s.count
  pub over : (x : List ℕ) → IsMaximal (table_rows t) x → IsMaximal s.rows (s.view x) × (s.by_gauges (s.view x) ≡ x)
  pub home : (y : List ℕ) → IsMaximal s.rows y → IsMaximal (table_rows t) (s.by_gauges y) × (s.view (s.by_gauges y) ≡ y)

pub gauge_fair : (t : Table) → Legal t → Fair t (gauge_side t)
gauge_fair t l = record { counted = length_rows t l; over = λ x m. (m, refl); home = λ y m. (m, refl) }

-- a maximal chain of one side, transposed, is one of the other side, and transposing it back gives it again
module _ (w n : ℕ) (r : List ℕ) (h : Cases w r) (e : length r ≡ n) where
  exchanged_over : (x : List ℕ) → IsMaximal r x → IsMaximal (transpose w r) (transpose w x) × (transpose n (transpose w x) ≡ x)
  exchanged_over x m = (maximal_transpose w r x h m, transpose_twice n w x (m.within.size ∙ e) (cases_within w r x h m.within))

  other : Cases n (transpose w r)
  other = subst (λ (k : ℕ). Cases k (transpose w r)) e (cases_transpose w r h)

  exchanged_home : (y : List ℕ) → IsMaximal (transpose w r) y → IsMaximal r (transpose n y) × (transpose w (transpose n y) ≡ y)
  exchanged_home y m = (
    subst (λ (z : List ℕ). IsMaximal z (transpose n y)) (transpose_twice n w r e h) (maximal_transpose n (transpose w r) y other m),
    transpose_twice w n y (m.within.size ∙ length-transpose w r) (cases_within n (transpose w r) y other m.within),
  )

pub case_fair : (t : Table) → Legal t → Fair t (case_side t)
case_fair t l = record {
  counted = length-transpose t.cases (table_rows t);
  over = exchanged_over t.cases t.gauges (table_rows t) (legal_cases t l) (length_rows t l);
  home = exchanged_home t.cases t.gauges (table_rows t) (legal_cases t l) (length_rows t l);
}

-- ---- the list of a side
-- a list that ascends, mapped by f, ascends by what u takes back
sorted_back : (q : List ℕ → List ℕ → Type 0) (f u : List ℕ → List ℕ) (l : List (List ℕ)) → All (λ (a : List ℕ). u (f a) ≡ a) l → Sorted q l
    → Sorted (λ (x y : List ℕ). q (u x) (u y)) (map f l)
sorted_back q f u [] h s = tt
sorted_back q f u (a ∷ l) h s = (after l h.1 s.0, sorted_back q f u l h.1 s.1)
  where
    after : (m : List (List ℕ)) → All (λ (b : List ℕ). u (f b) ≡ b) m → All (q a) m → All (λ (y : List ℕ). q (u (f a)) (u y)) (map f m)
    after [] k t = tt
    after (b ∷ m) k t = (rw (h.0, k.0) t.0, after m k.1 t.1)

module _ (t : Table) (s : Side) (f : Fair t s) where
  -- the sets that the side's run hands out for the leaves, in order
  abbrev pub side_list : List (List ℕ)
  side_list = map (hand_out s) (picks_in_order s.rows)

  pub side_list_lem : SideList (table_rows t) (sequence_of s) side_list
  side_list_lem =
      subst (SideList (table_rows t) (sequence_of s)) (map-map s.by_gauges (chain_of s.rows) (picks_in_order s.rows))
      (listed (map s.by_gauges own) (λ x. (into x, onto x)) ascends)
    where
      own : List (List ℕ)
      own = chains_in_order s.rows

      own-maximal : (y : List ℕ) → Memᴰ y own → IsMaximal s.rows y
      own-maximal y m = ((gauge_list s.rows).members y).0 m

      into : (x : List ℕ) → Memᴰ x (map s.by_gauges own) → IsMaximal (table_rows t) x
      into x m = let z = Memᴰ.of_map s.by_gauges own m in subst (IsMaximal (table_rows t)) z.2 (f.home z.0 (own-maximal z.0 z.1)).0

      onto : (x : List ℕ) → IsMaximal (table_rows t) x → Memᴰ x (map s.by_gauges own)
      onto x m = Memᴰ.cast (sym (f.over x m).1) (Memᴰ.map s.by_gauges (((gauge_list s.rows).members (s.view x)).1 (f.over x m).0))

      ascends : Sorted (Earlier (sequence_of s)) (map s.by_gauges own)
      ascends =
          sorted_back ComesBefore s.by_gauges s.view own (All_of (λ (y : List ℕ). s.view (s.by_gauges y) ≡ y) own (λ y m. (f.home y (own-maximal y m)).1))
          (gauge_list s.rows).ascends

  -- no list of the table is longer than there are orders of what the side can pick
  few_by : {key : List ℕ → List ℕ} (xs : List (List ℕ)) → SideList (table_rows t) key xs → length xs ≤ factorial s.count
  few_by xs a =
      let n : length xs ≡ length (picks_in_order s.rows) = lists_length xs side_list a side_list_lem ∙ length-map (picks_in_order s.rows) (hand_out s) in
      subst (λ (k : ℕ). length xs ≤ factorial k) f.counted (rw n (leaves_few s.rows))

min-factorial : (k a b : ℕ) → k ≤ factorial a → k ≤ factorial b → k ≤ factorial (min a b)
min-factorial k a b h l = go (dec_le a b)
  where
    go : Dec (a ≤ b) → k ≤ factorial (min a b)
    go (yes e) = rw (min-eq_left e) h
    go (no e) = let d : b ≤ a = omega arith in rw (min-eq_right d) l

pub list_few : (t : Table) → Legal t → {key : List ℕ → List ℕ} (xs : List (List ℕ)) → SideList (table_rows t) key xs
    → length xs ≤ factorial (min t.gauges t.cases)
list_few t l xs a = min-factorial (length xs) t.gauges t.cases (few_by t (gauge_side t) (gauge_fair t l) xs a) (few_by t (case_side t) (case_fair t l) xs a)
