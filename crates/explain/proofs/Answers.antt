-- What the entries answer, for either side: the checks, of the value and then of the pair (`asks_refused`,
-- `asks_pair`), and an answer that they refuse (`refused-explained`); of a value that passes, the picks are numbers
-- of rows (`numbers`); the answer that the search gives (`named-explained`), and the claim of R-6 beside it
-- (`has_reasons`). What differs between the sides goes by their mark (`side_sees`, `own_is`, `rows_few`,
-- `turned_rows`, `given_rows`). Last, one answer
-- (`explained_unique`), for every value (`explained_made`), and no two answers of the code read alike.
use Rattle.std.specs.Prelude.{Result, Ok, Err}
use Rattle.refusals.specs.declared.Refusal.{Refusal}
use mathlib.Core.Path.{◌≡◌, refl, sym, ap, ap₂, ◌∙◌, subst}
use mathlib.Core.Logic.{⊎_elim, ◌↔◌}
use mathlib.Core.Bool.{Bool, true, false, cond}
use mathlib.Core.List.Memᴰ
use mathlib.Core.List.{List, [], ◌∷◌, ◌++◌, map, Memᴰ}
use Prim.Native.Nat.{ℕ, zero, suc, ◌-◌, ◌≤◌, ◌<◌, min}
use native.Mathlib.Decide.{ℕ_discrete, dec_le}
use native.Mathlib.Omega.{arith}
use lib.Dec.{T, not_T}
use lib.ListN.{length, get_or, take}
use lib.Seq.{get_or-take, length-take-le}
use borrow.Author.Tests.{ne_eqb}
use Rattle.sets.specs.Sets.{bit}
use Rattle.sets.proofs.Tests.{is_true, is_false}
use Rattle.table.specs.declared.Table.{Table}
use Rattle.table.specs.Pairs.{row, Has}
use Rattle.table.specs.Tables.{Legal, table_rows, table_refusal, padded}
use Rattle.table.proofs.Padding.{pad_get_or}
use Rattle.table.proofs.Legality.{length_rows}
use Rattle.transpose.specs.Transposing.{transpose}
use Rattle.transpose.specs.Places.{places}
use Rattle.transpose.proofs.Transposition.{length-transpose}
use Rattle.refusals.specs.Answers.{Answer, answer, number}
use Rattle.refusals.proofs.Answering.{named, named-number, number_pos}
use Rattle.rules.specs.Machine.{Handed, State, at}
use Rattle.lists.specs.Lists.{Side, gauge_side, case_side}
use Rattle.lists.specs.OnTable.{hand_out, ReachedOn}
use Rattle.conflicts.specs.Tests.{has_pair}
use Rattle.conflicts.proofs.Testing.{has_test}
use Rattle.conflicts.proofs.SamePairs.{table_pairs}
use Rattle.essentials.specs.Answers.{pair_refusal}
use Rattle.essentials.proofs.Answers.{pair-absent, pair-present}
use Rattle.preference.specs.Preferences.{preferred_refusal}
use Rattle.preference.proofs.Placing.{passes_both}
use Rattle.replay.proofs.Numbers.{length_numbers, get_or_numbers}
use Rattle.runs.specs.Paused.{Value, paused}
use Rattle.runs.specs.Calling.{arrangement, held, value_refusal, PausedAt}
use Rattle.runs.specs.Sides.{side_of, ChecksAt}
use Rattle.runs.specs.private.Working.{Works}
use Rattle.runs.proofs.Padding.{take-padded}
use Rattle.runs.proofs.Answered.{paused_state}
use Rattle.runs.proofs.Demands.{Starts}
use Rattle.runs.proofs.Readings.{gauge_own, case_own}
use Rattle.runs.proofs.Sides.{gauge_works, case_works}
use Rattle.runs.proofs.PhaseChecks.{never-at, passes_at, some_at}
use Rattle.table.specs.declared.Gauge.{Gauge}
use Rattle.table.specs.declared.Case.{Case}
use Rattle.explain.specs.Reasons.{Question, question_of, first_lacking, reason_refusal, no_pick, Explained, made_before, HasReasons, reason_of}
use Rattle.explain.specs.private.Asking.{own_of, AsksAt, RowsOf, kept_by, Numbered, row_has, found_in}
use Rattle.explain.proofs.Leaves.{LeavesFrom, Leaves, leaves_reached}
use Rattle.explain.proofs.Picks.{first_same, None, Found, search_before}
use Rattle.explain.proofs.Reasoning.{Sees, place, gauge_sees, case_sees, none_kept, lacking-out, reasoned}

stable : {P : Type 0} → Dec P → ((P → ⊥) → ⊥) → P
stable (yes p) n = p
stable (no p) n = absurd (n p)

-- ---- tests
-- the table's test of a pair, as the code asks it
pub has_is : (s : List ℕ) (g c : ℕ) → (has_pair s g c ≡ true) ↔ Has s g c
has_is s g c = (λ e. (has_test s g c).0 (subst T (sym e) tt), λ h. is_true (has_pair s g c) ((has_test s g c).1 h))

has_not : (s : List ℕ) (g c : ℕ) → (Has s g c → ⊥) → has_pair s g c ≡ false
has_not s g c n = is_false (has_pair s g c) (not_T (has_pair s g c) (λ t. n ((has_test s g c).0 t)))

-- two tests of one statement
pub same_test : (P : Type 0) (a b : Bool) → (a ≡ true) ↔ P → (b ≡ true) ↔ P → a ≡ b
same_test P true b f h = sym (h.1 (f.0 refl))
same_test P false true f h = f.1 (h.0 refl)
same_test P false false f h = refl

-- ---- the number for the pair
module _ (t : Table) (s : Side) (p : List ℕ) (g c : ℕ) where
  reason_pair : pair_refusal t g c ≡ 0 → (b : Bool) → has_pair (hand_out s p) g c ≡ b → reason_refusal t s p g c ≡ cond b 22 0
  unfolding reason_refusal
  reason_pair e b d = rw (e, d)

  reason_absent : pair_refusal t g c ≡ 19 → reason_refusal t s p g c ≡ 19
  unfolding reason_refusal
  reason_absent e = rw e

-- ---- picks of a ladder are indices of rows
module _ (rows : List ℕ) where
  leaf_at : (q p : List ℕ) → LeavesFrom rows q p → (i : ℕ) → i < length p → get_or p i 0 < length rows
  leaf_at q [] l i b = absurd (omega arith)
  leaf_at q (g ∷ p) l zero b = l.0
  leaf_at q (g ∷ p) l (suc i) b = leaf_at (q ++ (g ∷ [])) p l.1 i (omega arith)

  leaf_mem : (q p : List ℕ) → LeavesFrom rows q p → (j : ℕ) → Memᴰ j p → j < length rows
  leaf_mem q [] l j m = absurd (Memᴰ.not-nil m)
  leaf_mem q (g ∷ p) l j m =
      ⊎_elim (λ e. subst (λ (x : ℕ). x < length rows) (sym e) l.0) (leaf_mem (q ++ (g ∷ [])) p l.1 j) (Memᴰ.cases_cons m)

-- ---- the answers as records
kept_answer : (n m x w : ℕ) → n ≡ 22 → m ≡ 22 → x ≡ 0 → record { refusal = n; value = x } ≡ answer m w 0
kept_answer n m x w a b d = rw (a, b, d)

named_answer : (n m x w : ℕ) → n ≡ 0 → m ≡ 0 → w ≡ x → record { refusal = n; value = x } ≡ answer m w 0
named_answer n m x w a b d = rw (a, b, d)

-- ---- the rows of a side in an array
works_rows : (s : Side) (n : ℕ) (R : List ℕ) → Works s n R → RowsOf s R
works_rows s n R w = record {
  row_is = λ j l.
      sym (get_or-take n R j 0 (omega (arith, ap length w.rows_are, length-take-le n R (omega (arith, w.sized.few, w.sized.size)))))
      ∙ ap (λ (x : List ℕ). row x j) w.rows_are;
}

gauge_rows : (t : Table) → Legal t → RowsOf (gauge_side t) t.rows
gauge_rows t l = works_rows (gauge_side t) t.gauges t.rows (gauge_works t l)

case_rows : (t : Table) (R : List ℕ) → R ≡ padded (transpose (min t.cases 64) (places t.gauges t.rows)) → Legal t → RowsOf (case_side t) R
case_rows t R e l = works_rows (case_side t) t.cases R (case_works t l R e)

-- ---- by the mark of a side
pub side_sees : (b : Bool) (t : Table) → Legal t → (g c : ℕ) → 1 ≤ g → 1 ≤ c → Sees t (side_of b t) (question_of b t g c) g c (own_of b c g)
side_sees false t l g c = gauge_sees t l g c
side_sees true t l g c = case_sees t l g c

pub turned_rows : (b : Bool) (t : Table) → b ≡ true → (R : List ℕ) → R ≡ padded (transpose (min t.cases 64) (places t.gauges t.rows)) → Legal t → RowsOf (side_of b t) R
turned_rows b t e R d l = rw e (case_rows t R d l)

pub given_rows : (b : Bool) (t : Table) → b ≡ false → Legal t → RowsOf (side_of b t) t.rows
given_rows b t e l = rw e (gauge_rows t l)

pub own_is : (b : Bool) (t : Table) (g c : ℕ) → own_of b g c ≡ (question_of b t g c).own
own_is false t g c = refl
own_is true t g c = refl

pub rows_few : (b : Bool) (t : Table) → Legal t → length (side_of b t).rows ≤ 64
rows_few false t l = omega (arith, length_rows t l, l.gauges_high)
rows_few true t l = omega (arith, length-transpose t.cases (table_rows t), l.cases_high)

-- ---- the checks: a refusal of the value, and else the pair
pub asks_refused : (side : Table → Side) (v : Value) (b : Bool) (n : ℕ) → 0 < n → ChecksAt side v Handed n → AsksAt side v b n
asks_refused side v b n l c =
    record { table = c.table; value = c.value; stands = λ z p h. absurd (never-at side v Handed n c l z p h) }

pub asks_pair : (side : Table → Side) (v : Value) (b : Bool) (n : ℕ) → n ≡ cond b 0 19 → ChecksAt side v Handed 0 → AsksAt side v b n
asks_pair side v b n e c = record {
  table = λ y. absurd (omega (arith, passes_at side v Handed 0 c refl));
  value = λ z none. absurd (some_at side v Handed 0 c refl none);
  stands = λ z p h. e;
}

-- ---- a value of either side
module _ (side : Table → Side) (v : Value) (starts : Starts side v) where
  abbrev t : Table
  t = v.table

  abbrev Stands : List ℕ → Type 0
  Stands p = PausedAt side v (at p Handed)

  abbrev Passes : Type 0
  Passes = value_refusal side v ≡ 0

  table_passes : Passes → table_refusal t ≡ 0
  table_passes z = (passes_both t (side t).count v.order z).0

  leaf_of : Passes → (p : List ℕ) → Stands p → Leaves (side t).rows p
  leaf_of z p h = leaves_reached (side t) (held side v) (starts z).fair.counted (starts z).arranged p h.reached

  picks_are : (p : List ℕ) → Stands p → v.picks ≡ padded (map suc p)
  picks_are p h = ap (λ (y : Value). y.picks) h.stands

  count_is : (p : List ℕ) → Stands p → v.count ≡ length p
  count_is p h = ap (λ (y : Value). y.count) h.stands

  taken : (p : List ℕ) → Stands p → take v.count v.picks ≡ map suc p
  taken p h = ap (take v.count) (picks_are p h) ∙ take-padded (map suc p) v.count (count_is p h ∙ sym (length_numbers p))

  number_at : (p : List ℕ) → Stands p → (i : ℕ) → i < v.count → get_or v.picks i 0 ≡ suc (get_or p i 0)
  number_at p h i l =
      ap (λ (x : List ℕ). get_or x i 0) (picks_are p h) ∙ pad_get_or (map suc p) i ∙ get_or_numbers p i (omega (arith, count_is p h))

  module _ (g c : ℕ) (size : length t.rows ≡ 64) where
    -- ---- refusals
    pub refused-explained : (question : Table → ℕ → ℕ → Question) (n : ℕ) → 0 < n → AsksAt side v (has_pair t.rows g c) n
        → Explained side question v g c (no_pick n)
    refused-explained question n l a = record {
      table = λ y. ap no_pick (a.table y);
      value = λ z none. ap no_pick (a.value z none);
      pick = λ z p h. go z p (a.stands z p h) (has_pair t.rows g c) refl;
    }
      where
        go : Passes → (p : List ℕ) → n ≡ cond (has_pair t.rows g c) 0 19 → (b : Bool) → has_pair t.rows g c ≡ b
            → no_pick n ≡ answer (reason_refusal t (side t) p g c) (first_lacking (question t g c).meets (map suc p)) 0
        go z p e true d = let n0 : n ≡ 0 = e ∙ ap (λ (x : Bool). cond x 0 19) d in absurd (omega arith)
        go z p e false d =
            let n19 : n ≡ 19 = e ∙ ap (λ (x : Bool). cond x 0 19) d in
            let absent = sym (pair-absent t g c size (table_passes z) (has_pair t.rows g c) (has_is t.rows g c) d) in
            rw (n19, reason_absent t (side t) p g c absent)

    -- ---- a value that passes
    module _ (a : AsksAt side v (has_pair t.rows g c) 0) where
      passes : Passes
      passes = go (ℕ_discrete (value_refusal side v) 0)
        where
          go : Dec Passes → Passes
          go (yes e) = e
          go (no e) = let l : 0 < value_refusal side v = omega arith in absurd (omega (arith, a.table l))

      -- it cannot be that there is no state
      some : ((p : List ℕ) → Stands p → ⊥) → ⊥
      some none = omega (arith, a.value passes none)

      present : has_pair t.rows g c ≡ true
      present = go (has_pair t.rows g c) refl
        where
          go : (b : Bool) → has_pair t.rows g c ≡ b → has_pair t.rows g c ≡ true
          go true d = d
          go false d = absurd (some (λ p h. let e : ◌≡◌ {A = ℕ} 0 19 = a.stands passes p h ∙ ap (λ (x : Bool). cond x 0 19) d in omega arith))

      pub legal : Legal t
      legal = (starts passes).legal

      pub pair : Has t.rows g c
      pair = (has_is t.rows g c).0 present

      -- the picks are numbers of the side's rows: what is false of every state is false
      pub numbers : length v.picks ≡ 64 → length (side t).rows ≤ 64 → Numbered v.picks v.count
      numbers wide few = record {
        size = wide;
        few = stable (dec_le v.count 64) (λ n. some (λ p h. n (omega (arith, count_is p h, (leaf_of passes p h).short))));
        low = λ i l. stable (dec_le 1 (get_or v.picks i 0)) (λ n. some (λ p h. n (omega (arith, number_at p h i l))));
        high = λ i l. stable (dec_le (get_or v.picks i 0) 64) (λ n. some (λ p h. n
            (omega (arith, number_at p h i l, leaf_at (side t).rows [] p (leaf_of passes p h).whole i (omega (arith, count_is p h))))));
      }

      -- the pick that the search found on the side's rows, which are in the array R
      module _ (question : Table → ℕ → ℕ → Question) (other : ℕ) (sees : Sees t (side t) (question t g c) g c other) (R : List ℕ)
          (rows_are : RowsOf (side t) R) (x : ℕ) (is : x ≡ found_in R (other - 1) v.picks v.count (question t g c).own) where
        abbrev q : Question
        q = question t g c

        x-is : (p : List ℕ) → Stands p → x ≡ first_lacking q.meets (made_before q.own (map suc p))
        x-is p h =
            is ∙ ap (λ (y : List ℕ). first_lacking (row_has R (other - 1)) (made_before q.own y)) (taken p h)
            ∙ first_same (row_has R (other - 1)) q.meets q.own p
            (λ j m. agree j (leaf_mem (side t).rows [] p (leaf_of passes p h).whole j m))
          where
            agree : (j : ℕ) → j < length (side t).rows → row_has R (other - 1) (suc j) ≡ q.meets (suc j)
            agree j l =
                ap (λ (y : ℕ). bit (row R y) (other - 1)) (place j) ∙ ap (λ (y : ℕ). bit y (other - 1)) (rows_are.row_is j l) ∙ sym (sees.agrees j l)

        pub named-explained : (n : ℕ) → n ≡ kept_by x → Explained side question v g c (record { refusal = n; value = x })
        named-explained n e = record {
          table = λ l. absurd (omega (arith, passes));
          value = λ z none. absurd (some none);
          pick = λ z p h. ⊎_elim (kept z p h) (λ f. found z p h f.0 f.1) (search_before q.meets q.own p);
        }
          where
            free : Passes → pair_refusal t g c ≡ 0
            free z = sym (pair-present t g c size (table_passes z) (has_pair t.rows g c) (has_is t.rows g c) present)

            kept : Passes → (p : List ℕ) → Stands p → None q.meets q.own (map suc p)
                → record { refusal = n; value = x } ≡ answer (reason_refusal t (side t) p g c) (first_lacking q.meets (map suc p)) 0
            kept z p h f =
                let x0 : x ≡ 0 = x-is p h ∙ f.blank in
                kept_answer n (reason_refusal t (side t) p g c) x (first_lacking q.meets (map suc p)) (e ∙ ap kept_by x0)
                (reason_pair t (side t) p g c (free z) true ((has_is (hand_out (side t) p) g c).1
                (none_kept t (side t) q g c other p (leaf_of z p h) sees f ((table_pairs t legal g c).0 pair)))) x0

            found : Passes → (p : List ℕ) → Stands p → (y : ℕ) → Found q.meets q.own (map suc p) y
                → record { refusal = n; value = x } ≡ answer (reason_refusal t (side t) p g c) (first_lacking q.meets (map suc p)) 0
            found z p h y f =
                let xy : x ≡ y = x-is p h ∙ f.front in
                let pos : ¬ (x ≡ 0) = λ d. omega (arith, f.positive) in
                named_answer n (reason_refusal t (side t) p g c) x (first_lacking q.meets (map suc p))
                (e ∙ ap (λ (b : Bool). cond b 22 0) (ne_eqb x 0 pos))
                (reason_pair t (side t) p g c (free z) false (has_not (hand_out (side t) p) g c
                (lacking-out t (side t) q g c other p (leaf_of z p h) sees y f.among f.first.lacks))) (f.whole ∙ sym xy)

  -- ---- the claim of R-6, of the value's ladder
  pub has_reasons : (question : Table → ℕ → ℕ → Question) (other : ℕ → ℕ → ℕ)
      → (Legal t → (g c : ℕ) → 1 ≤ g → 1 ≤ c → Sees t (side t) (question t g c) g c (other g c)) → HasReasons side question v
  has_reasons question other sees z p h g c = reasoned t (side t) (question t g c) g c (other g c) p (leaf_of z p h) (sees (starts z).legal g c)

-- ---- one answer, for every value
pub explained_unique : (side : Table → Side) (question : Table → ℕ → ℕ → Question) (v : Value) (g c : ℕ) (a b : Answer ℕ) → Explained side question v g c a
    → Explained side question v g c b → a ≡ b
explained_unique side question v g c a b x y =
    ap₂ (λ (n m : ℕ). record { refusal = n; value = m }) (settle (λ z. z.refusal)) (settle (λ z. z.value))
  where
    same : ¬ (a ≡ b) → Dec (value_refusal side v ≡ 0) → ⊥
    same n (no z) = n (x.table (omega (arith, z)) ∙ sym (y.table (omega (arith, z))))
    same n (yes z) =
        let none : (p : List ℕ) → PausedAt side v (at p Handed) → ⊥ = λ p h. n (x.pick z p h ∙ sym (y.pick z p h)) in
        n (x.value z none ∙ sym (y.value z none))

    settle : (f : Answer ℕ → ℕ) → f a ≡ f b
    settle f = stable (ℕ_discrete (f a) (f b)) (λ n. same (λ e. n (ap f e)) (ℕ_discrete (value_refusal side v) 0))

pub explained_made : (side : Table → Side) (question : Table → ℕ → ℕ → Question) (t : Table) (k : List ℕ) (omit : Bool) (p : List ℕ) (g c : ℕ)
    → preferred_refusal t (side t).count k ≡ 0 → ReachedOn (side t) (arrangement (side t) k) (at p Handed)
    → Explained side question (paused t k omit (at p Handed)) g c
    (answer (reason_refusal t (side t) p g c) (first_lacking (question t g c).meets (map suc p)) 0)
explained_made side question t k omit p g c ok h = record {
  table = λ l. absurd (omega arith);
  value = λ z none. absurd (none p (record { reached = h; stands = refl }));
  pick = λ z j w. ap (λ (s : State). answer (reason_refusal t (side t) s.picks g c) (first_lacking (question t g c).meets (map suc s.picks)) 0)
      (paused_state t k omit (at p Handed) (at j Handed) w.stands);
}

-- ---- no two answers of the code read alike, of a side whose numbers are its own and from 1
module _ {S : Type 0} (n : S → ℕ) (own : (x y : S) → n x ≡ n y → x ≡ y) where
  reason_injective : (x y : Result S Refusal) → reason_of n x ≡ reason_of n y → x ≡ y
  reason_injective (Ok x) (Ok y) e = ap Ok (own x y (ap (λ (a : Answer ℕ). a.value) e))
  reason_injective (Ok x) (Err y) e = let d : 0 ≡ number y = ap (λ (a : Answer ℕ). a.refusal) e in absurd (omega (arith, d, number_pos y))
  reason_injective (Err x) (Ok y) e = let d : number x ≡ 0 = ap (λ (a : Answer ℕ). a.refusal) e in absurd (omega (arith, d, number_pos x))
  reason_injective (Err x) (Err y) e = ap Err (sym (named-number x) ∙ ap named (ap (λ (a : Answer ℕ). a.refusal) e) ∙ named-number y)

pub gauge_reason_injective : (x y : Result Gauge Refusal) → reason_of (λ g. g.0) x ≡ reason_of (λ g. g.0) y → x ≡ y
gauge_reason_injective = reason_injective (λ g. g.0) gauge_own

pub case_reason_injective : (x y : Result Case Refusal) → reason_of (λ c. c.0) x ≡ reason_of (λ c. c.0) y → x ≡ y
case_reason_injective = reason_injective (λ c. c.0) case_own
