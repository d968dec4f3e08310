-- The claim of R-6 for either side (`reasoned`).
--
-- In order: on the rows that picks are made from, a pair whose row every pick before its own has stays in the chain of the picks (`keeps`), where
-- nothing is left, and one that a pick before its own lacks does not (`drops`); how a question looks to a side's rows (`Sees`), for both
-- sides (`gauge_sees`, `case_sees`); the claim.
use mathlib.Core.Path.{◌≡◌, refl, sym, ap, ◌∙◌, subst}
use mathlib.Core.Logic.{⊎_elim, ◌↔◌}
use mathlib.Core.Bool.{Bool, true, false, ◌&&◌}
use mathlib.Core.List.{List, [], ◌∷◌, ◌++◌, map, Memᴰ}
use Prim.Native.Nat.{ℕ, suc, ◌-◌, ◌≤◌, ◌<◌}
use native.Mathlib.Decide.{ℕ_discrete}
use native.Mathlib.Omega.{arith}
use lib.Dec.{T}
use lib.ListN.{length}
use borrow.Author.Tests.{le-leb}
use Rattle.sets.specs.Sets.{bit}
use Rattle.sets.proofs.Tests.{and_i, and_r}
use Rattle.sets.proofs.Order.{sub_bit, bit-meet}
use Rattle.sets.proofs.OnePlace.{none_in}
use Rattle.sets.proofs.Tabulated.{get_or-tabulate}
use Rattle.table.specs.declared.Table.{Table}
use Rattle.table.specs.Pairs.{row, Has, Cases}
use Rattle.table.specs.Tables.{Legal, table_rows}
use Rattle.table.proofs.Legality.{length_rows, legal_cases}
use Rattle.transpose.specs.Transposing.{column, transpose}
use Rattle.transpose.proofs.Transposition.{bit-column, length-transpose, cases_transpose, cases_within, has_transpose}
use Rattle.lists.specs.Lists.{Side, gauge_side, case_side}
use Rattle.lists.specs.Picks.{common, remainder}
use Rattle.lists.specs.OnTable.{chain_row, chain_of, hand_out}
use Rattle.lists.proofs.Unpicked.{Un, un_nil, un_snoc}
use Rattle.lists.proofs.Remainders.{common_snoc}
use Rattle.lists.proofs.ChainRows.{row_hit, row_miss, row_le, row-chain_of, chain_of_within}
use Rattle.conflicts.specs.Tests.{has_pair}
use Rattle.explain.specs.Reasons.{Question, gauge_question, case_question, IsFirstLacking, made_before, Reasoned}
use Rattle.explain.proofs.Leaves.{LeavesFrom, Leaves}
use Rattle.explain.proofs.Picks.{before_none, before_own, not_before, before_head, before-tail, before-cases, None, Found, search_before}

-- a test that holds does not fail
never : {P : Type 0} (b : Bool) → b ≡ false → T b → P
never b e t = absurd (subst T e t)

-- ---- the chain of the picks, at place k of the row of the number own
module _ (rows : List ℕ) (own k : ℕ) (low : 1 ≤ own) (meets : ℕ → Bool) (agrees : (j : ℕ) → j < length rows → meets (suc j) ≡ bit (row rows j) k) where
  abbrev i : ℕ
  i = own - 1

  abbrev C : List ℕ → List ℕ → Bool
  C q p = bit (chain_row rows q p i) k

  abbrev front : List ℕ → List ℕ
  front p = made_before own (map suc p)

  -- what is left of the row after a pick more
  left_bit : (q : List ℕ) (g : ℕ) → bit (remainder rows (q ++ (g ∷ [])) i) k ≡ (bit (remainder rows q i) k && bit (row rows g) k)
  left_bit q g = ap (λ (x : ℕ). bit x k) (common_snoc rows q g (row rows i)) ∙ bit-meet (remainder rows q i) (row rows g) k

  other_pick : (g : ℕ) → ¬ (i ≡ g) → ¬ (own ≡ suc g)
  other_pick g e d = e (omega arith)

  pub keeps : (q p : List ℕ) → LeavesFrom rows q p → Un q i → T (bit (remainder rows q i) k) → ((x : ℕ) → Memᴰ x (front p) → meets x ≡ true) → T (C q p)
  keeps q [] l u t a = never (bit 0 k) (none_in k) (subst (λ (x : ℕ). T (bit x k)) (l i u) t)
  keeps q (g ∷ p) l u t a = go (ℕ_discrete i g) (keeps (q ++ (g ∷ [])) p l.1)
    where
      go : Dec (i ≡ g)
          → (Un (q ++ (g ∷ [])) i → T (bit (remainder rows (q ++ (g ∷ [])) i) k) → ((x : ℕ) → Memᴰ x (front p) → meets x ≡ true) → T (C (q ++ (g ∷ [])) p))
          → T (C q (g ∷ p))
      go (yes e) ih =
          subst (λ (x : ℕ). T (bit x k)) (sym (row_hit rows q g p i e)) (subst (λ (j : ℕ). T (bit (remainder rows q j) k)) e t)
      go (no e) ih =
          let has : bit (row rows g) k ≡ true = sym (agrees g l.0) ∙ a (suc g) (before_head own (suc g) (map suc p) (other_pick g e)) in
          subst (λ (x : ℕ). T (bit x k)) (sym (row_miss rows q g p i e))
          (ih (un_snoc q g i u e) (subst T (sym (left_bit q g)) (and_i (bit (remainder rows q i) k) (bit (row rows g) k) t (subst T (sym has) tt)))
          (λ x m. a x (before-tail own (suc g) (map suc p) (other_pick g e) x m)))

  pub drops : (q p : List ℕ) → LeavesFrom rows q p → (x : ℕ) → Memᴰ x (front p) → meets x ≡ false → T (C q p) → ⊥
  drops q [] l x m f t = not_before own x (made_before own []) (before_none own) m
  drops q (g ∷ p) l x m f t = go (ℕ_discrete i g) (drops (q ++ (g ∷ [])) p l.1 x)
    where
      go : Dec (i ≡ g) → (Memᴰ x (front p) → meets x ≡ false → T (C (q ++ (g ∷ [])) p) → ⊥) → ⊥
      go (yes e) ih = not_before own x (front (g ∷ p)) (before_own own (suc g) (map suc p) (omega arith)) m
      go (no e) ih =
          let t' : T (C (q ++ (g ∷ [])) p) = subst (λ (y : ℕ). T (bit y k)) (row_miss rows q g p i e) t in
          let left : T (bit (remainder rows (q ++ (g ∷ [])) i) k)
          = sub_bit (chain_row rows (q ++ (g ∷ [])) p i) (remainder rows (q ++ (g ∷ [])) i) k (row_le rows (q ++ (g ∷ [])) p i) t' in
          ⊎_elim
          (λ y. never (bit (row rows g) k) (sym (agrees g l.0) ∙ ap meets (sym y) ∙ f)
          (and_r (bit (remainder rows q i) k) (bit (row rows g) k) (subst T (left_bit q g) left)))
          (λ y. ih y f t') (before-cases own (suc g) (map suc p) (other_pick g e) x m)

-- ---- how a question looks to a side's rows: the pair is own:other there
pub record Sees (t : Table) (s : Side) (q : Question) (g c other : ℕ) : Type 0 where
  pub own_low : 1 ≤ q.own
  pub other_low : 1 ≤ other
  pub agrees : (j : ℕ) → j < length s.rows → q.meets (suc j) ≡ bit (row s.rows j) (other - 1)
  pub pair : Has (table_rows t) g c → Has s.rows q.own other
  pub kept : (p : List ℕ) → Has (hand_out s p) g c ↔ Has (chain_of s.rows p) q.own other

-- a test of two numbers
has_at : (s : List ℕ) (g c : ℕ) → 1 ≤ g → 1 ≤ c → has_pair s g c ≡ bit (row s (g - 1)) (c - 1)
unfolding has_pair
has_at s g c a b = rw (le-leb 1 g a, le-leb 1 c b)

row-column : (w : ℕ) (x : List ℕ) (j : ℕ) → j < w → row (transpose w x) j ≡ column x j
unfolding transpose
row-column w x j l = get_or-tabulate (column x) w j l

pub place : (j : ℕ) → suc j - 1 ≡ j
place j = omega arith

module _ (t : Table) (legal : Legal t) (g c : ℕ) (low-g : 1 ≤ g) (low-c : 1 ≤ c) where
  pub gauge_sees : Sees t (gauge_side t) (gauge_question t g c) g c c
  gauge_sees = record {
    own_low = low-g;
    other_low = low-c;
    agrees = λ j l. has_at (table_rows t) (suc j) c (omega arith) low-c ∙ ap (λ (x : ℕ). bit (row (table_rows t) x) (c - 1)) (place j);
    pair = λ h. h;
    kept = λ p. (λ h. h, λ h. h);
  }

  pub case_sees : Sees t (case_side t) (case_question t g c) g c g
  case_sees = record {
    own_low = low-c;
    other_low = low-g;
    agrees = λ j l.
        has_at (table_rows t) g (suc j) low-g (omega arith) ∙ ap (bit (row (table_rows t) (g - 1))) (place j)
        ∙ sym (ap (λ (x : ℕ). bit x (g - 1)) (row-column t.cases (table_rows t) j (omega (arith, length-transpose t.cases (table_rows t))))
        ∙ bit-column (table_rows t) j (g - 1));
    pair = (has_transpose t.cases (table_rows t) (legal_cases t legal) g c).0;
    kept = λ p. let h = has_transpose t.gauges (chain_of (case_side t).rows p) (inside p) c g in (h.1, h.0);
  }
    where
      inside : (p : List ℕ) → Cases t.gauges (chain_of (case_side t).rows p)
      inside p =
          cases_within t.gauges (case_side t).rows (chain_of (case_side t).rows p)
          (subst (λ (n : ℕ). Cases n (case_side t).rows) (length_rows t legal) (cases_transpose t.cases (table_rows t) (legal_cases t legal)))
          (chain_of_within (case_side t).rows p)

-- ---- the claim
module _ (t : Table) (s : Side) (q : Question) (g c other : ℕ) (p : List ℕ) (leaf : Leaves s.rows p) where
  abbrev r : List ℕ
  r = s.rows

  abbrev picks : List ℕ
  picks = map suc p

  module _ (v : Sees t s q g c other) where
    pub none_kept : None q.meets q.own picks → Has (table_rows t) g c → Has (hand_out s p) g c
    unfolding common
    none_kept n h =
        (v.kept p).1 (record {
          gauge = v.own_low;
          case = v.other_low;
          set = subst (λ (x : ℕ). T (bit x (other - 1))) (sym (row-chain_of r p (q.own - 1)))
              (keeps r q.own (other - 1) v.own_low q.meets v.agrees [] p leaf.whole (un_nil (q.own - 1)) (v.pair h).set n.meet);
        })

    pub lacking-out : (x : ℕ) → Memᴰ x (made_before q.own picks) → q.meets x ≡ false → Has (hand_out s p) g c → ⊥
    lacking-out x m f h =
        drops r q.own (other - 1) v.own_low q.meets v.agrees [] p leaf.whole x m f
        (subst (λ (y : ℕ). T (bit y (other - 1))) (row-chain_of r p (q.own - 1)) ((v.kept p).0 h).set)

  pub reasoned : (1 ≤ g → 1 ≤ c → Sees t s q g c other) → Reasoned t s q g c p
  reasoned sees = record {
    left_out = λ h n. let f = found h n in (f.0, f.1.among, f.1.first.lacks);
    kept = λ h x m. settle x (q.meets x) refl h m;
    named = λ h n. let f = found h n in subst Named (sym f.1.whole) f.1.first;
  }
    where
      Named : ℕ → Type 0
      Named = IsFirstLacking q.meets picks

      found : Has (table_rows t) g c → ¬ Has (hand_out s p) g c → (x : ℕ) × Found q.meets q.own picks x
      found h n = ⊎_elim (λ z. absurd (n (none_kept (sees h.gauge h.case) z h))) (λ f. f) (search_before q.meets q.own p)

      settle : (x : ℕ) (b : Bool) → q.meets x ≡ b → Has (hand_out s p) g c → Memᴰ x (made_before q.own picks) → q.meets x ≡ true
      settle x true e h m = e
      settle x false e h m = absurd (lacking-out (sees h.gauge h.case) x m e h)
