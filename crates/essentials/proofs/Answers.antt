-- What the entries answer: the check of a pair named, the conflicts of a pair, whether it is essential, and a refusal, by the facts that the code
-- has; and that sets of pairs are answered in one way (`pairs_unique`, so `conflicts_unique`, `essential_unique`; `judged_unique` is in crate `judge`).
-- The essential pairs of all rows are in Outdoing.antt (`finding_all`).
use Rattle.std.specs.Prelude.{Result}
use mathlib.Core.Path.{◌≡◌, refl, sym, ap, ap₂, ◌∙◌, subst}
use mathlib.Core.Logic.{◌↔◌}
use mathlib.Core.Bool.{Bool, true, false, not, cond}
use mathlib.Core.List.{List}
use Prim.Native.Nat.{ℕ, suc, ◌-◌, ◌≤◌, ◌<◌}
use native.Mathlib.Decide.{ℕ_discrete, dec_lt}
use native.Mathlib.Omega.{arith}
use lib.Dec.{T}
use lib.ListN.{length, length-replicate}
use borrow.Author.Tests.{ne_eqb}
use Rattle.std.specs.Prelude.{Result, Ok, Err, IsOk}
use Rattle.basics.proofs.Clash.{clash}
use Rattle.sets.specs.Sets.{bit}
use Rattle.sets.proofs.Tests.{is_true}
use Rattle.sets.proofs.OnePlace.{none_in}
use Rattle.table.specs.declared.Table.{Table}
use Rattle.refusals.specs.declared.Refusal.{Refusal}
use Rattle.table.specs.Pairs.{Has}
use Rattle.table.specs.Tables.{Legal, table_rows, table_refusal, no_rows}
use Rattle.refusals.specs.Answers.{number, Answer, refused}
use Rattle.table.proofs.Legality.{legal_of, legal_cases}
use Rattle.table.proofs.Places.{same_pairs_rows}
use Rattle.refusals.proofs.Answering.{number_pos, number_injective}
use Rattle.judge.specs.Judging.{Judged}
use Rattle.judge.proofs.Verdicts.{judged_yes, judged_no}
use Rattle.conflicts.specs.Conflicts.{Conflict, StrictlyContains, Essential}
use Rattle.essentials.specs.declared.PairSet.{PairSet}
use Rattle.conflicts.specs.Tests.{has_pair}
use Rattle.conflicts.proofs.Testing.{has_test}
use Rattle.essentials.specs.Answers.{pair_refusal, found_pairs, GivesPairs, GivesConflicts, GivesEssentials}
use Rattle.essentials.specs.private.Unions.{conflict_rows, Placed, Outdone}
use Rattle.essentials.proofs.RowLaws.{length_conflicts, conflict_pairs}
use Rattle.conflicts.proofs.SamePairs.{same_back, conflict_same, essential_same, table_pairs}

-- ---- the check of a pair
pub pair_refused : (t : Table) (g c : ℕ) (x : Refusal) → number x ≡ table_refusal t → number x ≡ pair_refusal t g c
unfolding pair_refusal
pair_refused t g c x e =
    e ∙ sym (ap (λ (b : Bool). cond b (cond (has_pair (table_rows t) g c) 0 19) (table_refusal t)) (ne_eqb (table_refusal t) 0 (λ z. omega (arith, number_pos x))))

module _ (t : Table) (g c : ℕ) (size : length t.rows ≡ 64) where
  -- the code asks the table's 64 rows
  module _ (e : table_refusal t ≡ 0) (b : Bool) (has : (b ≡ true) ↔ Has t.rows g c) where
    passed : pair_refusal t g c ≡ cond (has_pair (table_rows t) g c) 0 19
    unfolding pair_refusal
    passed = rw e

    pub pair-absent : b ≡ false → 19 ≡ pair_refusal t g c
    pair-absent d = go (has_pair (table_rows t) g c) refl ∙ sym passed
      where
        go : (x : Bool) → has_pair (table_rows t) g c ≡ x → ◌≡◌ {A = ℕ} 19 (cond x 0 19)
        go false f = refl
        go true f =
            let h : b ≡ true = has.1 ((table_pairs t (legal_of t size e) g c).1 ((has_test (table_rows t) g c).0 (rw f tt))) in
            clash cc

    pub pair-present : b ≡ true → 0 ≡ pair_refusal t g c
    pair-present d =
        sym (passed ∙ ap (λ (x : Bool). cond x 0 19) (is_true (has_pair (table_rows t) g c)
        ((has_test (table_rows t) g c).1 ((table_pairs t (legal_of t size e) g c).0 (has.0 d)))))

  -- what a check that passed says
  pub record PairFacts : Type 0 where
    pub passes : 0 ≡ pair_refusal t g c
    pub legal : Legal t
    pub pair : Has t.rows g c

  pub pair_facts : pair_refusal t g c ≡ 0 → PairFacts
  unfolding pair_refusal
  pair_facts e = go (ℕ_discrete (table_refusal t) 0)
    where
      go : Dec (table_refusal t ≡ 0) → PairFacts
      go (yes z) = record {
        passes = sym e;
        legal = legal_of t size z;
        pair = (table_pairs t (legal_of t size z) g c).1 ((has_test (table_rows t) g c).0 (present (has_pair (table_rows t) g c) refl));
      }
        where
          present : (x : Bool) → has_pair (table_rows t) g c ≡ x → T x
          present true f = tt
          present false f = let d : ◌≡◌ {A = ℕ} 19 0 = ap (λ (y : Bool). cond y 0 19) (sym f) ∙ sym (rw z) ∙ e in absurd (omega arith)
      go (no z) = absurd (z (sym (rw (ne_eqb (table_refusal t) 0 z)) ∙ e))

-- ---- a pair that the check passed, by places
up : (n : ℕ) → 1 ≤ n → suc (n - 1) ≡ n
up n l = omega arith

module _ (t : Table) (g c : ℕ) (size : length t.rows ≡ 64) (f : PairFacts t g c size) where
  abbrev same : (h d : ℕ) → Has t.rows h d ↔ Has (table_rows t) h d
  same = table_pairs t f.legal

  up_g : suc (g - 1) ≡ g
  up_g = up g f.pair.gauge

  up_c : suc (c - 1) ≡ c
  up_c = up c f.pair.case

  pub placed : Placed t.rows t.gauges (g - 1) (c - 1)
  placed = record { among = low-gauge (dec_lt (g - 1) t.gauges); low = omega (arith, low-case, f.legal.cases_high); held = f.pair.set }
    where
      low-gauge : Dec (g - 1 < t.gauges) → g - 1 < t.gauges
      low-gauge (yes l) = l
      low-gauge (no l) = absurd (subst T (none_in (c - 1)) (subst (λ (x : ℕ). T (bit x (c - 1))) (f.legal.rows_rest (g - 1) (omega arith)) f.pair.set))

      low-case : c - 1 < t.cases
      low-case = legal_cases t f.legal (g - 1) (c - 1) ((same g c).0 f.pair).set

  pub gives : (rows : List ℕ) → rows ≡ conflict_rows t.rows (g - 1) (c - 1) → GivesConflicts t g c (record { refusal = 0; value = rows })
  gives rows e = record {
    refusal = f.passes;
    size = ap length e ∙ length_conflicts t.rows (g - 1) (c - 1);
    pairs = λ n h d. (
      λ x. conflict_same same g c h d (named h d ((conflict_pairs t.rows size (g - 1) (c - 1) f.pair.set h d).0 (rw e at x))),
      λ v. rw e ((conflict_pairs t.rows size (g - 1) (c - 1) f.pair.set h d).1 (placed_at h d (conflict_same (same_back same) g c h d v))),
    );
    blank = λ n. absurd (n refl);
  }
    where
      named : (h d : ℕ) → Conflict t.rows (suc (g - 1)) (suc (c - 1)) h d → Conflict t.rows g c h d
      named h d v = rw (up_g, up_c) at v

      placed_at : (h d : ℕ) → Conflict t.rows g c h d → Conflict t.rows (suc (g - 1)) (suc (c - 1)) h d
      placed_at h d v = rw (up_g, up_c) v

  module _ (b : Bool) (out : (b ≡ true) ↔ Outdone t.rows (g - 1) (c - 1)) where
    essential-yes : b ≡ false → Judged (pair_refusal t g c) (Essential (table_rows t) g c) (Ok true)
    essential-yes e = judged_yes (pair_refusal t g c) (sym f.passes) (essential_same same g c (record { pair = f.pair; none = none }))
      where
        none : (h d : ℕ) → Has t.rows h d → StrictlyContains t.rows h d g c → ⊥
        none h d q x =
            let y : b ≡ true = out.1 (h, d, q, rw (up_g, up_c) x) in
            clash cc

    essential-no : b ≡ true → Judged (pair_refusal t g c) (Essential (table_rows t) g c) (Ok false)
    essential-no e = judged_no (pair_refusal t g c) (sym f.passes) (λ v. go (essential_same (same_back same) g c v) (out.0 e))
      where
        go : Essential t.rows g c → Outdone t.rows (g - 1) (c - 1) → ⊥
        go v x = v.none x.0 x.1 x.2 (rw (up_g, up_c) at x.3)

  pub essential-judged : (b : Bool) → (b ≡ true) ↔ Outdone t.rows (g - 1) (c - 1) → Judged (pair_refusal t g c) (Essential (table_rows t) g c) (Ok (not b))
  essential-judged true out = essential-no true out refl
  essential-judged false out = essential-yes false out refl

-- a refusal, with no pairs
pub gives_refused : (n : ℕ) (P : ℕ → ℕ → Type 0) (x : Refusal) (a : Answer (List ℕ)) → number x ≡ n → a ≡ refused x no_rows → GivesPairs n P a
gives_refused n P x a e d = subst (GivesPairs n P) (sym d) (record {
  refusal = e;
  size = length-replicate {A = ℕ} 64 0;
  pairs = λ z. absurd (omega (arith, number_pos x));
  blank = λ z. refl;
})

-- ---- one answer
pairs_unique : (n : ℕ) (P : ℕ → ℕ → Type 0) (a b : Answer (List ℕ)) → GivesPairs n P a → GivesPairs n P b → a ≡ b
pairs_unique n P a b x y = ap₂ (λ (m : ℕ) (v : List ℕ). record { refusal = m; value = v }) number_same (go (ℕ_discrete a.refusal 0))
  where
    number_same : a.refusal ≡ b.refusal
    number_same = x.refusal ∙ sym y.refusal

    go : Dec (a.refusal ≡ 0) → a.value ≡ b.value
    go (yes z) =
        same_pairs_rows a.value b.value (x.size ∙ sym y.size) (λ h d.
        (λ u. (y.pairs (sym number_same ∙ z) h d).1 ((x.pairs z h d).0 u), λ u. (x.pairs z h d).1 ((y.pairs (sym number_same ∙ z) h d).0 u)))
    go (no z) = x.blank z ∙ sym (y.blank (λ w. z (number_same ∙ w)))

pub conflicts_unique : (t : Table) (g c : ℕ) (a b : Answer (List ℕ)) → GivesConflicts t g c a → GivesConflicts t g c b → a ≡ b
conflicts_unique t g c = pairs_unique _ _

pub essential_unique : (t : Table) (a b : Answer (List ℕ)) → GivesEssentials t a → GivesEssentials t b → a ≡ b
essential_unique t = pairs_unique _ _

-- an answer without a refusal has pairs
pub found_ok : (r : Result PairSet Refusal) → (found_pairs r).refusal ≡ 0 → IsOk r
found_ok (Ok a) e = refl
found_ok (Err x) e = absurd (omega (arith, number_pos x))

-- no two answers of the code read alike
pub found_pairs_injective : (x y : Result PairSet Refusal) → found_pairs x ≡ found_pairs y → x ≡ y
found_pairs_injective (Ok a) (Ok b) e = ap (λ (r : List ℕ). Ok (record { rows = r })) (ap (λ (z : Answer (List ℕ)). z.value) e)
found_pairs_injective (Ok a) (Err y) e = absurd (omega (arith, ap (λ (z : Answer (List ℕ)). z.refusal) e, number_pos y))
found_pairs_injective (Err x) (Ok b) e = absurd (omega (arith, ap (λ (z : Answer (List ℕ)). z.refusal) e, number_pos x))
found_pairs_injective (Err x) (Err y) e = ap Err (number_injective x y (ap (λ (z : Answer (List ℕ)). z.refusal) e))
