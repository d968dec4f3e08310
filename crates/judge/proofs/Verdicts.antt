-- What each answer of the two judges says.
--
-- In order: a refusal, a yes and a no (`judged_refused`), and what is decided is judged (`judged_dec`); a judge has one answer (`judged_unique`), and no
-- two read alike (`judgement_injective`); the answers of `judge_chain` by the test of nested rows (`chain_judged`), and of `judge_maximal` by that
-- of widest rows (`maximal_no_chain`, `maximal_judged`), so that it is decided whether a chain is maximal (`maximal_dec`).
use mathlib.Core.Path.{◌≡◌, refl, sym, ap, ap₂, ◌∙◌, subst, fun_ext}
use mathlib.Core.Bool.{Bool, true, false}
use mathlib.Core.List.{List}
use Prim.Native.Nat.{ℕ, zero, suc, ◌≤◌, ◌<◌, ◌^◌}
use native.Mathlib.Omega.{arith}
use lib.Dec.{eqb}
use lib.ListN.{length}
use Rattle.std.specs.Prelude.{Result, Ok, Err}
use Rattle.basics.proofs.Clash.{clash}
use Rattle.sets.specs.Lists.{all_below}
use Rattle.table.specs.Pairs.{row}
use Rattle.table.specs.Chains.{IsChain, IsMaximal}
use Rattle.table.specs.Tables.{table_rows, chain_rows, chain_refusal}
use Rattle.refusals.specs.Answers.{number}
use Rattle.table.specs.declared.Table.{Table}
use Rattle.table.specs.declared.Chain.{Chain}
use Rattle.refusals.specs.declared.Refusal.{Refusal}
use Rattle.refusals.proofs.Answering.{number_pos, number_injective, answered_injective}
use Rattle.table.proofs.Legality.{ChainFacts, chain_facts, length-chain_rows, row-chain_rows, chain_within, row-table_rows}
use Rattle.judge.specs.Judging.{judgement, Judged}
use Rattle.judge.specs.WidestRows.{widest}
use Rattle.judge.specs.private.RowTests.{all_nested, all_widest}
use Rattle.judge.proofs.NestedTest.{chain_of_test, test_of_chain}
use Rattle.judge.proofs.WidestTest.{maximal_of_test, test_of_maximal}

pub judged_refused : {P : Type 0} (x : Refusal) (n : ℕ) → number x ≡ n → Judged n P (Err x)
judged_refused x n e = record {
  refusal = e;
  yes = λ d. clash cc;
  no = λ z. absurd (omega (arith, number_pos x));
}

pub judged_yes : {P : Type 0} (n : ℕ) → n ≡ 0 → P → Judged n P (Ok true)
judged_yes n e p = record { refusal = sym e; yes = λ d. p; no = λ z d. clash cc }

pub judged_no : {P : Type 0} (n : ℕ) → n ≡ 0 → ¬ P → Judged n P (Ok false)
judged_no n e p = record { refusal = sym e; yes = λ d. clash cc; no = λ z d. p }

pub judged_dec : {P : Type 0} (n : ℕ) → n ≡ 0 → Dec P → (j : Result Bool Refusal) × Judged n P j
judged_dec n e (yes p) = ((Ok true), judged_yes n e p)
judged_dec n e (no p) = ((Ok false), judged_no n e p)

-- a judge has one answer
pub judged_unique : (n : ℕ) (P : Type 0) (r q : Result Bool Refusal) → Judged n P r → Judged n P q → r ≡ q
judged_unique n P (Ok true) (Ok true) a b = refl
judged_unique n P (Ok true) (Ok false) a b = absurd (b.no (sym a.refusal) refl (a.yes refl))
judged_unique n P (Ok true) (Err y) a b = absurd (omega (arith, a.refusal, b.refusal, number_pos y))
judged_unique n P (Ok false) (Ok true) a b = absurd (a.no (sym b.refusal) refl (b.yes refl))
judged_unique n P (Ok false) (Ok false) a b = refl
judged_unique n P (Ok false) (Err y) a b = absurd (omega (arith, a.refusal, b.refusal, number_pos y))
judged_unique n P (Err x) (Ok true) a b = absurd (omega (arith, a.refusal, b.refusal, number_pos x))
judged_unique n P (Err x) (Ok false) a b = absurd (omega (arith, a.refusal, b.refusal, number_pos x))
judged_unique n P (Err x) (Err y) a b = ap Err (number_injective x y (a.refusal ∙ sym b.refusal))

pub judgement_injective : (r q : Result Bool Refusal) → judgement r ≡ judgement q → r ≡ q
judgement_injective = answered_injective false

-- the test of widest rows looks at rows one by one, so it is the same of the 64 rows and of the first G
widest_same : (s z : List ℕ) (x i n : ℕ) → ((i : ℕ) → row s i ≡ row z i) → widest s x i n ≡ widest z x i n
unfolding widest
widest_same s z x i zero same = refl
widest_same s z x i (suc n) same = rw (widest_same s z x i n same, same i, same n)

all_widest_same : (r q s z : List ℕ) (n : ℕ) → ((i : ℕ) → row r i ≡ row q i) → ((i : ℕ) → row s i ≡ row z i) → all_widest r s n ≡ all_widest q z n
unfolding all_widest
all_widest_same r q s z n outer same =
    ap (λ (f : ℕ → Bool). all_below f n) (fun_ext (λ i. ap₂ eqb (widest_same s z (row r i) i n same ∙ ap (λ (x : ℕ). widest z x i n) (outer i)) (same i)))

-- ---- by the code's facts: the check passed, and a test of the 64 rows answered
module _ (t : Table) (s : Chain) (e : chain_refusal t s ≡ 0) (n : length t.rows ≡ 64) (m : length s.rows ≡ 64) where
  facts : ChainFacts t s
  facts = chain_facts t s n e

  pub few_gauges : t.gauges ≤ 64
  few_gauges = facts.legal.gauges_high

  pub few_rows : s.gauges ≤ length s.rows
  few_rows = omega (arith, facts.count, few_gauges)

  is_chain : (a : Bool) → a ≡ all_nested (chain_rows s) (length (chain_rows s)) → a ≡ true → IsChain (chain_rows s)
  is_chain a d h = chain_of_test (chain_rows s) (sym d ∙ h)

  no_chain : (a : Bool) → a ≡ all_nested (chain_rows s) (length (chain_rows s)) → a ≡ false → ¬ IsChain (chain_rows s)
  no_chain a d h c = let z : true ≡ false = sym (test_of_chain (chain_rows s) c) ∙ sym d ∙ h in clash cc

  pub chain_judged : (a : Bool) → a ≡ all_nested (chain_rows s) (length (chain_rows s)) → Judged (chain_refusal t s) (IsChain (chain_rows s)) (Ok a)
  chain_judged true d = judged_yes (chain_refusal t s) e (is_chain true d refl)
  chain_judged false d = judged_no (chain_refusal t s) e (no_chain false d refl)

  -- no chain, so no maximal chain
  pub maximal_no_chain : (a : Bool) → a ≡ all_nested (chain_rows s) (length (chain_rows s)) → a ≡ false → Judged (chain_refusal t s) (IsMaximal (table_rows t) (chain_rows s)) (Ok false)
  maximal_no_chain a d h = judged_no (chain_refusal t s) e (λ x. no_chain a d h x.chain)

  module _ (a b : Bool) (da : a ≡ all_nested (chain_rows s) (length (chain_rows s))) (ha : a ≡ true) (db : b ≡ all_widest t.rows s.rows s.gauges) where
    wide_test : b ≡ all_widest (table_rows t) (chain_rows s) (length (chain_rows s))
    wide_test =
        db
        ∙ all_widest_same t.rows (table_rows t) s.rows (chain_rows s) s.gauges (λ i. sym (row-table_rows t facts.legal i))
        (λ i. sym (row-chain_rows t s facts m i))
        ∙ ap (all_widest (table_rows t) (chain_rows s)) (facts.count ∙ sym (length-chain_rows t s facts m))

    maximal-yes : b ≡ true → Judged (chain_refusal t s) (IsMaximal (table_rows t) (chain_rows s)) (Ok true)
    maximal-yes h =
        judged_yes (chain_refusal t s) e
        (maximal_of_test (table_rows t) (chain_rows s) (chain_within t s facts m) (is_chain a da ha) t.cases
        (λ i. subst (λ (x : ℕ). x < 2 ^ t.cases) (sym (row-table_rows t facts.legal i)) (facts.legal.rows_bits i)) (sym wide_test ∙ h))

    maximal-no : b ≡ false → Judged (chain_refusal t s) (IsMaximal (table_rows t) (chain_rows s)) (Ok false)
    maximal-no h =
        judged_no (chain_refusal t s) e (λ x.
        let z : true ≡ false = sym (test_of_maximal (table_rows t) (chain_rows s) (chain_within t s facts m) (is_chain a da ha) x) ∙ sym wide_test ∙ h in
        clash cc)

  pub maximal_judged : (a b : Bool) → a ≡ all_nested (chain_rows s) (length (chain_rows s)) → a ≡ true → b ≡ all_widest t.rows s.rows s.gauges
      → Judged (chain_refusal t s) (IsMaximal (table_rows t) (chain_rows s)) (Ok b)
  maximal_judged a true d h f = maximal-yes a true d h f refl
  maximal_judged a false d h f = maximal-no a false d h f refl

  pub maximal_dec : Dec (IsMaximal (table_rows t) (chain_rows s))
  maximal_dec = go (all_nested (chain_rows s) (length (chain_rows s))) refl (all_widest t.rows s.rows s.gauges) refl
    where
      go : (a : Bool) → all_nested (chain_rows s) (length (chain_rows s)) ≡ a → (b : Bool) → all_widest t.rows s.rows s.gauges ≡ b
          → Dec (IsMaximal (table_rows t) (chain_rows s))
      go false p b q = no (λ x. no_chain false (sym p) refl x.chain)
      go true p true q = yes ((maximal-yes true true (sym p) refl (sym q) refl).yes refl)
      go true p false q = no ((maximal-no true false (sym p) refl (sym q) refl).no e refl)
