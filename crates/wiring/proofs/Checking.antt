-- The checks ahead of the buffer, each answer by what led to it: of the ladder (`ladder_refused`, `ladder_no`, `ladder-lacks`, `ladder-yes`), and of
-- the chain and then the ladder (`chain_refused`, `chain_no`, `chain_yes`).
use Rattle.std.specs.Prelude.{Result, Ok, Err}
use mathlib.Core.Path.{◌≡◌, refl, sym, ap, ◌∙◌, subst, subst₂}
use mathlib.Core.Bool.{Bool, true, false}
use Prim.Native.Nat.{ℕ, ◌<◌}
use native.Mathlib.Decide.{dec_lt}
use native.Mathlib.Omega.{arith}
use lib.ListN.{length}
use Rattle.sets.specs.Sets.{◌⊆◌, is_subset}
use Rattle.sets.proofs.Tests.{is_true}
use Rattle.sets.proofs.Order.{zero_sub, subset_is, is_subset_lem}
use Rattle.sets.proofs.Tabulated.{all_at, all_of}
use Rattle.table.specs.declared.Table.{Table}
use Rattle.table.specs.declared.Chain.{Chain}
use Rattle.table.specs.Pairs.{row, Within}
use Rattle.table.specs.Chains.{IsChain, IsMaximal}
use Rattle.table.specs.Tables.{table_rows, chain_rows, chain_refusal}
use Rattle.table.proofs.Places.{row_past, within_sub, sub_within}
use Rattle.table.proofs.Legality.{ChainFacts, chain_facts, length-chain_rows, row-chain_rows}
use Rattle.refusals.specs.Answers.{number}
use Rattle.refusals.specs.declared.Refusal.{Refusal}
use Rattle.refusals.proofs.Answering.{number_pos}
use Rattle.judge.specs.Judging.{judgement, Judged}
use Rattle.judge.proofs.NestedTest.{as_true}
use Rattle.pair_orders.proofs.Taking.{true-false}
use Rattle.wiring.specs.Wiring.{Leads}
use Rattle.wiring.specs.private.Steps.{LadderChecked, Checked, includes}

-- ---- a judgement, by its case
module _ (n : ℕ) (P : Type 0) (j : Result Bool Refusal) (d : Judged n P j) where
  judged_refused : (why : Refusal) → j ≡ Err why → number why ≡ n
  judged_refused why e = sym (ap (λ (z : Result Bool Refusal). (judgement z).refusal) e) ∙ d.refusal

  judged_yes : j ≡ Ok true → (n ≡ 0) × P
  judged_yes e = (sym d.refusal ∙ ap (λ (z : Result Bool Refusal). (judgement z).refusal) e, d.yes (ap (λ (z : Result Bool Refusal). (judgement z).value) e))

  judged_no : j ≡ Ok false → (n ≡ 0) × (¬ P)
  judged_no e =
      let z : n ≡ 0 = sym d.refusal ∙ ap (λ (z : Result Bool Refusal). (judgement z).refusal) e in
      (z, d.no z (ap (λ (z : Result Bool Refusal). (judgement z).value) e))

-- ---- the rows of a chain that passes, by the table's number of gauges
module _ (t : Table) (s x : Chain) (nt : length t.rows ≡ 64) (ns : length s.rows ≡ 64) (nx : length x.rows ≡ 64)
    (es : chain_refusal t s ≡ 0) (ex : chain_refusal t x ≡ 0) where
  facts_s : ChainFacts t s
  facts_s = chain_facts t s nt es

  facts_x : ChainFacts t x
  facts_x = chain_facts t x nt ex

  same_size : length (chain_rows s) ≡ length (chain_rows x)
  same_size = length-chain_rows t s facts_s ns ∙ sym (length-chain_rows t x facts_x nx)

  includes_within : includes x.rows s.rows t.gauges ≡ true → Within (chain_rows x) (chain_rows s)
  unfolding includes
  includes_within e = sub_within (chain_rows x) (chain_rows s) same_size (λ i. at i (dec_lt i t.gauges))
    where
      at : (i : ℕ) → Dec (i < t.gauges) → row (chain_rows s) i ⊆ row (chain_rows x) i
      at i (yes l) =
          subst₂ (λ (a b : ℕ). a ⊆ b) (sym (row-chain_rows t s facts_s ns i)) (sym (row-chain_rows t x facts_x nx i))
          (subset_is (row s.rows i) (row x.rows i)
          (is_true (is_subset (row s.rows i) (row x.rows i))
          (all_at (λ i. is_subset (row s.rows i) (row x.rows i)) t.gauges i (as_true (includes x.rows s.rows t.gauges) e) l)))
      at i (no l) =
          subst (λ (a : ℕ). a ⊆ row (chain_rows x) i) (sym (row_past (chain_rows s) i (omega (arith, length-chain_rows t s facts_s ns))))
          (zero_sub (row (chain_rows x) i))

  includes_not : includes x.rows s.rows t.gauges ≡ false → ¬ Within (chain_rows x) (chain_rows s)
  unfolding includes
  includes_not e w =
      true-false (sym (is_true (includes x.rows s.rows t.gauges) (all_of (λ i. is_subset (row s.rows i) (row x.rows i)) t.gauges (λ i l.
      as_true (is_subset (row s.rows i) (row x.rows i)) (is_subset_lem (row s.rows i) (row x.rows i) (subst₂ (λ (a b : ℕ). a ⊆ b)
      (row-chain_rows t s facts_s ns i) (row-chain_rows t x facts_x nx i) (within_sub (chain_rows x) (chain_rows s) w i)))))) ∙ e)

-- ---- the ladder
refusal_not : (why : Refusal) → ¬ (number why ≡ 0)
refusal_not why e = omega (arith, number_pos why)

module _ (t : Table) (s x : Chain) (j : Result Bool Refusal) (d : Judged (chain_refusal t x) (IsMaximal (table_rows t) (chain_rows x)) j) where
  -- 25, where the chain passes its checks and is no ladder that contains s
  ladder_none : chain_refusal t x ≡ 0 → ¬ Leads t s x → LadderChecked t s x 25
  ladder_none e f = record {
    number = record { refused = λ z. absurd (z e); no_ladder = λ z l. refl; passes = λ z l. absurd (f l) };
    passes = λ z. e;
    leads = λ z. absurd (omega arith);
  }

  pub ladder_refused : (why : Refusal) → j ≡ Err why → LadderChecked t s x (number why)
  ladder_refused why e = record {
    number = record {
      refused = λ z. is;
      no_ladder = λ z. absurd (refusal_not why (is ∙ z));
      passes = λ z. absurd (refusal_not why (is ∙ z));
    };
    passes = λ z. absurd (refusal_not why z);
    leads = λ z. absurd (refusal_not why z);
  }
    where
      is : number why ≡ chain_refusal t x
      is = judged_refused (chain_refusal t x) (IsMaximal (table_rows t) (chain_rows x)) j d why e

  pub ladder_no : j ≡ Ok false → LadderChecked t s x 25
  ladder_no e =
      let (z, f) = judged_no (chain_refusal t x) (IsMaximal (table_rows t) (chain_rows x)) j d e in
      ladder_none z (λ l. f l.maximal)

  module _ (e : j ≡ Ok true) (nt : length t.rows ≡ 64) (ns : length s.rows ≡ 64) (nx : length x.rows ≡ 64) (es : chain_refusal t s ≡ 0) (a : Bool)
      (i : a ≡ includes x.rows s.rows t.gauges) where
    pub ladder-lacks : a ≡ false → LadderChecked t s x 25
    ladder-lacks f =
        let (z, m) = judged_yes (chain_refusal t x) (IsMaximal (table_rows t) (chain_rows x)) j d e in
        ladder_none z (λ l. includes_not t s x nt ns nx es z (sym i ∙ f) l.contains)

    pub ladder-yes : a ≡ true → LadderChecked t s x 0
    ladder-yes f =
        let (z, m) = judged_yes (chain_refusal t x) (IsMaximal (table_rows t) (chain_rows x)) j d e in
        let l : Leads t s x = record { maximal = m; contains = includes_within t s x nt ns nx es z (sym i ∙ f) } in
        record {
          number = record { refused = λ k. absurd (k z); no_ladder = λ k g. absurd (g l); passes = λ k g. refl };
          passes = λ k. z;
          leads = λ k. l;
        }

-- ---- the chain, and then the ladder
module _ (t : Table) (s x : Chain) (j : Result Bool Refusal) (d : Judged (chain_refusal t s) (IsChain (chain_rows s)) j) where
  chain_passes : j ≡ Ok true → chain_refusal t s ≡ 0
  chain_passes e = (judged_yes (chain_refusal t s) (IsChain (chain_rows s)) j d e).0

  pub chain_refused : (why : Refusal) → j ≡ Err why → Checked t s x (number why)
  chain_refused why e = record {
    number = record {
      refused = λ z. is;
      no_chain = λ z. absurd (refusal_not why (is ∙ z));
      ladder = λ z. absurd (refusal_not why (is ∙ z));
    };
    chain_passes = λ z. absurd (refusal_not why z);
    chain = λ z. absurd (refusal_not why z);
    passes = λ z. absurd (refusal_not why z);
    leads = λ z. absurd (refusal_not why z);
  }
    where
      is : number why ≡ chain_refusal t s
      is = judged_refused (chain_refusal t s) (IsChain (chain_rows s)) j d why e

  pub chain_no : j ≡ Ok false → Checked t s x 14
  chain_no e =
      let (z, f) = judged_no (chain_refusal t s) (IsChain (chain_rows s)) j d e in
      record {
        number = record { refused = λ k. absurd (k z); no_chain = λ k g. refl; ladder = λ k h. absurd (f h) };
        chain_passes = λ k. absurd (omega arith);
        chain = λ k. absurd (omega arith);
        passes = λ k. absurd (omega arith);
        leads = λ k. absurd (omega arith);
      }

  pub chain_yes : j ≡ Ok true → (n : ℕ) → LadderChecked t s x n → Checked t s x n
  chain_yes e n l =
      let (z, c) = judged_yes (chain_refusal t s) (IsChain (chain_rows s)) j d e in
      record {
        number = record { refused = λ k. absurd (k z); no_chain = λ k g. absurd (g c); ladder = λ k h. l.number };
        chain_passes = λ k. z;
        chain = λ k. c;
        passes = l.passes;
        leads = l.leads;
      }
