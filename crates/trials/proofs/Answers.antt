-- The answers of trials. In order: the answer for each outcome of a trial (`tried_place`, `tried-judged`,
-- `tried-lesser`, `tried-unfit`); one answer (`tried_unique`) for every table, chain and place (`tried_exists`), a proposal where it is no refusal
-- (`tried-proposes`); no two answers of the code read alike (`proposed_injective`). Those of commits are in Commits.antt.
use Rattle.std.specs.Prelude.{Result, Ok, Err}
use mathlib.Core.Path.{◌≡◌, refl, sym, ap, ◌∙◌, subst}
use mathlib.Core.Logic.{⊎_elim}
use mathlib.Core.Bool.{Bool, true, false, ◌&&◌, cond}
use Prim.Native.Nat.{ℕ, ◌<◌}
use native.Mathlib.Decide.{ℕ_discrete}
use native.Mathlib.Nat.{eq-zero-or-pos}
use native.Mathlib.Omega.{arith}
use lib.Dec.{eqb}
use lib.ListN.{length}
use borrow.Author.Tests.{ne_eqb}
use Rattle.basics.proofs.Clash.{clash}
use Rattle.refusals.specs.declared.Refusal.{Refusal}
use Rattle.refusals.specs.declared.Refusal.TheVariants.{NotMaximal}
use Rattle.refusals.specs.Answers.{number, Answer, refused}
use Rattle.refusals.proofs.Answering.{number_pos, answered_injective}
use Rattle.table.specs.declared.Table.{Table}
use Rattle.table.specs.declared.Chain.{Chain}
use Rattle.table.specs.Chains.{IsMaximal}
use Rattle.table.specs.Tables.{table_rows, chain_rows, in_range, table_refusal, chain_refusal}
use Rattle.table.proofs.Legality.{both, range_is, legal_of}
use Rattle.judge.specs.Judging.{judgement, Judged}
use Rattle.judge.proofs.Verdicts.{maximal_dec}
use Rattle.trials.specs.Trials.{HasEffect, place_refusal, trial_refusal, Proposes, blank_proposal, no_proposal, Tried, proposed}
use Rattle.trials.specs.private.Steps.{Placed, Passed}
use Rattle.trials.specs.declared.Proposal.{Proposal}
use Rattle.trials.proofs.Comparing.{proposal_same}
use Rattle.trials.proofs.Flips.{flipped_exists, flipped_unique}
use Rattle.trials.proofs.Effects.{effect_some, effect_one, shaped_of}

pub pos : (n : ℕ) → ¬ (n ≡ 0) → 0 < n
pos n h = ⊎_elim (λ e. absurd (h e)) (λ l. l) (eq-zero-or-pos n)

pub placed_of : (t : Table) (g c : ℕ) → length t.rows ≡ 64 → place_refusal t g c ≡ 0 → Placed t g c
unfolding place_refusal
placed_of t g c n e = go (eqb (table_refusal t) 0) (in_range t.gauges g && in_range t.cases c) (ℕ_discrete (table_refusal t) 0) refl refl e
  where
    go : (a b : Bool) → Dec (table_refusal t ≡ 0) → eqb (table_refusal t) 0 ≡ a → (in_range t.gauges g && in_range t.cases c) ≡ b
        → cond a (cond b 0 7) (table_refusal t) ≡ 0 → Placed t g c
    go a true (yes z) p q x =
        let (i, j) = both (in_range t.gauges g) (in_range t.cases c) q in record {
          legal = legal_of t n z;
          gauge_low = (range_is t.gauges g i).0;
          gauge_high = (range_is t.gauges g i).1;
          case_low = (range_is t.cases c j).0;
          case_high = (range_is t.cases c j).1;
        }
    go true false (yes z) p q x = absurd (omega arith)
    go false false (yes z) p q x = let y : eqb (table_refusal t) 0 ≡ true = rw z in clash cc
    go true b (no z) p q x = let y : true ≡ false = sym p ∙ ne_eqb (table_refusal t) 0 z in clash cc
    go false b (no z) p q x = absurd (z x)

-- ---- the number of a trial
trial_place : (t : Table) (s : Chain) (g c : ℕ) → ¬ (place_refusal t g c ≡ 0) → place_refusal t g c ≡ trial_refusal t s g c
unfolding trial_refusal
trial_place t s g c n = let z : eqb (place_refusal t g c) 0 ≡ false = ne_eqb (place_refusal t g c) 0 n in rw z

trial_chain : (t : Table) (s : Chain) (g c : ℕ) → place_refusal t g c ≡ 0 → chain_refusal t s ≡ trial_refusal t s g c
unfolding trial_refusal
trial_chain t s g c e = rw e

-- what a number that is 0 says
module _ (t : Table) (s : Chain) (g c : ℕ) (e : trial_refusal t s g c ≡ 0) where
  place_of_trial : place_refusal t g c ≡ 0
  place_of_trial = go (ℕ_discrete (place_refusal t g c) 0)
    where
      go : Dec (place_refusal t g c ≡ 0) → place_refusal t g c ≡ 0
      go (yes z) = z
      go (no z) = trial_place t s g c z ∙ e

  chain_of_trial : chain_refusal t s ≡ 0
  chain_of_trial = trial_chain t s g c place_of_trial ∙ e

-- ---- the answer of a trial, by its outcome
module _ (t : Table) (s : Chain) (g c : ℕ) (a : Answer Proposal) where
  tried_refused : (x : Refusal) → number x ≡ trial_refusal t s g c → a ≡ refused x blank_proposal → Tried t s g c a
  tried_refused x e d = record {
    refused = λ l. d ∙ ap no_proposal e;
    not_maximal = λ z. absurd (omega (arith, number_pos x));
    given = λ z. absurd (omega (arith, number_pos x));
  }

  pub tried_place : (x : Refusal) → number x ≡ place_refusal t g c → a ≡ refused x blank_proposal → Tried t s g c a
  tried_place x e d = tried_refused x (e ∙ trial_place t s g c (λ z. omega (arith, number_pos x))) d

  module _ (z : trial_refusal t s g c ≡ 0) where
    tried-no : ¬ IsMaximal (table_rows t) (chain_rows s) → a ≡ refused NotMaximal blank_proposal → Tried t s g c a
    tried-no n d = record { refused = λ l. absurd (omega arith); not_maximal = λ y m. d; given = λ y m. absurd (n m) }

    tried-yes : IsMaximal (table_rows t) (chain_rows s) → (a.refusal ≡ 0) × Proposes t s g c a.value → Tried t s g c a
    tried-yes m d = record { refused = λ l. absurd (omega arith); not_maximal = λ y n. absurd (n m); given = λ y k. d }

-- by the judge's answer, where the place passed
module _ (t : Table) (s : Chain) (g c : ℕ) (e : place_refusal t g c ≡ 0) (j : Result Bool Refusal)
    (d : Judged (chain_refusal t s) (IsMaximal (table_rows t) (chain_rows s)) j) where
  number_by : (k : Result Bool Refusal) → j ≡ k → (judgement k).refusal ≡ trial_refusal t s g c
  number_by k y = ap (λ (x : Result Bool Refusal). (judgement x).refusal) (sym y) ∙ d.refusal ∙ trial_chain t s g c e

  pub yes_passed : j ≡ Ok true → Passed t s
  yes_passed y = record {
    passes = trial_chain t s g c e ∙ sym (number_by (Ok true) y);
    chain = (d.yes (ap (λ (x : Result Bool Refusal). (judgement x).value) y)).chain;
  }

  module _ (a : Answer Proposal) where
    pub tried-judged : j ≡ Ok true → (a.refusal ≡ 0) × Proposes t s g c a.value → Tried t s g c a
    tried-judged y p = tried-yes t s g c a (sym (number_by (Ok true) y)) (d.yes (ap (λ (x : Result Bool Refusal). (judgement x).value) y)) p

    pub tried-lesser : j ≡ Ok false → a ≡ refused NotMaximal blank_proposal → Tried t s g c a
    tried-lesser y p =
        tried-no t s g c a (sym (number_by (Ok false) y))
        (d.no (trial_chain t s g c e ∙ sym (number_by (Ok false) y)) (ap (λ (x : Result Bool Refusal). (judgement x).value) y)) p

    pub tried-unfit : (x : Refusal) → j ≡ Err x → a ≡ refused x blank_proposal → Tried t s g c a
    tried-unfit x y p = tried_refused t s g c a x (number_by (Err x) y) p

-- ---- one proposal, one answer
proposes_unique : (t : Table) (s : Chain) (g c : ℕ) (p q : Proposal) → Proposes t s g c p → Proposes t s g c q → p ≡ q
proposes_unique t s g c p q x y =
    let u : x.new ≡ y.new = flipped_unique t g c x.new y.new x.flips y.flips in
    let e : p.effect ≡ q.effect =
    effect_one p.effect q.effect y.new s (subst (λ (w : Table). HasEffect p.effect w s) u x.effect) y.effect in
    proposal_same p q (x.table ∙ sym y.table) (x.chain ∙ sym y.chain) (x.gauge ∙ sym y.gauge) (x.case ∙ sym y.case) e

pub answer_same : {A : Type 0} (a b : Answer A) → a.refusal ≡ b.refusal → a.value ≡ b.value → a ≡ b
answer_same a b e d = λ k. record { refusal = e k; value = d k }

module _ (t : Table) (s : Chain) (g c : ℕ) (n : length t.rows ≡ 64) (m : length s.rows ≡ 64) where
  pub tried_unique : (a b : Answer Proposal) → Tried t s g c a → Tried t s g c b → a ≡ b
  tried_unique a b x y = go (ℕ_discrete (trial_refusal t s g c) 0)
    where
      judged : (z : trial_refusal t s g c ≡ 0) → Dec (IsMaximal (table_rows t) (chain_rows s)) → a ≡ b
      judged z (yes k) =
          let (p, v) = x.given z k in
          let (q, w) = y.given z k in
          answer_same a b (p ∙ sym q) (proposes_unique t s g c a.value b.value v w)
      judged z (no k) = x.not_maximal z k ∙ sym (y.not_maximal z k)

      go : Dec (trial_refusal t s g c ≡ 0) → a ≡ b
      go (yes z) = judged z (maximal_dec t s (chain_of_trial t s g c z) n m)
      go (no z) = let l : 0 < trial_refusal t s g c = pos (trial_refusal t s g c) z in x.refused l ∙ sym (y.refused l)

  -- there is a proposal for every maximal chain and place
  proposes_exists : trial_refusal t s g c ≡ 0 → IsMaximal (table_rows t) (chain_rows s) → (p : Proposal) × Proposes t s g c p
  proposes_exists z k =
      let p : Placed t g c = placed_of t g c n (place_of_trial t s g c z) in
      let (u, f) = flipped_exists t g c p in
      let q : Passed t s = record { passes = chain_of_trial t s g c z; chain = k.chain } in
      let (e, d) = effect_some u s (shaped_of t g c p u f s q) (f.size ∙ n) m in (
        record { table = t; chain = s; gauge = record { 0 = g }; case = record { 0 = c }; effect = e },
        record { table = refl; chain = refl; gauge = refl; case = refl; new = u; flips = f; effect = d },
      )

  pub tried_exists : (a : Answer Proposal) × Tried t s g c a
  tried_exists = go (ℕ_discrete (trial_refusal t s g c) 0)
    where
      judged : (z : trial_refusal t s g c ≡ 0) → Dec (IsMaximal (table_rows t) (chain_rows s)) → (a : Answer Proposal) × Tried t s g c a
      judged z (yes k) =
          let (p, d) = proposes_exists z k in
          let a : Answer Proposal = record { refusal = 0; value = p } in (a, tried-yes t s g c a z k (refl, d))
      judged z (no k) = (no_proposal 25, tried-no t s g c (no_proposal 25) z k refl)

      go : Dec (trial_refusal t s g c ≡ 0) → (a : Answer Proposal) × Tried t s g c a
      go (yes z) = judged z (maximal_dec t s (chain_of_trial t s g c z) n m)
      go (no z) = (no_proposal (trial_refusal t s g c), record { refused = λ l. refl; not_maximal = λ y. absurd (z y); given = λ y. absurd (z y) })

  -- an answer without a refusal is a proposal, of a trial that passed the checks
  module _ (a : Answer Proposal) (x : Tried t s g c a) (e : a.refusal ≡ 0) where
    trial-passes : trial_refusal t s g c ≡ 0
    trial-passes = go (ℕ_discrete (trial_refusal t s g c) 0)
      where
        go : Dec (trial_refusal t s g c ≡ 0) → trial_refusal t s g c ≡ 0
        go (yes z) = z
        go (no z) = sym (ap (λ (y : Answer Proposal). y.refusal) (x.refused (pos (trial_refusal t s g c) z))) ∙ e

    pub tried-placed : Placed t g c
    tried-placed = placed_of t g c n (place_of_trial t s g c trial-passes)

    pub tried-proposes : Proposes t s g c a.value
    tried-proposes = go (maximal_dec t s (chain_of_trial t s g c trial-passes) n m)
      where
        go : Dec (IsMaximal (table_rows t) (chain_rows s)) → Proposes t s g c a.value
        go (yes k) = (x.given trial-passes k).1
        go (no k) = absurd (omega (arith, ap (λ (y : Answer Proposal). y.refusal) (x.not_maximal trial-passes k)))

-- ---- no two answers read alike
pub proposed_injective : (r q : Result Proposal Refusal) → proposed r ≡ proposed q → r ≡ q
proposed_injective = answered_injective blank_proposal
