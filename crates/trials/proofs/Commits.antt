-- The answers of commits. In order: the answer for each outcome of a commit, by the trial that the code makes (`committed-trial`,
-- `committed-differs`); one answer (`committed_unique`) for every proposal and table (`committed_exists`); what an answer
-- without a refusal is (`commits`); a fresh trial can be committed on its table (`fresh_commits`), and on no other
-- (`other_table`). When two proposals are the same is in Comparing.antt.
use mathlib.Core.Path.{◌≡◌, refl, sym, ap, ◌∙◌, subst}
use mathlib.Core.Logic.{◌↔◌}
use mathlib.Core.Bool.{Bool, true, false}
use Prim.Native.Nat.{ℕ, ◌<◌}
use native.Mathlib.Decide.{ℕ_discrete}
use native.Mathlib.Omega.{arith}
use lib.ListN.{length}
use Rattle.basics.proofs.Clash.{clash}
use Rattle.refusals.specs.declared.Refusal.TheVariants.{OtherProposal}
use Rattle.refusals.specs.Answers.{Answer, refused}
use Rattle.table.specs.declared.Table.{Table}
use Rattle.table.specs.declared.Chain.{Chain}
use Rattle.table.specs.Tables.{Legal, table_refusal, blank_table}
use Rattle.table.proofs.Legality.{legal_passes}
use Rattle.trials.specs.Trials.{Flipped, Proposes, Tried, IsTrialOn, no_table, Committed}
use Rattle.trials.specs.private.Steps.{Placed}
use Rattle.trials.specs.declared.Proposal.{Proposal}
use Rattle.trials.proofs.Flips.{flipped_exists, flipped_unique, flipped_legal, flipped_other}
use Rattle.trials.proofs.Comparing.{proposal_discrete}
use Rattle.trials.proofs.Answers.{pos, answer_same, tried_unique, tried_exists, tried-placed, tried-proposes}

-- ---- the answer of a commit, by its outcome
module _ (p : Proposal) (t : Table) (a : Answer Table) where
  module _ (z : table_refusal t ≡ 0) where
    committed-other : ¬ IsTrialOn t p → a ≡ no_table 26 → Committed p t a
    committed-other n d = record { refused = λ l. absurd (omega arith); other = λ y m. d; flipped = λ y m. absurd (n m) }

    committed-yes : IsTrialOn t p → (a.refusal ≡ 0) × Flipped t p.gauge.0 p.case.0 a.value → Committed p t a
    committed-yes m d = record { refused = λ l. absurd (omega arith); other = λ y n. absurd (n m); flipped = λ y k. d }

    -- by the trial that the code makes
    module _ (n : length t.rows ≡ 64) (m : length p.chain.rows ≡ 64) (b : Answer Proposal) (x : Tried t p.chain p.gauge.0 p.case.0 b) where
      one : IsTrialOn t p → b ≡ record { refusal = 0; value = p }
      one y = tried_unique t p.chain p.gauge.0 p.case.0 n m b (record { refusal = 0; value = p }) x y

      pub committed-trial : 0 < b.refusal → a ≡ refused OtherProposal blank_table → Committed p t a
      committed-trial l d = committed-other (λ y. omega (arith, ap (λ (q : Answer Proposal). q.refusal) (one y))) d

      module _ (r : Bool) (same : (r ≡ true) ↔ (p ≡ b.value)) where
        pub committed-differs : r ≡ false → a ≡ refused OtherProposal blank_table → Committed p t a
        committed-differs e d = committed-other (λ y. not_same (same.1 (sym (ap (λ (q : Answer Proposal). q.value) (one y))))) d
          where
            not_same : r ≡ true → ⊥
            not_same f = clash cc

        is-trial : b.refusal ≡ 0 → r ≡ true → IsTrialOn t p
        is-trial z e =
            subst (Tried t p.chain p.gauge.0 p.case.0) (answer_same b (record { refusal = 0; value = p }) z (sym (same.0 e))) x

-- ---- one answer
module _ (p : Proposal) (t : Table) (n : length t.rows ≡ 64) (m : length p.chain.rows ≡ 64) where
  is_trial_dec : Dec (IsTrialOn t p)
  is_trial_dec = let (b, x) = tried_exists t p.chain p.gauge.0 p.case.0 n m in go b x (ℕ_discrete b.refusal 0) (proposal_discrete p b.value)
    where
      go : (b : Answer Proposal) → Tried t p.chain p.gauge.0 p.case.0 b → Dec (b.refusal ≡ 0) → Dec (p ≡ b.value) → Dec (IsTrialOn t p)
      go b x (yes z) (yes e) = yes (subst (Tried t p.chain p.gauge.0 p.case.0) (answer_same b (record { refusal = 0; value = p }) z (sym e)) x)
      go b x (yes z) (no e) =
          no (λ y. e (sym (ap (λ (q : Answer Proposal). q.value)
          (tried_unique t p.chain p.gauge.0 p.case.0 n m b (record { refusal = 0; value = p }) x y))))
      go b x (no z) e =
          no (λ y. z (ap (λ (q : Answer Proposal). q.refusal)
          (tried_unique t p.chain p.gauge.0 p.case.0 n m b (record { refusal = 0; value = p }) x y)))

  pub committed_unique : (a b : Answer Table) → Committed p t a → Committed p t b → a ≡ b
  committed_unique a b x y = go (ℕ_discrete (table_refusal t) 0) is_trial_dec
    where
      go : Dec (table_refusal t ≡ 0) → Dec (IsTrialOn t p) → a ≡ b
      go (no z) d = let l : 0 < table_refusal t = pos (table_refusal t) z in x.refused l ∙ sym (y.refused l)
      go (yes z) (no d) = x.other z d ∙ sym (y.other z d)
      go (yes z) (yes d) =
          let (i, f) = x.flipped z d in
          let (j, g) = y.flipped z d in
          answer_same a b (i ∙ sym j) (flipped_unique t p.gauge.0 p.case.0 a.value b.value f g)

  pub committed_exists : (a : Answer Table) × Committed p t a
  committed_exists = go (ℕ_discrete (table_refusal t) 0) is_trial_dec
    where
      go : Dec (table_refusal t ≡ 0) → Dec (IsTrialOn t p) → (a : Answer Table) × Committed p t a
      go (no z) d = (no_table (table_refusal t), record { refused = λ l. refl; other = λ y. absurd (z y); flipped = λ y. absurd (z y) })
      go (yes z) (no d) = (no_table 26, committed-other p t (no_table 26) z d refl)
      go (yes z) (yes d) =
          let k : Placed t p.gauge.0 p.case.0 =
          tried-placed t p.chain p.gauge.0 p.case.0 n m (record { refusal = 0; value = p }) d refl in
          let (u, f) = flipped_exists t p.gauge.0 p.case.0 k in
          let a : Answer Table = record { refusal = 0; value = u } in (a, committed-yes p t a z d (refl, f))

-- ---- an answer without a refusal is the flipped table, which is legal and another than the current one
module _ (p : Proposal) (t : Table) (n : length t.rows ≡ 64) (m : length p.chain.rows ≡ 64) (a : Answer Table) (x : Committed p t a)
    (e : a.refusal ≡ 0) where
  pub record Commits : Type 0 where
    pub passes : table_refusal t ≡ 0
    pub trial : IsTrialOn t p
    pub flips : Flipped t p.gauge.0 p.case.0 a.value
    pub legal : Legal a.value
    pub another : ¬ (a.value ≡ t)

  pub commits : Commits
  commits = go (ℕ_discrete (table_refusal t) 0) (is_trial_dec p t n m)
    where
      go : Dec (table_refusal t ≡ 0) → Dec (IsTrialOn t p) → Commits
      go (no z) d = absurd (omega (arith, pos (table_refusal t) z, ap (λ (b : Answer Table). b.refusal) (x.refused (pos (table_refusal t) z))))
      go (yes z) (no d) = absurd (omega (arith, ap (λ (b : Answer Table). b.refusal) (x.other z d)))
      go (yes z) (yes d) =
          let k : Placed t p.gauge.0 p.case.0 =
          tried-placed t p.chain p.gauge.0 p.case.0 n m (record { refusal = 0; value = p }) d refl in
          let f : Flipped t p.gauge.0 p.case.0 a.value = (x.flipped z d).1 in
          record {
            passes = z;
            trial = d;
            flips = f;
            legal = flipped_legal t p.gauge.0 p.case.0 k a.value f;
            another = flipped_other t p.gauge.0 p.case.0 k a.value f;
          }

-- ---- what the two promise together
-- "committing a fresh trial on its own table is never refused", and gives the table with the entry flipped
module _ (t : Table) (s : Chain) (g c : ℕ) (n : length t.rows ≡ 64) (m : length s.rows ≡ 64) (a : Answer Proposal) (x : Tried t s g c a)
    (e : a.refusal ≡ 0) where
  fresh : Proposes t s g c a.value
  fresh = tried-proposes t s g c n m a x e

  fresh_trial : IsTrialOn t a.value
  fresh_trial =
      subst (λ (z : Chain). Tried t z a.value.gauge.0 a.value.case.0 (record { refusal = 0; value = a.value })) (sym fresh.chain)
      (subst (λ (i : ℕ). Tried t s i a.value.case.0 (record { refusal = 0; value = a.value })) (sym fresh.gauge)
      (subst (λ (j : ℕ). Tried t s g j (record { refusal = 0; value = a.value })) (sym fresh.case)
      (subst (Tried t s g c) (answer_same a (record { refusal = 0; value = a.value }) e refl) x)))

  pub fresh_commits : (b : Answer Table) → Committed a.value t b → (b.refusal ≡ 0) × Flipped t g c b.value
  fresh_commits b y =
      let (z, f) = y.flipped (legal_passes t (tried-placed t s g c n m a x e).legal) fresh_trial in
      (z, subst (λ (i : ℕ). Flipped t i c b.value) fresh.gauge (subst (λ (j : ℕ). Flipped t a.value.gauge.0 j b.value) fresh.case f))

-- a proposal is committed on no other table than its own
pub other_table : (p : Proposal) (t : Table) (a : Answer Table) → length t.rows ≡ 64 → length p.chain.rows ≡ 64 → table_refusal t ≡ 0
    → ¬ (p.table ≡ t) → Committed p t a → a ≡ no_table 26
other_table p t a n m z h x =
    x.other z (λ y. h (tried-proposes t p.chain p.gauge.0 p.case.0 n m (record { refusal = 0; value = p }) y refl).table)
