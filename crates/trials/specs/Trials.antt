-- Trial, then commit (02, R-10). *Ladder* is 02's word for a maximal chain, `IsMaximal` of crate `table`; the place
-- of an entry is a gauge g and a case c, and the entry is there when g:c is a pair. A set of pairs is given by gauge
-- rows; a table's 64 rows and a chain's are looked at whole.
--
-- In order: the table with one entry flipped (`Flipped`); what a flip does to a maximal chain (`HasEffect`, a line
-- for each verdict); the numbers, the proposal and the answer of a trial (`Proposes`, `Tried`); the answer of a
-- commit (`Committed`); how the answer of a trial reads.
--
-- Elsewhere: that each relation can be met and leaves one answer, that the verdicts exclude each other and leave none
-- out, and R-10's laws of flips, trials and commits: proofs/Flips.antt, Effects.antt, Answers.antt. Runs that are
-- paused on the old table: crate `kept_runs`.
use Rattle.std.specs.Prelude.{◌≡◌, ◌↔◌, ◌&&◌, cond, ℕ, ◌<◌, eqb, length, Result}
use Rattle.refusals.specs.Answers.{Answer, answered}
use Rattle.refusals.specs.declared.Refusal.{Refusal}
use Rattle.table.specs.declared.Table.{Table}
use Rattle.table.specs.declared.Chain.{Chain}
use Rattle.table.specs.Pairs.{Has, Within}
use Rattle.table.specs.Chains.{IsChain, IsMaximal}
use Rattle.table.specs.Tables.{table_rows, chain_rows, in_range, table_refusal, chain_refusal, blank_table, blank_chain}
use Rattle.trials.specs.declared.Effect.{Effect}
use Rattle.trials.specs.declared.Effect.TheVariants.{StillMaximal, OnlyChain, NotWithin}
use Rattle.trials.specs.declared.Proposal.{Proposal}

-- ---- the table with one entry flipped
-- u is the table t "with that one entry flipped and every other kept": at the place g:c a pair is there exactly when
-- it was not, at every other place exactly when it was; the shape is kept
pub record Flipped (t : Table) (g c : ℕ) (u : Table) : Type 0 where
  pub gauges : u.gauges ≡ t.gauges
  pub cases : u.cases ≡ t.cases
  pub size : length u.rows ≡ length t.rows
  pub here : Has u.rows g c ↔ (¬ Has t.rows g c)
  pub others : (h d : ℕ) → ¬ ((h ≡ g) × (d ≡ c)) → Has u.rows h d ↔ Has t.rows h d

-- ---- what a flip does to a maximal chain s of the old table: over the new table u it is "still a ladder, only a chain of the new table, or no
-- longer within it"
abbrev pub HasEffect : Effect → Table → Chain → Type 0
HasEffect StillMaximal u s = IsMaximal (table_rows u) (chain_rows s)
HasEffect OnlyChain u s = Within (table_rows u) (chain_rows s) × IsChain (chain_rows s) × (¬ IsMaximal (table_rows u) (chain_rows s))
HasEffect NotWithin u s = ¬ Within (table_rows u) (chain_rows s)

-- ---- the trial
-- "In the trial 7 for the place, right after the table's checks": a gauge outside 1..G or a case outside 1..L
unfoldable pub place_refusal : Table → ℕ → ℕ → ℕ
place_refusal t g c = cond (eqb (table_refusal t) 0) (cond (in_range t.gauges g && in_range t.cases c) 0 7) (table_refusal t)

-- "then 12 and 13 for the ladder"
unfoldable pub trial_refusal : Table → Chain → ℕ → ℕ → ℕ
trial_refusal t s g c = cond (eqb (place_refusal t g c) 0) (chain_refusal t s) (place_refusal t g c)

-- p "holds the table, the ladder, the place, and a verdict", that of the table with the entry at the place flipped
pub record Proposes (t : Table) (s : Chain) (g c : ℕ) (p : Proposal) : Type 0 where
  pub table : p.table ≡ t
  pub chain : p.chain ≡ s
  pub gauge : p.gauge.0 ≡ g
  pub case : p.case.0 ≡ c
  pub new : Table
  pub flips : Flipped t g c new
  pub effect : HasEffect p.effect new s

-- what is given beside a refusal; "A refusal yields its number and nothing else"
abbrev pub blank_proposal : Proposal
blank_proposal = record { table = blank_table; chain = blank_chain; gauge = record { 0 = 0 }; case = record { 0 = 0 }; effect = NotWithin }

abbrev pub no_proposal : ℕ → Answer Proposal
no_proposal n = record { refusal = n; value = blank_proposal }

-- a answers the trial of the chain s and the place g:c on the table t: a refusal of what was handed in; then "25: not
-- a ladder of the table"; and else the proposal
pub record Tried (t : Table) (s : Chain) (g c : ℕ) (a : Answer Proposal) : Type 0 where
  pub refused : 0 < trial_refusal t s g c → a ≡ no_proposal (trial_refusal t s g c)
  pub not_maximal : trial_refusal t s g c ≡ 0 → ¬ IsMaximal (table_rows t) (chain_rows s) → a ≡ no_proposal 25
  pub given : trial_refusal t s g c ≡ 0 → IsMaximal (table_rows t) (chain_rows s) → (a.refusal ≡ 0) × Proposes t s g c a.value

-- ---- the commit
-- p is, whole, "what the trial of its ladder and place on that table gives", and that trial is not refused
abbrev pub IsTrialOn : Table → Proposal → Type 0
IsTrialOn t p = Tried t p.chain p.gauge.0 p.case.0 (record { refusal = 0; value = p })

abbrev pub no_table : ℕ → Answer Table
no_table n = record { refusal = n; value = blank_table }

-- a answers the commit of the proposal p on the current table t: "26, at commit, after the current table's checks:
-- the proposal is not what the trial of its ladder and place on that table gives, a refused trial included"; and else
-- the table with the entry flipped
pub record Committed (p : Proposal) (t : Table) (a : Answer Table) : Type 0 where
  pub refused : 0 < table_refusal t → a ≡ no_table (table_refusal t)
  pub other : table_refusal t ≡ 0 → ¬ IsTrialOn t p → a ≡ no_table 26
  pub flipped : table_refusal t ≡ 0 → IsTrialOn t p → (a.refusal ≡ 0) × Flipped t p.gauge.0 p.case.0 a.value

-- ---- how the answer of a trial reads: the number, 0 where nothing is refused, and the proposal. That of a commit reads by `made` of crate `table`.
abbrev pub proposed : Result Proposal Refusal → Answer Proposal
proposed = answered blank_proposal
