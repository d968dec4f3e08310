-- A batch's answer and buffer are determined by the value, the budget and the buffer handed in (`batched_unique`),
-- and there is an answer for each (`batched_exists`): a refusal or what its calls give (`batched_cases`). The state
-- after a batch is reached (`batch_reached`), and each ladder has G words (`gauge_words`, `case_words`).
use mathlib.Core.Path.{◌≡◌, refl, sym, ap, ◌∙◌, subst}
use mathlib.Core.Logic.{◌⊎◌, inl, inr}
use mathlib.Core.Bool.{Bool}
use mathlib.Core.List.{List, ◌++◌}
use Prim.Native.Nat.{ℕ, zero, suc, ◌-◌, ◌/◌, ◌≤◌, ◌<◌}
use native.Mathlib.Decide.{ℕ_discrete, dec_le}
use native.Mathlib.Omega.{arith}
use lib.ListN.{length, drop}
use Rattle.basics.proofs.Clash.{clash}
use Rattle.table.specs.declared.Table.{Table}
use Rattle.rules.specs.Machine.{State, Given, nothing, hands, ends, Move}
use Rattle.rules.specs.Sequences.{All}
use Rattle.rules.proofs.Calls.{within_by}
use Rattle.rules.specs.Calls.{Reply, refused, spent, handed, end, Call, most_budget, proceed_by, carry_by, call_by}
use Rattle.lists.specs.Lists.{Side, gauge_side, case_side}
use Rattle.lists.specs.OnTable.{hand_out, ReachedOn}
use Rattle.table.specs.Tables.{Legal}
use Rattle.runs.specs.Paused.{Value}
use Rattle.runs.specs.Calling.{held, value_refusal, PausedAt}
use Rattle.runs.specs.Omitting.{moves_of}
use Rattle.runs.specs.private.Either.{call_of}
use Rattle.runs.proofs.Sides.{gauge_chain, case_chain}
use Rattle.runs.specs.Batches.{Batch, Tale, joined, denial, Denied, given, Comes, onward, batch_by, batch_on, Batched}
use Rattle.runs.proofs.Answered.{paused_state}
use Rattle.runs.proofs.Demands.{Starts, reached_next}
use Rattle.runs.proofs.Deciding.{paused_decided}

module _ (side : Table → Side) (v : Value) (b : ℕ) (before : List ℕ) (g : Starts side v) where
  abbrev Same : Batch → List ℕ → Batch → List ℕ → Type 0
  Same r now q then = (r ≡ q) × (now ≡ then)

  denied_same : (n : ℕ) (r : Batch) (now : List ℕ) (q : Batch) (then : List ℕ) → Denied n before r now → Denied n before q then → Same r now q then
  denied_same n r now q then x y = (x.says ∙ sym y.says, x.buffer ∙ sym y.buffer)

  -- a refusal, or what its calls give from the state that v is paused at
  abbrev Either : Batch → List ℕ → Type 0
  Either r now =
      ((n : ℕ) × ¬ (n ≡ 0) × Denied n before r now)
      ⊎ ((s : State) × (value_refusal side v ≡ 0) × PausedAt side v s × (b ≤ most_budget)
      × Comes v.table v.order v.omit (batch_on side v (length before) b s) before r now)

  pub batched_cases : (r : Batch) (now : List ℕ) → Batched side v b before r now → Either r now
  batched_cases r now h = by-table (ℕ_discrete (value_refusal side v) 0)
    where
      by_value : value_refusal side v ≡ 0 → ((s : State) × PausedAt side v s) ⊎ ((s : State) → PausedAt side v s → ⊥) → Dec (b ≤ most_budget) → Either r now
      by_value z (inl (s, p)) (yes l) = inr (s, z, p, l, h.rules z s p l)
      by_value z (inl (s, p)) (no l) = inl (18, λ e. omega (arith, e), h.large z s p (omega arith))
      by_value z (inr none) d = inl (15, λ e. omega (arith, e), h.value z none)

      by-table : Dec (value_refusal side v ≡ 0) → Either r now
      by-table (yes z) = by_value z (paused_decided side v (g z)) (dec_le b most_budget)
      by-table (no z) = inl (value_refusal side v, z, h.table (omega arith))

  pub batched_unique : (r : Batch) (now : List ℕ) (q : Batch) (then : List ℕ) → Batched side v b before r now → Batched side v b before q then
      → Same r now q then
  batched_unique r now q then x y = by-table (ℕ_discrete (value_refusal side v) 0)
    where
      by_value : value_refusal side v ≡ 0 → ((s : State) × PausedAt side v s) ⊎ ((s : State) → PausedAt side v s → ⊥) → Dec (b ≤ most_budget)
          → Same r now q then
      by_value z (inl (s, p)) (yes l) =
          let a = x.rules z s p l in
          let c = y.rules z s p l in
          (a.says ∙ sym c.says, a.buffer ∙ sym c.buffer)
      by_value z (inl (s, p)) (no l) = denied_same 18 r now q then (x.large z s p (omega arith)) (y.large z s p (omega arith))
      by_value z (inr none) d = denied_same 15 r now q then (x.value z none) (y.value z none)

      by-table : Dec (value_refusal side v ≡ 0) → Same r now q then
      by-table (yes z) = by_value z (paused_decided side v (g z)) (dec_le b most_budget)
      by-table (no z) =
          let l : 0 < value_refusal side v = omega arith in
          denied_same (value_refusal side v) r now q then (x.table l) (y.table l)

  pub batched_exists : (r : Batch) × (now : List ℕ) × Batched side v b before r now
  batched_exists = by-table (ℕ_discrete (value_refusal side v) 0)
    where
      by-budget : value_refusal side v ≡ 0 → (s : State) → PausedAt side v s → Dec (b ≤ most_budget)
          → (r : Batch) × (now : List ℕ) × Batched side v b before r now
      by-budget z s p (yes l) =
          let u : Tale = batch_on side v (length before) b s in (
            given v.table v.order v.omit u,
            joined u.sets ++ drop (length (joined u.sets)) before,
            record {
              table = λ w. absurd (omega (arith, z));
              value = λ y none. absurd (none s p);
              large = λ y x q w. absurd (omega arith);
              rules = λ y x q w.
                  let e : s ≡ x = paused_state v.table v.order v.omit s x (sym p.stands ∙ q.stands) in
                  subst (λ (a : State). Comes v.table v.order v.omit (batch_on side v (length before) b a) before
                  (given v.table v.order v.omit u) (joined u.sets ++ drop (length (joined u.sets)) before)) e
                  (record { says = refl; buffer = refl });
            },
          )
      by-budget z s p (no l) = (
        denial 18,
        before,
        record {
          table = λ w. absurd (omega (arith, z));
          value = λ y none. absurd (none s p);
          large = λ y x q w. record { says = refl; buffer = refl };
          rules = λ y x q w. absurd (omega arith);
        },
      )

      by_value : value_refusal side v ≡ 0 → ((s : State) × PausedAt side v s) ⊎ ((s : State) → PausedAt side v s → ⊥)
          → (r : Batch) × (now : List ℕ) × Batched side v b before r now
      by_value z (inl (s, p)) = by-budget z s p (dec_le b most_budget)
      by_value z (inr none) = (
        denial 15,
        before,
        record {
          table = λ w. absurd (omega (arith, z));
          value = λ y w. record { says = refl; buffer = refl };
          large = λ y s p w. absurd (none s p);
          rules = λ y s p w. absurd (none s p);
        },
      )

      by-table : Dec (value_refusal side v ≡ 0) → (r : Batch) × (now : List ℕ) × Batched side v b before r now
      by-table (yes z) = by_value z (paused_decided side v (g z))
      by-table (no z) = (
        denial (value_refusal side v),
        before,
        record {
          table = λ w. record { says = refl; buffer = refl };
          value = λ y w. absurd (z y);
          large = λ y s p w. absurd (z y);
          rules = λ y s p w. absurd (z y);
        },
      )

-- ---- the state after a batch
pub batch_reached : (t : Table) (y : Side) (o : List ℕ) (omit : Bool) (k b : ℕ) (s : State) → ReachedOn y o s
    → ReachedOn y o (batch_by (moves_of t y o omit) (hand_out y) k b s).next
batch_reached t y o omit zero b s h = h
batch_reached t y o omit (suc k) b s h =
    go (call_of t y o omit b s).answer (call_of t y o omit b s).moves (call_of t y o omit b s).next (reached_next t y o omit b s h)
    (λ m x r. batch_reached t y o omit k (b - m) x r)
  where
    mv : State → Move
    mv = moves_of t y o omit

    go : (a : Reply) (m : ℕ) (x : State) → ReachedOn y o x
        → ((m : ℕ) (x : State) → ReachedOn y o x → ReachedOn y o (batch_by mv (hand_out y) k (b - m) x).next)
        → ReachedOn y o (onward mv (hand_out y) (batch_by mv (hand_out y) k) b a m x).next
    go (refused n) m x r more = r
    go spent m x r more = r
    go (handed l) m x r more = more m x r
    go end m x r more = r

-- ---- a ladder of a batch has G words
module _ (mv : State → Move) (out : List ℕ → List ℕ) (g : ℕ) (h : (p : List ℕ) → length (out p) ≡ g) where
  carry_size : (b : ℕ) (s : State) (x : List ℕ) → (carry_by mv out b s).answer ≡ handed x → length x ≡ g
  carry_size zero s x e = clash cc
  carry_size (suc b) s x e = go (mv s).given (carry_size b (mv s).next x) e
    where
      go : (i : Given) → ((carry_by mv out b (mv s).next).answer ≡ handed x → length x ≡ g)
          → (proceed_by mv out (carry_by mv out b) i (mv s).next).answer ≡ handed x → length x ≡ g
      go nothing ih d = ih d
      go (hands p) ih d = let y : out p ≡ x = cc in ap length (sym y) ∙ h p
      go ends ih d = clash cc

  batch_size : (k b : ℕ) (s : State) → b ≤ most_budget → All (λ (x : List ℕ). length x ≡ g) (batch_by mv out k b s).sets
  batch_size zero b s l = tt
  batch_size (suc k) b s l =
      go (call_by mv out b s).answer (call_by mv out b s).moves (call_by mv out b s).next
      (λ x e. carry_size b s x (sym (ap (λ (c : Call). c.answer) (within_by mv out b s l)) ∙ e))
      (batch_size k (b - (call_by mv out b s).moves) (call_by mv out b s).next (omega arith))
    where
      go : (a : Reply) (m : ℕ) (y : State) → ((x : List ℕ) → a ≡ handed x → length x ≡ g)
          → All (λ (x : List ℕ). length x ≡ g) (batch_by mv out k (b - m) y).sets
          → All (λ (x : List ℕ). length x ≡ g) (onward mv out (batch_by mv out k) b a m y).sets
      go (refused n) m y d ih = tt
      go spent m y d ih = tt
      go (handed x) m y d ih = (d x refl, ih)
      go end m y d ih = tt

module _ (v : Value) (l : Legal v.table) (words b : ℕ) (s : State) (few : b ≤ most_budget) where
  pub gauge_words : All (λ (x : List ℕ). length x ≡ v.table.gauges) (batch_on gauge_side v words b s).sets
  gauge_words =
      batch_size (moves_of v.table (gauge_side v.table) (held gauge_side v) v.omit) (hand_out (gauge_side v.table)) v.table.gauges
      (λ p. (gauge_chain v.table l p _ refl).size) (words / v.table.gauges) b s few

  pub case_words : All (λ (x : List ℕ). length x ≡ v.table.gauges) (batch_on case_side v words b s).sets
  case_words =
      batch_size (moves_of v.table (case_side v.table) (held case_side v) v.omit) (hand_out (case_side v.table)) v.table.gauges
      (λ p. (case_chain v.table l p _ _ refl refl).size) (words / v.table.gauges) b s few
