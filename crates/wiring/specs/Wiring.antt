-- What writing an order does (02, R-9: "Given a chain and a ladder that contains it, write to a lent buffer, as two bytes a pair, gauge then case, an order
-- of the missing pairs .."). *Ladder* is 02's word for a maximal chain. t is the table, s the chain, x the ladder, out the buffer before the call
-- and after the buffer afterwards. The order itself is `FirstOrder` of crate `pair_orders`.
--
-- In order: how the code's answer reads; the checks; the answer and the buffer of a refusal, and of an order; what the call does (`Wires`).
--
-- Elsewhere: that `Wires` leaves one answer and one buffer, `wires_unique` in proofs/Answers.antt; that no two answers read alike,
-- `ordered_injective` there.
use Rattle.std.specs.Prelude.{◌≡◌, List, ◌++◌, ℕ, ◌≤◌, ◌<◌, length, drop, Result}
use Rattle.table.specs.declared.Table.{Table}
use Rattle.table.specs.declared.Chain.{Chain}
use Rattle.table.specs.Pairs.{Within}
use Rattle.table.specs.Chains.{IsChain, IsMaximal}
use Rattle.table.specs.Tables.{table_rows, chain_rows, chain_refusal}
use Rattle.refusals.specs.Answers.{Answer, answered}
use Rattle.refusals.specs.declared.Refusal.{Refusal}
use Rattle.pairs.specs.PairOrder.{Pair}
use Rattle.pair_orders.specs.Adding.{FirstOrder, pair_bytes}

-- how the code's answer reads: the number of the refusal, 0 where nothing is refused, and the number of pairs, 0 beside a refusal
abbrev pub ordered : Result ℕ Refusal → Answer ℕ
ordered = answered 0

-- ---- the checks
-- "25: the second is no ladder or lacks a pair of the first": it is a ladder of t and has every pair of s
pub record Leads (t : Table) (s x : Chain) : Type 0 where
  pub maximal : IsMaximal (table_rows t) (chain_rows x)
  pub contains : Within (chain_rows x) (chain_rows s)

-- the number n for the ladder, or 0: "then 12 and 13 for the ladder, then 25"
pub record LadderChecks (t : Table) (s x : Chain) (n : ℕ) : Type 0 where
  pub refused : ¬ (chain_refusal t x ≡ 0) → n ≡ chain_refusal t x
  pub no_ladder : chain_refusal t x ≡ 0 → ¬ Leads t s x → n ≡ 25
  pub passes : chain_refusal t x ≡ 0 → Leads t s x → n ≡ 0

-- the number n of all checks but the buffer's, or 0: "After the table 12, 13 and 14 for the chain, then .. the ladder"
pub record Checks (t : Table) (s x : Chain) (n : ℕ) : Type 0 where
  pub refused : ¬ (chain_refusal t s ≡ 0) → n ≡ chain_refusal t s
  pub no_chain : chain_refusal t s ≡ 0 → ¬ IsChain (chain_rows s) → n ≡ 14
  pub ladder : chain_refusal t s ≡ 0 → IsChain (chain_rows s) → LadderChecks t s x n

-- ---- the answer a, and the buffer afterwards
-- "A refusal yields its number and nothing else": no pairs, and the buffer as it was
pub record Refuses (n : ℕ) (out : List ℕ) (a : Answer ℕ) (after : List ℕ) : Type 0 where
  pub answer : a ≡ record { refusal = n; value = 0 }
  pub buffer : after ≡ out

-- "The number of pairs is reported, and the buffer past them stays untouched"
pub record Writes (ps : List Pair) (out : List ℕ) (a : Answer ℕ) (after : List ℕ) : Type 0 where
  pub answer : a ≡ record { refusal = 0; value = length ps }
  pub buffer : after ≡ pair_bytes ps ++ drop (length (pair_bytes ps)) out

-- the order of R-9 from the rows s to the rows x: "then 16 if the buffer is too short"
pub record WritesOrder (x s out : List ℕ) (a : Answer ℕ) (after : List ℕ) : Type 0 where
  pub order : List Pair
  pub first : FirstOrder x s order
  pub short : length out < length (pair_bytes order) → Refuses 16 out a after
  pub room : length (pair_bytes order) ≤ length out → Writes order out a after

-- ---- what the call does, for every table, every two chains and every buffer
pub record Wires (t : Table) (s x : Chain) (out : List ℕ) (a : Answer ℕ) (after : List ℕ) : Type 0 where
  pub number : ℕ
  pub checks : Checks t s x number
  pub refused : ¬ (number ≡ 0) → Refuses number out a after
  pub order : number ≡ 0 → WritesOrder (chain_rows x) (chain_rows s) out a after
