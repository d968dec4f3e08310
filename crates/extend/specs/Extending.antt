-- Extending a chain (01: "**Growing**: a chain of the table is answered by the first ladder in gauge order that contains it"), under a preference
-- (02, R-12: "a growth now take a preference"), by which that order goes. *Maximal chain* is 01's "ladder"; the first one that contains a set of
-- pairs is `FirstContaining` of crate `lists`, and there is exactly one for every chain of the table. So `Extends` leaves one answer to every table,
-- every preference and every chain: `extends_unique` in proofs/Answers.antt.
use Rattle.std.specs.Prelude.{◌≡◌, cond, List, ℕ, eqb, Result}
use Rattle.table.specs.declared.Table.{Table}
use Rattle.table.specs.declared.Chain.{Chain}
use Rattle.table.specs.Chains.{IsChain}
use Rattle.table.specs.Tables.{table_rows, chain_rows, chain_refusal, padded, blank_chain}
use Rattle.refusals.specs.Answers.{Answer, answered}
use Rattle.refusals.specs.declared.Refusal.{Refusal}
use Rattle.lists.specs.Lists.{gauge_side, list_key}
use Rattle.lists.specs.Growing.{FirstContaining}
use Rattle.preference.specs.Preferences.{preferred_refusal, order_of}

-- how the code's answer reads: 01's number, 0 where nothing is refused, and the chain
abbrev pub extended : Result Chain Refusal → Answer Chain
extended = answered blank_chain

-- "A refusal yields its number and nothing else": the chain beside it has no gauges and no pairs
abbrev pub refused_by : ℕ → Answer Chain
refused_by n = record { refusal = n; value = blank_chain }

-- the number for a table, the 64 numbers k of a preference and a chain: the table's refusals, 10 and 11, then 27, "right after the table's checks,
-- before all others" (02, R-12), then those of a chain after its table, 12 and 13
unfoldable pub grow_refusal : Table → List ℕ → Chain → ℕ
grow_refusal t k s = cond (eqb (preferred_refusal t t.gauges k) 0) (chain_refusal t s) (preferred_refusal t t.gauges k)

-- the 64 rows are those of the first maximal chain of t, by the order of the gauge list under the preference o, that contains s
pub record FirstRows (t : Table) (o : List ℕ) (s : Chain) (rows : List ℕ) : Type 0 where
  pub chain : List ℕ
  pub first : FirstContaining (table_rows t) (list_key (gauge_side t) o) (chain_rows s) chain
  pub held : rows ≡ padded chain

-- nothing is refused, and the answer is the first maximal chain of t that contains s
pub record Grown (t : Table) (o : List ℕ) (s : Chain) (a : Answer Chain) : Type 0 where
  pub accepted : a.refusal ≡ 0
  pub count : a.value.gauges ≡ t.gauges
  pub rows : FirstRows t o s a.value.rows

-- a answers how the chain s of the table t is extended under the preference in k
pub record Extends (t : Table) (k : List ℕ) (s : Chain) (a : Answer Chain) : Type 0 where
  pub checked : ¬ (grow_refusal t k s ≡ 0) → a ≡ refused_by (grow_refusal t k s)
  -- "Growing, after these: 14 not a chain"
  pub no_chain : grow_refusal t k s ≡ 0 → ¬ IsChain (chain_rows s) → a ≡ refused_by 14
  pub grown : grow_refusal t k s ≡ 0 → IsChain (chain_rows s) → Grown t (order_of t.gauges k) s a
