-- "The arrangement 1, 2, 3 and on gives the former results" (02, R-12), of growing: the answer is the first maximal chain in 01's gauge order that contains
-- the chain.
use mathlib.Core.Path.{◌≡◌, ap₂, subst}
use mathlib.Core.List.{List}
use Prim.Native.Nat.{ℕ}
use Rattle.table.specs.declared.Table.{Table}
use Rattle.table.specs.declared.Chain.{Chain}
use Rattle.table.specs.Chains.{IsChain}
use Rattle.table.specs.Tables.{Legal, table_rows, chain_rows, padded}
use Rattle.table.proofs.Legality.{length_rows}
use Rattle.refusals.specs.Answers.{Answer}
use Rattle.lists.specs.Arrangements.{plain}
use Rattle.lists.specs.Lists.{base_key}
use Rattle.lists.specs.Growing.{FirstContaining}
use Rattle.lists.proofs.Plain.{first_base}
use Rattle.preference.specs.Preferences.{plain_numbers}
use Rattle.preference.proofs.PlainOrder.{order_plain}
use Rattle.extend.specs.Extending.{grow_refusal, Grown, Extends}

pub grown_plain : (t : Table) (s : Chain) (a : Answer Chain) → Legal t → Extends t (plain_numbers t.gauges) s a
    → grow_refusal t (plain_numbers t.gauges) s ≡ 0 → IsChain (chain_rows s)
    → (a.refusal ≡ 0) × ((x : List ℕ) × FirstContaining (table_rows t) base_key (chain_rows s) x × (a.value ≡ record { gauges = t.gauges; rows = padded x }))
grown_plain t s a l e z c = (
  g.accepted,
  (
    g.rows.chain,
    first_base t.gauges (table_rows t) (chain_rows s) g.rows.chain (length_rows t l) g.rows.first,
    ap₂ (λ (n : ℕ) (r : List ℕ). record { gauges = n; rows = r }) g.count g.rows.held,
  ),
)
  where
    g : Grown t (plain t.gauges) s a
    g = subst (λ (o : List ℕ). Grown t o s a) (order_plain t.gauges l.gauges_high) (e.grown z c)
