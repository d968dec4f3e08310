-- What a reader finds in the promise of an order written, sentence by sentence: the number of pairs, their bytes and the buffer past them (`writes_bytes`);
-- the ladder that is asked for (`leads_is`), and so who gets 25 (`twenty_five`). That one answer and one buffer are left: `wires_unique`, Answers.antt.
use mathlib.Core.Path.{◌≡◌, ap, ◌∙◌}
use mathlib.Core.Logic.{◌⊎◌, inl, inr}
use mathlib.Core.List.{List}
use Prim.Native.Nat.{ℕ, ◌*◌}
use lib.ListN.{length, take, drop}
use lib.Seq.{take_at, drop_at}
use Rattle.refusals.specs.Answers.{Answer}
use Rattle.table.specs.declared.Table.{Table}
use Rattle.table.specs.declared.Chain.{Chain}
use Rattle.table.specs.Pairs.{Has}
use Rattle.table.specs.Chains.{IsMaximal}
use Rattle.table.specs.Tables.{table_rows, chain_rows, chain_refusal}
use Rattle.pairs.specs.PairOrder.{Pair}
use Rattle.pair_orders.specs.Adding.{pair_bytes}
use Rattle.wiring.specs.Wiring.{Leads, LadderChecks, Writes}
use Rattle.wiring.proofs.Answers.{bytes_length}

-- "as two bytes a pair .. The number of pairs is reported, and the buffer past them stays untouched"
pub writes_bytes : (ps : List Pair) (out : List ℕ) (a : Answer ℕ) (after : List ℕ) → Writes ps out a after
    → (a.refusal ≡ 0) × (a.value ≡ length ps) × (take (2 * length ps) after ≡ pair_bytes ps) × (drop (2 * length ps) after ≡ drop (2 * length ps) out)
writes_bytes ps out a after w = (
  ap (λ (x : Answer ℕ). x.refusal) w.answer,
  ap (λ (x : Answer ℕ). x.value) w.answer,
  ap (take n) w.buffer ∙ take_at (pair_bytes ps) (drop (length (pair_bytes ps)) out) n (bytes_length ps),
  ap (drop n) w.buffer ∙ drop_at (pair_bytes ps) (drop (length (pair_bytes ps)) out) n (bytes_length ps) ∙ ap (λ (m : ℕ). drop m out) (bytes_length ps),
)
  where
    n : ℕ
    n = 2 * length ps

-- a ladder of the table that has every pair of the chain
pub leads_is : (t : Table) (s x : Chain) → Leads t s x → IsMaximal (table_rows t) (chain_rows x) × ((g c : ℕ) → Has (chain_rows s) g c → Has (chain_rows x) g c)
leads_is t s x l = (l.maximal, l.contains.inside)

-- "25: the second is no ladder or lacks a pair of the first"
pub twenty_five : (t : Table) (s x : Chain) (n : ℕ) → LadderChecks t s x n → chain_refusal t x ≡ 0
    → (¬ IsMaximal (table_rows t) (chain_rows x)) ⊎ ((g : ℕ) × (c : ℕ) × Has (chain_rows s) g c × (¬ Has (chain_rows x) g c)) → n ≡ 25
twenty_five t s x n k z (inl m) = k.no_ladder z (λ l. m (leads_is t s x l).0)
twenty_five t s x n k z (inr (g, c, h, m)) = k.no_ladder z (λ l. m ((leads_is t s x l).1 g c h))
