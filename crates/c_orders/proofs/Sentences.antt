-- What a caller reads off the promise, sentence by sentence (specs/Serving; 02, R-9).
--
-- In order: the number, 100 where a slice of words is too short (`orders_100`), else that of the checks, and 16 last, "if the buffer is too short"
-- (`ordered_number`); where it is 0, the order of the missing pairs at the front of the bytes, "and the buffer past them stays untouched", and "the number of
-- pairs" (`ordered_written`); where it is not, all as it was (`ordered_kept`).
use mathlib.Core.Path.{◌≡◌, ap, sym, ◌∙◌}
use mathlib.Core.Logic.{◌⊎◌, inl, inr}
use mathlib.Core.List.{List, [], ◌∷◌, ◌++◌}
use Prim.Native.Nat.{ℕ, ◌≤◌, ◌<◌}
use native.Mathlib.Decide.{ℕ_discrete, dec_lt}
use native.Mathlib.Omega.{arith}
use lib.ListN.{length, drop}
use lib.Seq.{sets as stored}
use Rattle.refusals.specs.Answers.{Answer}
use Rattle.table.specs.declared.Table.{Table}
use Rattle.table.specs.declared.Chain.{Chain}
use Rattle.table.specs.Tables.{chain_rows}
use Rattle.pairs.specs.PairOrder.{Pair}
use Rattle.pair_orders.specs.Adding.{FirstOrder, pair_bytes}
use Rattle.wiring.specs.Wiring.{Checks, Refuses, WritesOrder, Wires}
use Rattle.words.proofs.Serving.{left_refused}
use Rattle.words.proofs.Answers.{left_zero}
use Rattle.c_orders.specs.Serving.{ShortOrder, OrderedWords, OrdersWords}

pub orders_100 : {t s x bytes count bytes' count' : List ℕ} {r : ℕ} → OrdersWords t s x bytes count bytes' count' r → ShortOrder t s x count
    → (r ≡ 100) × (bytes' ≡ bytes) × (count' ≡ count)
orders_100 g h = g.short h

-- ---- the library's answer a: an order at the front of the bytes, or a refusal
module _ (t : Table) (s x : Chain) (bytes bytes' : List ℕ) (a : Answer ℕ) where
  abbrev Ordered : Type 0
  Ordered =
      (ps : List Pair) × FirstOrder (chain_rows x) (chain_rows s) ps × (bytes' ≡ pair_bytes ps ++ drop (length (pair_bytes ps)) bytes)
      × (a ≡ record { refusal = 0; value = length ps })

  abbrev Kept : Type 0
  Kept = ¬ (a.refusal ≡ 0) × (bytes' ≡ bytes)

  wires_or_not : Wires t s x bytes a bytes' → Ordered ⊎ Kept
  wires_or_not w = go (ℕ_discrete w.number 0)
    where
      refused : (n : ℕ) → ¬ (n ≡ 0) → Refuses n bytes a bytes' → Ordered ⊎ Kept
      refused n z f = inr (λ e. z (sym (ap (λ (y : Answer ℕ). y.refusal) f.answer) ∙ e), f.buffer)

      ordered : (o : WritesOrder (chain_rows x) (chain_rows s) bytes a bytes') → Dec (length bytes < length (pair_bytes o.order)) → Ordered ⊎ Kept
      ordered o (yes l) = refused 16 (λ e. omega (arith, e)) (o.short l)
      ordered o (no l) = let d = o.room (omega arith) in inl (o.order, o.first, d.buffer, d.answer)

      go : Dec (w.number ≡ 0) → Ordered ⊎ Kept
      go (yes z) = let o = w.order z in ordered o (dec_lt (length bytes) (length (pair_bytes o.order)))
      go (no z) = refused w.number z (w.refused z)

-- ---- what the entry gives
module _ (t : Table) (s x : Chain) (bytes count bytes' count' : List ℕ) (r : ℕ) where
  pub ordered_number : OrderedWords t s x bytes count bytes' count' r
      → (n : ℕ) × Checks t s x n × (¬ (n ≡ 0) → r ≡ n)
      × (n ≡ 0 → (ps : List Pair) × FirstOrder (chain_rows x) (chain_rows s) ps × (length bytes < length (pair_bytes ps) → r ≡ 16)
      × (length (pair_bytes ps) ≤ length bytes → r ≡ 0))
  ordered_number o = (
    o.wires.number,
    o.wires.checks,
    λ z. o.number ∙ ap (λ (a : Answer ℕ). a.refusal) (o.wires.refused z).answer,
    λ z.
        let w = o.wires.order z in (
          w.order,
          w.first,
          λ l. o.number ∙ ap (λ (a : Answer ℕ). a.refusal) (w.short l).answer,
          λ l. o.number ∙ ap (λ (a : Answer ℕ). a.refusal) (w.room l).answer,
        ),
  )

  pub ordered_written : OrderedWords t s x bytes count bytes' count' r → r ≡ 0
      → (ps : List Pair) × FirstOrder (chain_rows x) (chain_rows s) ps × (bytes' ≡ pair_bytes ps ++ drop (length (pair_bytes ps)) bytes)
      × (count' ≡ stored count 0 (length ps ∷ []))
  ordered_written o z = go (wires_or_not t s x bytes bytes' o.answer o.wires)
    where
      go : Ordered t s x bytes bytes' o.answer ⊎ Kept t s x bytes bytes' o.answer
          → (ps : List Pair) × FirstOrder (chain_rows x) (chain_rows s) ps × (bytes' ≡ pair_bytes ps ++ drop (length (pair_bytes ps)) bytes)
          × (count' ≡ stored count 0 (length ps ∷ []))
      go (inl (ps, f, b, a)) = (
        ps,
        f,
        b,
        o.counted ∙ left_zero r (o.answer.value ∷ []) count z ∙ ap (λ (y : Answer ℕ). stored count 0 (y.value ∷ [])) a,
      )
      go (inr k) = absurd (k.0 (sym o.number ∙ z))

  pub ordered_kept : OrderedWords t s x bytes count bytes' count' r → ¬ (r ≡ 0) → (bytes' ≡ bytes) × (count' ≡ count)
  ordered_kept o z = (go (wires_or_not t s x bytes bytes' o.answer o.wires), o.counted ∙ left_refused r (o.answer.value ∷ []) count z)
    where
      go : Ordered t s x bytes bytes' o.answer ⊎ Kept t s x bytes bytes' o.answer → bytes' ≡ bytes
      go (inl (ps, f, b, a)) = absurd (z (o.number ∙ ap (λ (y : Answer ℕ). y.refusal) a))
      go (inr k) = k.1
