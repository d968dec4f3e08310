-- What the entry gives that writes an order is there for every input (`orders_exists`), and is one thing only (`orders_unique`).
--
-- In order: uniqueness; every table and every two chains have a number of the checks (`checks_some`); an order where that is 0 (`wires_some`); the entry,
-- and with slices no longer than their layouts the library's answer (`orders_served`).
--
-- Elsewhere: what holds of every entry, words/proofs/Answers; one answer of the library's own function, `wires_unique` in wiring/proofs/Answers.
use Rattle.std.specs.Prelude.{Ok}
use mathlib.Core.Path.{◌≡◌, refl, sym, ap, ap₂, ◌∙◌}
use mathlib.Core.Bool.{Bool, true, false}
use mathlib.Core.List.{List, [], ◌∷◌, ◌++◌}
use Prim.Native.Nat.{ℕ, ◌≤◌, ◌<◌}
use native.Mathlib.Decide.{ℕ_discrete, dec_lt}
use native.Mathlib.Omega.{arith}
use lib.ListN.{length, drop}
use Rattle.refusals.specs.Answers.{Answer}
use Rattle.table.specs.declared.Table.{Table}
use Rattle.table.specs.declared.Chain.{Chain}
use Rattle.table.specs.Chains.{IsChain, IsMaximal}
use Rattle.table.specs.Tables.{table_rows, chain_rows, chain_refusal}
use Rattle.judge.proofs.NestedTest.{chain_dec}
use Rattle.judge.proofs.Verdicts.{judged_yes, judged_no, maximal_dec}
use Rattle.pair_orders.specs.Adding.{pair_bytes}
use Rattle.wiring.specs.Wiring.{Wires}
use Rattle.wiring.specs.private.Steps.{LadderChecked, Checked, includes}
use Rattle.wiring.proofs.Checking.{ladder_no, ladder-lacks, ladder-yes, chain_no, chain_yes}
use Rattle.wiring.proofs.Answers.{Plan, plan, wires_unique}
use Rattle.words.specs.Layouts.{table_at, chain_at}
use Rattle.words.specs.Serving.{words_after}
use Rattle.words.proofs.Serving.{long_two, long_more}
use Rattle.words.proofs.Answers.{short_dec, or_dec}
use Rattle.words.proofs.Back.{rows_size}
use Rattle.c_orders.specs.Serving.{ShortOrder, OrderedWords, OrdersWords}
use Rattle.c_orders.proofs.Serving.{orders_short}

-- ---- one answer
module _ (t s x bytes count : List ℕ) where
  order_dec : Dec (ShortOrder t s x count)
  order_dec = or_dec (short_dec t 66) (or_dec (short_dec s 65) (or_dec (short_dec x 65) (short_dec count 1)))

  pub orders_unique : (a b c d : List ℕ) (r q : ℕ) → OrdersWords t s x bytes count a c r → OrdersWords t s x bytes count b d q
      → (a ≡ b) × (c ≡ d) × (r ≡ q)
  orders_unique a b c d r q g h = go order_dec
    where
      go : Dec (ShortOrder t s x count) → (a ≡ b) × (c ≡ d) × (r ≡ q)
      go (yes l) =
          let (r1, a1, c1) = g.short l in
          let (r2, a2, c2) = h.short l in
          (a1 ∙ sym a2, c1 ∙ sym c2, r1 ∙ sym r2)
      go (no l) = (
        same.1,
        u.counted ∙ ap₂ (λ (n : ℕ) (e : Answer ℕ). words_after n (e.value ∷ []) count) number same.0 ∙ sym v.counted,
        number,
      )
        where
          u : OrderedWords (table_at 0 t) (chain_at 0 s) (chain_at 0 x) bytes count a c r
          u = g.served l

          v : OrderedWords (table_at 0 t) (chain_at 0 s) (chain_at 0 x) bytes count b d q
          v = h.served l

          same : (u.answer ≡ v.answer) × (a ≡ b)
          same = wires_unique (table_at 0 t) (chain_at 0 s) (chain_at 0 x) bytes u.answer v.answer a b u.wires v.wires

          number : r ≡ q
          number = u.number ∙ ap (λ (e : Answer ℕ). e.refusal) same.0 ∙ sym v.number

-- ---- an answer for every table and every two chains of 64 rows each, and every buffer
module _ (t : Table) (s x : Chain) (nt : length t.rows ≡ 64) (ns : length s.rows ≡ 64) (nx : length x.rows ≡ 64) where
  -- the ladder's number, of a chain that passes
  ladder_some : chain_refusal t s ≡ 0 → (n : ℕ) × LadderChecked t s x n
  ladder_some es = go (ℕ_discrete (chain_refusal t x) 0)
    where
      held : (ex : chain_refusal t x ≡ 0) → Dec (IsMaximal (table_rows t) (chain_rows x)) → (b : Bool) → includes x.rows s.rows t.gauges ≡ b
          → (n : ℕ) × LadderChecked t s x n
      held ex (no f) b i = (25, ladder_no t s x (Ok false) (judged_no (chain_refusal t x) ex f) refl)
      held ex (yes m) true i = (0, ladder-yes t s x (Ok true) (judged_yes (chain_refusal t x) ex m) refl nt ns nx es true (sym i) refl)
      held ex (yes m) false i = (25, ladder-lacks t s x (Ok true) (judged_yes (chain_refusal t x) ex m) refl nt ns nx es false (sym i) refl)

      go : Dec (chain_refusal t x ≡ 0) → (n : ℕ) × LadderChecked t s x n
      go (yes ex) = held ex (maximal_dec t x ex nt nx) (includes x.rows s.rows t.gauges) refl
      go (no z) = (
        chain_refusal t x,
        record {
          number = record { refused = λ _. refl; no_ladder = λ y. absurd (z y); passes = λ y. absurd (z y) };
          passes = λ y. absurd (z y);
          leads = λ y. absurd (z y);
        },
      )

  -- the number of all checks
  checks_some : (n : ℕ) × Checked t s x n
  checks_some = go (ℕ_discrete (chain_refusal t s) 0)
    where
      chained : chain_refusal t s ≡ 0 → Dec (IsChain (chain_rows s)) → (n : ℕ) × Checked t s x n
      chained es (yes c) = let (n, l) = ladder_some es in (n, chain_yes t s x (Ok true) (judged_yes (chain_refusal t s) es c) refl n l)
      chained es (no f) = (14, chain_no t s x (Ok false) (judged_no (chain_refusal t s) es f) refl)

      go : Dec (chain_refusal t s ≡ 0) → (n : ℕ) × Checked t s x n
      go (yes es) = chained es (chain_dec (chain_rows s))
      go (no z) = (
        chain_refusal t s,
        record {
          number = record { refused = λ _. refl; no_chain = λ y. absurd (z y); ladder = λ y. absurd (z y) };
          chain_passes = λ y. absurd (z y);
          chain = λ y. absurd (z y);
          passes = λ y. absurd (z y);
          leads = λ y. absurd (z y);
        },
      )

  wires_some : (out : List ℕ) → (a : Answer ℕ) × (after : List ℕ) × Wires t s x out a after
  wires_some out = let (n, c) = checks_some in go n c (ℕ_discrete n 0)
    where
      ordered : (n : ℕ) → Checked t s x n → n ≡ 0 → (p : Plan t s x) → Dec (length out < length (pair_bytes p.order))
          → (a : Answer ℕ) × (after : List ℕ) × Wires t s x out a after
      ordered n c z p (yes l) = (
        record { refusal = 16; value = 0 },
        out,
        record {
          number = n;
          checks = c.number;
          refused = λ y. absurd (y z);
          order = λ _. record {
            order = p.order;
            first = p.first;
            short = λ _. record { answer = refl; buffer = refl };
            room = λ m. absurd (omega arith);
          };
        },
      )
      ordered n c z p (no l) = (
        record { refusal = 0; value = length p.order },
        pair_bytes p.order ++ drop (length (pair_bytes p.order)) out,
        record {
          number = n;
          checks = c.number;
          refused = λ y. absurd (y z);
          order = λ _. record {
            order = p.order;
            first = p.first;
            short = λ m. absurd (l m);
            room = λ _. record { answer = refl; buffer = refl };
          };
        },
      )

      go : (n : ℕ) → Checked t s x n → Dec (n ≡ 0) → (a : Answer ℕ) × (after : List ℕ) × Wires t s x out a after
      go n c (yes z) = let p = plan t s x nt ns nx n c z in ordered n c z p (dec_lt (length out) (length (pair_bytes p.order)))
      go n c (no z) = (
        record { refusal = n; value = 0 },
        out,
        record {
          number = n;
          checks = c.number;
          refused = λ _. record { answer = refl; buffer = refl };
          order = λ y. absurd (z y);
        },
      )

-- ---- the entry
pub orders_exists : (t s x bytes count : List ℕ) → (bytes' : List ℕ) × (count' : List ℕ) × (r : ℕ) × OrdersWords t s x bytes count bytes' count' r
orders_exists t s x bytes count = go (order_dec t s x bytes count)
  where
    go : Dec (ShortOrder t s x count) → (bytes' : List ℕ) × (count' : List ℕ) × (r : ℕ) × OrdersWords t s x bytes count bytes' count' r
    go (yes l) = (bytes, count, 100, orders_short t s x bytes count l)
    go (no l) =
        let (a, after, w) = wires_some (table_at 0 t) (chain_at 0 s) (chain_at 0 x) (rows_size 2 t) (rows_size 1 s) (rows_size 1 x) bytes in (
          after,
          words_after a.refusal (a.value ∷ []) count,
          a.refusal,
          record { short = λ y. absurd (l y); served = λ _. record { answer = a; wires = w; number = refl; counted = refl } },
        )

-- 66, 65, 65 and 1 words are enough: it is the number, the count and the bytes of the library's answer
pub orders_served : (t s x bytes count : List ℕ) → 66 ≤ length t → 65 ≤ length s → 65 ≤ length x → 1 ≤ length count → (a : Answer ℕ) (after : List ℕ)
    → Wires (table_at 0 t) (chain_at 0 s) (chain_at 0 x) bytes a after → (bytes' count' : List ℕ) (r : ℕ) → OrdersWords t s x bytes count bytes' count' r
    → (bytes' ≡ after) × (count' ≡ words_after a.refusal (a.value ∷ []) count) × (r ≡ a.refusal)
orders_served t s x bytes count lt ls lx lc a after w bytes' count' r g =
    orders_unique t s x bytes count bytes' after count' (words_after a.refusal (a.value ∷ []) count) r a.refusal g (record {
      short = λ y. absurd (long_more lt (long_more ls (long_two lx lc)) y);
      served = λ _. record { answer = a; wires = w; number = refl; counted = refl };
    })
