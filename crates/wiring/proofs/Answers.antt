-- The answers of writing an order.
--
-- In order: the bytes of an order, and the buffer with them at its front; the order of a table and two chains that pass the checks, and its length by
-- the pairs counted (`Plan`, `plan`); each answer by what led to it (`wires_refused`, `wires-short`, `wires-written`); `Wires` leaves one
-- answer and one buffer (`wires_unique`), and no two answers read alike (`ordered_injective`).
use mathlib.Core.Path.{◌≡◌, refl, sym, ap, ap₂, ◌∙◌, subst, subst₂}
use mathlib.Core.List.{List, [], ◌∷◌, ◌++◌}
use Prim.Native.Nat.{ℕ, zero, suc, ◌+◌, ◌*◌, ◌≤◌, ◌<◌}
use native.Mathlib.Decide.{ℕ_discrete, dec_lt}
use native.Mathlib.Nat.{zero-add}
use native.Mathlib.Omega.{arith}
use lib.Count.{ones}
use lib.ListN.{length, take, drop}
use lib.Seq.{sets, sets-eq, get_or-take, length-take-le}
use Rattle.std.specs.Prelude.{Result}
use Rattle.sets.proofs.Order.{sub_bit}
use Rattle.table.specs.declared.Table.{Table}
use Rattle.table.specs.declared.Chain.{Chain}
use Rattle.table.specs.Pairs.{row, Cases}
use Rattle.table.specs.Chains.{IsChain}
use Rattle.table.specs.Tables.{table_rows, chain_rows, chain_refusal}
use Rattle.table.proofs.Places.{within_sub}
use Rattle.table.proofs.Legality.{ChainFacts, chain_facts, legal_cases, chain_within}
use Rattle.refusals.specs.Answers.{number, Answer}
use Rattle.refusals.specs.declared.Refusal.{Refusal}
use Rattle.refusals.proofs.Answering.{number_pos, answered_injective}
use Rattle.pairs.specs.PairOrder.{Pair}
use Rattle.pair_orders.specs.Adding.{FirstOrder, pair_bytes}
use Rattle.pair_orders.specs.private.Growing.{pairs_in}
use Rattle.pair_orders.proofs.Orders.{first_exists, first_order, first_unique, order_count}
use Rattle.wiring.specs.Wiring.{ordered, Leads, LadderChecks, Checks, Refuses, Writes, WritesOrder, Wires}
use Rattle.wiring.specs.private.Steps.{Checked, Between, Ready, StoresOrder}

-- ---- the bytes of an order
pub bytes_length : (ps : List Pair) → length (pair_bytes ps) ≡ 2 * length ps
bytes_length [] = refl
bytes_length (p ∷ ps) = omega (arith, bytes_length ps)

front : (l vs : List ℕ) → length vs ≤ length l → sets l 0 vs ≡ vs ++ drop (length vs) l
front l vs h = sets-eq vs l 0 (omega arith) ∙ ap (λ (n : ℕ). vs ++ drop n l) (zero-add (length vs))

-- ---- the order of a table and two chains that pass
count_take : (x : List ℕ) (n m : ℕ) → m ≤ n → pairs_in (take n x) m ≡ pairs_in x m
unfolding pairs_in
count_take x n zero h = refl
count_take x n (suc m) h = ap₂ (λ (a b : ℕ). a + ones b) (count_take x n m (omega arith)) (get_or-take n x m 0 (omega arith))

pub record Plan (t : Table) (s x : Chain) : Type 0 where
  pub between : Between x.rows s.rows t.gauges
  pub order : List Pair
  pub first : FirstOrder (chain_rows x) (chain_rows s) order
  pub taken : FirstOrder (take t.gauges x.rows) (take t.gauges s.rows) order
  pub count : pairs_in x.rows t.gauges ≡ pairs_in s.rows t.gauges + length order

module _ (t : Table) (s x : Chain) (nt : length t.rows ≡ 64) (ns : length s.rows ≡ 64) (nx : length x.rows ≡ 64) (n : ℕ) (c : Checked t s x n)
    (e : n ≡ 0) where
  facts_s : ChainFacts t s
  facts_s = chain_facts t s nt (c.chain_passes e)

  facts_x : ChainFacts t x
  facts_x = chain_facts t x nt (c.passes e)

  rows-s : take t.gauges s.rows ≡ chain_rows s
  rows-s = ap (λ (g : ℕ). take g s.rows) (sym facts_s.count)

  rows-x : take t.gauges x.rows ≡ chain_rows x
  rows-x = ap (λ (g : ℕ). take g x.rows) (sym facts_x.count)

  cases_x : Cases 64 (chain_rows x)
  cases_x i k b =
      omega (
        arith,
        legal_cases t facts_x.legal i k
            (sub_bit (row (chain_rows x) i) (row (table_rows t) i) k (within_sub (table_rows t) (chain_rows x) (chain_within t x facts_x nx) i) b),
        facts_x.legal.cases_high,
      )

  between : Between x.rows s.rows t.gauges
  between = record {
    few = facts_s.legal.gauges_high;
    length_outer = nx;
    length_inner = ns;
    outer = rw rows-x (c.leads e).maximal.chain;
    inner = rw rows-s (c.chain e);
    within = rw (rows-x, rows-s) (c.leads e).contains;
    cases = rw rows-x cases_x;
  }

  pub plan : Plan t s x
  plan =
      let g : ℕ = t.gauges in
      let o = first_exists (take g x.rows) (take g s.rows) between.outer between.inner between.within in
      record {
        between = between;
        order = o.0;
        first = subst₂ (λ (y z : List ℕ). FirstOrder y z o.0) rows-x rows-s o.1;
        taken = o.1;
        count = counted o.0 o.1;
      }
    where
      size : (r : List ℕ) → length r ≡ 64 → length (take t.gauges r) ≡ t.gauges
      size r h = length-take-le t.gauges r (omega (arith, facts_s.legal.gauges_high))

      all : (r : List ℕ) → length r ≡ 64 → pairs_in (take t.gauges r) (length (take t.gauges r)) ≡ pairs_in r t.gauges
      all r h = ap (pairs_in (take t.gauges r)) (size r h) ∙ count_take r t.gauges t.gauges (omega arith)

      counted : (ps : List Pair) → FirstOrder (take t.gauges x.rows) (take t.gauges s.rows) ps
          → pairs_in x.rows t.gauges ≡ pairs_in s.rows t.gauges + length ps
      counted ps f =
          sym (all x.rows nx)
          ∙ order_count (take t.gauges x.rows) ps (take t.gauges s.rows) between.within
          (first_order (take t.gauges x.rows) ps (take t.gauges s.rows) f)
          ∙ ap (λ (m : ℕ). m + length ps) (all s.rows ns)

-- ---- the answers
module _ (t : Table) (s x : Chain) (out : List ℕ) (n : ℕ) (c : Checked t s x n) where
  pub wires_refused : (why : Refusal) → number why ≡ n → Wires t s x out (record { refusal = number why; value = 0 }) out
  wires_refused why e = record {
    number = number why;
    checks = rw e c.number;
    refused = λ z. record { answer = refl; buffer = refl };
    order = λ z. absurd (omega (arith, number_pos why));
  }

  module _ (e : n ≡ 0) (p : Plan t s x) (count : ℕ) (d : pairs_in x.rows t.gauges ≡ pairs_in s.rows t.gauges + count) where
    passes : Checks t s x 0
    passes = rw (← e) c.number

    counted : length p.order ≡ count
    counted = omega (arith, p.count)

    pub wires-short : length out < 2 * count → Wires t s x out (record { refusal = 16; value = 0 }) out
    wires-short h = record {
      number = 0;
      checks = passes;
      refused = λ z. absurd (z refl);
      order = λ z. record {
        order = p.order;
        first = p.first;
        short = λ l. record { answer = refl; buffer = refl };
        room = λ l. absurd (omega (arith, counted, bytes_length p.order));
      };
    }

    pub plan-ready : 2 * count ≤ length out → Ready x.rows s.rows t.gauges (2 * count) out
    plan-ready h = record {
      between = p.between;
      order = p.order;
      first = p.taken;
      bytes = omega (arith, counted, bytes_length p.order);
      room = h;
    }

    pub wires-written : 2 * count ≤ length out → (after : List ℕ) → StoresOrder (take t.gauges x.rows) (take t.gauges s.rows) out after
        → Wires t s x out (record { refusal = 0; value = count }) after
    wires-written h after st = record {
      number = 0;
      checks = passes;
      refused = λ z. absurd (z refl);
      order = λ z. record {
        order = p.order;
        first = p.first;
        short = λ l. absurd (omega (arith, counted, bytes_length p.order));
        room = λ l. record {
          answer = ap (λ (m : ℕ). record { refusal = 0; value = m }) (sym counted);
          buffer = st p.order p.taken ∙ front out (pair_bytes p.order) l;
        };
      };
    }

-- ---- one answer and one buffer
-- a number that is not another one follows from both cases of any statement
number_by : (P : Type 0) (m n : ℕ) → (P → m ≡ n) → (¬ P → m ≡ n) → m ≡ n
number_by P m n f g = go (ℕ_discrete m n)
  where
    go : Dec (m ≡ n) → m ≡ n
    go (yes e) = e
    go (no d) = absurd (d (g (λ p. d (f p))))

ladder_checks_unique : (t : Table) (s x : Chain) (m n : ℕ) → LadderChecks t s x m → LadderChecks t s x n → m ≡ n
ladder_checks_unique t s x m n a b =
    number_by (chain_refusal t x ≡ 0) m n (λ e.
    number_by (Leads t s x) m n (λ l. a.passes e l ∙ sym (b.passes e l)) (λ l. a.no_ladder e l ∙ sym (b.no_ladder e l)))
    (λ e. a.refused e ∙ sym (b.refused e))

pub checks_unique : (t : Table) (s x : Chain) (m n : ℕ) → Checks t s x m → Checks t s x n → m ≡ n
checks_unique t s x m n a b =
    number_by (chain_refusal t s ≡ 0) m n (λ e.
    number_by (IsChain (chain_rows s)) m n (λ c. ladder_checks_unique t s x m n (a.ladder e c) (b.ladder e c))
    (λ c. a.no_chain e c ∙ sym (b.no_chain e c)))
    (λ e. a.refused e ∙ sym (b.refused e))

refuses_unique : (n : ℕ) (out : List ℕ) (a b : Answer ℕ) (p q : List ℕ) → Refuses n out a p → Refuses n out b q → (a ≡ b) × (p ≡ q)
refuses_unique n out a b p q x y = (x.answer ∙ sym y.answer, x.buffer ∙ sym y.buffer)

order_unique : (x s out : List ℕ) (a b : Answer ℕ) (p q : List ℕ) → WritesOrder x s out a p → WritesOrder x s out b q → (a ≡ b) × (p ≡ q)
order_unique x s out a b p q u v = go (dec_lt (length out) (length (pair_bytes u.order)))
  where
    same : u.order ≡ v.order
    same = first_unique x u.order v.order s u.first v.first

    size : length (pair_bytes u.order) ≡ length (pair_bytes v.order)
    size = ap (λ (o : List Pair). length (pair_bytes o)) same

    both : Writes u.order out a p → Writes v.order out b q → (a ≡ b) × (p ≡ q)
    both y z = (
      y.answer ∙ ap (λ (o : List Pair). record { refusal = 0; value = length o }) same ∙ sym z.answer,
      y.buffer ∙ ap (λ (o : List Pair). pair_bytes o ++ drop (length (pair_bytes o)) out) same ∙ sym z.buffer,
    )

    go : Dec (length out < length (pair_bytes u.order)) → (a ≡ b) × (p ≡ q)
    go (yes l) = refuses_unique 16 out a b p q (u.short l) (v.short (omega (arith, size)))
    go (no l) = both (u.room (omega arith)) (v.room (omega (arith, size)))

pub wires_unique : (t : Table) (s x : Chain) (out : List ℕ) (a b : Answer ℕ) (p q : List ℕ) → Wires t s x out a p → Wires t s x out b q
    → (a ≡ b) × (p ≡ q)
wires_unique t s x out a b p q u v = go (ℕ_discrete u.number 0)
  where
    same : v.number ≡ u.number
    same = checks_unique t s x v.number u.number v.checks u.checks

    go : Dec (u.number ≡ 0) → (a ≡ b) × (p ≡ q)
    go (yes e) = order_unique (chain_rows x) (chain_rows s) out a b p q (u.order e) (v.order (same ∙ e))
    go (no e) =
        refuses_unique u.number out a b p q (u.refused e) (subst (λ (n : ℕ). Refuses n out b q) same (v.refused (λ z. e (sym same ∙ z))))

-- no two answers read alike
pub ordered_injective : (r q : Result ℕ Refusal) → ordered r ≡ ordered q → r ≡ q
ordered_injective = answered_injective 0
