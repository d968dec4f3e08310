-- When two proposals are the same. In order: parts that agree make two values the same (`table_same`, `chain_same`, `proposal_same`); effects by their
-- numbers (`effect_of_number`); and two proposals are the same or not (`proposal_discrete`).
use mathlib.Core.Path.{◌≡◌, refl, ap}
use mathlib.Core.List.{List-discrete}
use Prim.Native.Nat.{ℕ}
use native.Mathlib.Decide.{ℕ_discrete}
use native.Mathlib.Omega.{arith}
use Rattle.table.specs.declared.Table.{Table}
use Rattle.table.specs.declared.Chain.{Chain}
use Rattle.trials.specs.declared.Effect.{Effect}
use Rattle.trials.specs.declared.Effect.TheVariants.{StillMaximal, OnlyChain, NotWithin}
use Rattle.trials.specs.declared.Proposal.{Proposal}

-- ---- parts
pub table_same : (u w : Table) → u.gauges ≡ w.gauges → u.cases ≡ w.cases → u.rows ≡ w.rows → u ≡ w
table_same u w a b e = λ i. record { gauges = a i; cases = b i; rows = e i }

chain_same : (s z : Chain) → s.gauges ≡ z.gauges → s.rows ≡ z.rows → s ≡ z
chain_same s z a b = λ i. record { gauges = a i; rows = b i }

pub proposal_same : (p q : Proposal) → p.table ≡ q.table → p.chain ≡ q.chain → p.gauge.0 ≡ q.gauge.0 → p.case.0 ≡ q.case.0
    → p.effect ≡ q.effect → p ≡ q
proposal_same p q a b g c e = λ i. record { table = a i; chain = b i; gauge = record { 0 = g i }; case = record { 0 = c i }; effect = e i }

-- ---- effects, by a number for each
abbrev effect_number : Effect → ℕ
effect_number StillMaximal = 0
effect_number OnlyChain = 1
effect_number NotWithin = 2

effect_of_number : (e f : Effect) → effect_number e ≡ effect_number f → e ≡ f
effect_of_number StillMaximal StillMaximal d = refl
effect_of_number StillMaximal OnlyChain d = absurd (omega arith)
effect_of_number StillMaximal NotWithin d = absurd (omega arith)
effect_of_number OnlyChain StillMaximal d = absurd (omega arith)
effect_of_number OnlyChain OnlyChain d = refl
effect_of_number OnlyChain NotWithin d = absurd (omega arith)
effect_of_number NotWithin StillMaximal d = absurd (omega arith)
effect_of_number NotWithin OnlyChain d = absurd (omega arith)
effect_of_number NotWithin NotWithin d = refl

pub proposal_discrete : (p q : Proposal) → Dec (p ≡ q)
proposal_discrete p q =
    go (ℕ_discrete p.table.gauges q.table.gauges) (ℕ_discrete p.table.cases q.table.cases)
    (List-discrete ℕ_discrete p.table.rows q.table.rows) (ℕ_discrete p.chain.gauges q.chain.gauges)
    (List-discrete ℕ_discrete p.chain.rows q.chain.rows) (ℕ_discrete p.gauge.0 q.gauge.0) (ℕ_discrete p.case.0 q.case.0)
    (ℕ_discrete (effect_number p.effect) (effect_number q.effect))
  where
    go : Dec (p.table.gauges ≡ q.table.gauges) → Dec (p.table.cases ≡ q.table.cases) → Dec (p.table.rows ≡ q.table.rows)
        → Dec (p.chain.gauges ≡ q.chain.gauges) → Dec (p.chain.rows ≡ q.chain.rows) → Dec (p.gauge.0 ≡ q.gauge.0)
        → Dec (p.case.0 ≡ q.case.0) → Dec (effect_number p.effect ≡ effect_number q.effect) → Dec (p ≡ q)
    go (yes a) (yes b) (yes c) (yes d) (yes e) (yes f) (yes g) (yes h) =
        yes (proposal_same p q (table_same p.table q.table a b c) (chain_same p.chain q.chain d e) f g
        (effect_of_number p.effect q.effect h))
    go (no a) b c d e f g h = no (λ x. a (ap (λ (y : Proposal). y.table.gauges) x))
    go (yes a) (no b) c d e f g h = no (λ x. b (ap (λ (y : Proposal). y.table.cases) x))
    go (yes a) (yes b) (no c) d e f g h = no (λ x. c (ap (λ (y : Proposal). y.table.rows) x))
    go (yes a) (yes b) (yes c) (no d) e f g h = no (λ x. d (ap (λ (y : Proposal). y.chain.gauges) x))
    go (yes a) (yes b) (yes c) (yes d) (no e) f g h = no (λ x. e (ap (λ (y : Proposal). y.chain.rows) x))
    go (yes a) (yes b) (yes c) (yes d) (yes e) (no f) g h = no (λ x. f (ap (λ (y : Proposal). y.gauge.0) x))
    go (yes a) (yes b) (yes c) (yes d) (yes e) (yes f) (no g) h = no (λ x. g (ap (λ (y : Proposal). y.case.0) x))
    go (yes a) (yes b) (yes c) (yes d) (yes e) (yes f) (yes g) (no h) = no (λ x. h (ap (λ (y : Proposal). effect_number y.effect) x))
