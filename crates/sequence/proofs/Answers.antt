-- What the entries answer, for either side.
--
-- In order: the rows of a set as a side sees it (`gauge_seen`, `case_seen`); what is known where nothing is refused (`sequence_passes`); each answer
-- by what led to it (`sequenced_first` to `sequenced-picks`); one answer (`sequenced_unique`), for every input
-- (`sequenced_made`), and no two answers of the code read alike.
--
-- Pins, which nothing else cites: `sequenced_unique`, `sequenced_made`, `gauge_sequence_injective`, `case_sequence_injective`.
use Rattle.std.specs.Prelude.{Result, Ok, Err}
use mathlib.Core.Path.{◌≡◌, refl, sym, ap, ap₂, ◌∙◌}
use mathlib.Core.Bool.{Bool, true, false}
use mathlib.Core.List.{List, map}
use Prim.Native.Nat.{ℕ, suc, ◌≤◌, min}
use native.Mathlib.Nat.{min-eq_left}
use native.Mathlib.Decide.{ℕ_discrete}
use native.Mathlib.Omega.{arith}
use lib.ListN.{length, take}
use lib.Seq.{ext_get_or}
use borrow.Author.Tests.{eq-eqb, ne_eqb}
use Rattle.table.specs.declared.Table.{Table}
use Rattle.table.specs.declared.Chain.{Chain}
use Rattle.table.specs.Chains.{IsMaximal}
use Rattle.table.specs.Tables.{Legal, table_rows, chain_rows, chain_refusal, padded}
use Rattle.table.proofs.Legality.{ChainFacts, chain_facts, length-chain_rows, row-chain_rows}
use Rattle.table.proofs.Padding.{pad_length}
use Rattle.transpose.specs.Transposing.{transpose}
use Rattle.transpose.specs.Places.{places}
use Rattle.transpose.proofs.Transposition.{length-transpose}
use Rattle.transpose.proofs.Columns.{length-places, row-places}
use Rattle.refusals.specs.Answers.{number, Answer, refused}
use Rattle.refusals.specs.declared.Refusal.{Refusal}
use Rattle.refusals.specs.declared.Refusal.TheVariants.{NotMaximal}
use Rattle.refusals.proofs.Answering.{number_pos, named, named-number}
use Rattle.judge.specs.Judging.{judgement, Judged}
use Rattle.judge.proofs.Verdicts.{maximal_dec}
use Rattle.lists.specs.Preferred.{pick_seq_by}
use Rattle.lists.specs.Lists.{Side, gauge_side, case_side}
use Rattle.preference.specs.Preferences.{is_preference, preferred_refusal, order_of}
use Rattle.preference.proofs.Placing.{passes_both}
use Rattle.runs.specs.Calling.{sequence, arrangement}
use Rattle.runs.specs.Sides.{side_of}
use Rattle.runs.proofs.Padding.{take-padded}
use Rattle.runs.specs.Paused.{no_numbers}
use Rattle.table.specs.declared.Gauge.{Gauge}
use Rattle.table.specs.declared.Case.{Case}
use Rattle.runs.specs.declared.paused.Picks.{Picks}
use Rattle.runs.proofs.Readings.{picks_same}
use Rattle.sequence.specs.Sequencing.{no_sequence, sequence_refusal, Sequenced, sequence_of}
use Rattle.sequence.specs.private.Choosing.{SeenIn}

-- ---- the rows of a set as a side sees it
gauge_seen : (t : Table) (x : Chain) → length x.rows ≡ 64 → ChainFacts t x → SeenIn (gauge_side t) x x.rows
gauge_seen t x n f = record { front = ap (λ (g : ℕ). take g x.rows) (sym f.count); size = n }

case_seen : (t : Table) (x : Chain) (R : List ℕ) → R ≡ padded (transpose (min t.cases 64) (places t.gauges x.rows)) → length x.rows ≡ 64
    → ChainFacts t x → SeenIn (case_side t) x R
case_seen t x R e n f = record {
  front = ap (take t.cases) is ∙ take-padded set t.cases (sym size);
  size = ap length is ∙ pad_length set (omega (arith, size, f.legal.cases_high));
}
  where
    set : List ℕ
    set = transpose t.cases (chain_rows x)

    size : length set ≡ t.cases
    size = length-transpose t.cases (chain_rows x)

    same : places t.gauges x.rows ≡ chain_rows x
    same =
        let most = f.legal.gauges_high in
        ext_get_or 0 (places t.gauges x.rows) (chain_rows x)
        (length-places t.gauges x.rows ∙ min-eq_left most ∙ sym (length-chain_rows t x f n))
        (λ i l. row-places t.gauges x.rows i (omega (arith, length-places t.gauges x.rows)) ∙ sym (row-chain_rows t x f n i))

    is : R ≡ padded set
    is = e ∙ ap₂ (λ (w : ℕ) (y : List ℕ). padded (transpose w y)) (min-eq_left f.legal.cases_high) same

pub turned_seen : (b : Bool) (t : Table) (x : Chain) (R : List ℕ) → b ≡ true → R ≡ padded (transpose (min t.cases 64) (places t.gauges x.rows))
    → length x.rows ≡ 64 → ChainFacts t x → SeenIn (side_of b t) x R
turned_seen b t x R e d n f = rw e (case_seen t x R d n f)

pub given_seen : (b : Bool) (t : Table) (x : Chain) → b ≡ false → length x.rows ≡ 64 → ChainFacts t x → SeenIn (side_of b t) x x.rows
given_seen b t x e n f = rw e (gauge_seen t x n f)

-- ---- where nothing is refused
module _ (t : Table) (n : ℕ) (k : List ℕ) (x : Chain) where
  pub refused_first : ¬ (preferred_refusal t n k ≡ 0) → sequence_refusal t n k x ≡ preferred_refusal t n k
  unfolding sequence_refusal
  refused_first z = rw (ne_eqb (preferred_refusal t n k) 0 z)

  pub refused_then : preferred_refusal t n k ≡ 0 → sequence_refusal t n k x ≡ chain_refusal t x
  unfolding sequence_refusal
  refused_then z = rw (eq-eqb (preferred_refusal t n k) 0 z)

  sequence_passes : sequence_refusal t n k x ≡ 0 → (preferred_refusal t n k ≡ 0) × (chain_refusal t x ≡ 0)
  sequence_passes e = go (ℕ_discrete (preferred_refusal t n k) 0)
    where
      go : Dec (preferred_refusal t n k ≡ 0) → (preferred_refusal t n k ≡ 0) × (chain_refusal t x ≡ 0)
      go (yes z) = (z, sym (refused_then z) ∙ e)
      go (no z) = absurd (z (sym (refused_first z) ∙ e))

side_most : (b : Bool) (t : Table) → Legal t → (side_of b t).count ≤ 64
side_most false t l = l.gauges_high
side_most true t l = l.cases_high

-- ---- the answers, by what led to them; n is the side's count
module _ (b : Bool) (t : Table) (k : List ℕ) (x : Chain) (n : ℕ) (counted : n ≡ (side_of b t).count) where
  abbrev Is : Answer (List ℕ) → Type 0
  Is a = Sequenced (side_of b) t k x a

  -- the number of a refusal, by the side's count
  by_count : sequence_refusal t n k x ≡ sequence_refusal t (side_of b t).count k x
  by_count = ap (λ (m : ℕ). sequence_refusal t m k x) counted

  is_refused : (why : Refusal) (a : Answer (List ℕ)) → number why ≡ sequence_refusal t n k x → a ≡ refused why no_numbers → Is a
  is_refused why a e r = record {
    checked = λ z. r ∙ ap no_sequence (e ∙ by_count);
    no_ladder = λ z. absurd (omega (arith, e, by_count, number_pos why));
    ladder = λ z. absurd (omega (arith, e, by_count, number_pos why));
  }

  pub sequenced_first : (why : Refusal) (a : Answer (List ℕ)) → number why ≡ preferred_refusal t n k → a ≡ refused why no_numbers → Is a
  sequenced_first why a e = is_refused why a (e ∙ sym (refused_first t n k x (λ z. omega (arith, e, number_pos why))))

  module _ (passed : preferred_refusal t n k ≡ 0) (j : Result Bool Refusal) (d : Judged (chain_refusal t x) (IsMaximal (table_rows t) (chain_rows x)) j) where
    passes : (judgement j).refusal ≡ 0 → sequence_refusal t (side_of b t).count k x ≡ 0
    passes e = sym by_count ∙ refused_then t n k x passed ∙ sym d.refusal ∙ e

    pub sequenced-refused : (why : Refusal) (a : Answer (List ℕ)) → j ≡ Err why → a ≡ refused why no_numbers → Is a
    sequenced-refused why a e =
        is_refused why a (ap (λ (y : Result Bool Refusal). (judgement y).refusal) (sym e) ∙ d.refusal ∙ sym (refused_then t n k x passed))

    pub sequenced-no-ladder : (a : Answer (List ℕ)) → j ≡ Ok false → a ≡ refused NotMaximal no_numbers → Is a
    sequenced-no-ladder a e r = record {
      checked = λ z. absurd (z (passes (ap (λ (y : Result Bool Refusal). (judgement y).refusal) e)));
      no_ladder = λ z w. r;
      ladder = λ z m. absurd (d.no (sym d.refusal ∙ ap (λ (y : Result Bool Refusal). (judgement y).refusal) e) (ap (λ (y : Result Bool Refusal). (judgement y).value) e) m);
    }

    module _ (yes : j ≡ Ok true) (size : length t.rows ≡ 64) where
      judged-facts : ChainFacts t x
      judged-facts = chain_facts t x size (sym d.refusal ∙ ap (λ (y : Result Bool Refusal). (judgement y).refusal) yes)

      pub order-known : (n ≤ 64) × (is_preference n k ≡ true)
      order-known = (omega (arith, counted, side_most b t judged-facts.legal), (passes_both t n k passed).1)

      pub sequenced-picks : (R picks : List ℕ) → (ChainFacts t x → SeenIn (side_of b t) x R) → picks ≡ padded (map suc (pick_seq_by (order_of n k) (take n R)))
          → Is (record { refusal = 0; value = picks })
      sequenced-picks R picks s e = record {
        checked = λ z. absurd (z (passes (ap (λ (y : Result Bool Refusal). (judgement y).refusal) yes)));
        no_ladder = λ z w. absurd (w (d.yes (ap (λ (y : Result Bool Refusal). (judgement y).value) yes)));
        ladder = λ z m.
            ap (λ (l : List ℕ). record { refusal = 0; value = l })
            (e ∙ ap (λ (m : ℕ). padded (map suc (pick_seq_by (order_of m k) (take m R)))) counted
            ∙ ap (λ (y : List ℕ). padded (map suc (pick_seq_by (order_of (side_of b t).count k) y))) (s judged-facts).front);
      }

-- ---- one answer, for every input: 64 rows in the table and in the set
module _ (side : Table → Side) (t : Table) (k : List ℕ) (x : Chain) (wide : length t.rows ≡ 64) (size : length x.rows ≡ 64) where
  abbrev refusal : ℕ
  refusal = sequence_refusal t (side t).count k x

  judged : refusal ≡ 0 → Dec (IsMaximal (table_rows t) (chain_rows x))
  judged z = maximal_dec t x (sequence_passes t (side t).count k x z).1 wide size

  pub sequenced_unique : (a b : Answer (List ℕ)) → Sequenced side t k x a → Sequenced side t k x b → a ≡ b
  sequenced_unique a b p q = go (ℕ_discrete refusal 0)
    where
      told : (z : refusal ≡ 0) → Dec (IsMaximal (table_rows t) (chain_rows x)) → a ≡ b
      told z (yes m) = p.ladder z m ∙ sym (q.ladder z m)
      told z (no m) = p.no_ladder z m ∙ sym (q.no_ladder z m)

      go : Dec (refusal ≡ 0) → a ≡ b
      go (no z) = p.checked z ∙ sym (q.checked z)
      go (yes z) = told z (judged z)

  pub sequenced_made : (a : Answer (List ℕ)) × Sequenced side t k x a
  sequenced_made = go (ℕ_discrete refusal 0)
    where
      told : (z : refusal ≡ 0) → Dec (IsMaximal (table_rows t) (chain_rows x)) → (a : Answer (List ℕ)) × Sequenced side t k x a
      told z (yes m) = (
        record { refusal = 0; value = sequence (side t) (arrangement (side t) k) (chain_rows x) },
        record { checked = λ y. absurd (y z); no_ladder = λ y w. absurd (w m); ladder = λ y w. refl },
      )
      told z (no m) = (no_sequence 25, record { checked = λ y. absurd (y z); no_ladder = λ y w. refl; ladder = λ y w. absurd (m w) })

      go : Dec (refusal ≡ 0) → (a : Answer (List ℕ)) × Sequenced side t k x a
      go (no z) = (no_sequence refusal, record { checked = λ y. refl; no_ladder = λ y. absurd (z y); ladder = λ y. absurd (z y) })
      go (yes z) = told z (judged z)

-- ---- no two answers of the code read alike
sequence_injective : {S : Type 0} (x y : Result (Picks S) Refusal) → sequence_of x ≡ sequence_of y → x ≡ y
sequence_injective (Ok k) (Ok l) e = ap Ok (picks_same k l (ap (λ (a : Answer (List ℕ)). a.value) e))
sequence_injective (Ok k) (Err y) e = let d : 0 ≡ number y = ap (λ (a : Answer (List ℕ)). a.refusal) e in absurd (omega (arith, d, number_pos y))
sequence_injective (Err x) (Ok l) e = let d : number x ≡ 0 = ap (λ (a : Answer (List ℕ)). a.refusal) e in absurd (omega (arith, d, number_pos x))
sequence_injective (Err x) (Err y) e = ap Err (sym (named-number x) ∙ ap named (ap (λ (a : Answer (List ℕ)). a.refusal) e) ∙ named-number y)

pub gauge_sequence_injective : (x y : Result (Picks Gauge) Refusal) → sequence_of x ≡ sequence_of y → x ≡ y
gauge_sequence_injective = sequence_injective

pub case_sequence_injective : (x y : Result (Picks Case) Refusal) → sequence_of x ≡ sequence_of y → x ≡ y
case_sequence_injective = sequence_injective
