-- The answers of counting, each by what led to it: the clauses of `due_answer`, the first call for a legal table and a preference of its gauges,
-- and what each return of the code says (`Counts`), by the lists of proofs/Reached.antt and of crate `lists`.
use mathlib.Core.Path.{◌≡◌, refl, sym, ap, ap₂, ◌∙◌, subst}
use mathlib.Core.Bool.{cond}
use mathlib.Core.List.{List, [], map}
use Prim.Native.Nat.{ℕ, zero, suc, ◌-◌, ◌^◌, ◌≤◌, ◌<◌}
use native.Mathlib.Decide.{ℕ_discrete, dec_lt}
use native.Mathlib.Omega.{arith}
use lib.Count.{ones}
use lib.Dec.{eqb}
use lib.ListN.{length, length-map}
use lib.Pow.{pow_mono}
use borrow.Author.Tests.{lt-ltb, le-ltb, le-leb, lt-leb, eq-eqb, ne_eqb}
use Rattle.sets.specs.Sets.{◌⊆◌, lowest}
use Rattle.sets.proofs.Order.{subset_is, zero_sub}
use Rattle.sets.proofs.Masks.{lowest_up, below_lowest}
use Rattle.table.specs.Pairs.{row}
use Rattle.table.specs.Tables.{Legal, table_rows, padded}
use Rattle.refusals.specs.Answers.{number}
use Rattle.table.specs.declared.Table.{Table}
use Rattle.refusals.specs.declared.Refusal.{Refusal}
use Rattle.refusals.proofs.Answering.{number_pos}
use Rattle.table.proofs.Legality.{legal_of, row-table_rows}
use Rattle.table.proofs.Places.{row_past}
use Rattle.table.proofs.Padding.{pad_get_or}
use Rattle.lists.specs.Arrangements.{IsArrangement}
use Rattle.lists.specs.Lists.{gauge_side}
use Rattle.lists.specs.ByNumber.{candidates}
use Rattle.lists.specs.OnTable.{hand_out}
use Rattle.lists.specs.private.Arranging.{index_at, arrange, prefer}
use Rattle.lists.proofs.Arranging.{length-arrange, arrange_moves}
use Rattle.lists.proofs.Listed.{picks_in_order}
use Rattle.lists.proofs.BothSides.{Fair, gauge_fair, side_list}
use Rattle.lists.proofs.PreferredSides.{prefer_fair, preferred_list}
use Rattle.preference.specs.Preferences.{preferred_refusal, order_of}
use Rattle.preference.specs.Placing.{gathered}
use Rattle.preference.proofs.Holding.{preference_of}
use Rattle.preference.proofs.Placing.{passes_both}
use Rattle.preference.proofs.Gathering.{gathered_array}
use Rattle.search.specs.Finding.{within}
use Rattle.search.proofs.AfterPicks.{full, Rows, After, after_fresh}
use Rattle.search.proofs.Within.{within-lowest}
use Rattle.count.specs.Counting.{CountAnswer, refused, spent, counted, most_calls, due_answer, Counts}
use Rattle.count.specs.private.Below.{calls_in, ladders_in, tallied}
use Rattle.count.specs.declared.Tally.{Tally}
use Rattle.std.specs.Prelude.{Option, Some, None}
use Rattle.count.proofs.Unpicked.{ones-lowest}
use Rattle.count.proofs.Turns.{Says, whole_says, spent_says}
use Rattle.count.proofs.Nodes.{nodes}
use Rattle.count.proofs.Reached.{reached_in_order, pick_sequences, calls_nodes, ladders_leaves}

-- ---- the clauses of an answer
module _ (b l s : ℕ) where
  pub due_large : most_calls < b → due_answer b l s ≡ refused 18
  unfolding due_answer
  due_large h = rw (lt-ltb most_calls b h)

  pub due_counted : b ≤ most_calls → s ≤ b → due_answer b l s ≡ counted l s
  unfolding due_answer
  due_counted h k = rw (le-ltb most_calls b h, le-leb s b k)

  pub due_spent : b ≤ most_calls → b < s → due_answer b l s ≡ spent b
  unfolding due_answer
  due_spent h k = rw (le-ltb most_calls b h, lt-leb s b k)

-- the empty sequence is one of them
pub nodes_some : (kids : List ℕ → List ℕ) (f : ℕ) (p : List ℕ) → 1 ≤ length (nodes kids f p)
nodes_some kids zero p = omega arith
nodes_some kids (suc f) p = omega arith

-- ---- a refused table, or a preference that is none
pub counts_refused : (t : Table) (k : List ℕ) (b : ℕ) (x : Refusal) → number x ≡ preferred_refusal t t.gauges k → Counts t k b (refused (number x))
counts_refused t k b x e = record { refusal = λ l. ap refused e; count = λ z. absurd (omega (arith, e, z, number_pos x)) }

-- ---- what each return says, of a legal table and a preference of its gauges
pub record Given (t : Table) (k : List ℕ) : Type 0 where
  pub size : length t.rows ≡ 64
  pub long : length k ≡ 64
  pub passes : preferred_refusal t t.gauges k ≡ 0

module _ (t : Table) (k : List ℕ) (b : ℕ) (g : Given t k) where
  abbrev n : ℕ
  n = t.gauges

  abbrev o : List ℕ
  o = order_of t.gauges k

  -- the table's rows in the order of the preference
  abbrev rows : List ℕ
  rows = arrange (order_of t.gauges k) (table_rows t)

  pub legal : Legal t
  legal = legal_of t g.size (passes_both t t.gauges k g.passes).0

  pub arranged : IsArrangement t.gauges (order_of t.gauges k)
  arranged = (preference_of t.gauges k legal.gauges_high g.long (rw (passes_both t t.gauges k g.passes).1 tt)).arranged

  fair : Fair t (gauge_side t)
  fair = gauge_fair t legal

  abbrev sequences : ℕ
  sequences = length (nodes (candidates rows) (length rows) [])

  abbrev ladders : ℕ
  ladders = length (picks_in_order rows)

  counts_by : (a : CountAnswer) → a ≡ due_answer b ladders sequences → Counts t k b a
  counts_by a e = record {
    refusal = λ l. absurd (omega (arith, g.passes));
    count = λ z. record {
      ladders = side_list t (prefer o (gauge_side t)) (prefer_fair t (gauge_side t) fair o arranged);
      listed = preferred_list t (gauge_side t) fair o arranged;
      sequences = reached_in_order (gauge_side t) o fair.counted arranged;
      reached = pick_sequences (gauge_side t) o fair.counted arranged;
      says =
          e
          ∙ sym (ap₂ (due_answer b) (length-map (picks_in_order rows) (hand_out (prefer o (gauge_side t))))
          (length-map (nodes (candidates rows) (length rows) []) (map (index_at o))));
    };
  }

  pub counts_large : most_calls < b → Counts t k b (refused 18)
  counts_large h = counts_by (refused 18) (sym (due_large b ladders sequences h))

  -- there is an answer for every table, preference and budget
  counts_due : Counts t k b (due_answer b ladders sequences)
  counts_due = counts_by (due_answer b ladders sequences) refl

  module _ (small : b ≤ most_calls) where
    pub counts-none : b ≡ 0 → Counts t k b (spent b)
    counts-none e = counts_by (spent b) (sym (due_spent b ladders sequences small (omega (arith, nodes_some (candidates rows) (length rows) []))))

    -- ---- the first call
    size : length rows ≡ n
    size = length-arrange n o arranged (table_rows t)

    abbrev array : List ℕ
    array = padded (gathered n t.rows k)

    array_row : (i : ℕ) → row array i ≡ row rows i
    array_row i =
        ap (λ (x : List ℕ). row x i) (gathered_array n t.rows k legal.gauges_high g.size g.long arranged) ∙ pad_get_or rows i

    in-full : (x : ℕ) → x < 2 ^ 64 → x ⊆ full
    in-full x l = subset_is x full (below_lowest x 64 (omega arith) ∙ lt-ltb x (2 ^ 64) l)

    rows_ok : Rows rows
    rows_ok = record { few = omega (arith, size, legal.gauges_high); inside = λ i. inside i (dec_lt i n) }
      where
        inside : (i : ℕ) → Dec (i < n) → row rows i ⊆ full
        inside i (yes l) =
            subst (λ (x : ℕ). x ⊆ full) (sym ((arrange_moves n o arranged).at (table_rows t) i l ∙ row-table_rows t legal (index_at o i)))
            (in-full (row t.rows (index_at o i)) (omega (arith, legal.rows_bits (index_at o i), pow_mono legal.cases_high)))
        inside i (no l) = subst (λ (x : ℕ). x ⊆ full) (sym (row_past rows i (omega (arith, size)))) (zero_sub full)

    abbrev first : List ℕ
    first = within (lowest n) array

    -- before any pick every gauge of the table is unpicked
    first-row : (i : ℕ) → row first i ≡ row rows i
    first-row = within-lowest rows array n legal.gauges_high size array_row

    fresh : After rows [] first (2 ^ 64 - 1)
    fresh = subst (After rows [] first) (lowest_up 64 (omega arith)) (after_fresh rows first first-row)

    all-unpicked : ones (lowest n) ≡ length rows
    all-unpicked = ones-lowest n legal.gauges_high ∙ sym size

    calls_are : calls_in (ones (lowest n)) first (2 ^ 64 - 1) ≡ sequences
    calls_are = rw all-unpicked (calls_nodes rows rows_ok (length rows) [] first (2 ^ 64 - 1) fresh)

    ladders-are : ladders_in (ones (lowest n)) first (2 ^ 64 - 1) ≡ ladders
    ladders-are = rw all-unpicked (ladders_leaves rows rows_ok (length rows) [] first (2 ^ 64 - 1) fresh)

    -- what the step says, begun with these unpicked on this array
    abbrev stepped : ℕ → List ℕ → Option Tally
    stepped unpicked x =
        tallied b (ladders_in (ones unpicked) (within unpicked x) (2 ^ 64 - 1)) (calls_in (ones unpicked) (within unpicked x) (2 ^ 64 - 1))

    module _ (unpicked : ℕ) (x : List ℕ) (y : Option Tally) (s : unpicked ≡ lowest n) (i : x ≡ array) (e : y ≡ stepped unpicked x) where
      told : y ≡ tallied b ladders sequences
      told = rw (s, i) at e ∙ ap₂ (tallied b) ladders-are calls_are

      pub counts_whole : (w : Tally) → y ≡ Some w → Counts t k b (counted w.ladders w.calls)
      counts_whole w d =
          let z : Says b ladders sequences w = whole_says b ladders sequences y told w d in
          counts_by (counted w.ladders w.calls) (ap₂ counted z.ladders z.calls ∙ sym (due_counted b ladders sequences small z.fits))

      pub counts-spent : y ≡ None → Counts t k b (spent b)
      counts-spent d = counts_by (spent b) (sym (due_spent b ladders sequences small (spent_says b ladders sequences y told d)))

-- ---- an answer for every table of 64 rows, every 64 numbers and every budget
abbrev pub answer_for : Table → List ℕ → ℕ → CountAnswer
answer_for t k b =
    let r = arrange (order_of t.gauges k) (table_rows t) in
    cond (eqb (preferred_refusal t t.gauges k) 0)
    (due_answer b (length (picks_in_order r)) (length (nodes (candidates r) (length r) [])))
    (refused (preferred_refusal t t.gauges k))

pub counts_some : (t : Table) (k : List ℕ) (b : ℕ) → length t.rows ≡ 64 → length k ≡ 64 → Counts t k b (answer_for t k b)
counts_some t k b size long = go (ℕ_discrete (preferred_refusal t t.gauges k) 0)
  where
    go : Dec (preferred_refusal t t.gauges k ≡ 0) → Counts t k b (answer_for t k b)
    go (yes z) = rw (eq-eqb (preferred_refusal t t.gauges k) 0 z) (counts_due t k b (record { size = size; long = long; passes = z }))
    go (no z) = rw (ne_eqb (preferred_refusal t t.gauges k) 0 z) (record { refusal = λ l. refl; count = λ e. absurd (z e) })
