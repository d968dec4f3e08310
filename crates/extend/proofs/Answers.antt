-- The answers of extending.
--
-- In order: the arrays at the first turn and after the last, for a table and a chain that the checks pass (`first_turn`, `last_turn`); the same on the
-- rows as an order has them, and back (`may_grow`, `placed_first`); each answer by what led to it (`extends_first`, `extends_refused`,
-- `extends_no_chain`, `extends_grown`); `Extends` leaves one answer only (`extends_unique`), and no two read alike (`extended_injective`).
use Rattle.std.specs.Option.{is_some}
use Rattle.std.specs.Prelude.{Option, Some, Result, Ok, Err}
use mathlib.Core.Path.{◌≡◌, refl, sym, ap, ap₂, ◌∙◌, subst, subst₂}
use mathlib.Core.Bool.{Bool, true, cond, false}
use mathlib.Core.List.{List, map}
use Prim.Native.Nat.{ℕ, suc, ◌-◌, ◌^◌, ◌<◌}
use native.Mathlib.Decide.{ℕ_discrete, dec_lt}
use native.Mathlib.Omega.{arith}
use lib.ListN.{length, take, replicate, length-map}
use lib.Seq.{take_at}
use lib.Pow.{pow_mono, pow_pos}
use borrow.Author.Tests.{lt-ltb, eq-eqb, ne_eqb}
use Rattle.sets.specs.Sets.{◌⊆◌, lowest}
use Rattle.sets.proofs.Order.{subset_is}
use Rattle.sets.proofs.Masks.{below_lowest}
use Rattle.sets.proofs.Tabulated.{length-tabulate}
use Rattle.table.specs.Pairs.{row, Within}
use Rattle.table.specs.Chains.{IsChain}
use Rattle.table.specs.Tables.{Legal, table_rows, chain_rows, chain_refusal, padded, blank_chain}
use Rattle.refusals.specs.Answers.{number, Answer, refused}
use Rattle.table.specs.declared.Table.{Table}
use Rattle.table.specs.declared.Chain.{Chain}
use Rattle.refusals.specs.declared.Refusal.{Refusal}
use Rattle.refusals.specs.declared.Refusal.TheVariants.{NotAChain}
use Rattle.refusals.proofs.Answering.{number_pos, answered_injective}
use Rattle.table.proofs.Legality.{ChainFacts, chain_facts, length_rows, row-table_rows, row-chain_rows, chain_within}
use Rattle.table.proofs.Places.{row_past, within_sub}
use Rattle.table.proofs.Padding.{pad_length, pad_get_or}
use Rattle.judge.specs.Judging.{judgement, Judged}
use Rattle.judge.proofs.NestedTest.{chain_dec}
use Rattle.lists.specs.Arrangements.{IsArrangement, place_of}
use Rattle.lists.specs.ByNumber.{pick_seq}
use Rattle.lists.specs.Lists.{gauge_side, list_key}
use Rattle.lists.specs.Growing.{FirstContaining}
use Rattle.lists.specs.OnTable.{chain_of}
use Rattle.lists.specs.private.Arranging.{index_at, arrange, unarrange}
use Rattle.lists.proofs.Arranging.{length-arrange, arrange_moves, arrange_within, arrange_chain}
use Rattle.lists.proofs.Growing.{grow, grow_first, first_unique}
use Rattle.lists.proofs.PreferredGrowing.{first_placed}
use Rattle.preference.specs.Preferences.{is_preference, preferred_refusal, order_of, numbers_of}
use Rattle.preference.specs.Placing.{inverse, placed_as, gathered}
use Rattle.preference.proofs.Holding.{preference_of}
use Rattle.preference.proofs.Placing.{passes_both, some_is, places_are}
use Rattle.preference.proofs.Gathering.{gathered_is, gathered_array, gathered_back}
use Rattle.search.proofs.AfterPicks.{full, Rows}
use Rattle.extend.specs.Extending.{extended, refused_by, grow_refusal, FirstRows, Grown, Extends}
use Rattle.extend.specs.private.FirstByNumber.{FirstByNumber}
use Rattle.extend.proofs.Picking.{Picked, picked_start}

-- ---- the rows of a legal table
legal_rows : (t : Table) → Legal t → Rows (table_rows t)
legal_rows t l = record {
  few = omega (arith, length_rows t l, l.gauges_high);
  inside =
      λ i.
      subst (λ (x : ℕ). x ⊆ full) (sym (row-table_rows t l i))
      (subset_is (row t.rows i) full
      (below_lowest (row t.rows i) 64 (omega arith) ∙ lt-ltb (row t.rows i) (2 ^ 64) (omega (arith, l.rows_bits i, pow_mono l.cases_high))));
}

-- ---- a chain of a legal table, held in 64 rows each
pub record Given (t : Table) (s : Chain) : Type 0 where
  pub facts : ChainFacts t s
  pub chain : IsChain (chain_rows s)
  pub size : length t.rows ≡ 64
  pub size_chain : length s.rows ≡ 64

module _ (t : Table) (s : Chain) (k : Given t s) where
  abbrev facts : ChainFacts t s
  facts = k.facts

  -- the chain's rows, by the table's number of gauges
  same_rows : take t.gauges s.rows ≡ chain_rows s
  same_rows = ap (λ (n : ℕ). take n s.rows) (sym facts.count)

  pub first_turn : (unpicked left : ℕ) → unpicked ≡ lowest t.gauges → left ≡ lowest 64
      → Picked (table_rows t) (take t.gauges s.rows) t.gauges t.rows unpicked s.rows left (replicate 64 0) 0
  first_turn unpicked left u e =
      picked_start (table_rows t) (take t.gauges s.rows) t.rows s.rows t.gauges unpicked left (legal_rows t facts.legal)
      (length_rows t facts.legal) k.size_chain
      (λ i. sym (row-table_rows t facts.legal i)) (λ i. sym (ap (λ (x : List ℕ). row x i) same_rows ∙ row-chain_rows t s facts k.size_chain i)) u e

  pub last_turn : (rows : List ℕ) → rows ≡ padded (chain_of (table_rows t) (grow (table_rows t) (take t.gauges s.rows))) → FirstByNumber t s rows
  last_turn rows e = record {
    chain = chain_of (table_rows t) (grow (table_rows t) (chain_rows s));
    first = grow_first (table_rows t) (chain_rows s) (chain_within t s facts k.size_chain) k.chain;
    held = e ∙ ap (λ (x : List ℕ). padded (chain_of (table_rows t) (grow (table_rows t) x))) same_rows;
  }

-- ---- by place
pub record Preferred (t : Table) (k : List ℕ) (s : Chain) : Type 0 where
  pub passes : grow_refusal t k s ≡ 0
  pub chain : IsChain (chain_rows s)
  pub size : length t.rows ≡ 64
  pub long : length k ≡ 64
  pub size_chain : length s.rows ≡ 64

-- what passes where nothing is refused
pub grow_passes : (t : Table) (k : List ℕ) (s : Chain) → grow_refusal t k s ≡ 0 → (preferred_refusal t t.gauges k ≡ 0) × (chain_refusal t s ≡ 0)
unfolding grow_refusal
grow_passes t k s e = go (ℕ_discrete (preferred_refusal t t.gauges k) 0)
  where
    go : Dec (preferred_refusal t t.gauges k ≡ 0) → (preferred_refusal t t.gauges k ≡ 0) × (chain_refusal t s ≡ 0)
    go (yes z) =
        (z, sym (ap (λ (b : Bool). cond b (chain_refusal t s) (preferred_refusal t t.gauges k)) (eq-eqb (preferred_refusal t t.gauges k) 0 z)) ∙ e)
    go (no z) =
        absurd (z (sym (ap (λ (b : Bool). cond b (chain_refusal t s) (preferred_refusal t t.gauges k)) (ne_eqb (preferred_refusal t t.gauges k) 0 z)) ∙ e))

module _ (t : Table) (k : List ℕ) (s : Chain) (p : Preferred t k s) where
  abbrev n : ℕ
  n = t.gauges

  abbrev o : List ℕ
  o = order_of t.gauges k

  own : ChainFacts t s
  own = chain_facts t s p.size (grow_passes t k s p.passes).1

  legal : Legal t
  legal = own.legal

  is_preference_lem : is_preference n k ≡ true
  is_preference_lem = (passes_both t n k (grow_passes t k s p.passes).0).1

  arranged : IsArrangement t.gauges (order_of t.gauges k)
  arranged = (preference_of n k legal.gauges_high p.long (rw is_preference_lem tt)).arranged

  -- the chain's rows, as many as the table has
  chain_rows_lem : take n s.rows ≡ chain_rows s
  chain_rows_lem = ap (λ (m : ℕ). take m s.rows) (sym own.count)

  within : Within (table_rows t) (chain_rows s)
  within = chain_within t s own p.size_chain

  -- ---- the table and the chain as the order has them
  abbrev table : Table
  table = record { gauges = t.gauges; cases = t.cases; rows = padded (gathered n t.rows k) }

  abbrev part : Chain
  part = record { gauges = t.gauges; rows = padded (gathered n s.rows k) }

  size : (x : List ℕ) → length (arrange o x) ≡ n
  size x = length-arrange n o arranged x

  table_array : table.rows ≡ padded (arrange o (table_rows t))
  table_array = gathered_array n t.rows k legal.gauges_high p.size p.long arranged

  part_array : part.rows ≡ padded (arrange o (chain_rows s))
  part_array =
      gathered_array n s.rows k legal.gauges_high p.size_chain p.long arranged ∙ ap (λ (x : List ℕ). padded (arrange o x)) chain_rows_lem

  table_rows_lem : table_rows table ≡ arrange o (table_rows t)
  table_rows_lem = ap (take n) table_array ∙ take_at (arrange o (table_rows t)) (replicate (64 - length (arrange o (table_rows t))) 0) n (size (table_rows t))

  part_rows : chain_rows part ≡ arrange o (chain_rows s)
  part_rows = ap (take n) part_array ∙ take_at (arrange o (chain_rows s)) (replicate (64 - length (arrange o (chain_rows s))) 0) n (size (chain_rows s))

  table_legal : Legal table
  table_legal = record {
    gauges_low = legal.gauges_low;
    gauges_high = legal.gauges_high;
    cases_low = legal.cases_low;
    cases_high = legal.cases_high;
    rows_length = ap length table_array ∙ pad_length (arrange o (table_rows t)) (omega (arith, size (table_rows t), legal.gauges_high));
    rows_bits = λ i. subst (λ (x : ℕ). x < 2 ^ t.cases) (sym (at i)) (bits i (dec_lt i n));
    rows_rest = λ i l. at i ∙ row_past (arrange o (table_rows t)) i (omega (arith, size (table_rows t)));
  }
    where
      at : (i : ℕ) → row table.rows i ≡ row (arrange o (table_rows t)) i
      at i = ap (λ (x : List ℕ). row x i) table_array ∙ pad_get_or (arrange o (table_rows t)) i

      bits : (i : ℕ) → Dec (i < n) → row (arrange o (table_rows t)) i < 2 ^ t.cases
      bits i (yes l) =
          subst (λ (x : ℕ). x < 2 ^ t.cases) (sym ((arrange_moves n o arranged).at (table_rows t) i l ∙ row-table_rows t legal (index_at o i)))
          (legal.rows_bits (index_at o i))
      bits i (no l) =
          subst (λ (x : ℕ). x < 2 ^ t.cases) (sym (row_past (arrange o (table_rows t)) i (omega (arith, size (table_rows t))))) (pow_pos t.cases)

  part_facts : ChainFacts table part
  part_facts = record {
    legal = table_legal;
    count = refl;
    inside = λ i.
        subst₂ (λ (x y : ℕ). x ⊆ y) (sym (array_at part.rows (chain_rows s) part_array i)) (sym (array_at table.rows (table_rows t) table_array i))
        (within_sub (arrange o (table_rows t)) (arrange o (chain_rows s)) (arrange_within n o arranged (table_rows t) (chain_rows s) within) i);
  }
    where
      array_at : (x y : List ℕ) → x ≡ padded (arrange o y) → (i : ℕ) → row x i ≡ row (arrange o y) i
      array_at x y e i = ap (λ (z : List ℕ). row z i) e ∙ pad_get_or (arrange o y) i

  pub may_grow : ChainFacts table part × IsChain (chain_rows part)
  may_grow = (part_facts, subst IsChain (sym part_rows) (arrange_chain n o arranged (chain_rows s) p.chain))

  -- ---- and back
  pub some_places : (p : Option (List ℕ)) → p ≡ placed_as n k → is_some p ≡ true
  some_places p e = some_is n k p e ∙ is_preference_lem

  pub placed_first : (first rows : List ℕ) (q : List ℕ) (p : Option (List ℕ)) → FirstByNumber table part first → p ≡ placed_as n k → p ≡ Some q → rows ≡ padded (gathered n first q)
      → FirstRows t o s rows
  placed_first first rows q p f e some d = record {
    chain = unarrange o f.chain;
    first =
        first_placed n o arranged (table_rows t) (chain_rows s) (length_rows t legal) within f.chain
        (subst (λ (x : List ℕ). FirstContaining x pick_seq (arrange o (chain_rows s)) f.chain) table_rows_lem
        (subst (λ (x : List ℕ). FirstContaining (table_rows table) pick_seq x f.chain) part_rows f.first));
    held =
        d
        ∙ ap padded
        (ap₂ (gathered n) f.held (places_are n k p e some).1
        ∙ gathered_is n (padded f.chain) (numbers_of (inverse o)) legal.gauges_high
        (pad_length f.chain (omega (arith, chain-size, legal.gauges_high))) places-size
        ∙ gathered_back n o f.chain arranged.size);
  }
    where
      chain-size : length f.chain ≡ n
      chain-size = f.first.maximal.within.size ∙ ap length table_rows_lem ∙ size (table_rows t)

      places-size : length (numbers_of (inverse o)) ≡ 64
      places-size =
          pad_length (map suc (inverse o))
          (omega (arith, length-map (inverse o) suc, length-tabulate (place_of o) (length o), arranged.size, legal.gauges_high))

-- ---- the answers, by what led to them
pub extends_first : (t : Table) (k : List ℕ) (s : Chain) (x : Refusal) (a : Answer Chain) → number x ≡ preferred_refusal t t.gauges k
    → a ≡ refused x blank_chain → Extends t k s a
unfolding grow_refusal
extends_first t k s x a e r = record {
  checked = λ z. r ∙ ap refused_by is;
  no_chain = λ z. absurd (omega (arith, is, number_pos x));
  grown = λ z. absurd (omega (arith, is, number_pos x));
}
  where
    is : number x ≡ grow_refusal t k s
    is =
        e
        ∙ sym (ap (λ (b : Bool). cond b (chain_refusal t s) (preferred_refusal t t.gauges k))
        (ne_eqb (preferred_refusal t t.gauges k) 0 (λ z. omega (arith, e, z, number_pos x))))

module _ (t : Table) (k : List ℕ) (s : Chain) (passed : preferred_refusal t t.gauges k ≡ 0) (j : Result Bool Refusal)
    (d : Judged (chain_refusal t s) (IsChain (chain_rows s)) j) where
  -- after the preference, the chain's number
  then : grow_refusal t k s ≡ chain_refusal t s
  unfolding grow_refusal
  then = ap (λ (b : Bool). cond b (chain_refusal t s) (preferred_refusal t t.gauges k)) (eq-eqb (preferred_refusal t t.gauges k) 0 passed)

  pub judged_passes : j ≡ Ok true → grow_refusal t k s ≡ 0
  judged_passes e = then ∙ sym d.refusal ∙ ap (λ (x : Result Bool Refusal). (judgement x).refusal) e

  pub judged_chain : j ≡ Ok true → IsChain (chain_rows s)
  judged_chain e = d.yes (ap (λ (x : Result Bool Refusal). (judgement x).value) e)

  pub extends_refused : (x : Refusal) (a : Answer Chain) → j ≡ Err x → a ≡ refused x blank_chain → Extends t k s a
  extends_refused x a e r = record {
    checked = λ z. r ∙ ap refused_by is;
    no_chain = λ z. absurd (omega (arith, is, number_pos x));
    grown = λ z. absurd (omega (arith, is, number_pos x));
  }
    where
      is : number x ≡ grow_refusal t k s
      is = ap (λ (x : Result Bool Refusal). (judgement x).refusal) (sym e) ∙ d.refusal ∙ sym then

  pub extends_no_chain : (a : Answer Chain) → j ≡ Ok false → a ≡ refused NotAChain blank_chain → Extends t k s a
  extends_no_chain a e r = record {
    checked = λ z. absurd (z passes);
    no_chain = λ z w. r;
    grown = λ z h. absurd (d.no (sym then ∙ passes) (ap (λ (x : Result Bool Refusal). (judgement x).value) e) h);
  }
    where
      passes : grow_refusal t k s ≡ 0
      passes = then ∙ sym d.refusal ∙ ap (λ (x : Result Bool Refusal). (judgement x).refusal) e

  pub extends_grown : (rows : List ℕ) → j ≡ Ok true → FirstRows t (order_of t.gauges k) s rows
      → Extends t k s (record { refusal = 0; value = record { gauges = t.gauges; rows = rows } })
  extends_grown rows e f = record {
    checked = λ z. absurd (z (judged_passes e));
    no_chain = λ z w. absurd (w (judged_chain e));
    grown = λ z h. record { accepted = refl; count = refl; rows = f };
  }

-- ---- one answer only
grown_unique : (t : Table) (o : List ℕ) (s : Chain) (a b : Answer Chain) → Grown t o s a → Grown t o s b → a ≡ b
grown_unique t o s a b x y =
    ap₂ (λ (n : ℕ) (c : Chain). answered n c) (x.accepted ∙ sym y.accepted) (ap₂ (λ (g : ℕ) (r : List ℕ). chained g r) (x.count ∙ sym y.count) same)
  where
    answered : ℕ → Chain → Answer Chain
    answered n c = record { refusal = n; value = c }

    chained : ℕ → List ℕ → Chain
    chained g r = record { gauges = g; rows = r }

    same : a.value.rows ≡ b.value.rows
    same =
        x.rows.held
        ∙ ap padded (first_unique (table_rows t) (list_key (gauge_side t) o) (chain_rows s) x.rows.chain y.rows.chain x.rows.first y.rows.first)
        ∙ sym y.rows.held

pub extends_unique : (t : Table) (k : List ℕ) (s : Chain) (a b : Answer Chain) → Extends t k s a → Extends t k s b → a ≡ b
extends_unique t k s a b x y = go (ℕ_discrete (grow_refusal t k s) 0) (chain_dec (chain_rows s))
  where
    go : Dec (grow_refusal t k s ≡ 0) → Dec (IsChain (chain_rows s)) → a ≡ b
    go (no z) d = x.checked z ∙ sym (y.checked z)
    go (yes z) (yes c) = grown_unique t (order_of t.gauges k) s a b (x.grown z c) (y.grown z c)
    go (yes z) (no c) = x.no_chain z c ∙ sym (y.no_chain z c)

-- no two answers read alike
pub extended_injective : (r q : Result Chain Refusal) → extended r ≡ extended q → r ≡ q
extended_injective = answered_injective blank_chain
