-- The ladders of a small table, as successive calls of the gauge run in plain order hand them out.
--
-- In order: one call, a law for each outcome (`hands_given`, `hands_spent`, `hands_end`, `hands_refused`); so many calls that each handed a ladder out
-- (`Listing`), and one call more (`listing-next`); the end of the list (`listing_ends`), and more ladders
-- than there are places (`listing-more`); the same of the loop that makes the calls (`listing_turn`, `listing-stops`,
-- `listing-passes`).
--
-- Elsewhere: so many calls of the greatest budget, blocks/proofs/Calls; that they hand out the run's list, `demand3` in lists/proofs/Demand; that this is
-- the gauge list, `plain_list` in blocks/proofs/PlainBlocks.
use mathlib.Core.Path.{◌≡◌, refl, sym, ap, ap₂, ◌∙◌, subst}
use mathlib.Core.Bool.{Bool, false, cond}
use mathlib.Core.List.Memᴰ
use mathlib.Core.List.{List, [], ◌∷◌, ◌++◌, map, append-nil, Memᴰ}
use Prim.Native.Nat.{ℕ, suc, ◌+◌, ◌≤◌, ◌<◌}
use native.Mathlib.Nat.{lt_of_lt_of_le}
use native.Mathlib.Omega.{arith}
use lib.Dec.{eqb}
use lib.ListN.{length, take, set, replicate, length-append, length-set}
use lib.Pow.{pow_mono}
use lib.Seq.{take-suc-set}
use Rattle.table.specs.declared.Table.{Table}
use Rattle.table.specs.Pairs.{Within}
use Rattle.table.specs.Tables.{Legal, table_rows, padded}
use Rattle.table.proofs.Legality.{length_rows, row-table_rows, legal_cases}
use Rattle.table.proofs.Padding.{pad_get_or}
use Rattle.refusals.specs.Answers.{Answer, answer, number}
use Rattle.rules.specs.Machine.{State, fresh}
use Rattle.rules.specs.Calls.{Reply, refused, spent, handed, end, Call, most_budget, answered, handouts}
use Rattle.rules.proofs.Reports.{only18_by}
use Rattle.lists.specs.Lists.{gauge_side, GaugeList}
use Rattle.lists.specs.OnTable.{hand_out, move_on, call_on}
use Rattle.lists.specs.private.Demand.{Demand}
use Rattle.lists.proofs.Demand.{demand3}
use Rattle.lists.proofs.Listed.{list_unique}
use Rattle.std.specs.Prelude.{Result, Ok, Err, IsOk}
use Rattle.refusals.specs.declared.Refusal.{Refusal}
use Rattle.refusals.proofs.Answering.{number_pos}
use Rattle.table.specs.declared.Gauge.{Gauge}
use Rattle.runs.specs.declared.paused.Run.{Run}
use Rattle.runs.specs.Paused.{Value, paused, blank_value, start_of}
use Rattle.preference.specs.Preferences.{preferred_refusal, plain_numbers}
use Rattle.runs.specs.Calling.{Step, arrangement, by_rules, told, held, PausedAt}
use Rattle.runs.specs.private.Either.{call_of, CalledOf}
use Rattle.runs.proofs.Demands.{Started}
use Rattle.blocks.specs.Filling.{calls, after}
use Rattle.blocks.proofs.Chains.{handed_within, never_spent}
use Rattle.blocks.proofs.Calls.{handouts_append, calls_more, after_more, reached_after}
use Rattle.blocks.proofs.PlainBlocks.{plain_started, plain_list}
use Rattle.boards.specs.Boards.{board, corner}
use Rattle.boards.proofs.Boards.{Fits8, small_within}
use Rattle.boards.proofs.Packing.{corner-board}
use Rattle.mechanisms.specs.Covering.{most_ladders}
use Rattle.mechanisms.specs.private.Steps.{SmallTable, Handed, OneCall, Ends, Hands, Lists}

-- ---- a small table fits a board
pub small_fits : (t : Table) → SmallTable t → Fits8 t.cases (table_rows t)
small_fits t h = record {
  rows = omega (arith, length_rows t h.legal, h.gauges);
  wide = h.cases;
  cases = legal_cases t h.legal;
  small = λ i. rw (row-table_rows t h.legal i) (lt_of_lt_of_le (h.legal.rows_bits i) (pow_mono h.cases));
}

-- a set of its pairs has the board of its 64 rows
set_board : (t : Table) → SmallTable t → (x : List ℕ) → Within (table_rows t) x → board (corner (padded x)) ≡ board x
set_board t h x w =
    corner-board (padded x) x (pad_get_or x) (small_within (table_rows t) x (small_fits t h).small w) (omega (arith, w.size, (small_fits t h).rows))

-- ---- one call
told_answer : (t : Table) (k : List ℕ) (a : Reply) (n : ℕ) (s : State) → (by_rules t (gauge_side t) k false a n s).answer ≡ a
told_answer t k (refused m) n s = refl
told_answer t k spent n s = refl
told_answer t k (handed x) n s = refl
told_answer t k end n s = refl

module _ (v : Value) (r : Step) (called : CalledOf gauge_side v most_budget r) where
  module _ (l : Legal v.table) (d : v.order ≡ plain_numbers v.table.gauges) (o : v.omit ≡ false) (s : State) (p : PausedAt gauge_side v s) where
    abbrev made : Call
    made = call_on (gauge_side v.table) (held gauge_side v) most_budget s

    begun : Started gauge_side v.table v.order
    begun = subst (Started gauge_side v.table) (sym d) (plain_started v.table l)

    by-rules : r ≡ told v.table (gauge_side v.table) v.order false made
    by-rules =
        called.rules begun.passed s p
        ∙ ap
        (λ (omit : Bool). told v.table (gauge_side v.table) v.order omit
        (call_of v.table (gauge_side v.table) (held gauge_side v) omit most_budget s))
        o

    same_answer : made.answer ≡ r.answer
    same_answer = sym (ap (λ (x : Step). x.answer) by-rules ∙ told_answer v.table v.order made.answer made.moves made.next)

    as-answered : (a : Reply) → r.answer ≡ a → r ≡ by_rules v.table (gauge_side v.table) v.order false a made.moves made.next
    as-answered a e = by-rules ∙ ap (λ (x : Reply). by_rules v.table (gauge_side v.table) v.order false x made.moves made.next) (same_answer ∙ e)

  pub hands_end : r.answer ≡ end → Ends v
  hands_end e l d o s p = same_answer l d o s p ∙ e

  pub hands_spent : r.answer ≡ spent → Ends v
  hands_spent e l d o s p =
      absurd (never_spent v.table v.order (begun l d o s p) most_budget (omega arith) (omega arith) s p.reached (same_answer l d o s p ∙ e))

  pub hands_refused : (n : ℕ) → r.answer ≡ refused n → Ends v
  hands_refused n e l d o s p =
      absurd ((only18_by (move_on (gauge_side v.table) (held gauge_side v)) (hand_out (gauge_side v.table)) most_budget s).else (omega arith) n
      (same_answer l d o s p ∙ e))

  pub hands_given : (x : List ℕ) → r.answer ≡ handed x → (b : ℕ) → b ≡ board (corner r.chain.rows) → (w : Value) → w ≡ r.next → Hands v b w
  hands_given x e b f w q l d o s p =
      let given : r ≡ by_rules v.table (gauge_side v.table) v.order false (handed x) (made l d o s p).moves (made l d o s p).next =
      as-answered l d o s p (handed x) e in (
        x,
        same_answer l d o s p ∙ e,
        f ∙ ap (λ (y : Step). board (corner y.chain.rows)) given,
        q ∙ ap (λ (y : Step). y.next) given ∙ ap (λ (k : List ℕ). paused v.table k false (made l d o s p).next) d,
      )

-- ---- so many calls in plain order, each of which handed a ladder out
abbrev order : Table → List ℕ
order t = plain_numbers t.gauges

abbrev begin : Table → Value
begin t = paused t (order t) false fresh

abbrev sofar : Table → ℕ → List Call
sofar t n = calls t (order t) false n fresh

pub record Listing (t : Table) (n : ℕ) (v : Value) (boards : List ℕ) : Type 0 where
  pub few : n ≤ most_ladders
  pub value : v ≡ paused t (order t) false (after t (order t) false n fresh)
  pub given : take n boards ≡ map board (handouts (sofar t n))
  pub many : length (handouts (sofar t n)) ≡ n
  pub size : length boards ≡ most_ladders

-- the value of a fresh start on a small table in plain order, which is not refused
pub started : (t : Table) → SmallTable t → (k : List ℕ) → k ≡ plain_numbers t.gauges → (a : Answer Value)
    → a ≡ answer (preferred_refusal t t.gauges k) (paused t k false fresh) blank_value → a.value ≡ paused t (plain_numbers t.gauges) false fresh
started t h k d a e =
    ap (λ (x : Answer Value). x.value) e
    ∙ ap (λ (j : List ℕ). cond (eqb (preferred_refusal t t.gauges j) 0) (paused t j false fresh) blank_value) d
    ∙ ap (λ (n : ℕ). cond (eqb n 0) (begin t) blank_value) (plain_started t h.legal).passed

pub start_given : (t : Table) → SmallTable t → (k : List ℕ) → k ≡ plain_numbers t.gauges → (w : Result (Run Gauge) Refusal)
    → start_of (λ x. x.0) w ≡ answer (preferred_refusal t t.gauges k) (paused t k false fresh) blank_value → IsOk w
start_given t h k d (Ok r) e = refl
start_given t h k d (Err why) e =
    let n : number why ≡ preferred_refusal t t.gauges k = ap (λ (x : Answer Value). x.refusal) e in
    let z : preferred_refusal t t.gauges k ≡ 0 = ap (preferred_refusal t t.gauges) d ∙ (plain_started t h.legal).passed in
    absurd (omega (arith, number_pos why, n, z))

map_append : (f : List ℕ → ℕ) (a b : List (List ℕ)) → map f (a ++ b) ≡ map f a ++ map f b
map_append f [] b = refl
map_append f (x ∷ a) b = ap (λ (l : List ℕ). f x ∷ l) (map_append f a b)

module _ (t : Table) (h : SmallTable t) (n : ℕ) (v : Value) (boards : List ℕ) (i : Listing t n v boards) where
  abbrev o : List ℕ
  o = arrangement (gauge_side t) (order t)

  abbrev state : State
  state = after t (order t) false n fresh

  abbrev last : Call
  last = call_on (gauge_side t) o most_budget state

  one_call : (P : Table → Call → Type 0) → OneCall P v → P t last
  one_call P f =
      let g : OneCall P (paused t (order t) false state) = subst (OneCall P) i.value f in
      g h.legal refl refl state
      record { reached = reached_after t (order t) false n fresh (record { count = 0; leads = refl }); stands = refl }

  -- the calls with this one
  with_last : sofar t (n + 1) ≡ sofar t n ++ (last ∷ [])
  with_last = calls_more t (order t) false n 1 fresh

  sets_last : handouts (sofar t (n + 1)) ≡ handouts (sofar t n) ++ answered last.answer []
  sets_last = ap handouts with_last ∙ handouts_append (sofar t n) (last ∷ [])

  begun_plain : Started gauge_side t (order t)
  begun_plain = plain_started t h.legal

  demand : Demand t (gauge_side t) o (replicate (n + 1) most_budget) (sofar t (n + 1))
  demand = demand3 t h.legal (gauge_side t) begun_plain.fair o begun_plain.arranged (replicate (n + 1) most_budget)

  -- the run's list is the gauge list
  the_list : (xs : List (List ℕ)) → GaugeList t xs → demand.hands.list ≡ xs
  the_list xs g = list_unique demand.hands.list xs demand.hands.listed ((plain_list t h.legal xs).1 g)

  listing_ends : Ends v → Lists t n boards
  listing_ends f = record {
    size = i.size;
    whole = λ _ xs g. i.given ∙ ap (map board) (all xs g);
    more = λ m xs g. absurd (omega (arith, i.few, m));
  }
    where
      ended : last.answer ≡ end
      ended = one_call (λ t c. c.answer ≡ end) f

      all : (xs : List (List ℕ)) → GaugeList t xs → handouts (sofar t n) ≡ xs
      all xs g =
          sym (append-nil (handouts (sofar t n)))
          ∙ ap (λ (a : Reply). handouts (sofar t n) ++ answered a []) (sym ended) ∙ sym sets_last
          ∙ demand.hands.complete last (subst (Memᴰ last) (sym with_last) (Memᴰ.append_right (sofar t n) (Memᴰ.head refl))) ended
          ∙ the_list xs g

  -- a ladder more
  module _ (b : ℕ) (w : Value) (f : Hands v b w) where
    handed_out : (x : List ℕ) × (last.answer ≡ handed x) × (b ≡ board (corner (padded x))) × (w ≡ paused t (order t) false last.next)
    handed_out = one_call (λ t c. Handed t c b w) f

    abbrev x : List ℕ
    x = handed_out.0

    sets_more : handouts (sofar t (n + 1)) ≡ handouts (sofar t n) ++ (x ∷ [])
    sets_more = sets_last ∙ ap (λ (a : Reply). handouts (sofar t n) ++ answered a []) handed_out.1

    many_more : length (handouts (sofar t (n + 1))) ≡ n + 1
    many_more = omega (arith, ap length sets_more, length-append (handouts (sofar t n)) (x ∷ []), i.many)

    board-is : b ≡ board x
    board-is = handed_out.2 ∙ set_board t h x (handed_within t (order t) false state x handed_out.1)

    next-state : after t (order t) false (n + 1) fresh ≡ last.next
    next-state = after_more t (order t) false n 1 fresh

    listing-next : n < most_ladders → Listing t (n + 1) w (set boards n b)
    listing-next l = record {
      few = omega arith;
      value = handed_out.3 ∙ ap (paused t (order t) false) (sym next-state);
      given =
          let e : n + 1 ≡ suc n = omega arith in
          ap (λ (k : ℕ). take k (set boards n b)) e ∙ take-suc-set boards n b (omega (arith, i.size))
          ∙ ap₂ (λ (y : List ℕ) (z : ℕ). y ++ (z ∷ [])) i.given board-is
          ∙ sym (ap (map board) sets_more ∙ map_append board (handouts (sofar t n)) (x ∷ []));
      many = many_more;
      size = length-set boards n b ∙ i.size;
    }

    -- and no place for it
    listing-more : most_ladders ≤ n → Lists t (n + 1) boards
    listing-more l = record {
      size = i.size;
      whole = λ m xs g. absurd (omega (arith, l, m));
      more = λ m xs g.
          let e : handouts (sofar t (n + 1)) ++ demand.hands.front.0 ≡ xs = demand.hands.front.1 ∙ the_list xs g in
          omega (arith, ap length e, length-append (handouts (sofar t (n + 1))) demand.hands.front.0, many_more, l);
    }

-- ---- the loop, from the value u of a fresh start on a small table in plain order
pub record ListingFrom (u : Value) (n : ℕ) (v : Value) (boards : List ℕ) : Type 0 where
  pub few : n ≤ most_ladders
  pub on : (t : Table) → SmallTable t → u ≡ begin t → Listing t n v boards

module _ (u : Value) (n : ℕ) (v : Value) (boards : List ℕ) (i : ListingFrom u n v boards) where
  pub listing_turn : (b : ℕ) (w : Value) → Hands v b w → n < most_ladders → ListingFrom u (n + 1) w (set boards n b)
  listing_turn b w f l = record { few = omega arith; on = λ t h e. listing-next t h n v boards (i.on t h e) b w f l }

  module _ (t : Table) (h : SmallTable t) (e : u ≡ begin t) where
    pub listing-stops : Ends v → Lists t n boards
    listing-stops = listing_ends t h n v boards (i.on t h e)

    pub listing-passes : (b : ℕ) (w : Value) → Hands v b w → most_ladders ≤ n → Lists t (n + 1) boards
    listing-passes b w f l = listing-more t h n v boards (i.on t h e) b w f l
