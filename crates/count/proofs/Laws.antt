-- What an answer of counting says (02, R-4), from its contract alone: there is one answer only (`counts_only`); the sequences are those of states that
-- moves lead to, the empty one included (`sequence_reached`, `empty_sequence`); spent exactly when there are more sequences than the budget, and a budget
-- equal to their number is enough; the count is at most the calls, at most (min G L)!, and the number of sets that a run of either side, under any
-- preference, hands out once a call has answered end, as it does when it is called on; and under every preference it is the same (`ladders_same`).
--
-- Pins, which nothing else cites: `sequence_reached`, `empty_sequence`, `refused_budget`.
use mathlib.Core.Path.{◌≡◌, refl, sym, ap, ap₂, ◌∙◌}
use mathlib.Core.Logic.{◌↔◌}
use mathlib.Core.List.{List, [], map, Memᴰ}
use Prim.Native.Nat.{ℕ, ◌+◌, ◌≤◌, ◌<◌, min}
use native.Mathlib.Decide.{ℕ_discrete, dec_le}
use native.Mathlib.Omega.{arith}
use lib.ListN.{length, length-map}
use Rattle.basics.proofs.Clash.{clash}
use Rattle.table.specs.declared.Table.{Table}
use Rattle.table.specs.Tables.{Legal, table_rows}
use Rattle.refusals.proofs.Answering.{number_injective}
use Rattle.rules.specs.Sequences.{All, factorial}
use Rattle.rules.specs.Machine.{Down, State, fresh, after_by}
use Rattle.rules.specs.Calls.{end, Call, handouts}
use Rattle.rules.proofs.Sequences.{distinct_length}
use Rattle.rules.proofs.Ends.{Enough}
use Rattle.lists.specs.Arrangements.{IsArrangement}
use Rattle.lists.specs.Lists.{Side, gauge_side}
use Rattle.lists.specs.ByNumber.{candidates}
use Rattle.lists.specs.OnTable.{hand_out, move_on, calls_on}
use Rattle.lists.specs.private.Demand.{Demand}
use Rattle.lists.specs.private.Arranging.{index_at, arrange, prefer}
use Rattle.lists.proofs.Listed.{picks_in_order, list_unique, lists_length}
use Rattle.lists.proofs.BothSides.{Fair, gauge_fair, list_few, side_list}
use Rattle.lists.proofs.PreferredSides.{prefer_fair, preferred_list}
use Rattle.lists.proofs.Demand.{run_lists_all}
use Rattle.preference.specs.Preferences.{preferred_refusal, order_of}
use Rattle.count.specs.declared.Count.{Count}
use Rattle.count.specs.declared.Count.TheVariants.{Counted, Spent}
use Rattle.count.specs.declared.Tally.{Tally}
use Rattle.std.specs.Prelude.{Result, Ok, Err}
use Rattle.refusals.specs.declared.Refusal.{Refusal}
use Rattle.count.specs.Counting.{CountAnswer, refused, spent, counted, count_says, ReachedPicks, PickSequences, most_calls, due_answer, CountsBy, Counts}
use Rattle.count.proofs.Nodes.{nodes, leaves-nodes}
use Rattle.count.proofs.Reached.{reached_in_order, pick_sequences}
use Rattle.count.proofs.Answers.{due_large, due_counted, due_spent, nodes_some}

-- ---- one answer
-- no two answers read alike
pub count_answer_injective : (x y : Result Count Refusal) → count_says x ≡ count_says y → x ≡ y
count_answer_injective (Ok (Counted x)) (Ok (Counted y)) e =
    ap (λ (t : Tally). Ok (Counted t)) (ap₂ (λ (l c : ℕ). record { ladders = l; calls = c }) (cc) (cc))
count_answer_injective (Ok (Counted x)) (Ok (Spent n)) e = clash cc
count_answer_injective (Ok (Counted x)) (Err y) e = clash cc
count_answer_injective (Ok (Spent m)) (Ok (Counted y)) e = clash cc
count_answer_injective (Ok (Spent m)) (Ok (Spent n)) e = ap (λ (c : ℕ). Ok (Spent c)) (cc)
count_answer_injective (Ok (Spent m)) (Err y) e = clash cc
count_answer_injective (Err x) (Ok (Counted y)) e = clash cc
count_answer_injective (Err x) (Ok (Spent n)) e = clash cc
count_answer_injective (Err x) (Err y) e = ap Err (number_injective x y (cc))

-- ---- the sequences: "each pick sequence the rules can reach, the empty one included"
pub sequence_reached : (s : Side) (o p : List ℕ) → ReachedPicks s o p → (n : ℕ) × ((after_by (move_on s o) n fresh).picks ≡ p)
sequence_reached s o p r = (r.reached.count, ap (λ (x : State). x.picks) r.reached.leads)

pub empty_sequence : (s : Side) (o : List ℕ) (ps : List (List ℕ)) → PickSequences s o ps → Memᴰ [] ps
empty_sequence s o ps h = (h.members []).1 (record { phase = Down; reached = record { count = 0; leads = refl } })

-- any two lists of the reached sequences are equally long
sequences_length : (s : Side) (o : List ℕ) (ps qs : List (List ℕ)) → PickSequences s o ps → PickSequences s o qs → length ps ≡ length qs
sequences_length s o ps qs a b =
    omega (
      arith,
      distinct_length ps qs a.once (λ p m. (b.members p).1 ((a.members p).0 m)),
      distinct_length qs ps b.once (λ p m. (a.members p).1 ((b.members p).0 m)),
    )

counts_by_only : (t : Table) (o : List ℕ) (b : ℕ) (x y : CountAnswer) → CountsBy t o b x → CountsBy t o b y → x ≡ y
counts_by_only t o b x y c d =
    c.says
    ∙ ap₂ (due_answer b) (ap length (list_unique c.ladders d.ladders c.listed d.listed))
    (sequences_length (gauge_side t) o c.sequences d.sequences c.reached d.reached)
    ∙ sym d.says

-- one answer only
pub counts_only : (t : Table) (k : List ℕ) (b : ℕ) (x y : CountAnswer) → Counts t k b x → Counts t k b y → x ≡ y
counts_only t k b x y c d = go (ℕ_discrete (preferred_refusal t t.gauges k) 0)
  where
    go : Dec (preferred_refusal t t.gauges k ≡ 0) → x ≡ y
    go (yes z) = counts_by_only t (order_of t.gauges k) b x y (c.count z) (d.count z)
    go (no z) = c.refusal (omega arith) ∙ sym (d.refusal (omega arith))

module _ (t : Table) (o : List ℕ) (b : ℕ) (a : CountAnswer) (c : CountsBy t o b a) where
  abbrev pub ladders : ℕ
  ladders = length c.ladders

  abbrev pub calls : ℕ
  calls = length c.sequences

  pub refused_budget : most_calls < b → a ≡ refused 18
  refused_budget h = c.says ∙ due_large b ladders calls h

  -- ---- spent or counted
  module _ (small : b ≤ most_calls) where
    is-counted : calls ≤ b → a ≡ counted ladders calls
    is-counted h = c.says ∙ due_counted b ladders calls small h

    is-spent : b < calls → a ≡ spent b
    is-spent h = c.says ∙ due_spent b ladders calls small h

    differ : (l s x : ℕ) → counted l s ≡ spent x → ⊥
    differ l s x e = clash cc

    -- "exactly when the table has more such sequences than the budget, with the budget as the calls"
    pub spent-exactly : (a ≡ spent b) ↔ (b < calls)
    spent-exactly = (λ e. go e (dec_le calls b), is-spent)
      where
        go : a ≡ spent b → Dec (calls ≤ b) → b < calls
        go e (yes h) = absurd (differ ladders calls b (sym (is-counted h) ∙ e))
        go e (no h) = omega arith

    pub counted-exactly : (a ≡ counted ladders calls) ↔ (calls ≤ b)
    counted-exactly = (λ e. go e (dec_le calls b), is-counted)
      where
        go : a ≡ counted ladders calls → Dec (calls ≤ b) → calls ≤ b
        go e (yes h) = h
        go e (no h) = absurd (differ ladders calls b (sym e ∙ is-spent (omega arith)))

    -- a budget equal to the number is enough, one less is not, and none never is
    pub enough : b ≡ calls → a ≡ counted ladders b
    enough e = is-counted (omega arith) ∙ ap (counted ladders) (sym e)

    pub one-short : b + 1 ≡ calls → a ≡ spent b
    one-short e = is-spent (omega arith)

  -- a run of either side, under any preference, that has answered end has handed out as many
  pub ladders_run : (s : Side) (p bs : List ℕ) (cs : List Call) → Demand t s p bs cs → (x : Call) → Memᴰ x cs → x.answer ≡ end
      → ladders ≡ length (handouts cs)
  ladders_run s p bs cs d x m e = lists_length c.ladders d.hands.list c.listed d.hands.listed ∙ ap length (sym (d.hands.complete x m e))

  -- ---- of a legal table and an arrangement of its gauges
  module _ (legal : Legal t) (arranged : IsArrangement t.gauges o) where
    abbrev rows : List ℕ
    rows = arrange o (table_rows t)

    fair : Fair t (gauge_side t)
    fair = gauge_fair t legal

    own-calls : calls ≡ length (nodes (candidates rows) (length rows) [])
    own-calls =
        sequences_length (gauge_side t) o c.sequences (reached_in_order (gauge_side t) o fair.counted arranged) c.reached
        (pick_sequences (gauge_side t) o fair.counted arranged)
        ∙ length-map (nodes (candidates rows) (length rows) []) (map (index_at o))

    own-ladders : ladders ≡ length (picks_in_order rows)
    own-ladders =
        lists_length c.ladders (side_list t (prefer o (gauge_side t)) (prefer_fair t (gauge_side t) fair o arranged)) c.listed
        (preferred_list t (gauge_side t) fair o arranged)
        ∙ length-map (picks_in_order rows) (hand_out (prefer o (gauge_side t)))

    pub none-spent : b ≡ 0 → a ≡ spent 0
    none-spent e = is-spent (omega arith) (omega (arith, own-calls, nodes_some (candidates rows) (length rows) [])) ∙ ap spent e

    pub ladders-calls : ladders ≤ calls
    ladders-calls = omega (arith, own-calls, own-ladders, leaves-nodes (candidates rows) (length rows) [])

    pub ladders-few : ladders ≤ factorial (min t.gauges t.cases)
    ladders-few = list_few t legal c.ladders c.listed

    -- a run of either side, called on with enough moves, more often than (min G L)!, has handed out as many
    pub ladders-called : (s : Side) → Fair t s → (p : List ℕ) → IsArrangement s.count p → (bs : List ℕ) → All (Enough s.count) bs
        → factorial (min t.gauges t.cases) < length bs → ladders ≡ length (handouts (calls_on s p bs))
    ladders-called s f p q bs e h =
        lists_length c.ladders (side_list t (prefer p s) (prefer_fair t s f p q)) c.listed (preferred_list t s f p q)
        ∙ ap length (sym (run_lists_all t legal s f p q (side_list t (prefer p s) (prefer_fair t s f p q)) (preferred_list t s f p q) bs e h))

-- the count is the same under every preference: "The set of ladders is the same under every preference"
pub ladders_same : (t : Table) (o p : List ℕ) (b d : ℕ) (x y : CountAnswer) (c : CountsBy t o b x) (e : CountsBy t p d y)
    → length c.ladders ≡ length e.ladders
ladders_same t o p b d x y c e = lists_length c.ladders e.ladders c.listed e.listed
