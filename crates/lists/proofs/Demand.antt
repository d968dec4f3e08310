-- Demand 3, for the calls that the rules make on any fair side of a legal table under any arrangement of what it picks, and for every list of
-- budgets (`demand3`): by the laws of crate `rules` at the candidates of the arranged rows, whose calls these are, place by index (`calls_placed`),
-- and by the list theorem.
--
-- In order: the demand; a run called on long enough ends (`run_ends`), with its side's whole list handed out (`run_lists_all`); the demand leaves
-- one list of calls (`demand_unique`), also by what it says of each call alone (`demand_each`); the limit after a hand-out (`demand_gap`); two runs
-- that have ended share one set (`one_set_reads`, `one_set`), whatever their sides and preferences.
--
-- Elsewhere: that the limits are attained, `limits_attained` in crate `known`; the lists themselves, BothSides.antt and PreferredSides.antt; "the
-- arrangement 1, 2, 3 and on", Plain.antt.
--
-- Pins, which nothing else cites: `demand_gap`.
use mathlib.Core.Path.{◌≡◌, refl, sym, ap, ◌∙◌, subst}
use mathlib.Core.Logic.{◌↔◌}
use mathlib.Core.List.Memᴰ
use mathlib.Core.List.{List, ◌∷◌, ◌++◌, map, Memᴰ}
use Prim.Native.Nat.{ℕ, ◌≤◌, ◌<◌}
use native.Mathlib.Omega.{arith}
use lib.ListN.{length, length-map}
use Rattle.table.specs.declared.Table.{Table}
use Rattle.table.specs.Tables.{Legal}
use Rattle.rules.specs.Sequences.{All}
use Rattle.rules.specs.Machine.{fresh}
use Rattle.rules.specs.Calls.{handed, end, Call, handouts, moves_until, is_hand_out, is_hand_out_or_end}
use Rattle.rules.specs.ByNumber.{calls}
use Rattle.rules.proofs.Calls.{calls_front, calls_complete, calls_start, calls_gap}
use Rattle.rules.proofs.Ends.{Enough, calls_end}
use Rattle.rules.proofs.Reports.{all_only18, all_whole, all_spent, one_list}
use Rattle.rules.proofs.Renaming.{renamed_call, calls-renamed, handouts_renamed, moves_until_renamed, split_renamed}
use Rattle.lists.specs.Arrangements.{IsArrangement}
use Rattle.lists.specs.ByNumber.{candidates}
use Rattle.lists.specs.Lists.{Side, PreferredList}
use Rattle.lists.specs.OnTable.{hand_out, move_on, calls_on}
use Rattle.lists.specs.Demand.{start_limit, gap_limit, most_sets, OneSet}
use Rattle.lists.specs.private.Demand.{Demand}
use Rattle.lists.specs.private.Arranging.{index_at, prefer}
use Rattle.lists.proofs.CandidateTree.{candidate_tree}
use Rattle.lists.proofs.Listed.{picks_in_order, list_unique, lists_same, lists_length}
use Rattle.lists.proofs.BothSides.{Fair, side_list, list_few}
use Rattle.lists.proofs.PreferredSides.{prefer_fair, preferred_list}
use Rattle.lists.proofs.PlacedRuns.{follows, same_out}

module _ (t : Table) (l : Legal t) (s : Side) (f : Fair t s) (o : List ℕ) (a : IsArrangement s.count o) where
  -- the side with its rows in the order of the preference, and the calls of its run, which goes by number
  abbrev arranged : Side
  arranged = prefer o s

  abbrev rows : List ℕ
  rows = arranged.rows

  abbrev made : List ℕ → List Call
  made bs = calls (candidates rows) (hand_out arranged) bs

  fair : Fair t arranged
  fair = prefer_fair t s f o a

  calls_placed : (bs : List ℕ) → calls_on s o bs ≡ map (renamed_call (index_at o)) (made bs)
  calls_placed bs = calls-renamed (follows s o f.counted a) (same_out s o f.counted a) bs fresh tt

  handouts_placed : (bs : List ℕ) → handouts (calls_on s o bs) ≡ handouts (made bs)
  handouts_placed bs = ap handouts (calls_placed bs) ∙ handouts_renamed (index_at o) (made bs)

  -- the whole list
  abbrev listed : List (List ℕ)
  listed = side_list t arranged fair

  front_placed : (bs : List ℕ) → (rest : List (List ℕ)) × (handouts (calls_on s o bs) ++ rest ≡ listed)
  front_placed bs =
      let r = calls_front (candidates rows) (hand_out arranged) (length rows) (candidate_tree rows) bs in
      (r.0, ap (λ (x : List (List ℕ)). x ++ r.0) (handouts_placed bs) ∙ r.1)

  complete_placed : (bs : List ℕ) (c : Call) → Memᴰ c (calls_on s o bs) → c.answer ≡ end → handouts (calls_on s o bs) ≡ listed
  complete_placed bs c m e =
      let k = Memᴰ.of_map (renamed_call (index_at o)) (made bs) (subst (λ (cs : List Call). Memᴰ c cs) (calls_placed bs) m) in
      handouts_placed bs
      ∙ calls_complete (candidates rows) (hand_out arranged) (length rows) (candidate_tree rows) bs k.0 k.1 (ap (λ (x : Call). x.answer) k.2 ∙ e)

  start_placed : (bs : List ℕ) → moves_until is_hand_out (calls_on s o bs) ≤ start_limit s.count
  start_placed bs =
      omega (
        arith,
        fair.counted,
        ap (moves_until is_hand_out) (calls_placed bs) ∙ moves_until_renamed (index_at o) is_hand_out (made bs),
        calls_start (candidates rows) (hand_out arranged) (length rows) (candidate_tree rows) bs,
      )

  gap_placed : (bs : List ℕ) (sooner later : List Call) (c : Call) → calls_on s o bs ≡ sooner ++ (c ∷ later)
      → moves_until is_hand_out_or_end later ≤ gap_limit s.count
  gap_placed bs sooner later c e =
      let k = split_renamed (index_at o) (made bs) sooner later c (sym (calls_placed bs) ∙ e) in
      omega (
        arith,
        fair.counted,
        ap (moves_until is_hand_out_or_end) (sym k.is_later) ∙ moves_until_renamed (index_at o) is_hand_out_or_end k.later',
        calls_gap (candidates rows) (hand_out arranged) (length rows) (candidate_tree rows) bs k.sooner' k.later' k.call' k.parts,
      )

  pub demand3 : (bs : List ℕ) → Demand t s o bs (calls_on s o bs)
  demand3 bs = record {
    hands = record {
      only18 = all_only18 (move_on s o) (hand_out s) bs fresh;
      whole = all_whole (move_on s o) (hand_out s) bs fresh;
      spent = all_spent (move_on s o) (hand_out s) bs fresh;
      rules = refl;
      list = listed;
      listed = preferred_list t s f o a;
      front = front_placed bs;
      complete = complete_placed bs;
    };
    few = list_few t l listed (preferred_list t s f o a);
    start = start_placed bs;
    gap = λ sooner later c y e h. gap_placed bs sooner later c e;
  }

  -- called on with enough moves, and more often than (min G L)!, a run ends, and has handed out the whole list
  pub run_ends : (bs : List ℕ) → All (Enough s.count) bs → most_sets t < length bs
      → (c : Call) × Memᴰ c (calls_on s o bs) × (c.answer ≡ end)
  run_ends bs enough h =
      let r =
      calls_end (candidates rows) (hand_out arranged) (length rows) (candidate_tree rows) bs
      (subst (λ (n : ℕ). All (Enough n) bs) (sym fair.counted) enough)
      (omega (arith, length-map (picks_in_order rows) (hand_out arranged), list_few t l listed (preferred_list t s f o a))) in (
        renamed_call (index_at o) r.0,
        subst (λ (cs : List Call). Memᴰ (renamed_call (index_at o) r.0) cs) (sym (calls_placed bs)) (Memᴰ.map (renamed_call (index_at o)) r.1),
        r.2,
      )

  pub run_lists_all : (xs : List (List ℕ)) → PreferredList t s o xs → (bs : List ℕ) → All (Enough s.count) bs
      → most_sets t < length bs → handouts (calls_on s o bs) ≡ xs
  run_lists_all xs x bs enough h =
      let c = run_ends bs enough h in
      let d = (demand3 bs).hands in
      d.complete c.0 c.1 c.2 ∙ list_unique d.list xs d.listed x

-- the demand leaves one list of calls to each list of budgets
pub demand_unique : (t : Table) (s : Side) (o bs : List ℕ) (cs ds : List Call) → Demand t s o bs cs → Demand t s o bs ds → cs ≡ ds
demand_unique t s o bs cs ds a b = a.hands.rules ∙ sym b.hands.rules

-- also by what it says of each call alone
pub demand_each : (t : Table) (s : Side) (o bs : List ℕ) (cs : List Call) → Demand t s o bs cs → cs ≡ calls_on s o bs
demand_each t s o bs cs d = one_list (move_on s o) (hand_out s) bs fresh cs d.hands.only18 d.hands.whole

-- the limit after a hand-out, as a user reads it off a list of calls
pub demand_gap : (t : Table) (s : Side) (o bs : List ℕ) (sooner later : List Call) (c : Call) (y : List ℕ) → Demand t s o bs (sooner ++ (c ∷ later))
    → c.answer ≡ handed y → moves_until is_hand_out_or_end later ≤ gap_limit s.count
demand_gap t s o bs sooner later c y d h = d.gap sooner later c y refl h

-- what `OneSet` says, as a user reads it
pub one_set_reads : (t : Table) (xs ys : List (List ℕ)) → OneSet t xs ys
    → ((x : List ℕ) → Memᴰ x xs ↔ Memᴰ x ys) × (length xs ≡ length ys) × (length ys ≤ most_sets t)
one_set_reads t xs ys o = (o.same, o.equally_many, omega (arith, o.equally_many, o.few))

-- two runs of one table, of whichever sides and under whichever preferences, whose whole lists these are
pub one_set : (t : Table) (s z : Side) (o p : List ℕ) (xs ys : List (List ℕ)) → PreferredList t s o xs → PreferredList t z p ys
    → length xs ≤ most_sets t → OneSet t xs ys
one_set t s z o p xs ys a b few = record { same = lists_same xs ys a b; equally_many = lists_length xs ys a b; few = few }
