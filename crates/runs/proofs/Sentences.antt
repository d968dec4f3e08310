-- What a reader finds in the promises of the fresh starts and run calls, sentence by sentence, with 01's numbers written out. Each law reads a field of a
-- record behind these contracts: with the field weakened it has no proof, whatever else is changed.
--
-- In order: demand 3 of a list of calls (`hands-..`, `gauge_run_lists`, `case_run_lists`); the sentence on rules 1 to 5 (`rules-..`); two runs (`shares-..`);
-- one call and its refusals (`called-..`); runs that omit (`omits-..`); the plain order (`run_plain`); batches (`batch-..`).
--
-- Elsewhere: demand 3 for a reader who has the side's list, `demand_hands`, `demand_limits` in Demands.antt; that one answer is left,
-- `demand_answers_unique` there.
use mathlib.Core.Path.{◌≡◌, refl, sym, ap, ◌∙◌, subst}
use mathlib.Core.Logic.{◌↔◌, ◌≢◌}
use mathlib.Core.Bool.{Bool, true, false}
use mathlib.Core.List.{List, [], ◌∷◌, ◌++◌, map, Memᴰ}
use Prim.Native.Nat.{ℕ, ◌≤◌, ◌<◌}
use native.Mathlib.Omega.{arith}
use lib.ListN.{length, take, drop}
use lib.Seq.{take-append_seam, drop-append_seam}
use Rattle.table.specs.declared.Table.{Table}
use Rattle.table.specs.Chains.{IsMaximal}
use Rattle.table.specs.Tables.{table_rows}
use Rattle.rules.specs.Machine.{State, fresh}
use Rattle.rules.specs.Calls.{refused, spent, end}
use Rattle.rules.specs.Keeping.{kept_sets as kept_of}
use Rattle.rules.specs.ByNumber.{calls, state_after}
use Rattle.lists.specs.Arrangements.{plain}
use Rattle.lists.specs.Lists.{Side, gauge_side, case_side, PreferredList, GaugeList, CaseList}
use Rattle.lists.specs.OnTable.{hand_out, call_on, calls_on, left_on}
use Rattle.lists.specs.ByNumber.{candidates}
use Rattle.lists.proofs.Plain.{calls_plain, left_plain}
use Rattle.lists.specs.Keeping.{call_keeping}
use Rattle.preference.specs.Preferences.{preferred_refusal, plain_numbers}
use Rattle.preference.proofs.PlainOrder.{order_plain}
use Rattle.conflicts.specs.Conflicts.{HoldsEssential}
use Rattle.conflicts.specs.Omitting.{keeps_of}
use Rattle.runs.specs.Paused.{Value, paused, blank_value}
use Rattle.runs.specs.Calling.{Step, refusal_step, arrangement, told, held, value_refusal, PausedAt, Called, Calls, last_value}
use Rattle.runs.specs.Demand.{handed_sets, Ends, Each, HandsOut, FromRules, RunDemand, SharesAll}
use Rattle.runs.specs.Omitting.{CalledEither, CallsEither, RunOmits}
use Rattle.runs.specs.Batches.{denied, Batch, Tale, joined, Denied, Comes, batch_on, budgets_on, steps_on, total, left_over, Batched, AddsCalls}

-- ---- a list of calls, one of them with the budget b and the answer r
-- what holds of each budget with its answer holds of this one
each_at : (P : ℕ → Step → Type 0) (bs cs : List ℕ) (b : ℕ) (rs qs : List Step) (r : Step) → length bs ≡ length rs
    → Each P (bs ++ (b ∷ cs)) (rs ++ (r ∷ qs)) → P b r
each_at P [] cs b [] qs r e h = h.0
each_at P [] cs b (x ∷ rs) qs r e h = absurd (omega arith)
each_at P (a ∷ bs) cs b [] qs r e h = absurd (omega arith)
each_at P (a ∷ bs) cs b (x ∷ rs) qs r e h = each_at P bs cs b rs qs r (omega arith) h.1

-- "the ladders handed out are, in turn, the front of that run's list"
pub hands_front : (list : List (List ℕ)) (bs : List ℕ) (rs : List Step) → HandsOut list bs rs → (rest : List (List ℕ)) × (handed_sets rs ++ rest ≡ list)
hands_front list bs rs h = h.front

-- "Once a call has answered "end", they are the whole list"
pub hands_whole : (list : List (List ℕ)) (bs : List ℕ) (rs : List Step) (r : Step) → HandsOut list bs rs → Memᴰ r rs → r.answer ≡ end
    → handed_sets rs ≡ list
hands_whole list bs rs r h m e = h.whole (r, m, e)

module _ (list : List (List ℕ)) (bs cs : List ℕ) (b : ℕ) (rs qs : List Step) (r : Step) (e : length bs ≡ length rs) where
  -- "18 above 1,000,000"
  pub hands_refuses : HandsOut list (bs ++ (b ∷ cs)) (rs ++ (r ∷ qs)) → 1000000 < b → r ≡ refusal_step 18
  hands_refuses h = each_at (λ b r. 1000000 < b → r ≡ refusal_step 18) bs cs b rs qs r e h.only18

  -- "Only 18 refuses such a call"
  pub hands_takes : HandsOut list (bs ++ (b ∷ cs)) (rs ++ (r ∷ qs)) → b ≤ 1000000 → (n : ℕ) → r.answer ≢ refused n
  hands_takes h = each_at (λ b r. b ≤ 1000000 → (n : ℕ) → r.answer ≢ refused n) bs cs b rs qs r e h.no_other

  -- "any other makes its whole budget of moves, unless a hand-out or an end stops it first"
  pub hands_spends : HandsOut list (bs ++ (b ∷ cs)) (rs ++ (r ∷ qs)) → r.answer ≡ spent → r.moves ≡ b
  hands_spends h = each_at (λ b r. r.answer ≡ spent → r.moves ≡ b) bs cs b rs qs r e h.budget

  pub hands_within : HandsOut list (bs ++ (b ∷ cs)) (rs ++ (r ∷ qs)) → r.moves ≤ b
  hands_within h = each_at (λ b r. r.moves ≤ b) bs cs b rs qs r e h.within

-- with the plain order the gauge run hands out 01's gauge list, the case run 01's case list
pub gauge_run_lists : (t : Table) (v : Value) (bs : List ℕ) (rs : List Step) → RunDemand gauge_side t (plain_numbers t.gauges) v bs rs
    → (xs : List (List ℕ)) × GaugeList t xs × HandsOut xs bs rs
gauge_run_lists t v bs rs d = (d.demand.list, d.base refl, d.demand.hands)

pub case_run_lists : (t : Table) (v : Value) (bs : List ℕ) (rs : List Step) → RunDemand case_side t (plain_numbers t.cases) v bs rs
    → (xs : List (List ℕ)) × CaseList t xs × HandsOut xs bs rs
case_run_lists t v bs rs d = (d.demand.list, d.base refl, d.demand.hands)

-- ---- "Rules 1 to 5, carried on from the fresh start for the same budgets alone"
-- "give each call's answer, its moves and its ladder"
pub rules_answers : (side : Table → Side) (t : Table) (k : List ℕ) (v : Value) (bs : List ℕ) (rs : List Step) → FromRules side t k v bs rs
    → rs ≡ map (told t (side t) k false) (calls_on (side t) (arrangement (side t) k) bs)
rules_answers side t k v bs rs f = f.each

-- "and after the list the value last returned"
pub rules_last : (side : Table → Side) (t : Table) (k : List ℕ) (v : Value) (bs : List ℕ) (rs : List Step) → FromRules side t k v bs rs
    → last_value v rs ≡ paused t k false (left_on (side t) (arrangement (side t) k) bs)
rules_last side t k v bs rs f = f.last

-- ---- "So the two runs, each gone to its end, share one set"
module _ (side : Table → Side) (t : Table) (k j : List ℕ) (v : Value) (sixty-four : length j ≡ 64) (bs cs : List ℕ) (rs qs : List Step) where
  pub shares_gauges : SharesAll side t k v → preferred_refusal t (side t).count k ≡ 0 → preferred_refusal t t.gauges j ≡ 0 → Calls side v bs rs
      → Calls gauge_side (paused t j false fresh) cs qs → Ends rs → Ends qs → (x : List ℕ) → Memᴰ x (handed_sets rs) ↔ Memᴰ x (handed_sets qs)
  shares_gauges h p q a b m n = (h.gauges j sixty-four p q bs cs rs qs a b m n).same

  pub shares_cases : SharesAll side t k v → preferred_refusal t (side t).count k ≡ 0 → preferred_refusal t t.cases j ≡ 0 → Calls side v bs rs
      → Calls case_side (paused t j false fresh) cs qs → Ends rs → Ends qs → (x : List ℕ) → Memᴰ x (handed_sets rs) ↔ Memᴰ x (handed_sets qs)
  shares_cases h p q a b m n = (h.cases j sixty-four p q bs cs rs qs a b m n).same

-- ---- one call, from any value
module _ (side : Table → Side) (v : Value) (b : ℕ) (r : Step) where
  -- 10, 11 and 27
  pub called_table : Called side v b r → 0 < value_refusal side v → r ≡ refusal_step (value_refusal side v)
  called_table c h = c.table h

  -- "15 a value that no number of moves, 0 included, from a fresh start on its table leads to"
  pub called_15 : Called side v b r → value_refusal side v ≡ 0 → ((s : State) → PausedAt side v s → ⊥) → r ≡ refusal_step 15
  called_15 c z n = c.value z n

  -- a value of a run that omits nothing: what rules 1 to 5 give
  pub called_rules : Called side v b r → v.omit ≡ false → value_refusal side v ≡ 0 → (s : State) → PausedAt side v s
      → r ≡ told v.table (side v.table) v.order false (call_on (side v.table) (held side v) b s)
  called_rules c o z s p = c.rules o z s p

  -- "At an omitted ladder this run makes its hand-out move, which counts, but does not stop, hands nothing over" (02, R-2)
  pub called_omitting : CalledEither side v b r → v.omit ≡ true → value_refusal side v ≡ 0 → (s : State) → PausedAt side v s
      → r ≡ told v.table (side v.table) v.order true (call_keeping (side v.table) (held side v) (keeps_of v.table) b s)
  called_omitting c o z s p = c.rules o z s p

  pub called_either : CalledEither side v b r → Called side v b r
  called_either c = c.called

-- ---- runs that omit: "by its end, hand out exactly the ladders that hold a deciding pair" (02, R-2)
pub omits_exactly : (side : Table → Side) (t : Table) (k : List ℕ) (v : Value) (bs : List ℕ) (rs : List Step) → RunOmits side t k v bs rs → Ends rs
    → (x : List ℕ) → Memᴰ x (handed_sets rs) ↔ (IsMaximal (table_rows t) x × HoldsEssential (table_rows t) x)
omits_exactly side t k v bs rs h e x = rw (h.hands.whole e) (h.members x)

-- in the run's own order
pub omits_in_order : (side : Table → Side) (t : Table) (k : List ℕ) (v : Value) (bs : List ℕ) (rs : List Step) → RunOmits side t k v bs rs → Ends rs
    → (xs : List (List ℕ)) × PreferredList t (side t) (arrangement (side t) k) xs × (handed_sets rs ≡ kept_of (keeps_of t) xs)
omits_in_order side t k v bs rs h e = (h.list, h.listed, h.hands.whole e)

-- ---- "The arrangement 1, 2, 3 and on gives the former results" (02, R-12): the answers and the value left are those of rules 1 to 5 by number
pub run_plain : (side : Table → Side) (t : Table) (v : Value) (bs : List ℕ) (rs : List Step) → (side t).count ≤ 64 → length (side t).rows ≡ (side t).count
    → FromRules side t (plain_numbers (side t).count) v bs rs
    → (rs ≡ map (told t (side t) (plain_numbers (side t).count) false) (calls (candidates (side t).rows) (hand_out (side t)) bs))
    × (last_value v rs ≡ paused t (plain_numbers (side t).count) false (state_after (candidates (side t).rows) (hand_out (side t)) bs fresh))
run_plain side t v bs rs few counted f =
    let k = plain_numbers (side t).count in
    let o : arrangement (side t) k ≡ plain (side t).count = order_plain (side t).count few in (
      f.each ∙ ap (map (told t (side t) k false)) (ap (λ (q : List ℕ). calls_on (side t) q bs) o ∙ calls_plain (side t) counted bs),
      f.last ∙ ap (paused t k false) (ap (λ (q : List ℕ). left_on (side t) q bs) o ∙ left_plain (side t) counted bs),
    )

-- ---- batches
module _ (n : ℕ) (before : List ℕ) (r : Batch) (now : List ℕ) (d : Denied n before r now) where
  -- "A refusal yields its number and nothing else"
  pub batch_denied : (r.ending ≡ denied n) × (r.ladders ≡ 0) × (r.moves ≡ 0) × (r.next ≡ blank_value)
  batch_denied = (
    ap (λ (x : Batch). x.ending) d.says,
    ap (λ (x : Batch). x.ladders) d.says,
    ap (λ (x : Batch). x.moves) d.says,
    ap (λ (x : Batch). x.next) d.says,
  )

  pub batch_denied_words : now ≡ before
  batch_denied_words = d.buffer

module _ (side : Table → Side) (v : Value) (b : ℕ) (before : List ℕ) (r : Batch) (now : List ℕ) (h : Batched side v b before r now) where
  -- 10, 11 and 27
  pub batch_table : 0 < value_refusal side v → Denied (value_refusal side v) before r now
  batch_table l = h.table l

  pub batch_15 : value_refusal side v ≡ 0 → ((s : State) → PausedAt side v s → ⊥) → Denied 15 before r now
  batch_15 z n = h.value z n

  -- "18 above 1,000,000", whether there is room or not
  pub batch_18 : value_refusal side v ≡ 0 → (s : State) → PausedAt side v s → 1000000 < b → Denied 18 before r now
  batch_18 z s p l = h.large z s p l

  pub batch_rules : value_refusal side v ≡ 0 → (s : State) → PausedAt side v s → b ≤ 1000000
      → Comes v.table v.order v.omit (batch_on side v (length before) b s) before r now
  batch_rules z s p l = h.rules z s p l

module _ (t : Table) (order : List ℕ) (omit : Bool) (u : Tale) (before : List ℕ) (r : Batch) (now : List ℕ) (c : Comes t order omit u before r now) where
  -- how it stopped, how many ladders, how many moves, and the next value
  pub batch_answer : (r.ending ≡ u.ending) × (r.ladders ≡ length u.sets) × (r.moves ≡ u.moves) × (r.next ≡ paused t order omit u.next)
  batch_answer = (
    ap (λ (x : Batch). x.ending) c.says,
    ap (λ (x : Batch). x.ladders) c.says,
    ap (λ (x : Batch). x.moves) c.says,
    ap (λ (x : Batch). x.next) c.says,
  )

  -- the ladders one after another, and behind them every word as it was
  pub batch_words_lem : (take (length (joined u.sets)) now ≡ joined u.sets)
      × (drop (length (joined u.sets)) now ≡ drop (length (joined u.sets)) before)
  batch_words_lem =
      let n : ℕ = length (joined u.sets) in (
        ap (take n) c.buffer ∙ take-append_seam (joined u.sets) (drop n before),
        ap (drop n) c.buffer ∙ drop-append_seam (joined u.sets) (drop n before),
      )

-- a batch is a list of run calls, "each resumed from the value last returned": the first has the budget, each next what is left of it, and the batch's
-- ladders, moves and value are theirs
pub batch_is_calls : (side : Table → Side) (v : Value) (b : ℕ) (before : List ℕ) (r : Batch) (now : List ℕ) (s : State)
    → Comes v.table v.order v.omit (batch_on side v (length before) b s) before r now → AddsCalls side v (length before) b s
    → (rs : List Step) × CallsEither side v (left_over b rs) rs × (r.ladders ≡ length (handed_sets rs))
    × (now ≡ joined (handed_sets rs) ++ drop (length (joined (handed_sets rs))) before) × (r.moves ≡ total rs) × (r.next ≡ last_value v rs)
batch_is_calls side v b before r now s c a =
    let rs : List Step = steps_on side v (length before) b s in (
      rs,
      subst (λ (bs : List ℕ). CallsEither side v bs rs) a.budgets a.calls,
      ap (λ (x : Batch). x.ladders) c.says ∙ ap length (sym a.handed),
      c.buffer ∙ ap (λ (xs : List (List ℕ)). joined xs ++ drop (length (joined xs)) before) (sym a.handed),
      ap (λ (x : Batch). x.moves) c.says ∙ sym a.spends,
      ap (λ (x : Batch). x.next) c.says ∙ sym a.last,
    )

-- so demand 3 speaks of it: after any list of calls from a fresh start that leaves v, single ones and those of other batches
module _ (side : Table → Side) (v : Value) (words b : ℕ) (s : State) (bs : List ℕ) (rs : List Step) where
  pub batch_demand : (a : AddsCalls side v words b s) → Calls side (paused v.table v.order false fresh) bs rs
      → last_value (paused v.table v.order false fresh) rs ≡ v
      → RunDemand side v.table v.order (paused v.table v.order false fresh) (bs ++ budgets_on side v words b s) (rs ++ steps_on side v words b s)
  batch_demand a c e = a.demand bs rs c e

  pub batch_omits : (a : AddsCalls side v words b s) → CallsEither side (paused v.table v.order true fresh) bs rs
      → last_value (paused v.table v.order true fresh) rs ≡ v
      → RunOmits side v.table v.order (paused v.table v.order true fresh) (bs ++ budgets_on side v words b s) (rs ++ steps_on side v words b s)
  batch_omits a c e = a.omits bs rs c e
