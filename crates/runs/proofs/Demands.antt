-- Promises for run calls: answers that are each what `Called` says, from the fresh value on, are the answers of the rules for the same budgets,
-- and of those crate `lists` proves demand 3 and crate `conflicts` what holds of a run that omits. One proof, for either side and any preference.
--
-- In order: the answers of a list of calls, and the value left, are those of the rules, of a run that omits or does not (`by_rules_lem`,
-- `left_value`), and there is a list of calls for every list of budgets (`calls_made`); demand 3 for every list of calls (`run_demand`), carried
-- on by each (`carries_demand`); the same of the runs that omit (`run_omits`, `carries_omits`); all runs share one set (`shares_all`); the
-- promises put to use (`keeps_made`, `carries_made`, `shares_made`, `omits_made`), what they leave free (`demand_answers_unique`,
-- `omits_answers_unique`), and a run with nothing to omit (`omits_nothing`); demand 3 as a user reads it (`demand_hands`, `demand_one`,
-- `demand_limits`).
--
-- Pins, which nothing else cites: `demand_one`, `demand_base`.
use mathlib.Core.Path.{◌≡◌, refl, sym, ap, ap₂, ◌∙◌, subst}
use mathlib.Core.Logic.{◌≢◌}
use mathlib.Core.Bool.{Bool, true, false}
use mathlib.Core.List.Memᴰ
use mathlib.Core.List.{List, [], ◌∷◌, ◌++◌, map, Memᴰ}
use Prim.Native.Nat.{ℕ, ◌-◌, ◌≤◌, ◌<◌}
use native.Mathlib.Decide.{dec_le}
use native.Mathlib.Omega.{arith}
use native.Mathlib.Nat.{min-eq_left}
use lib.ListN.{length, take, length-map, length-take}
use Rattle.table.specs.Chains.{IsMaximal}
use Rattle.table.specs.Tables.{Legal, table_rows}
use Rattle.table.specs.declared.Table.{Table}
use Rattle.rules.specs.Sequences.{All}
use Rattle.rules.specs.Machine.{State, Move, fresh}
use Rattle.rules.specs.Calls.{Reply, refused, spent, handed, end, Call, most_budget, calls_by, state_by, is_hand_out, is_hand_out_or_end}
use Rattle.rules.proofs.Calls.{above_by}
use Rattle.rules.proofs.Reports.{only18_by}
use Rattle.rules.proofs.Reaching.{reached_call, reached_keeping}
use Rattle.rules.proofs.Ends.{Enough}
use Rattle.lists.specs.Lists.{Side, gauge_side, case_side, PreferredList, BaseList}
use Rattle.lists.specs.Arrangements.{IsArrangement, plain}
use Rattle.lists.specs.OnTable.{hand_out, move_on, ReachedOn, calls_on, left_on}
use Rattle.rules.specs.Keeping.{kept_sets as kept_of}
use Rattle.lists.specs.Keeping.{keeping_on, left_keeping}
use Rattle.lists.specs.Demand.{start_limit, gap_limit, most_sets, OneSet}
use Rattle.lists.specs.private.Demand.{Demand}
use Rattle.lists.proofs.BothSides.{Fair}
use Rattle.lists.proofs.Listed.{list_unique}
use Rattle.lists.proofs.Plain.{base_plain}
use Rattle.lists.proofs.Demand.{demand3, run_ends, one_set}
use Rattle.conflicts.specs.Conflicts.{HoldsEssential}
use Rattle.conflicts.specs.Omitting.{keeps_of, omitting_calls}
use Rattle.conflicts.proofs.Omitting.{omits, nothing-omitted}
use Rattle.runs.specs.Paused.{Value, paused}
use Rattle.preference.specs.Preferences.{preferred_refusal, order_of, numbers_of, plain_numbers}
use Rattle.preference.proofs.PlainOrder.{plain_order, length_numbers}
use Rattle.runs.specs.Calling.{Step, refusal_step, arrangement, by_rules, told, value_refusal, PausedAt, kept_value, Called, CallsBy, Calls, last_value}
use Rattle.runs.specs.Demand.{handed_sets, Ends, reported, HandsOut, Demand3, RunDemand, KeepsDemand, CarriesDemand, SharesSet, SharesAll}
use Rattle.runs.specs.Omitting.{moves_of, CalledEither, CallsEither, RunOmits, KeepsOmits, CarriesOmits}
use Rattle.runs.specs.private.Either.{call_of, CalledOf}
use Rattle.runs.proofs.Answered.{paused_state, called_both}
use Rattle.runs.proofs.Answers.{hands_out, told_demand}

-- a call leads from a state that is reached to one that is
pub reached_next : (t : Table) (s : Side) (o : List ℕ) (omit : Bool) (b : ℕ) (x : State) → ReachedOn s o x → ReachedOn s o (call_of t s o omit b x).next
reached_next t s o false b x h = reached_call (move_on s o) (hand_out s) b x h
reached_next t s o true b x h = reached_keeping (move_on s o) (hand_out s) (keeps_of t) (hand_out s) b x h

-- what is promised of a call of either kind of run
abbrev pub CalledAs : Bool → (Table → Side) → Value → ℕ → Step → Type 0
CalledAs false = Called
CalledAs true = CalledEither

called_as : (omit : Bool) (side : Table → Side) (v : Value) (b : ℕ) (r : Step) → CalledOf side v b r → CalledAs omit side v b r
called_as false side v b r c = (called_both side v b r c).called
called_as true side v b r c = called_both side v b r c

rule_as : (side : Table → Side) (t : Table) (k : List ℕ) (omit : Bool) → preferred_refusal t (side t).count k ≡ 0 → (b : ℕ) (s : State)
    → PausedAt side (paused t k omit s) s → (r : Step) → CalledAs omit side (paused t k omit s) b r
    → r ≡ told t (side t) k omit (call_of t (side t) (arrangement (side t) k) omit b s)
rule_as side t k false ok b s p r c = c.rules refl ok s p
rule_as side t k true ok b s p r c = c.rules refl ok s p

module _ (side : Table → Side) (t : Table) (k : List ℕ) (omit : Bool) (ok : preferred_refusal t (side t).count k ≡ 0) where
  abbrev here : Side
  here = side t

  abbrev o : List ℕ
  o = arrangement here k

  abbrev mv : State → Move
  mv = moves_of t here o omit

  -- the value of the state s, and the call from it
  abbrev value : State → Value
  value s = paused t k omit s

  abbrev made_by : ℕ → State → Call
  made_by b s = call_of t here o omit b s

  abbrev tell : Call → Step
  tell c = told t here k omit c

  -- a refused call leaves the state as it was
  refused_stays : (b : ℕ) (s : State) (n : ℕ) → (made_by b s).answer ≡ refused n → (made_by b s).next ≡ s
  refused_stays b s n e = go (dec_le b most_budget)
    where
      go : Dec (b ≤ most_budget) → (made_by b s).next ≡ s
      go (yes l) = absurd ((only18_by mv (hand_out here) b s).else l n e)
      go (no l) = ap (λ (c : Call). c.next) (above_by mv (hand_out here) b s (omega arith))

  -- the value that the next call gets is the paused value of the state that the rules lead to
  kept_value_lem : (a : Reply) (m : ℕ) (s y : State) → ((n : ℕ) → a ≡ refused n → y ≡ s)
      → kept_value (by_rules t here k omit a m y).answer (value s) (by_rules t here k omit a m y).next ≡ value y
  kept_value_lem (refused n) m s y h = ap (paused t k omit) (sym (h n refl))
  kept_value_lem spent m s y h = refl
  kept_value_lem (handed x) m s y h = refl
  kept_value_lem end m s y h = refl

  next_reached : (b : ℕ) (s : State) → ReachedOn here o s → ReachedOn here o (made_by b s).next
  next_reached b s h = reached_next t here o omit b s h

  by_rule_lem : (b : ℕ) (s : State) → ReachedOn here o s → (r : Step) → CalledAs omit side (value s) b r → r ≡ tell (made_by b s)
  by_rule_lem b s h r c = rule_as side t k omit ok b s (record { reached = h; stands = refl }) r c

  kept_next : (b : ℕ) (s : State) → ReachedOn here o s → (r : Step) → CalledAs omit side (value s) b r
      → kept_value r.answer (value s) r.next ≡ value (made_by b s).next
  kept_next b s h r c =
      ap (λ (x : Step). kept_value x.answer (value s) x.next) (by_rule_lem b s h r c)
      ∙ kept_value_lem (made_by b s).answer (made_by b s).moves s (made_by b s).next (refused_stays b s)

  -- the answers are those of the rules
  by_rules_lem : (s : State) → ReachedOn here o s → (bs : List ℕ) (rs : List Step) → CallsBy (CalledAs omit side) (value s) bs rs
      → rs ≡ map tell (calls_by mv (hand_out here) bs s)
  by_rules_lem s h [] [] c = refl
  by_rules_lem s h [] (r ∷ rs) c = absurd c
  by_rules_lem s h (b ∷ bs) [] c = absurd c
  by_rules_lem s h (b ∷ bs) (r ∷ rs) c =
      ap₂ (λ (x : Step) (xs : List Step). x ∷ xs) (by_rule_lem b s h r c.0)
      (by_rules_lem (made_by b s).next (next_reached b s h) bs rs (subst (λ (v : Value). CallsBy (CalledAs omit side) v bs rs) (kept_next b s h r c.0) c.1))

  -- and the value that they leave is the paused value of the state that the rules lead to
  pub left_value : (s : State) → ReachedOn here o s → (bs : List ℕ) (rs : List Step) → CallsBy (CalledAs omit side) (value s) bs rs
      → last_value (value s) rs ≡ value (state_by mv (hand_out here) bs s)
  left_value s h [] [] c = refl
  left_value s h [] (r ∷ rs) c = absurd c
  left_value s h (b ∷ bs) [] c = absurd c
  left_value s h (b ∷ bs) (r ∷ rs) c =
      let next = kept_next b s h r c.0 in
      ap (λ (v : Value). last_value v rs) next
      ∙ left_value (made_by b s).next (next_reached b s h) bs rs (subst (λ (v : Value). CallsBy (CalledAs omit side) v bs rs) next c.1)

  -- ---- what the rules give for a call is what `CalledEither` asks, and for a list of budgets what `CallsEither` asks: neither is empty talk
  called_made : (b : ℕ) (s : State) → ReachedOn here o s → CalledOf side (value s) b (tell (made_by b s))
  called_made b s h = record {
    table = λ l. absurd (omega (arith, ok));
    value = λ z n. absurd (n s (record { reached = h; stands = refl }));
    rules = λ z x p. ap (λ (y : State). tell (made_by b y)) (paused_state t k omit s x p.stands);
  }

  pub calls_made : (s : State) → ReachedOn here o s → (bs : List ℕ) → CallsEither side (value s) bs (map tell (calls_by mv (hand_out here) bs s))
  calls_made s h [] = tt
  calls_made s h (b ∷ bs) =
      let made : List Step = map tell (calls_by mv (hand_out here) bs (made_by b s).next) in
      let c : CalledOf side (value s) b (tell (made_by b s)) = called_made b s h in (
        called_both side (value s) b (tell (made_by b s)) c,
        subst (λ (v : Value). CallsEither side v bs made)
            (sym (kept_next b s h (tell (made_by b s)) (called_as omit side (value s) b (tell (made_by b s)) c)))
            (calls_made (made_by b s).next (next_reached b s h) bs),
      )

-- a list of calls of either kind of run is one of a run that omits nothing
pub calls_only : (side : Table → Side) (v : Value) (bs : List ℕ) (rs : List Step) → CallsEither side v bs rs → Calls side v bs rs
calls_only side v [] [] c = tt
calls_only side v [] (r ∷ rs) c = absurd c
calls_only side v (b ∷ bs) [] c = absurd c
calls_only side v (b ∷ bs) (r ∷ rs) c = (c.0.called, calls_only side (kept_value r.answer v r.next) bs rs c.1)

pub calls_as : (omit : Bool) (side : Table → Side) (v : Value) (bs : List ℕ) (rs : List Step) → CallsEither side v bs rs
    → CallsBy (CalledAs omit side) v bs rs
calls_as false side v bs rs c = calls_only side v bs rs c
calls_as true side v bs rs c = c

-- ---- a list of calls
fresh_reached : (s : Side) (o : List ℕ) → ReachedOn s o fresh
fresh_reached s o = record { count = 0; leads = refl }

-- calls after calls, and one call more
pub calls_append : (P : Value → ℕ → Step → Type 0) (v : Value) (bs : List ℕ) (rs : List Step) (cs : List ℕ) (qs : List Step) → CallsBy P v bs rs
    → CallsBy P (last_value v rs) cs qs → CallsBy P v (bs ++ cs) (rs ++ qs)
calls_append P v [] [] cs qs c d = d
calls_append P v [] (r ∷ rs) cs qs c d = absurd c
calls_append P v (b ∷ bs) [] cs qs c d = absurd c
calls_append P v (b ∷ bs) (r ∷ rs) cs qs c d = (c.0, calls_append P (kept_value r.answer v r.next) bs rs cs qs c.1 d)

calls_more : (P : Value → ℕ → Step → Type 0) (v : Value) (bs : List ℕ) (rs : List Step) (b : ℕ) (r : Step) → CallsBy P v bs rs → P (last_value v rs) b r
    → CallsBy P v (bs ++ (b ∷ [])) (rs ++ (r ∷ []))
calls_more P v bs rs b r c d = calls_append P v bs rs (b ∷ []) (r ∷ []) c (d, tt)

-- a refused call at the end changes nothing, and where every call is refused the first value is left
pub left_refused : (v : Value) (rs : List Step) (r : Step) (n : ℕ) → r.answer ≡ refused n → last_value v (rs ++ (r ∷ [])) ≡ last_value v rs
left_refused v [] r n e = ap (λ (a : Reply). kept_value a v r.next) e
left_refused v (q ∷ rs) r n e = left_refused (kept_value q.answer v q.next) rs r n e

pub left_all_refused : (v : Value) (rs : List Step) → ((r : Step) → Memᴰ r rs → (n : ℕ) × (r.answer ≡ refused n)) → last_value v rs ≡ v
left_all_refused v [] h = refl
left_all_refused v (r ∷ rs) h =
    ap (λ (w : Value). last_value w rs) (ap (λ (a : Reply). kept_value a v r.next) (h r (Memᴰ.head refl)).1)
    ∙ left_all_refused v rs (λ q m. h q (Memᴰ.tail m))

-- ---- the promises
-- a side of a legal table, and a preference of it
pub record Started (side : Table → Side) (t : Table) (k : List ℕ) : Type 0 where
  pub legal : Legal t
  pub fair : Fair t (side t)
  pub arranged : IsArrangement (side t).count (arrangement (side t) k)
  pub passed : preferred_refusal t (side t).count k ≡ 0

-- the numbers of the plain order hold the plain arrangement
plain_held : (n : ℕ) (k : List ℕ) → IsArrangement n (order_of n k) → k ≡ plain_numbers n → order_of n k ≡ plain n
plain_held n k a e =
    ap (order_of n) e ∙ ap (λ (m : ℕ). order_of n (numbers_of (plain m))) (min-eq_left few) ∙ plain_order n
  where
    few : n ≤ 64
    few = omega (arith, a.size, length-map (take n k) (λ x. x - 1), length-take n k, ap length e ∙ length_numbers n)

module _ (side : Table → Side) (t : Table) (k : List ℕ) (g : Started side t k) where
  abbrev preferred : List ℕ
  preferred = arrangement (side t) k

  pub run_demand : (v : Value) → v ≡ paused t k false fresh → (bs : List ℕ) (rs : List Step) → Calls side v bs rs → RunDemand side t k v bs rs
  run_demand v e bs rs c =
      subst (λ (w : Value). Calls side w bs rs → RunDemand side t k w bs rs) (sym e)
      (λ d.
      let each = by_rules_lem side t k false g.passed fresh (fresh_reached (side t) preferred) bs rs d in
      let m : Demand3 t (side t) preferred bs rs =
      subst (Demand3 t (side t) preferred bs) (sym each)
      (told_demand t (side t) k preferred bs (calls_on (side t) preferred bs) (demand3 t g.legal (side t) g.fair preferred g.arranged bs)) in record {
        demand = m;
        rules = record {
          each = each;
          last = left_value side t k false g.passed fresh (fresh_reached (side t) preferred) bs rs d;
        };
        base = λ p.
            (base_plain t (side t) g.fair m.list).0
            (subst (λ (q : List ℕ). PreferredList t (side t) q m.list) (plain_held (side t).count k g.arranged p) m.listed);
      }) c

  pub run_omits : (v : Value) → v ≡ paused t k true fresh → (bs : List ℕ) (rs : List Step) → CallsEither side v bs rs → RunOmits side t k v bs rs
  run_omits v e bs rs c =
      subst (λ (w : Value). CallsEither side w bs rs → RunOmits side t k w bs rs) (sym e)
      (λ d.
      let each = by_rules_lem side t k true g.passed fresh (fresh_reached (side t) preferred) bs rs d in
      let h = omits t g.legal (side t) g.fair preferred g.arranged bs in
      let q = h.keeping in record {
        list = q.list;
        listed = q.listed;
        members = h.members;
        hands = subst (HandsOut (kept_of (keeps_of t) q.list) bs) (sym each)
            (hands_out t (side t) k true (keeping_on (side t) preferred (keeps_of t)) (hand_out (side t)) (kept_of (keeps_of t) q.list) bs
            (omitting_calls t (side t) preferred bs) q.only18 q.whole q.spent q.front q.complete);
        each = each;
        last = left_value side t k true g.passed fresh (fresh_reached (side t) preferred) bs rs d;
      }) c

  -- where every maximal chain holds an essential pair, a run that omits makes the calls of demand 3
  pub omits_nothing : ((x : List ℕ) → IsMaximal (table_rows t) x → HoldsEssential (table_rows t) x) → (bs : List ℕ) (rs : List Step)
      → CallsEither side (paused t k true fresh) bs rs
      → (rs ≡ map (told t (side t) k true) (calls_on (side t) preferred bs)) × Demand t (side t) preferred bs (calls_on (side t) preferred bs)
  omits_nothing a bs rs c = (
    by_rules_lem side t k true g.passed fresh (fresh_reached (side t) preferred) bs rs c
        ∙ ap (map (told t (side t) k true)) (nothing-omitted t g.legal (side t) g.fair preferred g.arranged a bs),
    demand3 t g.legal (side t) g.fair preferred g.arranged bs,
  )

-- what a value that 10, 11 and 27 do not refuse comes with
abbrev pub Starts : (Table → Side) → Value → Type 0
Starts side v = value_refusal side v ≡ 0 → Started side v.table v.order

-- a call that is what `Called` says carries them on
pub carries_demand : (side : Table → Side) (v : Value) (b : ℕ) (r : Step) → Starts side v → Called side v b r → CarriesDemand side v b r
carries_demand side v b r h c ok bs rs cs e =
    let start = paused v.table v.order false fresh in
    run_demand side v.table v.order (h ok) start refl (bs ++ (b ∷ [])) (rs ++ (r ∷ []))
    (calls_more (Called side) start bs rs b r cs (subst (λ (w : Value). Called side w b r) (sym e) c))

pub carries_omits : (side : Table → Side) (v : Value) (b : ℕ) (r : Step) → Starts side v → CalledEither side v b r → CarriesOmits side v b r
carries_omits side v b r h c ok bs rs cs e =
    let start = paused v.table v.order true fresh in
    run_omits side v.table v.order (h ok) start refl (bs ++ (b ∷ [])) (rs ++ (r ∷ []))
    (calls_more (CalledEither side) start bs rs b r cs (subst (λ (w : Value). CalledEither side w b r) (sym e) c))

-- ---- two runs
module _ (t : Table) (y : Side) (k : List ℕ) where
  pub told_answer : (omit : Bool) (a : Reply) (m : ℕ) (s : State) → (by_rules t y k omit a m s).answer ≡ a
  told_answer omit (refused n) m s = refl
  told_answer omit spent m s = refl
  told_answer omit (handed x) m s = refl
  told_answer omit end m s = refl

  -- an answer of end of a call is one
  ends_made : (cs : List Call) → (c : Call) × Memᴰ c cs × (c.answer ≡ end) → Ends (map (told t y k false) cs)
  ends_made cs (c, m, e) = (told t y k false c, Memᴰ.map (told t y k false) m, told_answer false c.answer c.moves c.next ∙ e)

shares_set : (side other : Table → Side) (t : Table) (k j : List ℕ) → Started side t k → (preferred_refusal t (other t).count j ≡ 0 → Started other t j)
    → (v : Value) → v ≡ paused t k false fresh → SharesSet side other t k j v (paused t j false fresh)
shares_set side other t k j g h v e ok ok' bs cs rs qs x y ends-x ends-y =
    let a = (run_demand side t k g v e bs rs x).demand in
    let b = (run_demand other t j (h ok') (paused t j false fresh) refl cs qs y).demand in
    rw (a.hands.whole ends-x, b.hands.whole ends-y)
    (one_set t (side t) (other t) (arrangement (side t) k) (arrangement (other t) j) a.list b.list a.listed b.listed a.few)

-- what a side comes with for every preference of it
abbrev pub StartsAll : (Table → Side) → Table → Type 0
StartsAll side t = (j : List ℕ) → length j ≡ 64 → preferred_refusal t (side t).count j ≡ 0 → Started side t j

pub shares_all : (side : Table → Side) (t : Table) (k : List ℕ) → (preferred_refusal t (side t).count k ≡ 0 → Started side t k) → StartsAll gauge_side t
    → StartsAll case_side t → (v : Value) → (preferred_refusal t (side t).count k ≡ 0 → v ≡ paused t k false fresh) → SharesAll side t k v
shares_all side t k g gs cs v e = record {
  gauges = λ j h ok. shares_set side gauge_side t k j (g ok) (gs j h) v (e ok) ok;
  cases = λ j h ok. shares_set side case_side t k j (g ok) (cs j h) v (e ok) ok;
}

-- ---- the promises, put to use: none of them is empty
abbrev pub made : Side → Table → List ℕ → List ℕ → List Step
made s t k bs = map (told t s k false) (calls_on s (arrangement s k) bs)

module _ (side : Table → Side) (t : Table) (k : List ℕ) (ok : preferred_refusal t (side t).count k ≡ 0) where
  abbrev asked : List ℕ
  asked = arrangement (side t) k

  abbrev start : Bool → Value
  start omit = paused t k omit fresh

  plain_made : (bs : List ℕ) → Calls side (start false) bs (made (side t) t k bs)
  plain_made bs =
      calls_only side (start false) bs (made (side t) t k bs) (calls_made side t k false ok fresh (fresh_reached (side t) asked) bs)

  -- a fresh start's, for every list of budgets
  pub keeps_made : KeepsDemand side t k (start false) → (bs : List ℕ) → RunDemand side t k (start false) bs (made (side t) t k bs)
  keeps_made h bs = h ok bs (made (side t) t k bs) (plain_made bs)

  -- a run call's, after every list of budgets
  pub carries_made : (bs : List ℕ) (b : ℕ) (r : Step) → CarriesDemand side (paused t k false (left_on (side t) asked bs)) b r
      → RunDemand side t k (start false) (bs ++ (b ∷ [])) (made (side t) t k bs ++ (r ∷ []))
  carries_made bs b r h =
      let c = plain_made bs in
      h ok bs (made (side t) t k bs) c (left_value side t k false ok fresh (fresh_reached (side t) asked) bs (made (side t) t k bs) c)

  -- ---- the same of the runs that omit
  abbrev pub made_omitting : List ℕ → List Step
  made_omitting bs = map (told t (side t) k true) (omitting_calls t (side t) asked bs)

  pub omits_made : KeepsOmits side t k (start true) → (bs : List ℕ) → RunOmits side t k (start true) bs (made_omitting bs)
  omits_made h bs = h ok bs (made_omitting bs) (calls_made side t k true ok fresh (fresh_reached (side t) asked) bs)

  pub carries_omits_made : (bs : List ℕ) (b : ℕ) (r : Step) → CarriesOmits side (paused t k true (left_keeping (side t) asked (keeps_of t) bs)) b r
      → RunOmits side t k (start true) (bs ++ (b ∷ [])) (made_omitting bs ++ (r ∷ []))
  carries_omits_made bs b r h =
      let c = calls_made side t k true ok fresh (fresh_reached (side t) asked) bs in
      h ok bs (made_omitting bs) c (left_value side t k true ok fresh (fresh_reached (side t) asked) bs (made_omitting bs) c)

-- that of two runs: with enough calls both end
pub shares_made : (side other : Table → Side) (t : Table) (k j : List ℕ) → Started side t k → Started other t j
    → SharesSet side other t k j (paused t k false fresh) (paused t j false fresh) → (bs cs : List ℕ)
    → All (Enough (side t).count) bs → All (Enough (other t).count) cs
    → most_sets t < length bs → most_sets t < length cs
    → OneSet t (handed_sets (made (side t) t k bs)) (handed_sets (made (other t) t j cs))
shares_made side other t k j g h p bs cs a d m n =
    p g.passed h.passed bs cs (made (side t) t k bs) (made (other t) t j cs)
    (plain_made side t k g.passed bs)
    (plain_made other t j h.passed cs)
    (ends_made t (side t) k (calls_on (side t) (arrangement (side t) k) bs)
    (run_ends t g.legal (side t) g.fair (arrangement (side t) k) g.arranged bs a m))
    (ends_made t (other t) j (calls_on (other t) (arrangement (other t) j) cs)
    (run_ends t h.legal (other t) h.fair (arrangement (other t) j) h.arranged cs d n))

-- and demand 3 leaves one list of answers, and one value after it
pub demand_answers_unique : (side : Table → Side) (t : Table) (k : List ℕ) (v : Value) (bs : List ℕ) (rs qs : List Step) → RunDemand side t k v bs rs
    → RunDemand side t k v bs qs → (rs ≡ qs) × (last_value v rs ≡ last_value v qs)
demand_answers_unique side t k v bs rs qs a b = (a.rules.each ∙ sym b.rules.each, a.rules.last ∙ sym b.rules.last)

pub omits_answers_unique : (side : Table → Side) (t : Table) (k : List ℕ) (v : Value) (bs : List ℕ) (rs qs : List Step) → RunOmits side t k v bs rs
    → RunOmits side t k v bs qs → (rs ≡ qs) × (last_value v rs ≡ last_value v qs)
omits_answers_unique side t k v bs rs qs a b = (a.each ∙ sym b.each, a.last ∙ sym b.last)

-- ---- demand 3 as a user reads it off the answers, who has the side's list xs
pub demand_hands : (t : Table) (s : Side) (o bs : List ℕ) (rs : List Step) (xs : List (List ℕ)) → Demand3 t s o bs rs → PreferredList t s o xs
    → ((rest : List (List ℕ)) × (handed_sets rs ++ rest ≡ xs)) × (Ends rs → handed_sets rs ≡ xs) × (length xs ≤ most_sets t)
demand_hands t s o bs rs xs d l =
    let e : d.list ≡ xs = list_unique d.list xs d.listed l in (
      (d.hands.front.0, d.hands.front.1 ∙ e),
      λ z. d.hands.whole z ∙ e,
      subst (λ (ys : List (List ℕ)). length ys ≤ most_sets t) e d.few,
    )

pub demand_one : (t : Table) (s : Side) (o : List ℕ) (b : ℕ) (r : Step) → Demand3 t s o (b ∷ []) (r ∷ [])
    → (most_budget < b → r ≡ refusal_step 18) × (b ≤ most_budget → (n : ℕ) → r.answer ≢ refused n) × (r.answer ≡ spent → r.moves ≡ b) × (r.moves ≤ b)
demand_one t s o b r d = (d.hands.only18.0, d.hands.no_other.0, d.hands.budget.0, d.hands.within.0)

pub demand_base : (side : Table → Side) (t : Table) (k : List ℕ) (v : Value) (bs : List ℕ) (rs : List Step) (d : RunDemand side t k v bs rs)
    → k ≡ plain_numbers (side t).count → BaseList t (side t) d.demand.list
demand_base side t k v bs rs d = d.base

pub demand_limits : (t : Table) (s : Side) (o bs : List ℕ) (sooner later : List Step) (r : Step) (x : List ℕ) → Demand3 t s o bs (sooner ++ (r ∷ later))
    → r.answer ≡ handed x → (reported is_hand_out (sooner ++ (r ∷ later)) ≤ start_limit s.count) × (reported is_hand_out_or_end later ≤ gap_limit s.count)
demand_limits t s o bs sooner later r x d h = (d.start, d.gap sooner later r x refl h)
