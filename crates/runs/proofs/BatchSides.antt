-- A batch of either side, put together from what the core lists under the value's preference: the run's moves and
-- ladders (`listed_by`, `gauge_out`, `case_out`), a refusal (`batch-refused`), what its calls give (`batch-given`),
-- and that they are run calls (`adds_calls`).
use mathlib.Core.Path.{◌≡◌, refl, sym, ap, ap₂, ◌∙◌, subst, fun_ext}
use mathlib.Core.Bool.{Bool, true, false}
use mathlib.Core.List.{List, [], ◌∷◌, ◌++◌, map}
use Prim.Native.Nat.{ℕ, zero, suc, ◌+◌, ◌-◌, ◌/◌, ◌≤◌, ◌<◌}
use native.Mathlib.Omega.{arith}
use lib.ListN.{length, take, drop}
use Rattle.basics.proofs.Clash.{clash}
use Rattle.refusals.specs.Answers.{number}
use Rattle.std.specs.Prelude.{Result, Ok, Err}
use Rattle.refusals.specs.declared.Refusal.{Refusal}
use Rattle.refusals.specs.declared.Refusal.TheVariants.{NotReached, BudgetTooLarge, NotAnArrangement}
use Rattle.table.specs.Tables.{Legal, table_refusal, padded}
use Rattle.table.specs.declared.Table.{Table}
use Rattle.rules.specs.Machine.{Phase, State, Given, nothing, hands, ends, Move, fresh}
use Rattle.rules.specs.Calls.{Reply, refused, spent, handed, end, Call, most_budget, proceed_by, carry_by, call_by, calls_by, state_by, answered, handouts}
use Rattle.rules.proofs.Calls.{within_by}
use Rattle.lists.specs.Lists.{Side, gauge_side, case_side}
use Rattle.lists.specs.OnTable.{hand_out, ReachedOn}
use Rattle.preference.specs.Preferences.{is_preference}
use Rattle.preference.proofs.Placing.{both_pass, preference_refused}
use Rattle.runs.specs.Paused.{Value, numbered, paused, mode_phase}
use Rattle.runs.specs.Calling.{Step, told, held, value_refusal, Called, Calls, last_value}
use Rattle.runs.specs.Demand.{handed_sets}
use Rattle.runs.specs.Omitting.{moves_of, CalledEither, CallsEither}
use Rattle.runs.specs.Batches.{Ending, denied, Batch, Tale, tale, onward, batch_by, budgets_after, budgets_by}
use Rattle.runs.specs.private.Listing.{stop_ending}
use Rattle.runs.specs.Batches.{joined, denial, Denied, given, Comes, batch_on, budgets_on, steps_on, left_over, total, Batched, CarriesBatch}
use Rattle.runs.specs.private.Working.{Works, placed_move}
use Rattle.runs.specs.private.Listing.{ladder_of, ladder_for, WentOn, ListsBy, ListsIn}
use Rattle.runs.specs.private.Sided.{Wants, batch_from}
use Rattle.runs.specs.declared.listing.Tally.{Tally}
use Rattle.runs.proofs.Padding.{take-padded}
use Rattle.runs.proofs.Words.{stored_front}
use Rattle.runs.proofs.Opening.{value_of}
use Rattle.runs.proofs.Sides.{gauge_chain, case_chain}
use Rattle.runs.proofs.Wanting.{core_moves}
use Rattle.runs.proofs.Answered.{stands_paused, paused_stands}
use Rattle.runs.proofs.Demands.{Starts, calls_made, calls_only, calls_as, calls_append, left_value, told_answer, run_demand, run_omits}

-- ---- the run's moves and ladders
pub listed_by : (t : Table) (s : Side) (w : List ℕ) (n : ℕ) (R : List ℕ) → n ≡ s.count → Works s s.count R → (omit : Bool) → (omit ≡ true → Wants t s w)
    → (turning : Bool) (g : ℕ) (order : List ℕ) → ((p : List ℕ) → ladder_for turning true [] s.count g s.rows p ≡ hand_out s p)
    → (room : ℕ) (k : List ℕ) (count : ℕ) (f : Phase) (b : ℕ) (before k' now : List ℕ) (o : Result Tally Refusal)
    → ListsIn (λ q. placed_move (take n R) q omit w) (ladder_for turning true [] n g (take n R)) room n (take n R) order k count f b before k' now o
    → ListsIn (λ q. moves_of t s q omit) (hand_out s) room s.count s.rows order k count f b before k' now o
listed_by t s w n R z v omit h turning g order same room k count f b before k' now o d =
    subst (λ (m : List ℕ → State → Move). ListsIn m (hand_out s) room s.count s.rows order k count f b before k' now o)
    (fun_ext (λ q. core_moves t s w q omit h))
    (subst (λ (out : List ℕ → List ℕ). ListsIn (λ q. placed_move s.rows q omit w) out room s.count s.rows order k count f b before k' now o)
    (fun_ext same)
    (subst (λ (r : List ℕ). ListsIn (λ q. placed_move r q omit w) (ladder_for turning true [] s.count g r) room
    s.count r order k count f b before k' now o)
    v.rows_are
    (subst (λ (i : ℕ). ListsIn (λ q. placed_move (take i R) q omit w) (ladder_for turning true [] i g (take i R)) room i (take i R) order k count f b before
    k' now o) z d)))

module _ (t : Table) (l : Legal t) (p : List ℕ) where
  pub gauge_out : ladder_for false true [] t.gauges t.gauges (gauge_side t).rows p ≡ hand_out (gauge_side t) p
  unfolding ladder_of
  gauge_out = let a = gauge_chain t l p (padded (hand_out (gauge_side t) p)) refl in take-padded (hand_out (gauge_side t) p) t.gauges (sym a.size)

  pub case_out : ladder_for true true [] t.cases t.gauges (case_side t).rows p ≡ hand_out (case_side t) p
  unfolding ladder_of
  case_out =
      let a = case_chain t l p _ _ refl refl in
      ap (take t.gauges) a.rows_are ∙ take-padded (hand_out (case_side t) p) t.gauges (sym a.size)

-- ---- a batch within the budget is not denied
module _ (mv : State → Move) (out : List ℕ → List ℕ) where
  carry_answers : (b : ℕ) (s : State) (n : ℕ) → (carry_by mv out b s).answer ≡ refused n → ⊥
  carry_answers zero s n e = clash cc
  carry_answers (suc b) s n e = go (mv s).given (carry_answers b (mv s).next n) e
    where
      go : (g : Given) → ((carry_by mv out b (mv s).next).answer ≡ refused n → ⊥) → (proceed_by mv out (carry_by mv out b) g (mv s).next).answer ≡ refused n → ⊥
      go nothing h d = h d
      go (hands p) h d = clash cc
      go ends h d = clash cc

  pub not_denied : (k b : ℕ) (s : State) (n : ℕ) → b ≤ most_budget → (batch_by mv out k b s).ending ≡ denied n → ⊥
  not_denied zero b s n l e = clash cc
  not_denied (suc k) b s n l e =
      let c : Call = carry_by mv out b s in
      go c.answer (λ i. carry_answers b s i) (not_denied k (b - c.moves) c.next n (omega arith))
      (sym (ap (λ (x : Call). (onward mv out (batch_by mv out k) b x.answer x.moves x.next).ending) (within_by mv out b s l)) ∙ e)
    where
      go : (a : Reply) → ((i : ℕ) → a ≡ refused i → ⊥)
          → ((batch_by mv out k (b - (carry_by mv out b s).moves) (carry_by mv out b s).next).ending ≡ denied n → ⊥)
          → (onward mv out (batch_by mv out k) b a (carry_by mv out b s).moves (carry_by mv out b s).next).ending ≡ denied n → ⊥
      go (refused i) h ih d = h i refl
      go spent h ih d = clash cc
      go (handed x) h ih d = ih d
      go end h ih d = clash cc

  -- ---- the list of its calls
  batch_sets : (k b : ℕ) (s : State) → handouts (calls_by mv out (budgets_by mv out k b s) s) ≡ (batch_by mv out k b s).sets
  batch_sets zero b s = refl
  batch_sets (suc k) b s =
      go (call_by mv out b s).answer (call_by mv out b s).moves (call_by mv out b s).next
      (batch_sets k (b - (call_by mv out b s).moves) (call_by mv out b s).next)
    where
      go : (a : Reply) (m : ℕ) (y : State) → handouts (calls_by mv out (budgets_by mv out k (b - m) y) y) ≡ (batch_by mv out k (b - m) y).sets
          → answered a (handouts (calls_by mv out (budgets_after mv out (budgets_by mv out k) b a m y) y)) ≡ (onward mv out (batch_by mv out k) b a m y).sets
      go (refused n) m y ih = refl
      go spent m y ih = refl
      go (handed x) m y ih = ap (λ (l : List (List ℕ)). x ∷ l) ih
      go end m y ih = refl

  batch_state : (k b : ℕ) (s : State) → state_by mv out (budgets_by mv out k b s) s ≡ (batch_by mv out k b s).next
  batch_state zero b s = refl
  batch_state (suc k) b s =
      go (call_by mv out b s).answer (call_by mv out b s).moves (call_by mv out b s).next
      (batch_state k (b - (call_by mv out b s).moves) (call_by mv out b s).next)
    where
      go : (a : Reply) (m : ℕ) (y : State) → state_by mv out (budgets_by mv out k (b - m) y) y ≡ (batch_by mv out k (b - m) y).next
          → state_by mv out (budgets_after mv out (budgets_by mv out k) b a m y) y ≡ (onward mv out (batch_by mv out k) b a m y).next
      go (refused n) m y ih = refl
      go spent m y ih = refl
      go (handed x) m y ih = ih
      go end m y ih = refl

-- ---- what the calls answer, as run calls do
module _ (t : Table) (y : Side) (k : List ℕ) (omit : Bool) where
  abbrev tell : Call → Step
  tell c = told t y k omit c

  sets_told : (cs : List Call) → handed_sets (map tell cs) ≡ handouts cs
  sets_told [] = refl
  sets_told (c ∷ cs) = ap₂ answered (told_answer t y k omit c.answer c.moves c.next) (sets_told cs)

  module _ (mv : State → Move) (out : List ℕ → List ℕ) where
    batch-moves : (j b : ℕ) (s : State) → b ≤ most_budget → total (map tell (calls_by mv out (budgets_by mv out j b s) s)) ≡ (batch_by mv out j b s).moves
    batch-moves zero b s l = refl
    batch-moves (suc j) b s l =
        go (call_by mv out b s).answer (call_by mv out b s).moves (call_by mv out b s).next
        (λ i e. carry_answers mv out b s i (sym (ap (λ (c : Call). c.answer) (within_by mv out b s l)) ∙ e))
        (batch-moves j (b - (call_by mv out b s).moves) (call_by mv out b s).next (omega arith))
      where
        go : (a : Reply) (m : ℕ) (z : State) → ((i : ℕ) → a ≡ refused i → ⊥)
            → total (map tell (calls_by mv out (budgets_by mv out j (b - m) z) z)) ≡ (batch_by mv out j (b - m) z).moves
            → (tell (record { answer = a; moves = m; next = z })).moves + total (map tell (calls_by mv out (budgets_after mv out (budgets_by mv out j) b a m z) z))
            ≡ (onward mv out (batch_by mv out j) b a m z).moves
        go (refused n) m z h ih = absurd (h n refl)
        go spent m z h ih = omega arith
        go (handed x) m z h ih = ap (λ (i : ℕ). m + i) ih
        go end m z h ih = omega arith

    batch-budgets : (j b : ℕ) (s : State) → budgets_by mv out j b s ≡ left_over b (map tell (calls_by mv out (budgets_by mv out j b s) s))
    batch-budgets zero b s = refl
    batch-budgets (suc j) b s =
        ap (λ (l : List ℕ). b ∷ l)
        (go (call_by mv out b s).answer (call_by mv out b s).moves (call_by mv out b s).next
        (batch-budgets j (b - (call_by mv out b s).moves) (call_by mv out b s).next))
      where
        go : (a : Reply) (m : ℕ) (z : State)
            → budgets_by mv out j (b - m) z ≡ left_over (b - m) (map tell (calls_by mv out (budgets_by mv out j (b - m) z) z))
            → budgets_after mv out (budgets_by mv out j) b a m z
            ≡ left_over (b - (tell (record { answer = a; moves = m; next = z })).moves)
            (map tell (calls_by mv out (budgets_after mv out (budgets_by mv out j) b a m z) z))
        go (refused n) m z ih = refl
        go spent m z ih = refl
        go (handed x) m z ih = ih
        go end m z ih = refl

-- the calls of a batch are run calls
pub adds_calls : (side : Table → Side) (v : Value) (words b : ℕ) → Starts side v → CarriesBatch side v words b
adds_calls side v words b g ok s p l = record {
  calls = calls;
  budgets = batch-budgets t (side t) v.order v.omit mv out room b s;
  handed = sets_told t (side t) v.order v.omit cs ∙ batch_sets mv out room b s;
  spends = batch-moves t (side t) v.order v.omit mv out room b s l;
  last =
      ap (λ (x : Value). last_value x rs) p.stands
      ∙ left_value side t v.order v.omit ok s p.reached bs rs (calls_as v.omit side (paused t v.order v.omit s) bs rs made)
      ∙ ap (paused t v.order v.omit) (batch_state mv out room b s);
  demand = λ ds qs c e.
      run_demand side t v.order (g ok) (paused t v.order false fresh) refl (ds ++ bs) (qs ++ rs)
      (calls_append (Called side) (paused t v.order false fresh) ds qs bs rs c
      (subst (λ (x : Value). Calls side x bs rs) (sym e) (calls_only side v bs rs calls)));
  omits = λ ds qs c e.
      run_omits side t v.order (g ok) (paused t v.order true fresh) refl (ds ++ bs) (qs ++ rs)
      (calls_append (CalledEither side) (paused t v.order true fresh) ds qs bs rs c (subst (λ (x : Value). CallsEither side x bs rs) (sym e) calls));
}
  where
    t : Table
    t = v.table

    mv : State → Move
    mv = moves_of t (side t) (held side v) v.omit

    out : List ℕ → List ℕ
    out = hand_out (side t)

    room : ℕ
    room = words / t.gauges

    bs : List ℕ
    bs = budgets_on side v words b s

    cs : List Call
    cs = calls_by mv out bs s

    rs : List Step
    rs = steps_on side v words b s

    made : CallsEither side (paused t v.order v.omit s) bs rs
    made = calls_made side t v.order v.omit ok s p.reached bs

    calls : CallsEither side v bs rs
    calls = subst (λ (x : Value). CallsEither side x bs rs) (sym p.stands) made

-- ---- a batch on the value v of a legal table, where the core left the picks k' and the buffer now
pub record Listed (side : Table → Side) (v : Value) (b : ℕ) (before k' now : List ℕ) (o : Result Tally Refusal) : Type 0 where
  pub passed : table_refusal v.table ≡ 0
  pub lists : ListsIn (λ q. moves_of v.table (side v.table) q v.omit) (hand_out (side v.table)) (length before / v.table.gauges)
      (side v.table).count (side v.table).rows v.order v.picks v.count v.phase b before k' now o

pub listed_at : (side : Table → Side) (v : Value) (b : ℕ) (before k' now : List ℕ) (o : Result Tally Refusal) → table_refusal v.table ≡ 0
    → (f : Phase) → f ≡ v.phase
    → ListsIn (λ q. moves_of v.table (side v.table) q v.omit) (hand_out (side v.table)) (length before / v.table.gauges) (side v.table).count
    (side v.table).rows v.order v.picks v.count f b before k' now o
    → Listed side v b before k' now o
listed_at side v b before k' now o z f e h = record { passed = z; lists = rw (← e) h }

pub batched_refused : (side : Table → Side) (v : Value) (b n : ℕ) (before : List ℕ) → n ≡ value_refusal side v → 0 < n → (r : Batch) → r ≡ denial n
    → Batched side v b before r before
batched_refused side v b n before e l r d = record {
  table = λ w. record { says = d ∙ ap denial e; buffer = refl };
  value = λ z m. absurd (omega (arith, e, z));
  large = λ z s p w. absurd (omega (arith, e, z));
  rules = λ z s p w. absurd (omega (arith, e, z));
}

module _ (side : Table → Side) (v : Value) (b : ℕ) (before k' now : List ℕ) (o : Result Tally Refusal) (h : Listed side v b before k' now o) where
  abbrev t : Table
  t = v.table

  abbrev n : ℕ
  n = (side t).count

  abbrev q : List ℕ
  q = held side v

  abbrev mv : State → Move
  mv = moves_of t (side t) q v.omit

  abbrev room : ℕ
  room = length before / t.gauges

  none_val : is_preference n v.order ≡ false → value_refusal side v ≡ 27
  none_val z = preference_refused t n v.order h.passed z

  some_val : is_preference n v.order ≡ true → value_refusal side v ≡ 0
  some_val z = both_pass t n v.order h.passed z

  by_value : is_preference n v.order ≡ true → ListsBy mv (ReachedOn (side t) q) (hand_out (side t)) room v.picks v.count v.phase b before k' now o
  by_value z = h.lists.listed z

  -- ---- a refusal
  module _ (why : Refusal) (e : o ≡ Err why) (r : Batch) (d : r ≡ denial (number why)) where
    number-as : (x : Refusal) → o ≡ Err x → number why ≡ number x
    number-as x z = let y : why ≡ x = cc in ap number y

    deny : (x : Refusal) (i : ℕ) → number x ≡ i → (o ≡ Err x) × (now ≡ before) → Denied i before r now
    deny x i a w = record { says = d ∙ ap denial (number-as x w.0 ∙ a); buffer = w.1 }

    pub batch-refused : Batched side v b before r now
    batch-refused = go (is_preference n v.order) refl
      where
        go : (x : Bool) → is_preference n v.order ≡ x → Batched side v b before r now
        go false z = record {
          table = λ w. deny NotAnArrangement (value_refusal side v) (sym (none_val z)) (h.lists.none z);
          value = λ y w. absurd (omega (arith, none_val z));
          large = λ y s p w. absurd (omega (arith, none_val z));
          rules = λ y s p w. absurd (omega (arith, none_val z));
        }
        go true z = record {
          table = λ w. absurd (omega (arith, some_val z));
          value = λ y none. deny NotReached 15 refl ((by_value z).value (λ s x. none s (stands_paused side v s x)));
          large = λ y s p l. deny BudgetTooLarge 18 refl ((by_value z).large s (paused_stands side v s p) l);
          rules = λ y s p l.
              let w = ((by_value z).moves s (paused_stands side v s p) l).1 in
              let x = sym e ∙ w in clash cc;
        }

  -- ---- what the calls give
  module _ (a : Tally) (c : o ≡ Ok a) where
    abbrev answer : Batch
    answer = batch_from v k' a

    never : (x : Refusal) → o ≡ Err x → ⊥
    never x e = let z = sym c ∙ e in clash cc

    same : (e : Ending) (lad i : ℕ) (ph : Phase) (k : List ℕ) (l : List (List ℕ)) (y : State) → lad ≡ length l → k ≡ padded (map suc y.picks)
        → i ≡ length y.picks → ph ≡ numbered y.phase
        → ◌≡◌ {A = Batch} (record {
          ending = e;
          ladders = lad;
          moves = a.moves;
          next = record { table = t; order = v.order; picks = k; count = i; phase = ph; omit = v.omit };
        })
        (given t v.order v.omit (tale e l a.moves y))
    same e lad i ph k l y d x z w = rw (d, x, z, w)

    pub batch-given : (r : Batch) → r ≡ batch_from v k' a → Batched side v b before r now
    batch-given r w =
        subst (λ (x : Batch). Batched side v b before x now) (sym w) (go (is_preference n v.order) refl)
      where
        comes : (s : State) → WentOn mv (ReachedOn (side t) q) (hand_out (side t)) room b s before k' now a
            → Comes t v.order v.omit (batch_on side v (length before) b s) before answer now
        comes s w = record {
          says =
              same (stop_ending a.outcome) a.ladders a.spot.count (mode_phase a.spot.mode) k' w.sets w.to w.counted w.stands.picked
              w.stands.counted w.stands.phased
              ∙ ap (given t v.order v.omit) (sym w.comes);
          buffer =
              w.buffer ∙ stored_front before (joined w.sets) w.fits
              ∙ ap (λ (u : Tale). joined u.sets ++ drop (length (joined u.sets)) before) (sym w.comes);
        }

        -- what was listed is the tally
        found : {s : State} → (m : Tally) × (o ≡ Ok m) × WentOn mv (ReachedOn (side t) q) (hand_out (side t)) room b s before k' now m
            → WentOn mv (ReachedOn (side t) q) (hand_out (side t)) room b s before k' now a
        found {s} m = subst (WentOn mv (ReachedOn (side t) q) (hand_out (side t)) room b s before k' now) (value_of (sym m.1 ∙ c)) m.2

        go : (x : Bool) → is_preference n v.order ≡ x → Batched side v b before answer now
        go false z = record {
          table = λ w. absurd (never NotAnArrangement (h.lists.none z).0);
          value = λ y w. absurd (omega (arith, none_val z));
          large = λ y s p w. absurd (omega (arith, none_val z));
          rules = λ y s p w. absurd (omega (arith, none_val z));
        }
        go true z = record {
          table = λ w. absurd (omega (arith, some_val z));
          value = λ y none. absurd (never NotReached ((by_value z).value (λ s x. none s (stands_paused side v s x))).0);
          large = λ y s p l. absurd (never BudgetTooLarge ((by_value z).large s (paused_stands side v s p) l).0);
          rules = λ y s p l. comes s (found ((by_value z).moves s (paused_stands side v s p) l));
        }
