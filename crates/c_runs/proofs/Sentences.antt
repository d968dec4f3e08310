-- What a caller reads off the promises, sentence by sentence (specs/Serving and Calls; 01, demand 3; 02, R-2 and R-12): of the starts and the run calls on
-- words, and of the library's own, by value.
--
-- In order: what is said of a list of calls (`AsDemanded` of a run that omits nothing, `AsOmitting` of one that omits, `OneSetWith` of two runs); a start by
-- value (`fresh-given`, `fresh-refused`, `fresh-demand`, `fresh_shared`, `fresh-omits`) and on words (`start_demand`, `start_hands`, `start_omits`,
-- `start_shared`, `starts_share`); a call by value (`call_refused`, `call_rules`, `call-demand`, `call-omits`) and on words (`run_listed`, `run-demand`,
-- `run-omits`).
--
-- Elsewhere: the number returned and the words left, words/proofs/Sentences; that there are such lists of calls, and one only, Pinned.antt; the words that no
-- value has, Foreign.antt.
use mathlib.Core.Path.{◌≡◌, refl, sym, ap, ◌∙◌, subst}
use mathlib.Core.Logic.{◌↔◌}
use mathlib.Core.Bool.{Bool, true, false, cond}
use mathlib.Core.List.{List, [], ◌∷◌, ◌++◌, map, Memᴰ}
use Prim.Native.Nat.{ℕ, ◌≤◌, ◌<◌}
use lib.ListN.{length}
use borrow.Author.Tests.{eq-eqb, ne_eqb}
use Rattle.refusals.specs.Answers.{Answer}
use Rattle.table.specs.declared.Table.{Table}
use Rattle.table.specs.Chains.{IsMaximal}
use Rattle.table.specs.Tables.{table_rows}
use Rattle.rules.specs.Machine.{State, fresh}
use Rattle.rules.specs.Keeping.{kept_sets as kept_of}
use Rattle.lists.specs.Lists.{Side, gauge_side, case_side, PreferredList, BaseList}
use Rattle.lists.specs.OnTable.{call_on, calls_on, left_on}
use Rattle.lists.specs.Keeping.{call_keeping, calls_keeping, left_keeping}
use Rattle.lists.specs.Demand.{OneSet}
use Rattle.preference.specs.Preferences.{preferred_refusal, plain_numbers}
use Rattle.conflicts.specs.Conflicts.{HoldsEssential}
use Rattle.conflicts.specs.Omitting.{keeps_of}
use Rattle.runs.specs.Paused.{Value, paused, blank_value}
use Rattle.runs.specs.Calling.{Step, refusal_step, arrangement, told, held, value_refusal, PausedAt, Calls, last_value}
use Rattle.runs.specs.Demand.{handed_sets, Ends, HandsOut, Demand3, RunDemand, SharesSet}
use Rattle.runs.specs.Omitting.{CallsEither, RunOmits}
use Rattle.words.specs.Layouts.{table_at, numbers_at}
use Rattle.words.proofs.Back.{numbers_size}
use Rattle.run_words.specs.Values.{value_at}
use Rattle.c_runs.specs.Calls.{Seen, WordCalls, left_words, steps_read, FreshWords, SharesAllWords}
use Rattle.c_runs.specs.Serving.{FreshStart, Starts, RunCall, Runs}
use Rattle.c_runs.proofs.Sides.{cases_start}
use Rattle.c_runs.proofs.Contracts.{called_of, start_passes, start_fresh}

-- ---- what is said of a list of calls
-- calls with the budgets bs, of the run of the table t with the preference in k, have the answers rs, and v comes after them: demand 3; with "the arrangement
-- 1, 2, 3 and on" and once a call has answered end, 01's own list; and rules 1 to 5 give each answer and v
abbrev pub AsDemanded : (Table → Side) → Table → List ℕ → List ℕ → List Step → Value → Type 0
AsDemanded side t k bs rs v =
    Demand3 t (side t) (arrangement (side t) k) bs rs × (k ≡ plain_numbers (side t).count → Ends rs → BaseList t (side t) (handed_sets rs))
    × (rs ≡ map (told t (side t) k false) (calls_on (side t) (arrangement (side t) k) bs))
    × (v ≡ paused t k false (left_on (side t) (arrangement (side t) k) bs))

-- the same of a run that omits: "by its end .. exactly the ladders that hold a deciding pair, in the same order"
abbrev pub AsOmitting : (Table → Side) → Table → List ℕ → List ℕ → List Step → Value → Type 0
AsOmitting side t k bs rs v =
    ((list : List (List ℕ)) × PreferredList t (side t) (arrangement (side t) k) list × HandsOut (kept_of (keeps_of t) list) bs rs)
    × (Ends rs → (x : List ℕ) → Memᴰ x (handed_sets rs) ↔ (IsMaximal (table_rows t) x × HoldsEssential (table_rows t) x))
    × (rs ≡ map (told t (side t) k true) (calls_keeping (side t) (arrangement (side t) k) (keeps_of t) bs))
    × (v ≡ paused t k true (left_keeping (side t) (arrangement (side t) k) (keeps_of t) bs))

-- the run in the words w and every run of the other side and the same table, with any preference, each called on to its end, hand out one set
abbrev pub OneSetWith : (Table → Side) → ℕ → Table → List ℕ → (Table → Side) → ℕ → Type 0
OneSetWith side n t w other m =
    (j : List ℕ) → length j ≡ 64 → preferred_refusal t (other t).count j ≡ 0 → (u : List ℕ) → FreshWords m t j false u
    → (bs cs : List ℕ) (xs ys : List Seen) → WordCalls side n w bs xs → WordCalls other m u cs ys → Ends (steps_read n xs) → Ends (steps_read m ys)
    → OneSet t (handed_sets (steps_read n xs)) (handed_sets (steps_read m ys))

module _ (side : Table → Side) (t : Table) (k : List ℕ) where
  as_demanded : (v : Value) (bs : List ℕ) (rs : List Step) (w : Value) → RunDemand side t k v bs rs → w ≡ last_value v rs → AsDemanded side t k bs rs w
  as_demanded v bs rs w d e = (
    d.demand,
    λ p z. subst (BaseList t (side t)) (sym (d.demand.hands.whole z)) (d.base p),
    d.rules.each,
    e ∙ d.rules.last,
  )

  as_omitting : (v : Value) (bs : List ℕ) (rs : List Step) (w : Value) → RunOmits side t k v bs rs → w ≡ last_value v rs → AsOmitting side t k bs rs w
  as_omitting v bs rs w o e = (
    (o.list, o.listed, o.hands),
    λ z x.
        subst (λ (ys : List (List ℕ)). Memᴰ x ys ↔ (IsMaximal (table_rows t) x × HoldsEssential (table_rows t) x)) (sym (o.hands.whole z)) (o.members x),
    o.each,
    e ∙ o.last,
  )

  -- ---- a start by value: a is the answer
  module _ (omit : Bool) (a : Answer Value) where
    pub fresh-given : FreshStart side t k omit a → preferred_refusal t (side t).count k ≡ 0 → (a.refusal ≡ 0) × (a.value ≡ paused t k omit fresh)
    fresh-given f ok = (
      ap (λ (x : Answer Value). x.refusal) f.is ∙ ok,
      ap (λ (x : Answer Value). x.value) f.is
          ∙ ap (λ (b : Bool). cond b (paused t k omit fresh) blank_value) (eq-eqb (preferred_refusal t (side t).count k) 0 ok),
    )

    pub fresh-refused : FreshStart side t k omit a → ¬ (preferred_refusal t (side t).count k ≡ 0)
        → (a.refusal ≡ preferred_refusal t (side t).count k) × (a.value ≡ blank_value)
    fresh-refused f z = (
      ap (λ (x : Answer Value). x.refusal) f.is,
      ap (λ (x : Answer Value). x.value) f.is
          ∙ ap (λ (b : Bool). cond b (paused t k omit fresh) blank_value) (ne_eqb (preferred_refusal t (side t).count k) 0 z),
    )

  module _ (a : Answer Value) (ok : preferred_refusal t (side t).count k ≡ 0) (bs : List ℕ) (rs : List Step) where
    pub fresh-demand : FreshStart side t k false a → Calls side a.value bs rs → AsDemanded side t k bs rs (last_value a.value rs)
    fresh-demand f c = as_demanded a.value bs rs (last_value a.value rs) (f.demand refl ok bs rs c) refl

    pub fresh-omits : FreshStart side t k true a → CallsEither side a.value bs rs → AsOmitting side t k bs rs (last_value a.value rs)
    fresh-omits f c = as_omitting a.value bs rs (last_value a.value rs) (f.omits refl ok bs rs c) refl

  -- of either side, with the preference in j
  pub fresh_shared : (a : Answer Value) → FreshStart side t k false a → (j : List ℕ) → length j ≡ 64
      → SharesSet side gauge_side t k j a.value (paused t j false fresh) × SharesSet side case_side t k j a.value (paused t j false fresh)
  fresh_shared a f j l = ((f.shared refl).gauges j l, (f.shared refl).cases j l)

-- ---- a start on words
pub shares_all : (side : Table → Side) (n : ℕ) (t : Table) (k w : List ℕ) → SharesAllWords side n t k w
    → OneSetWith side n t w gauge_side 1 × OneSetWith side n t w case_side 2
shares_all side n t k w s = (s.gauges, s.cases)

module _ (side : Table → Side) (n : ℕ) (t o : List ℕ) (omit : ℕ) (out out' : List ℕ) (r : ℕ) where
  abbrev T : Table
  T = table_at 0 t

  abbrev K : List ℕ
  K = numbers_at 0 o

  pub start_demand : Starts side n t o omit out out' r → r ≡ 0 → omit ≡ 0 → (bs : List ℕ) (xs : List Seen) → WordCalls side n out' bs xs
      → AsDemanded side T K bs (steps_read n xs) (value_at n (left_words out' xs))
  start_demand s e z bs xs c =
      let d = s.demand e z bs xs c in
      as_demanded side T K (paused T K false fresh) bs (steps_read n xs) (value_at n (left_words out' xs)) d.holds d.last

  -- "the ladders handed out are, in turn, the front of that run's list. Once a call has answered "end", they are the whole list."
  pub start_hands : Starts side n t o omit out out' r → r ≡ 0 → omit ≡ 0 → (bs : List ℕ) (xs : List Seen) → WordCalls side n out' bs xs
      → (list : List (List ℕ)) × PreferredList T (side T) (arrangement (side T) K) list
      × ((rest : List (List ℕ)) × (handed_sets (steps_read n xs) ++ rest ≡ list))
      × (Ends (steps_read n xs) → handed_sets (steps_read n xs) ≡ list)
  start_hands s e z bs xs c =
      let d = (start_demand s e z bs xs c).0 in
      (d.list, d.listed, d.hands.front, d.hands.whole)

  pub start_omits : Starts side n t o omit out out' r → r ≡ 0 → ¬ (omit ≡ 0) → (bs : List ℕ) (xs : List Seen) → WordCalls side n out' bs xs
      → AsOmitting side T K bs (steps_read n xs) (value_at n (left_words out' xs))
  start_omits s e z bs xs c =
      let d = s.omits e z bs xs c in
      as_omitting side T K (paused T K true fresh) bs (steps_read n xs) (value_at n (left_words out' xs)) d.holds d.last

  pub start_shared : Starts side n t o omit out out' r → r ≡ 0 → omit ≡ 0 → OneSetWith side n T out' gauge_side 1 × OneSetWith side n T out' case_side 2
  start_shared s e z = shares_all side n T K out' (s.shared e z)

-- "So the two runs, each gone to its end, share one set"
pub starts_share : (t o a a' j b b' : List ℕ) → Starts gauge_side 1 t o 0 a a' 0 → Starts case_side 2 t j 0 b b' 0
    → (bs cs : List ℕ) (xs ys : List Seen) → WordCalls gauge_side 1 a' bs xs → WordCalls case_side 2 b' cs ys → Ends (steps_read 1 xs) → Ends (steps_read 2 ys)
    → OneSet (table_at 0 t) (handed_sets (steps_read 1 xs)) (handed_sets (steps_read 2 ys))
starts_share t o a a' j b b' g h =
    (start_shared gauge_side 1 t o 0 a a' 0 g refl refl).1 (numbers_at 0 j) (numbers_size 0 j) (start_passes case_side cases_start 2 t j 0 b b' 0 h refl) b'
    (start_fresh case_side cases_start 2 t j 0 b b' 0 h refl refl)

-- ---- a call by value, from v with the budget b: s is the answer
module _ (side : Table → Side) (v : Value) (b : ℕ) (s : Step) where
  pub call_refused : RunCall side v b s → (0 < value_refusal side v → s ≡ refusal_step (value_refusal side v))
      × (value_refusal side v ≡ 0 → ((x : State) → PausedAt side v x → ⊥) → s ≡ refusal_step 15)
  call_refused c = (c.called.table, c.called.value)

  pub call_rules : RunCall side v b s → value_refusal side v ≡ 0 → (x : State) → PausedAt side v x
      → (v.omit ≡ false → s ≡ told v.table (side v.table) v.order false (call_on (side v.table) (held side v) b x))
      × (v.omit ≡ true → s ≡ told v.table (side v.table) v.order true (call_keeping (side v.table) (held side v) (keeps_of v.table) b x))
  call_rules c ok x h = (λ e. c.called.rules e ok x h, λ e. c.either.rules e ok x h)

  module _ (ok : value_refusal side v ≡ 0) (bs : List ℕ) (rs : List Step) where
    -- the fresh value of v's table and preference
    abbrev start : Bool → Value
    start omit = paused v.table v.order omit fresh

    pub call-demand : RunCall side v b s → Calls side (start false) bs rs → last_value (start false) rs ≡ v
        → AsDemanded side v.table v.order (bs ++ (b ∷ [])) (rs ++ (s ∷ [])) (last_value (start false) (rs ++ (s ∷ [])))
    call-demand c q e =
        as_demanded side v.table v.order (start false) (bs ++ (b ∷ [])) (rs ++ (s ∷ [])) (last_value (start false) (rs ++ (s ∷ [])))
        (c.demand ok bs rs q e) refl

    pub call-omits : RunCall side v b s → CallsEither side (start true) bs rs → last_value (start true) rs ≡ v
        → AsOmitting side v.table v.order (bs ++ (b ∷ [])) (rs ++ (s ∷ [])) (last_value (start true) (rs ++ (s ∷ [])))
    call-omits c q e =
        as_omitting side v.table v.order (start true) (bs ++ (b ∷ [])) (rs ++ (s ∷ [])) (last_value (start true) (rs ++ (s ∷ [])))
        (c.omits ok bs rs q e) refl

-- ---- a call on the words w, of which x is seen
left_last : (u : List ℕ) (xs : List Seen) (x : Seen) → left_words u (xs ++ (x ∷ [])) ≡ x.run
left_last u [] x = refl
left_last u (y ∷ xs) x = left_last y.run xs x

module _ (side : Table → Side) (n : ℕ) (w : List ℕ) (b : ℕ) (out w' out' : List ℕ) (r : ℕ) (long : 131 ≤ length out) where
  abbrev x : Seen
  x = record { lent = out; number = r; run = w'; step = out' }

  abbrev v : Value
  v = value_at n w

  -- each call is one of a list of calls
  pub run_listed : Runs side n w b out w' out' r → WordCalls side n w (b ∷ []) (x ∷ [])
  run_listed h = (long, (called_of side n w b x h.gives, tt))

  module _ (ok : value_refusal side v ≡ 0) (u bs : List ℕ) (xs : List Seen) (c : WordCalls side n u bs xs) (e : left_words u xs ≡ w) where
    pub run-demand : Runs side n w b out w' out' r → FreshWords n v.table v.order false u
        → AsDemanded side v.table v.order (bs ++ (b ∷ [])) (steps_read n (xs ++ (x ∷ []))) (value_at n w')
    run-demand h f =
        let d = h.demand ok long u f bs xs c e in
        as_demanded side v.table v.order (paused v.table v.order false fresh) (bs ++ (b ∷ [])) (steps_read n (xs ++ (x ∷ []))) (value_at n w')
        d.holds (ap (value_at n) (sym (left_last u xs x)) ∙ d.last)

    pub run-omits : Runs side n w b out w' out' r → FreshWords n v.table v.order true u
        → AsOmitting side v.table v.order (bs ++ (b ∷ [])) (steps_read n (xs ++ (x ∷ []))) (value_at n w')
    run-omits h f =
        let d = h.omits ok long u f bs xs c e in
        as_omitting side v.table v.order (paused v.table v.order true fresh) (bs ++ (b ∷ [])) (steps_read n (xs ++ (x ∷ []))) (value_at n w')
        d.holds (ap (value_at n) (sym (left_last u xs x)) ∙ d.last)
