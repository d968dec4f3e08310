-- The contracts of the starts and the run calls pin what they give, on either side: for every slices there is a number with the words left
-- (`starts_exists`, `runs_exists`), and no other (`starts_unique`, `runs_unique`); so there is a list of calls on one slice for every list of budgets and
-- of slices lent for the answers (`word_calls_exist`), and no other (`word_calls_unique`). The promises of such lists, put to use, hold of them
-- (`word-demand-made`, `carries-word-made`, and of the runs that omit `word-omits-made`, `carries-word-omits-made`), and leave one list of answers to be
-- read (`word-demand-unique`, `word-omits-unique`).
--
-- Pins, which nothing else cites: `carries-word-made`, `carries-word-omits-made`.
use mathlib.Core.Path.{◌≡◌, refl, sym, ap, ap₂, ◌∙◌, subst}
use mathlib.Core.Logic.{◌⊎◌}
use mathlib.Core.Bool.{Bool, true, false, not, cond}
use mathlib.Core.List.{List, [], ◌∷◌, ◌++◌, map}
use Prim.Native.Nat.{ℕ, ◌≤◌, ◌<◌}
use lib.Dec.{eqb}
use lib.ListN.{length}
use borrow.Author.Tests.{eq-eqb}
use Rattle.refusals.specs.Answers.{Answer, answer}
use Rattle.table.specs.declared.Table.{Table}
use Rattle.rules.specs.Machine.{fresh}
use Rattle.lists.specs.Lists.{Side}
use Rattle.preference.specs.Preferences.{preferred_refusal}
use Rattle.runs.specs.Paused.{Value, paused, blank_value}
use Rattle.runs.specs.Calling.{value_refusal}
use Rattle.runs.specs.Omitting.{CalledEither}
use Rattle.runs.proofs.Answered.{called_both}
use Rattle.runs.proofs.Demands.{Started, Starts as StartsAt, carries_demand, carries_omits, demand_answers_unique, omits_answers_unique}
use Rattle.runs.proofs.Readings.{called_unique}
use Rattle.runs.proofs.Starting.{promised}
use Rattle.words.specs.Layouts.{table_at, numbers_at}
use Rattle.words.proofs.Answers.{short_dec, or_dec, gives_unique, gives_exists, two_unique, two_exists}
use Rattle.run_words.specs.Values.{value_at}
use Rattle.words.proofs.Back.{rows_size}
use Rattle.run_words.proofs.ReadingBack.{numbers_read}
use Rattle.c_runs.specs.Calls.{Seen, GivesCall, WordCalls, left_words, steps_read, FreshWords, WordDemand, KeepsWordDemand, WordOmits, KeepsWordOmits}
use Rattle.c_runs.specs.Calls.{CarriesWordDemand, CarriesWordOmits}
use Rattle.c_runs.specs.Serving.{FreshStart, Starts, RunCall, Runs}
use Rattle.c_runs.proofs.Sides.{Startable}
use Rattle.c_runs.proofs.Deciding.{called_exists}
use Rattle.c_runs.proofs.WordCalls.{keeps-word-demand, keeps-word-omits}
use Rattle.c_runs.proofs.Contracts.{starts_of, runs_of, called_of}

-- ---- the starts
module _ (side : Table → Side) (n : ℕ) (t o : List ℕ) (omit : ℕ) (out : List ℕ) where
  abbrev short_start : Dec ((length t < 66) ⊎ ((length o < 64) ⊎ (length out < 199)))
  short_start = or_dec (short_dec t 66) (or_dec (short_dec o 64) (short_dec out 199))

  pub starts_unique : (a b : List ℕ) (r s : ℕ) → Starts side n t o omit out a r → Starts side n t o omit out b s → (a ≡ b) × (r ≡ s)
  starts_unique a b r s g f = gives_unique out short_start (λ x y p q. p.is ∙ sym q.is) a b r s g.gives f.gives

  pub starts_exists : Startable side → (out' : List ℕ) × (r : ℕ) × Starts side n t o omit out out' r
  starts_exists all =
      let (out', r, g) = gives_exists out short_start given start in
      (out', r, starts_of side all g)
    where
      T : Table
      T = table_at 0 t

      K : List ℕ
      K = numbers_at 0 o

      b : Bool
      b = not (eqb omit 0)

      given : Answer Value
      given = answer (preferred_refusal T (side T).count K) (paused T K b fresh) blank_value

      start : FreshStart side T K b given
      start =
          let p = promised side T K b (rows_size 2 t) (all T (rows_size 2 t)) (numbers_read 0 o).size given.value (λ e.
          ap (λ (c : Bool). cond c (paused T K b fresh) blank_value) (eq-eqb (preferred_refusal T (side T).count K) 0 e)) in
          record { is = refl; demand = p.0; shared = p.1.0; omits = p.1.1 }

-- ---- the run calls
module _ (side : Table → Side) (n : ℕ) (w : List ℕ) (b : ℕ) (out : List ℕ) where
  abbrev short_run : Dec ((length w < 199) ⊎ (length out < 131))
  short_run = or_dec (short_dec w 199) (short_dec out 131)

  pub runs_unique : (x y c d : List ℕ) (r s : ℕ) → Runs side n w b out x c r → Runs side n w b out y d s → (x ≡ y) × (c ≡ d) × (r ≡ s)
  runs_unique x y c d r s g f =
      two_unique w out short_run (λ u v p q. called_unique side (value_at n w) b u v p.either q.either) x c y d r s g.gives f.gives

  pub runs_exists : Startable side → (w' : List ℕ) × (out' : List ℕ) × (r : ℕ) × Runs side n w b out w' out' r
  runs_exists all =
      let v = value_at n w in
      let (s, c) = called_exists side v all (rows_size 3 w) (numbers_read 67 w).size b in
      let starts : StartsAt side v = λ ok. all v.table (rows_size 3 w) v.order (numbers_read 67 w).size ok in
      let e = called_both side v b s c in
      let promise : RunCall side v b s = record {
        called = e.called;
        demand = carries_demand side v b s starts e.called;
        either = e;
        omits = carries_omits side v b s starts e;
      } in
      let (w', out', r, g) = two_exists w out short_run s promise in
      (w', out', r, runs_of side all g)

-- ---- lists of calls on one slice
-- the slices that are lent for the answers, one for each budget, of 131 words or more
abbrev pub Lent : List ℕ → List (List ℕ) → Type 0
Lent [] [] = Unit {0}
Lent [] (out ∷ outs) = ⊥
Lent (b ∷ bs) [] = ⊥
Lent (b ∷ bs) (out ∷ outs) = (131 ≤ length out) × Lent bs outs

abbrev pub lents : List Seen → List (List ℕ)
lents xs = map (λ (x : Seen). x.lent) xs

module _ (side : Table → Side) (n : ℕ) where
  pub word_calls_exist : Startable side → (w bs : List ℕ) (outs : List (List ℕ)) → Lent bs outs
      → (xs : List Seen) × WordCalls side n w bs xs × (lents xs ≡ outs)
  word_calls_exist all w [] [] l = ([], tt, refl)
  word_calls_exist all w [] (out ∷ outs) l = absurd l
  word_calls_exist all w (b ∷ bs) [] l = absurd l
  word_calls_exist all w (b ∷ bs) (out ∷ outs) l =
      let (w', out', r, g) = runs_exists side n w b out all in
      let x : Seen = record { lent = out; number = r; run = w'; step = out' } in
      let (xs, c, e) = word_calls_exist all w' bs outs l.1 in
      (x ∷ xs, (l.0, (called_of side n w b x g.gives, c)), ap (λ (y : List (List ℕ)). out ∷ y) e)

  seen_same : (x y : Seen) → x.lent ≡ y.lent → x.number ≡ y.number → x.run ≡ y.run → x.step ≡ y.step → x ≡ y
  seen_same x y a b c d = go x.lent y.lent x.number y.number x.run y.run x.step y.step a b c d
    where
      go : (l m : List ℕ) (i j : ℕ) (p q s t : List ℕ) → l ≡ m → i ≡ j → p ≡ q → s ≡ t
          → ◌≡◌ {A = Seen} (record { lent = l; number = i; run = p; step = s }) (record { lent = m; number = j; run = q; step = t })
      go l m i j p q s t a b c d = rw (a, b, c, d)

  one_call : (w : List ℕ) (b : ℕ) (x y : Seen) → GivesCall (CalledEither side) n w b x → GivesCall (CalledEither side) n w b y → x.lent ≡ y.lent → x ≡ y
  one_call w b x y g f e =
      let (c, d, h) = two_unique w y.lent (short_run side n w b y.lent) (called_unique side (value_at n w) b) x.run x.step y.run y.step
      x.number y.number (moved g) f in
      seen_same x y e h c d
    where
      moved : GivesCall (CalledEither side) n w b x
          → GivesCall (CalledEither side) n w b (record { lent = y.lent; number = x.number; run = x.run; step = x.step })
      moved h =
          subst (λ (l : List ℕ). GivesCall (CalledEither side) n w b (record { lent = l; number = x.number; run = x.run; step = x.step })) e h

  pub word_calls_unique : (w bs : List ℕ) (xs ys : List Seen) → WordCalls side n w bs xs → WordCalls side n w bs ys → lents xs ≡ lents ys → xs ≡ ys
  word_calls_unique w [] [] [] c d e = refl
  word_calls_unique w [] (x ∷ xs) ys c d e = absurd c
  word_calls_unique w [] [] (y ∷ ys) c d e = absurd d
  word_calls_unique w (b ∷ bs) [] ys c d e = absurd c
  word_calls_unique w (b ∷ bs) (x ∷ xs) [] c d e = absurd d
  word_calls_unique w (b ∷ bs) (x ∷ xs) (y ∷ ys) c d e =
      let h : x.lent ≡ y.lent = cc in
      let i : lents xs ≡ lents ys = cc in
      let q : x ≡ y = one_call w b x y c.1.0 d.1.0 h in
      ap₂ (λ (z : Seen) (zs : List Seen). z ∷ zs) q
      (word_calls_unique y.run bs xs ys (subst (λ (z : Seen). WordCalls side n z.run bs xs) q c.1.1) d.1.1 i)

  -- ---- the promises of lists of calls
  module _ (t : Table) (k w bs : List ℕ) where
    pub word-demand-made : Startable side → KeepsWordDemand side n t k w → (outs : List (List ℕ)) → Lent bs outs
        → (xs : List Seen) × WordDemand side n t k w bs xs × (lents xs ≡ outs)
    word-demand-made all h outs l = let (xs, c, e) = word_calls_exist all w bs outs l in (xs, h bs xs c, e)

    pub word-omits-made : Startable side → KeepsWordOmits side n t k w → (outs : List (List ℕ)) → Lent bs outs
        → (xs : List Seen) × WordOmits side n t k w bs xs × (lents xs ≡ outs)
    word-omits-made all h outs l = let (xs, c, e) = word_calls_exist all w bs outs l in (xs, h bs xs c, e)

    pub word-demand-unique : (xs ys : List Seen) → WordDemand side n t k w bs xs → WordDemand side n t k w bs ys → steps_read n xs ≡ steps_read n ys
    word-demand-unique xs ys a b =
        (demand_answers_unique side t k (paused t k false fresh) bs (steps_read n xs) (steps_read n ys) a.holds b.holds).0

    pub word-omits-unique : (xs ys : List Seen) → WordOmits side n t k w bs xs → WordOmits side n t k w bs ys → steps_read n xs ≡ steps_read n ys
    word-omits-unique xs ys a b =
        (omits_answers_unique side t k (paused t k true fresh) bs (steps_read n xs) (steps_read n ys) a.holds b.holds).0

  -- what a run call carries on, after every list of calls from a fresh run
  module _ (all : Startable side) (t : Table) (k : List ℕ) (g : Started side t k) (u bs : List ℕ) (xs : List Seen) (c : WordCalls side n u bs xs)
      (b : ℕ) (x : Seen) (l : 131 ≤ length x.lent) where
    pub carries-word-made : FreshWords n t k false u → CarriesWordDemand side n (left_words u xs) b x
        → WordDemand side n t k u (bs ++ (b ∷ [])) (xs ++ (x ∷ []))
    carries-word-made f h =
        let d = keeps-word-demand side all n t k g u f bs xs c in
        subst (λ (v : Value).
        value_refusal side v ≡ 0 → 131 ≤ length x.lent → (y : List ℕ) → FreshWords n v.table v.order false y
        → (es : List ℕ) (zs : List Seen) → WordCalls side n y es zs → left_words y zs ≡ left_words u xs
        → WordDemand side n v.table v.order y (es ++ (b ∷ [])) (zs ++ (x ∷ []))) (d.last ∙ d.holds.rules.last) h g.passed l u f bs xs c refl

    pub carries-word-omits-made : FreshWords n t k true u → CarriesWordOmits side n (left_words u xs) b x
        → WordOmits side n t k u (bs ++ (b ∷ [])) (xs ++ (x ∷ []))
    carries-word-omits-made f h =
        let d = keeps-word-omits side all n t k g u f bs xs c in
        subst (λ (v : Value).
        value_refusal side v ≡ 0 → 131 ≤ length x.lent → (y : List ℕ) → FreshWords n v.table v.order true y
        → (es : List ℕ) (zs : List Seen) → WordCalls side n y es zs → left_words y zs ≡ left_words u xs
        → WordOmits side n v.table v.order y (es ++ (b ∷ [])) (zs ++ (x ∷ []))) (d.last ∙ d.holds.last) h g.passed l u f bs xs c refl
