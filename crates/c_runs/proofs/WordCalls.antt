-- Demand 3 through the lent slice: a list of calls on the words is a list of the library's calls, from the value that the words read as, with the
-- answers that are read from the words that they leave (`word_calls`). One proof for either side, every preference and every words.
--
-- In order: lists of calls; demand 3, what is promised of the runs that omit, and the common set of two runs, as the contracts have them
-- (`keeps-word-demand`, `carries-word-demand`, `shares_all_words` and so on).
--
-- Elsewhere: one call, Telling.antt; that there are such lists, and one for the same slices, Pinned.antt.
use mathlib.Core.Path.{◌≡◌, refl, sym, ap, ◌∙◌, subst}
use mathlib.Core.Bool.{Bool, true, false}
use mathlib.Core.List.{List, [], ◌∷◌, ◌++◌}
use Prim.Native.Nat.{ℕ, ◌≤◌}
use native.Mathlib.Omega.{arith}
use lib.ListN.{length}
use Rattle.table.specs.declared.Table.{Table}
use Rattle.rules.specs.Machine.{fresh}
use Rattle.lists.specs.Lists.{Side, gauge_side, case_side}
use Rattle.preference.specs.Preferences.{preferred_refusal}
use Rattle.runs.specs.Paused.{Value, paused}
use Rattle.runs.specs.Calling.{Step, kept_value, Calls, last_value}
use Rattle.runs.specs.Demand.{SharesSet, SharesAll, RunDemand}
use Rattle.runs.specs.Omitting.{CalledEither, CallsEither, RunOmits}
use Rattle.runs.proofs.Answered.{called_of_both}
use Rattle.runs.proofs.Demands.{Started, calls_only, run_demand, run_omits}
use Rattle.words.proofs.Serving.{long_two}
use Rattle.run_words.specs.Values.{value_at, value_words}
use Rattle.words.proofs.Back.{rows_size}
use Rattle.run_words.proofs.ReadingBack.{numbers_read}
use Rattle.c_runs.specs.Calls.{Seen, GivesCall, WordCalls, left_words, step_read, steps_read, InWords, FreshWords, KeepsWordDemand}
use Rattle.c_runs.specs.Calls.{CarriesWordDemand, KeepsWordOmits, CarriesWordOmits, SharesWords, SharesAllWords}
use Rattle.c_runs.proofs.Sides.{Startable, gauges_start, cases_start}
use Rattle.c_runs.proofs.Telling.{left_length, Tells, step_back, kept_back}

module _ (side : Table → Side) (all : Startable side) (n : ℕ) where
  pub word_calls : (w : List ℕ) → 199 ≤ length w → (bs : List ℕ) (xs : List Seen) → WordCalls side n w bs xs
      → InWords n w (value_at n w) (CallsEither side (value_at n w) bs) xs
  word_calls w l [] [] c = record { holds = tt; last = refl }
  word_calls w l [] (x ∷ xs) c = absurd c
  word_calls w l (b ∷ bs) [] c = absurd c
  word_calls w l (b ∷ bs) (x ∷ xs) c =
      let h = c.1.0.served (long_two l c.0) in
      let s : Step = h.answer in
      let t : Tells n w s x = record { number = h.says; run = h.leaves_first; step = h.leaves_second } in
      let read : step_read n x ≡ s = step_back side all n w l b s x c.0 (called_of_both side (value_at n w) b s h.promised) t in
      let next : value_at n x.run ≡ kept_value (step_read n x).answer (value_at n w) (step_read n x).next =
      kept_back side all n w l b s x c.0 (called_of_both side (value_at n w) b s h.promised) t
      ∙ ap (λ (y : Step). kept_value y.answer (value_at n w) y.next) (sym read) in
      let i = word_calls x.run (omega (arith, l, ap length t.run, left_length x.number (value_words n s.next) w)) bs xs c.1.1 in record {
        holds = (
          subst (CalledEither side (value_at n w) b) (sym read) h.promised,
          subst (λ (v : Value). CallsEither side v bs (steps_read n xs)) next i.holds,
        );
        last = i.last ∙ ap (λ (v : Value). last_value v (steps_read n xs)) next;
      }

  -- and one call more
  word_calls_more : (w bs : List ℕ) (xs : List Seen) (b : ℕ) (x : Seen) → WordCalls side n w bs xs → 131 ≤ length x.lent
      → GivesCall (CalledEither side) n (left_words w xs) b x → WordCalls side n w (bs ++ (b ∷ [])) (xs ++ (x ∷ []))
  word_calls_more w [] [] b x c l g = (l, (g, tt))
  word_calls_more w [] (y ∷ xs) b x c l g = absurd c
  word_calls_more w (a ∷ bs) [] b x c l g = absurd c
  word_calls_more w (a ∷ bs) (y ∷ xs) b x c l g = (c.0, (c.1.0, word_calls_more y.run bs xs b x c.1.1 l g))

  -- from the fresh run on
  module _ (t : Table) (k : List ℕ) (omit : Bool) (w : List ℕ) (f : FreshWords n t k omit w) where
    fresh-calls : (bs : List ℕ) (xs : List Seen) → WordCalls side n w bs xs → (R : List Step → Type 0)
        → ((rs : List Step) → CallsEither side (paused t k omit fresh) bs rs → R rs) → InWords n w (paused t k omit fresh) R xs
    fresh-calls bs xs c R h =
        let i = word_calls w f.long bs xs c in record {
          holds = h (steps_read n xs) (subst (λ (v : Value). CallsEither side v bs (steps_read n xs)) f.reads i.holds);
          last = i.last ∙ ap (λ (v : Value). last_value v (steps_read n xs)) f.reads;
        }

  -- ---- the promises
  module _ (t : Table) (k : List ℕ) (g : Started side t k) (w : List ℕ) where
    pub keeps-word-demand : FreshWords n t k false w → KeepsWordDemand side n t k w
    keeps-word-demand f bs xs c =
        fresh-calls t k false w f bs xs c (RunDemand side t k (paused t k false fresh) bs)
        (λ rs q. run_demand side t k g (paused t k false fresh) refl bs rs (calls_only side (paused t k false fresh) bs rs q))

    pub keeps-word-omits : FreshWords n t k true w → KeepsWordOmits side n t k w
    keeps-word-omits f bs xs c =
        fresh-calls t k true w f bs xs c (RunOmits side t k (paused t k true fresh) bs) (run_omits side t k g (paused t k true fresh) refl bs)

  module _ (w : List ℕ) (b : ℕ) (x : Seen) (h : GivesCall (CalledEither side) n w b x) where
    abbrev v : Value
    v = value_at n w

    pub carries-word-demand : CarriesWordDemand side n w b x
    carries-word-demand ok l u f bs xs c e =
        keeps-word-demand v.table v.order (all v.table (rows_size 3 w) v.order (numbers_read 67 w).size ok) u f (bs ++ (b ∷ [])) (xs ++ (x ∷ []))
        (word_calls_more u bs xs b x c l (subst (λ (y : List ℕ). GivesCall (CalledEither side) n y b x) (sym e) h))

    pub carries-word-omits : CarriesWordOmits side n w b x
    carries-word-omits ok l u f bs xs c e =
        keeps-word-omits v.table v.order (all v.table (rows_size 3 w) v.order (numbers_read 67 w).size ok) u f (bs ++ (b ∷ [])) (xs ++ (x ∷ []))
        (word_calls_more u bs xs b x c l (subst (λ (y : List ℕ). GivesCall (CalledEither side) n y b x) (sym e) h))

-- two runs
shares_words : (side other : Table → Side) → Startable side → Startable other → (n m : ℕ) (t : Table) (k j w : List ℕ) → FreshWords n t k false w
    → preferred_refusal t (side t).count k ≡ 0 → SharesSet side other t k j (paused t k false fresh) (paused t j false fresh)
    → SharesWords side other n m t k j w
shares_words side other all all' n m t k j w f ok h ok' u g bs cs xs ys c d ends ends' =
    h ok ok' bs cs (steps_read n xs) (steps_read m ys) (calls side all n k w f bs xs c) (calls other all' m j u g cs ys d) ends ends'
  where
    calls : (z : Table → Side) → Startable z → (i : ℕ) (l v : List ℕ) → FreshWords i t l false v → (es : List ℕ) (zs : List Seen) → WordCalls z i v es zs
        → Calls z (paused t l false fresh) es (steps_read i zs)
    calls z a i l v e es zs q = (fresh-calls z a i t l false v e es zs q (Calls z (paused t l false fresh) es)
        (λ rs p. calls_only z (paused t l false fresh) es rs p)).holds

pub shares_all_words : (side : Table → Side) → Startable side → (n : ℕ) (t : Table) (k w : List ℕ) → FreshWords n t k false w
    → preferred_refusal t (side t).count k ≡ 0 → SharesAll side t k (paused t k false fresh) → SharesAllWords side n t k w
shares_all_words side all n t k w f ok h = record {
  gauges = λ j l. shares_words side gauge_side all gauges_start n 1 t k j w f ok (h.gauges j l);
  cases = λ j l. shares_words side case_side all cases_start n 2 t k j w f ok (h.cases j l);
}
