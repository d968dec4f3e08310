-- Lists of run calls as a caller of the C library makes them, on one lent slice (01: "Each call gets the paused value that the last unrefused call
-- returned, or the fresh one where there is none; nothing changes it in between"): each call reads the words that the last one left there. What is
-- promised of the library's calls by value is said here of what such a caller sees, the numbers returned and the words left in his two slices. The
-- names are those of runs/specs/Calling and Omitting, with `Word` in them.
--
-- In order: one call as it is seen (`Seen`, `GivesCall`); a list of calls (`WordCalls`), and the answers that are read from the words (`step_read`,
-- `InWords`); demand 3 of these (`WordDemand`), as the fresh starts promise it (`KeepsWordDemand`) and each run call (`CarriesWordDemand`); the same
-- of the runs that omit; two runs (`SharesWords`).
use Rattle.std.specs.Prelude.{◌≡◌, ◌⊎◌, Bool, true, false, cond, List, [], ◌∷◌, ◌++◌, map, ℕ, ◌≤◌, ◌<◌, eqb, length}
use Rattle.table.specs.declared.Table.{Table}
use Rattle.table.specs.Tables.{chain_rows}
use Rattle.rules.specs.Machine.{fresh}
use Rattle.rules.specs.Calls.{Reply, spent, handed, end}
use Rattle.lists.specs.Lists.{Side, gauge_side, case_side}
use Rattle.lists.specs.Demand.{OneSet}
use Rattle.preference.specs.Preferences.{preferred_refusal}
use Rattle.runs.specs.Paused.{Value, paused}
use Rattle.runs.specs.Calling.{Step, refusal_step, last_value, value_refusal}
use Rattle.runs.specs.Demand.{RunDemand, handed_sets, Ends}
use Rattle.runs.specs.Omitting.{CalledEither, RunOmits}
use Rattle.words.specs.Layouts.{word_at, numbers_at, chain_at}
use Rattle.words.specs.Serving.{GivesTwo}
use Rattle.run_words.specs.Values.{value_at, value_words, refusal_number, step_words}

-- ---- one call
-- what a caller sees of a call: the words of `step` that he lent, the number returned, and the words that it left in `run` and in `step`
pub record Seen : Type 0 where
  pub lent : List ℕ
  pub number : ℕ
  pub run : List ℕ
  pub step : List ℕ

-- x is seen of a call of the run in the words w, with the budget b, on the side with number n: its answer has the promise P, of the value that the
-- words read as; the next value is left in their place, and the answer in `step`
abbrev pub GivesCall : (Value → ℕ → Step → Type 0) → ℕ → List ℕ → ℕ → Seen → Type 0
GivesCall P n w b x =
    GivesTwo ((length w < 199) ⊎ (length x.lent < 131))
    (P (value_at n w) b)
    (λ (s : Step). refusal_number s.answer)
    (λ (s : Step). value_words n s.next)
    step_words
    w
    x.lent
    x.run
    x.step
    x.number

-- ---- a list of calls
-- xs is seen of calls with the budgets bs, the first on the words w and each other on those that the last one left; each got a `step` of 131 words
-- or more. (A call with fewer gets 100, and leaves every word as it was: it is none of the list.)
abbrev pub WordCalls : (Table → Side) → ℕ → List ℕ → List ℕ → List Seen → Type 0
WordCalls side n w [] [] = Unit {0}
WordCalls side n w [] (x ∷ xs) = ⊥
WordCalls side n w (b ∷ bs) [] = ⊥
WordCalls side n w (b ∷ bs) (x ∷ xs) = (131 ≤ length x.lent) × (GivesCall (CalledEither side) n w b x × WordCalls side n x.run bs xs)

-- the words of the run that they leave
abbrev pub left_words : List ℕ → List Seen → List ℕ
left_words w [] = w
left_words w (x ∷ xs) = left_words x.run xs

-- how what is seen of a call reads: a refusal by the number returned; else, from the words left, what the answer is, the moves, the chain by gauge
-- rows, its pick sequence, and the next paused value
abbrev pub reply_read : Seen → Reply
reply_read x =
    cond (eqb (word_at x.step 0) 1) (handed (chain_rows (chain_at 2 x.step)))
    (cond (eqb (word_at x.step 0) 2) spent end)

abbrev pub step_read : ℕ → Seen → Step
step_read n x =
    cond (eqb x.number 0)
    (record {
      answer = reply_read x;
      moves = word_at x.step 1;
      chain = chain_at 2 x.step;
      picks = numbers_at 67 x.step;
      next = value_at n x.run;
    })
    (refusal_step x.number)

abbrev pub steps_read : ℕ → List Seen → List Step
steps_read n xs = map (step_read n) xs

-- R holds of the answers that are read, from the value v on, of what is seen of calls on the words w; and the words left at last read as the value that
-- these answers leave
pub record InWords (n : ℕ) (w : List ℕ) (v : Value) (R : List Step → Type 0) (xs : List Seen) : Type 0 where
  pub holds : R (steps_read n xs)
  pub last : value_at n (left_words w xs) ≡ last_value v (steps_read n xs)

-- the words w hold the fresh run of the table t with the preference in k
pub record FreshWords (n : ℕ) (t : Table) (k : List ℕ) (omit : Bool) (w : List ℕ) : Type 0 where
  pub long : 199 ≤ length w
  pub reads : value_at n w ≡ paused t k omit fresh

-- ---- demand 3, of the runs that omit nothing
-- demand 3 of what is seen: of a list of calls on the words w, from the fresh run of the table t with the preference in k
abbrev pub WordDemand : (Table → Side) → ℕ → Table → List ℕ → List ℕ → List ℕ → List Seen → Type 0
WordDemand side n t k w bs xs = InWords n w (paused t k false fresh) (RunDemand side t k (paused t k false fresh) bs) xs

-- every list of calls on the words w
abbrev pub KeepsWordDemand : (Table → Side) → ℕ → Table → List ℕ → List ℕ → Type 0
KeepsWordDemand side n t k w = (bs : List ℕ) (xs : List Seen) → WordCalls side n w bs xs → WordDemand side n t k w bs xs

-- every list of calls, on words u that hold a fresh run, that leaves the words w, with the call added that has the budget b and of which x is seen
abbrev pub CarriesWordDemand : (Table → Side) → ℕ → List ℕ → ℕ → Seen → Type 0
CarriesWordDemand side n w b x =
    value_refusal side (value_at n w) ≡ 0 → 131 ≤ length x.lent
    → (u : List ℕ) → FreshWords n (value_at n w).table (value_at n w).order false u
    → (bs : List ℕ) (xs : List Seen) → WordCalls side n u bs xs → left_words u xs ≡ w
    → WordDemand side n (value_at n w).table (value_at n w).order u (bs ++ (b ∷ [])) (xs ++ (x ∷ []))

-- ---- the same of the runs that omit
abbrev pub WordOmits : (Table → Side) → ℕ → Table → List ℕ → List ℕ → List ℕ → List Seen → Type 0
WordOmits side n t k w bs xs = InWords n w (paused t k true fresh) (RunOmits side t k (paused t k true fresh) bs) xs

abbrev pub KeepsWordOmits : (Table → Side) → ℕ → Table → List ℕ → List ℕ → Type 0
KeepsWordOmits side n t k w = (bs : List ℕ) (xs : List Seen) → WordCalls side n w bs xs → WordOmits side n t k w bs xs

abbrev pub CarriesWordOmits : (Table → Side) → ℕ → List ℕ → ℕ → Seen → Type 0
CarriesWordOmits side n w b x =
    value_refusal side (value_at n w) ≡ 0 → 131 ≤ length x.lent
    → (u : List ℕ) → FreshWords n (value_at n w).table (value_at n w).order true u
    → (bs : List ℕ) (xs : List Seen) → WordCalls side n u bs xs → left_words u xs ≡ w
    → WordOmits side n (value_at n w).table (value_at n w).order u (bs ++ (b ∷ [])) (xs ++ (x ∷ []))

-- ---- two runs
-- the run of one side in the words w, with the preference in k, and that of a side with number m in words u, with the one in j, each called on to its
-- end, hand out one set
abbrev pub SharesWords : (Table → Side) → (Table → Side) → ℕ → ℕ → Table → List ℕ → List ℕ → List ℕ → Type 0
SharesWords side other n m t k j w =
    preferred_refusal t (other t).count j ≡ 0 → (u : List ℕ) → FreshWords m t j false u
    → (bs cs : List ℕ) (xs ys : List Seen) → WordCalls side n w bs xs → WordCalls other m u cs ys → Ends (steps_read n xs) → Ends (steps_read m ys)
    → OneSet t (handed_sets (steps_read n xs)) (handed_sets (steps_read m ys))

-- with every run of the table, of either side and with any preference
pub record SharesAllWords (side : Table → Side) (n : ℕ) (t : Table) (k w : List ℕ) : Type 0 where
  pub gauges : (j : List ℕ) → length j ≡ 64 → SharesWords side gauge_side n 1 t k j w
  pub cases : (j : List ℕ) → length j ≡ 64 → SharesWords side case_side n 2 t k j w
