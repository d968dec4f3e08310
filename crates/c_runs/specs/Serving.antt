-- What the entries on runs give. A fresh start reads a table and a preference and puts a paused value; a run call reads a paused value, puts the next
-- one in its place, and puts its answer. In words each is what the library's own start or call promises of the table, the preference or the value
-- that the words read as (`gives`); and demand 3 holds of every list of calls on the words that a start left.
--
-- Elsewhere: the layouts, words/specs/Layouts and run_words/specs/Values; the number returned and what a slice is left with, words/specs/Serving;
-- lists of calls on one slice, Calls.antt.
use Rattle.std.specs.Prelude.{◌≡◌, ◌⊎◌, Bool, true, false, not, List, ℕ, ◌<◌, eqb, length}
use Rattle.refusals.specs.Answers.{Answer, answer}
use Rattle.table.specs.declared.Table.{Table}
use Rattle.rules.specs.Machine.{fresh}
use Rattle.lists.specs.Lists.{Side}
use Rattle.preference.specs.Preferences.{preferred_refusal}
use Rattle.runs.specs.Paused.{Value, paused, blank_value}
use Rattle.runs.specs.Calling.{Step, Called}
use Rattle.runs.specs.Demand.{KeepsDemand, CarriesDemand, SharesAll}
use Rattle.runs.specs.Omitting.{CalledEither, KeepsOmits, CarriesOmits}
use Rattle.words.specs.Layouts.{table_at, numbers_at}
use Rattle.words.specs.Serving.{Gives}
use Rattle.run_words.specs.Values.{value_words}
use Rattle.c_runs.specs.Calls.{GivesCall, KeepsWordDemand, CarriesWordDemand, KeepsWordOmits, CarriesWordOmits, SharesAllWords}

-- what the library promises of a fresh start
pub record FreshStart (side : Table → Side) (t : Table) (k : List ℕ) (omit : Bool) (a : Answer Value) : Type 0 where
  pub is : a ≡ answer (preferred_refusal t (side t).count k) (paused t k omit fresh) blank_value
  pub demand : omit ≡ false → KeepsDemand side t k a.value
  pub shared : omit ≡ false → SharesAll side t k a.value
  pub omits : omit ≡ true → KeepsOmits side t k a.value

-- a fresh start of the side with number n: the table t, the preference o, whether it omits (not where omit is 0), and the slice that gets the value.
-- Where it returns 0, every list of calls on the words that it left is as promised.
pub record Starts (side : Table → Side) (n : ℕ) (t o : List ℕ) (omit : ℕ) (out out' : List ℕ) (r : ℕ) : Type 0 where
  pub gives :
      Gives ((length t < 66) ⊎ ((length o < 64) ⊎ (length out < 199)))
      (FreshStart side (table_at 0 t) (numbers_at 0 o) (not (eqb omit 0)))
      (λ (a : Answer Value). a.refusal)
      (λ (a : Answer Value). value_words n a.value)
      out
      out'
      r
  pub demand : r ≡ 0 → omit ≡ 0 → KeepsWordDemand side n (table_at 0 t) (numbers_at 0 o) out'
  pub shared : r ≡ 0 → omit ≡ 0 → SharesAllWords side n (table_at 0 t) (numbers_at 0 o) out'
  pub omits : r ≡ 0 → ¬ (omit ≡ 0) → KeepsWordOmits side n (table_at 0 t) (numbers_at 0 o) out'

-- what the library promises of a run call on the value v with the budget b
pub record RunCall (side : Table → Side) (v : Value) (b : ℕ) (s : Step) : Type 0 where
  pub called : Called side v b s
  pub demand : CarriesDemand side v b s
  pub either : CalledEither side v b s
  pub omits : CarriesOmits side v b s

-- a call of the run in the words w of the side with number n, with the budget b: the next value in their place, and the answer; and it carries on what
-- was promised of every list of calls that left these words
pub record Runs (side : Table → Side) (n : ℕ) (w : List ℕ) (b : ℕ) (out w' out' : List ℕ) (r : ℕ) : Type 0 where
  pub gives : GivesCall (RunCall side) n w b (record { lent = out; number = r; run = w'; step = out' })
  pub demand : CarriesWordDemand side n w b (record { lent = out; number = r; run = w'; step = out' })
  pub omits : CarriesWordOmits side n w b (record { lent = out; number = r; run = w'; step = out' })
