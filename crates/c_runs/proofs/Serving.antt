-- What the library promises, of the words that were read: the table, the preference and the value by the equations of reading.
use mathlib.Core.Path.{◌≡◌, refl, subst}
use mathlib.Core.Bool.{Bool}
use mathlib.Core.List.{List}
use Prim.Native.Nat.{ℕ}
use Rattle.refusals.specs.Answers.{Answer}
use Rattle.table.specs.declared.Table.{Table}
use Rattle.lists.specs.Lists.{Side}
use Rattle.runs.specs.Paused.{Value}
use Rattle.runs.specs.Calling.{Step, outcome}
use Rattle.runs.specs.declared.paused.Outcome.{Outcome}
use Rattle.runs.specs.declared.paused.Outcome.TheVariants.{HandedOut, Spent, End}
use Rattle.runs.specs.Sides.{side_of}
use Rattle.words.specs.Layouts.{table_at, numbers_at}
use Rattle.run_words.specs.Values.{side_word, value_at, refusal_number}
use Rattle.c_runs.specs.Serving.{FreshStart, RunCall}

pub start_at : {side : Table → Side} {b : Bool} {t : Table} {k : List ℕ} {a : Answer Value} (w o : List ℕ) → t ≡ table_at 0 w → k ≡ numbers_at 0 o
    → FreshStart side t k b a → FreshStart side (table_at 0 w) (numbers_at 0 o) b a
start_at w o e d f = rw (e, d) at f

pub call_at : (b : Bool) {n : ℕ} {v : Value} {s : Step} (w : List ℕ) → v ≡ value_at (side_word b) w → RunCall (side_of b) v n s
    → RunCall (side_of b) (value_at (side_word b) w) n s
call_at b {n} {v} {s} w e f = subst (λ (u : Value). RunCall (side_of b) u n s) e f

-- the number of an answer that is not refused
pub outcome_accepted : {S : Type 0} (o : Outcome S) → 0 ≡ refusal_number (outcome o)
outcome_accepted (HandedOut l) = refl
outcome_accepted Spent = refl
outcome_accepted End = refl
