-- What the entries give that count ladders and make sample tables: in words, what the library's own function promises of the table and the preference
-- that the words read as. A count has three words: 1 where the ladders were counted and 2 where the budget was spent, the ladders, 0 where it was
-- spent, and the calls.
--
-- Elsewhere: the layouts, words/specs/Layouts; the number returned and what a slice is left with, words/specs/Serving.
use Rattle.std.specs.Prelude.{◌≡◌, ◌⊎◌, List, [], ◌∷◌, ℕ, ◌<◌, length}
use Rattle.refusals.specs.Answers.{Answer}
use Rattle.table.specs.declared.Table.{Table}
use Rattle.count.specs.Counting.{CountAnswer, refused, spent, counted, Counts}
use Rattle.samples.specs.Samples.{sample_table}
use Rattle.words.specs.Layouts.{table_at, numbers_at, table_words}
use Rattle.words.specs.Serving.{Gives}

abbrev pub count_number : CountAnswer → ℕ
count_number (refused n) = n
count_number (spent calls) = 0
count_number (counted ladders calls) = 0

abbrev pub count_kind : CountAnswer → ℕ
count_kind (refused n) = 0
count_kind (spent calls) = 2
count_kind (counted ladders calls) = 1

abbrev pub count_ladders : CountAnswer → ℕ
count_ladders (refused n) = 0
count_ladders (spent calls) = 0
count_ladders (counted ladders calls) = ladders

abbrev pub count_calls : CountAnswer → ℕ
count_calls (refused n) = 0
count_calls (spent calls) = calls
count_calls (counted ladders calls) = calls

-- the count of the ladders of the table t under the preference o, with the budget b
abbrev pub CountsWords : List ℕ → List ℕ → ℕ → List ℕ → List ℕ → ℕ → Type 0
CountsWords t o b out out' r =
    Gives ((length t < 66) ⊎ ((length o < 64) ⊎ (length out < 3)))
    (Counts (table_at 0 t) (numbers_at 0 o) b)
    count_number
    (λ (a : CountAnswer). count_kind a ∷ (count_ladders a ∷ (count_calls a ∷ [])))
    out
    out'
    r

-- the sample table of a shape, a start and a density
abbrev pub Samples : ℕ → ℕ → ℕ → ℕ → List ℕ → List ℕ → ℕ → Type 0
Samples g l start density out out' r =
    Gives (length out < 66)
    (λ (a : Answer Table). a ≡ sample_table g l start density)
    (λ (a : Answer Table). a.refusal)
    (λ (a : Answer Table). table_words a.value)
    out
    out'
    r
