-- What the entries give that ask why a pair is not in the ladder of a paused run: in words, what the library's own function promises of the value
-- that the words read as.
--
-- Elsewhere: the layouts, run_words/specs/Values; the number returned and what a slice is left with, words/specs/Serving.
use Rattle.std.specs.Prelude.{◌⊎◌, List, [], ◌∷◌, ℕ, ◌<◌, length}
use Rattle.refusals.specs.Answers.{Answer}
use Rattle.table.specs.declared.Table.{Table}
use Rattle.lists.specs.Lists.{Side}
use Rattle.explain.specs.Reasons.{Question, Explained, HasReasons}
use Rattle.words.specs.Serving.{Gives}
use Rattle.run_words.specs.Values.{value_at}

-- the run in the words w of the side with number n, asked about the pair g:c
abbrev pub Explains : (Table → Side) → (Table → ℕ → ℕ → Question) → ℕ → List ℕ → ℕ → ℕ → List ℕ → List ℕ → ℕ → Type 0
Explains side question n w g c out out' r =
    Gives ((length w < 199) ⊎ (length out < 1))
    (Explained side question (value_at n w) g c)
    (λ (a : Answer ℕ). a.refusal)
    (λ (a : Answer ℕ). a.value ∷ [])
    out
    out'
    r

-- R-6's claim of every pair and the ladder of that run
abbrev pub ClaimsReasons : (Table → Side) → (Table → ℕ → ℕ → Question) → ℕ → List ℕ → Type 0
ClaimsReasons side question n w = HasReasons side question (value_at n w)
