-- What the entries give that are asked for the pick sequence of a ladder: in words, what the library's own function
-- promises of the table, the preference and the set that the words read as.
--
-- Elsewhere: the layouts, words/specs/Layouts; the number returned and what a slice is left with,
-- words/specs/Serving; that there is one such answer, for every input, proofs/Answers.antt.
use Rattle.std.specs.Prelude.{◌⊎◌, List, ℕ, ◌<◌, length}
use Rattle.refusals.specs.Answers.{Answer}
use Rattle.table.specs.declared.Table.{Table}
use Rattle.lists.specs.Lists.{Side}
use Rattle.sequence.specs.Sequencing.{Sequenced}
use Rattle.words.specs.Layouts.{table_at, chain_at, numbers_at}
use Rattle.words.specs.Serving.{Gives}

-- the pick sequence of the set s on the side of the table t, under the preference o: 64 numbers, padded with zeros
abbrev pub GivesSequence : (Table → Side) → List ℕ → List ℕ → List ℕ → List ℕ → List ℕ → ℕ → Type 0
GivesSequence side t o s out out' r =
    Gives ((length t < 66) ⊎ ((length o < 64) ⊎ ((length s < 65) ⊎ (length out < 64))))
    (Sequenced side (table_at 0 t) (numbers_at 0 o) (chain_at 0 s))
    (λ (a : Answer (List ℕ)). a.refusal)
    (λ (a : Answer (List ℕ)). a.value)
    out
    out'
    r
