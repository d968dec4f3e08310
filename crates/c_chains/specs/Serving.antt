-- What the entries on chains and pairs give: in words, what the library's own function promises of the table, the chain and the preference that the
-- words read as.
--
-- Elsewhere: the layouts, words/specs/Layouts; the number returned and what a slice is left with, words/specs/Serving.
use Rattle.refusals.specs.declared.Refusal.{Refusal}
use Rattle.std.specs.Prelude.{◌≡◌, Bool, cond, ◌⊎◌, List, [], ◌∷◌, ℕ, ◌<◌, length, Result}
use Rattle.refusals.specs.Answers.{Answer}
use Rattle.table.specs.declared.Table.{Table}
use Rattle.table.specs.declared.Chain.{Chain}
use Rattle.table.specs.Tables.{table_rows, table_refusal, chain_refusal}
use Rattle.judge.specs.Judging.{judgement, Judged}
use Rattle.extend.specs.Extending.{Extends}
use Rattle.conflicts.specs.Conflicts.{Essential}
use Rattle.conflicts.specs.Covers.{ConflictClaims}
use Rattle.essentials.specs.Answers.{pair_refusal, GivesConflicts}
use Rattle.words.specs.Layouts.{table_at, chain_at, numbers_at, chain_words}
use Rattle.words.specs.Serving.{Gives}

-- 1 for yes and 0 for no
abbrev pub yes_no : Bool → ℕ
yes_no b = cond b 1 0

-- whether P holds of the table and the chain, after the checks of a chain
abbrev pub Judges : (Table → Chain → Type 0) → List ℕ → List ℕ → List ℕ → List ℕ → ℕ → Type 0
Judges P t s out out' r =
    Gives ((length t < 66) ⊎ ((length s < 65) ⊎ (length out < 1)))
    (Judged (chain_refusal (table_at 0 t) (chain_at 0 s)) (P (table_at 0 t) (chain_at 0 s)))
    (λ (j : Result Bool Refusal). (judgement j).refusal)
    (λ (j : Result Bool Refusal). yes_no (judgement j).value ∷ [])
    out
    out'
    r

-- the chain grown to a maximal one, under the preference o
abbrev pub Grows : List ℕ → List ℕ → List ℕ → List ℕ → List ℕ → ℕ → Type 0
Grows t o s out out' r =
    Gives ((length t < 66) ⊎ ((length o < 64) ⊎ ((length s < 65) ⊎ (length out < 65))))
    (Extends (table_at 0 t) (numbers_at 0 o) (chain_at 0 s))
    (λ (a : Answer Chain). a.refusal)
    (λ (a : Answer Chain). chain_words a.value)
    out
    out'
    r

-- the conflicts (02: rivals) of the pair g:c, by gauge rows
abbrev pub Conflicts : List ℕ → ℕ → ℕ → List ℕ → List ℕ → ℕ → Type 0
Conflicts t g c out out' r =
    Gives ((length t < 66) ⊎ (length out < 64))
    (GivesConflicts (table_at 0 t) g c)
    (λ (a : Answer (List ℕ)). a.refusal)
    (λ (a : Answer (List ℕ)). a.value)
    out
    out'
    r

-- R-2's theorems of the table in the words: both entries on pairs promise them of every table that 10 and 11 do not refuse
abbrev pub ClaimsConflicts : List ℕ → Type 0
ClaimsConflicts t = table_refusal (table_at 0 t) ≡ 0 → ConflictClaims (table_rows (table_at 0 t))

-- whether the pair g:c is essential (02: deciding)
abbrev pub Decides : List ℕ → ℕ → ℕ → List ℕ → List ℕ → ℕ → Type 0
Decides t g c out out' r =
    Gives ((length t < 66) ⊎ (length out < 1))
    (Judged (pair_refusal (table_at 0 t) g c) (Essential (table_rows (table_at 0 t)) g c))
    (λ (j : Result Bool Refusal). (judgement j).refusal)
    (λ (j : Result Bool Refusal). yes_no (judgement j).value ∷ [])
    out
    out'
    r
