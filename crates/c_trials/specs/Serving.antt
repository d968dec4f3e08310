-- What the entries on trials give: in words, what the library's own function promises of the table, the chain and the proposal that the words read
-- as. A proposal has 134 words: 0 to 65 its table, 66 to 130 its chain, 131 its gauge, 132 its case, 133 its effect (1 still a maximal chain, 2 only
-- a chain, 3 no longer within). A word that is no effect makes a proposal that no trial gives, that of gauge 0.
--
-- Elsewhere: the layouts, words/specs/Layouts; the number returned and what a slice is left with, words/specs/Serving.
use Rattle.std.specs.Prelude.{◌&&◌, cond, ◌⊎◌, List, [], ◌∷◌, ◌++◌, ℕ, ◌<◌, eqb, leb, length}
use Rattle.refusals.specs.Answers.{Answer}
use Rattle.table.specs.declared.Table.{Table}
use Rattle.trials.specs.Trials.{Tried, Committed}
use Rattle.trials.specs.declared.Proposal.{Proposal}
use Rattle.trials.specs.declared.Effect.{Effect}
use Rattle.trials.specs.declared.Effect.TheVariants.{StillMaximal, OnlyChain, NotWithin}
use Rattle.words.specs.Layouts.{word_at, table_at, chain_at, table_words, chain_words}
use Rattle.words.specs.Serving.{Gives}

-- ---- proposals
unfoldable pub effect_of : ℕ → Effect
effect_of x = cond (eqb x 1) StillMaximal (cond (eqb x 2) OnlyChain NotWithin)

unfoldable pub place_word : ℕ → ℕ → ℕ
place_word g x = cond (leb 1 x && leb x 3) g 0

abbrev pub proposal_at : List ℕ → Proposal
proposal_at w = record {
  table = table_at 0 w;
  chain = chain_at 66 w;
  gauge = record { 0 = place_word (word_at w 131) (word_at w 133) };
  case = record { 0 = word_at w 132 };
  effect = effect_of (word_at w 133);
}

abbrev pub effect_word : Effect → ℕ
effect_word StillMaximal = 1
effect_word OnlyChain = 2
effect_word NotWithin = 3

abbrev pub proposal_words : Proposal → List ℕ
proposal_words p = table_words p.table ++ chain_words p.chain ++ (p.gauge.0 ∷ (p.case.0 ∷ (effect_word p.effect ∷ [])))

-- ---- the trial of the chain s and the place g:c on the table t
abbrev pub Tries : List ℕ → List ℕ → ℕ → ℕ → List ℕ → List ℕ → ℕ → Type 0
Tries t s g c out out' r =
    Gives ((length t < 66) ⊎ ((length s < 65) ⊎ (length out < 134)))
    (Tried (table_at 0 t) (chain_at 0 s) g c)
    (λ (a : Answer Proposal). a.refusal)
    (λ (a : Answer Proposal). proposal_words a.value)
    out
    out'
    r

-- ---- the commit of the proposal p on the table t
abbrev pub Commits : List ℕ → List ℕ → List ℕ → List ℕ → ℕ → Type 0
Commits p t out out' r =
    Gives ((length p < 134) ⊎ ((length t < 66) ⊎ (length out < 66)))
    (Committed (proposal_at p) (table_at 0 t))
    (λ (a : Answer Table). a.refusal)
    (λ (a : Answer Table). table_words a.value)
    out
    out'
    r
