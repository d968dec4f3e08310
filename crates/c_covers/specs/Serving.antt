-- What the entry gives that looks for the fewest ladders: in words, what the library's own function promises of the table that the words read as. A
-- cover has 523 words: 0 what it is (1 covered, 2 spent), 1 the least number, 2 the ladders tried, and then 8 chains, 65 words each, blank ones
-- behind the cover.
--
-- Elsewhere: the layouts, words/specs/Layouts; the number returned and what a slice is left with, words/specs/Serving.
use Rattle.std.specs.Prelude.{◌≡◌, cond, ◌⊎◌, List, [], ◌∷◌, ℕ, ◌+◌, ◌<◌, eqb, length}
use Rattle.std.proofs.lemmas.List.Edits.{sets as stored}
use Rattle.table.specs.declared.Table.{Table}
use Rattle.table.specs.declared.Chain.{Chain}
use Rattle.mechanisms.specs.Covering.{CoverReply, covered, spent, refused, Reading, Covers}
use Rattle.words.specs.Layouts.{table_at, chain_words}

abbrev pub reply_number : CoverReply → ℕ
reply_number covered = 0
reply_number spent = 0
reply_number (refused n) = n

abbrev pub reply_kind : CoverReply → ℕ
reply_kind covered = 1
reply_kind spent = 2
reply_kind (refused n) = 0

-- w with the chains from place a on, 65 words each
unfoldable pub with_chains : List ℕ → ℕ → List Chain → List ℕ
with_chains w a [] = w
with_chains w a (s ∷ ss) = with_chains (stored w a (chain_words s)) (a + 65) ss

pub record PutChains (w : List ℕ) (a : ℕ) (ss : List Chain) (w' : List ℕ) : Type 0 where
  pub words : w' ≡ with_chains w a ss

-- the slice with an answer over its front
abbrev pub with_cover : Reading → List ℕ → List ℕ
with_cover x w = with_chains (stored w 0 (reply_kind x.reply ∷ (x.number ∷ (x.tried ∷ [])))) 3 x.cover

-- the answer of the library for the table t and the budget b, its number, and what is left in the slice
pub record CoveredWords (t : Table) (b : ℕ) (out out' : List ℕ) (r : ℕ) : Type 0 where
  pub answer : Reading
  pub covers : Covers t b answer
  pub number : r ≡ reply_number answer.reply
  pub leaves : out' ≡ cond (eqb r 0) (with_cover answer out) out

pub record CoversWords (t : List ℕ) (b : ℕ) (out out' : List ℕ) (r : ℕ) : Type 0 where
  pub short : (length t < 66) ⊎ (length out < 523) → (r ≡ 100) × (out' ≡ out)
  pub served : ¬ ((length t < 66) ⊎ (length out < 523)) → CoveredWords (table_at 0 t) b out out' r
