-- What the entry gives that writes an order: in words, what the library's own function promises of the table and the two chains that the words read
-- as. The bytes are left as that function leaves them, as they were where it refuses.
--
-- Elsewhere: the layouts, words/specs/Layouts; the number returned and what a slice of words is left with, words/specs/Serving.
use Rattle.std.specs.Prelude.{◌≡◌, ◌⊎◌, List, [], ◌∷◌, ℕ, ◌<◌, length}
use Rattle.refusals.specs.Answers.{Answer}
use Rattle.table.specs.declared.Table.{Table}
use Rattle.table.specs.declared.Chain.{Chain}
use Rattle.wiring.specs.Wiring.{Wires}
use Rattle.words.specs.Layouts.{table_at, chain_at}
use Rattle.words.specs.Serving.{words_after}

pub record OrderedWords (t : Table) (s x : Chain) (bytes count bytes' count' : List ℕ) (r : ℕ) : Type 0 where
  pub answer : Answer ℕ
  pub wires : Wires t s x bytes answer bytes'
  pub number : r ≡ answer.refusal
  pub counted : count' ≡ words_after r (answer.value ∷ []) count

-- a slice of words is shorter than its layout
abbrev pub ShortOrder : List ℕ → List ℕ → List ℕ → List ℕ → Type 0
ShortOrder t s x count = (length t < 66) ⊎ ((length s < 65) ⊎ ((length x < 65) ⊎ (length count < 1)))

-- the order from the chain s to the ladder x of the table t, and how many pairs it has
pub record OrdersWords (t s x bytes count bytes' count' : List ℕ) (r : ℕ) : Type 0 where
  pub short : ShortOrder t s x count → (r ≡ 100) × (bytes' ≡ bytes) × (count' ≡ count)
  pub served : ¬ ShortOrder t s x count → OrderedWords (table_at 0 t) (chain_at 0 s) (chain_at 0 x) bytes count bytes' count' r
