-- What an entry of the C library gives: a number, and words in lent slices. The number is 0 where the entry accepts what it was handed, 100 where a
-- lent slice is shorter than its layout, and else that of the refusal in 01 and 02. A slice that the entry writes to has the answer's words over its
-- front where the number is 0; the words behind them, and every word where the number is not 0, stay as they were.
--
-- In order: what is left in a slice; an entry that writes to one slice (`Gives`), and to two (`GivesTwo`): over the library's promise P of its
-- answer, the answer's number and its words.
use Rattle.std.specs.Prelude.{◌≡◌, cond, List, ℕ, eqb}
use Rattle.std.proofs.lemmas.List.Edits.{sets as stored}

-- the words vs over the front of the slice w where the number n is 0, else w
abbrev pub words_after : ℕ → List ℕ → List ℕ → List ℕ
words_after n vs w = cond (eqb n 0) (stored w 0 vs) w

-- an answer x of the library, its number r, and its words left in the slice
pub record Served {X : Type 0} (P : X → Type 0) (number : X → ℕ) (words : X → List ℕ) (out out' : List ℕ) (r : ℕ) : Type 0 where
  pub answer : X
  pub promised : P answer
  pub says : r ≡ number answer
  pub leaves : out' ≡ words_after r (words answer) out

-- "100 where a lent slice is shorter than its layout", and nothing is written; else an answer
pub record Gives {X : Type 0} (Short : Type 0) (P : X → Type 0) (number : X → ℕ) (words : X → List ℕ) (out out' : List ℕ) (r : ℕ) : Type 0 where
  pub short : Short → (r ≡ 100) × (out' ≡ out)
  pub served : ¬ Short → Served P number words out out' r

-- the same of an entry that writes to two slices
pub record ServedTwo {X : Type 0} (P : X → Type 0) (number : X → ℕ) (first second : X → List ℕ) (a b a' b' : List ℕ) (r : ℕ) : Type 0 where
  pub answer : X
  pub promised : P answer
  pub says : r ≡ number answer
  pub leaves_first : a' ≡ words_after r (first answer) a
  pub leaves_second : b' ≡ words_after r (second answer) b

pub record GivesTwo {X : Type 0} (Short : Type 0) (P : X → Type 0) (number : X → ℕ) (first second : X → List ℕ) (a b a' b' : List ℕ) (r : ℕ) : Type 0 where
  pub short : Short → (r ≡ 100) × (a' ≡ a) × (b' ≡ b)
  pub served : ¬ Short → ServedTwo P number first second a b a' b' r
