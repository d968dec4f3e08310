-- Columns put from a place of a buffer on.
use Rattle.std.specs.Prelude.{◌≡◌, List, ℕ}
use Rattle.std.proofs.lemmas.List.Edits.{sets as stored}
use Rattle.transpose.specs.Transposing.{transpose}

-- the first k columns of the rows xs
pub record Putting (xs before : List ℕ) (at k : ℕ) (now : List ℕ) : Type 0 where
  pub words : now ≡ stored before at (transpose k xs)
