-- Growing a chain (01: "**Growing**: a chain of the table is answered by the first ladder in gauge order that contains it"; 02, R-12: "a growth
-- now take a preference", by which that order goes). That there is exactly one for every chain of the table, and how it is found, is proved in
-- proofs/Growing.antt.
use Rattle.std.specs.Prelude.{◌≡◌, ◌⊎◌, List, ℕ}
use Rattle.table.specs.Pairs.{Within}
use Rattle.table.specs.Chains.{IsMaximal}
use Rattle.lists.specs.Lists.{Earlier}

-- x is the first maximal chain, of the table whose rows are r, that contains s, by the order of the keys: every other one that contains s comes
-- after it
pub record FirstContaining (r : List ℕ) (key : List ℕ → List ℕ) (s x : List ℕ) : Type 0 where
  pub maximal : IsMaximal r x
  pub contains : Within x s
  pub first : (y : List ℕ) → IsMaximal r y → Within y s → (y ≡ x) ⊎ Earlier key x y
