-- Readings put over the front of a slice.
use Rattle.std.specs.Prelude.{◌≡◌, List, ℤ}
use Rattle.std.proofs.lemmas.List.Edits.{sets as stored}

-- v' is v with the readings vs over its front; every other reading is as it was, and so is the length
pub record PutReadings (v vs v' : List ℤ) : Type 0 where
  pub values : v' ≡ stored v 0 vs
