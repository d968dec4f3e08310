-- Words put into a buffer that may be too short for them.
use Rattle.std.specs.Prelude.{◌≡◌, List, ℕ, ◌+◌, ◌≤◌, ◌<◌, length}
use Rattle.std.proofs.lemmas.List.Edits.{sets as stored}

-- the words vs are in the buffer from a place onward; where they have no room there, it is as before
pub record PutsIn (vs before : List ℕ) (at : ℕ) (now : List ℕ) : Type 0 where
  pub fits : at + length vs ≤ length before → now ≡ stored before at vs
  pub short : length before < at + length vs → now ≡ before
