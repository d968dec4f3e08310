-- The returns of the entry: a slice too short, a refusal, and an answer whose words are put.
use mathlib.Core.Path.{refl}
use mathlib.Core.Logic.{◌⊎◌}
use mathlib.Core.List.{List}
use Prim.Native.Nat.{ℕ, ◌<◌}
use lib.ListN.{length}
use Rattle.c_covers.specs.Serving.{CoversWords}

pub covers_short : (w : List ℕ) (b : ℕ) (out : List ℕ) → (length w < 66) ⊎ (length out < 523) → CoversWords w b out out 100
covers_short w b out h = record { short = λ _. (refl, refl); served = λ n. absurd (n h) }

-- the library answered x; n is its number
