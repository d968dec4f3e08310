-- The chain of `rows_within`, said of the definition.
use mathlib.Core.Path.{◌≡◌, refl, ap}
use mathlib.Core.Bool.{◌&&◌}
use mathlib.Core.List.{List, [], ◌∷◌}
use Prim.Native.Nat.{ℕ}
use lib.ListN.{length}
use lib.Bits.{bit_and}
use Rattle.std.specs.Prelude.{◌==◌}
use Rattle.std.specs.List.{list_all, zip}
use Rattle.sets.specs.Sets.{is_subset, meet}
use Rattle.table.specs.Tables.{rows_within}

pub rows_within_zip : (r s : List ℕ) → length s ≡ length r → rows_within r s ≡ list_all (λ p. bit_and p.1 p.0 == p.1) (zip r s)
unfolding rows_within is_subset meet
rows_within_zip [] [] h = refl
rows_within_zip [] (b ∷ s) h = cc
rows_within_zip (a ∷ r) [] h = refl
rows_within_zip (a ∷ r) (b ∷ s) h = ap (λ x. (bit_and b a == b) && x) (rows_within_zip r s cc)
