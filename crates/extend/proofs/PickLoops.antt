-- What each answer of the private steps says of the tests in specs/private/PickSteps.antt. The search for the lowest uses the laws of crate `search`.
use mathlib.Core.Path.{◌≡◌, sym, ap, ◌∙◌}
use mathlib.Core.Bool.{Bool, true, false, ◌&&◌, and-true, and-false}
use mathlib.Core.List.{List}
use Prim.Native.Nat.{ℕ}
use lib.Bits.{bit_and}
use Rattle.sets.specs.Sets.{meet, is_subset}
use Rattle.table.specs.Pairs.{row}
use Rattle.search.specs.Finding.{candidate_in, within}
use Rattle.extend.specs.private.PickSteps.{fits_in}

module _ (rows : List ℕ) (unpicked left owed g : ℕ) (t : Bool) (e : t ≡ is_subset owed (bit_and (row rows g) left)) where
  abbrev candidate : Bool
  candidate = candidate_in (within unpicked rows) left 64 g

  pub fits_not : t ≡ false → false ≡ fits_in rows unpicked left owed g
  unfolding fits_in meet
  fits_not d = sym (ap (λ (b : Bool). candidate && b) (sym e ∙ d) ∙ and-false candidate)

  pub fits_candidate : t ≡ true → (r : Bool) → r ≡ candidate → r ≡ fits_in rows unpicked left owed g
  unfolding fits_in meet
  fits_candidate d r c = c ∙ sym (ap (λ (b : Bool). candidate && b) (sym e ∙ d) ∙ and-true candidate)
