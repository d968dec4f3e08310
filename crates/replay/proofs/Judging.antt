-- What each answer of the steps says: a pick beside the left cases, and an unpicked gauge against the picks.
use mathlib.Core.Path.{◌≡◌, refl}
use mathlib.Core.Bool.{true}
use mathlib.Core.List.{List}
use Prim.Native.Nat.{ℕ}
use lib.Bits.{bit_and}
use Rattle.table.specs.Pairs.{row}
use Rattle.search.proofs.Within.{yes_no_lem, Passed, passed_all}
use Rattle.replay.specs.private.Steps.{Goes, NoneAgainst}

module _ (rows : List ℕ) (u left before last : ℕ) where
  abbrev pub Quiet : ℕ → Type 0
  Quiet h = bit_and (row rows h) left ≡ left → Goes (row rows h) before left last h

  pub none_all : (rest : ℕ) → Passed Quiet u rest → rest ≡ 0 → NoneAgainst rows u left before last true
  none_all rest p e = record { yes = λ x h b. passed_all Quiet u rest p e h b; no = λ x. yes_no_lem true refl x }
