-- `search::stands` meets its contract: no place of the set that was passed rules the gauge out.
use mathlib.Core.Path.{◌≡◌}
use mathlib.Core.Bool.{false}
use Prim.Native.Nat.{ℕ}
use lib.Bits.{bit_and}
use lib.Dec.{ltb}
use Rattle.table.specs.Pairs.{row}
use Rattle.search.specs.Finding.{blocks}
use Rattle.search.proofs.Within.{Passed}
use Rattle.search.proofs.stands.Given as goal

abbrev pub invariant-loop-h : goal.invariant-loop-h
invariant-loop-h l = Passed (λ (h : ℕ). blocks (bit_and (row l.rows l.g) l.left) (bit_and (row l.rows h) l.left) (ltb h l.g) ≡ false) l.set (l.h-iterator).0
