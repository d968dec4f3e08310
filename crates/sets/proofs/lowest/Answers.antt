-- `sets::lowest` meets its contract: the formula is the definition's own (`lowest_up`, `lowest_past`), and the shift is a power of two (`power`).
use mathlib.Core.Path.{sym, ◌∙◌, ap}
use Prim.Native.Nat.{ℕ, ◌-◌}
use native.Mathlib.Omega.{arith}
use borrow.Author.Rules.{rules}
use Rattle.sets.proofs.Masks.{lowest_up, lowest_past}
use Rattle.sets.proofs.OnePlace.{power}
use Rattle.sets.proofs.lowest.Goals as goal

pub returns-then-n-ge-PLACES : goal.returns-then-n-ge-PLACES
returns-then-n-ge-PLACES c = sym (lowest_past _ (omega (arith, c.if-n-ge-PLACES.true)))

pub returns : goal.returns
returns c = ap (λ (x : ℕ). x - 1) (power c.args.n (search rules)) ∙ sym (lowest_up c.args.n (search rules))
