-- `preference::plain_number` meets its contract: lifted, a place stays below 128 exactly where it is one of the first numbers.
use mathlib.Core.Path.{refl}
use native.Mathlib.Omega.{arith}
use Rattle.preference.proofs.PlainOrder.{plain_front, plain_rest}
use Rattle.preference.proofs.plain_number.Goals as goal

pub returns-then-i-lift-lt128 : goal.returns-then-i-lift-lt128
returns-then-i-lift-lt128 c = plain_front _ _ _ (omega (arith, c.if-i-lift-lt128.true)) refl

pub returns : goal.returns
returns c = plain_rest _ _ (omega (arith, c.if-i-lift-lt128.false))
