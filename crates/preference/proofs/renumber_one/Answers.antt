-- `preference::renumber_one` meets its contract.
use mathlib.Core.Path.{refl}
use Rattle.preference.proofs.Gathering.{one_zero, one_large, one_past, one_in}
use Rattle.preference.proofs.renumber_one.Goals as goal

pub returns-then-g-eq0 : goal.returns-then-g-eq0
returns-then-g-eq0 c = one_zero _ _ _ _ c.if-g-eq0.true refl

pub returns-then-n-g : goal.returns-then-n-g
returns-then-n-g c = one_large _ _ _ _ c.if-g-eq0.false c.if-n-g.true refl

pub returns-then-g-gt-MOST : goal.returns-then-g-gt-MOST
returns-then-g-gt-MOST c = one_past _ _ _ c.if-g-eq0.false c.if-n-g.false c.if-g-gt-MOST.true

pub returns : goal.returns
returns c = one_in _ _ _ _ c.if-g-eq0.false c.if-n-g.false c.if-g-gt-MOST.false c.from.ensures
