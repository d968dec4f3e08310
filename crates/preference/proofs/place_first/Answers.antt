-- `preference::place_first` meets its contract: the numbers passed are marked; one that cannot be is in no preference.
use native.Mathlib.Omega.{arith}
use Rattle.preference.proofs.Placing.{marked_none, not-zero, not-large, not-again, none_placed, place_done}
use Rattle.preference.proofs.place_first.Goals as goal

pub loop-i-init : goal.loop-i-init
loop-i-init c = marked_none _ _

pub returns-then-g-eq0 : goal.returns-then-g-eq0
returns-then-g-eq0 c =
    none_placed _ _ c.requires.0 c.requires.1
    (not-zero _ _ _ _ c.requires.0 c.loop-i.invariant c.loop-i-test.true _ c.from-g.ensures c.requires.1
    c.if-g-eq0.true)

pub returns-then-n-g : goal.returns-then-n-g
returns-then-n-g c =
    none_placed _ _ c.requires.0 c.requires.1
    (not-large _ _ _ _ c.requires.0 c.loop-i.invariant c.loop-i-test.true _ c.from-g.ensures c.requires.1
    c.if-n-g.true)

pub returns-then-places-g-ne0 : goal.returns-then-places-g-ne0
returns-then-places-g-ne0 c =
    none_placed _ _ c.requires.0 c.requires.1
    (not-again _ _ _ _ c.requires.0 c.loop-i.invariant c.loop-i-test.true _ c.from-g.ensures c.requires.1
    c.if-g-eq0.false c.if-places-g-ne0.true)

pub returns : goal.returns
returns c = place_done _ _ _ _ c.requires.0 c.requires.1 c.loop-i.invariant (omega arith) c.requires.2
