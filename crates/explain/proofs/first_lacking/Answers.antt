-- `explain::first_lacking` meets its contract: what is found from the turn's place on is what is found at all (`Ahead`).
use native.Mathlib.Omega.{arith}
use Rattle.explain.proofs.Searching.{found-own, found-lacking, found-on, found_none}
use Rattle.explain.proofs.first_lacking.Goals as goal

pub returns-then-x-own : goal.returns-then-x-own
returns-then-x-own c = found-own _ _ _ _ _ c.requires _ c.loop-i-test.true c.loop-i.invariant _ c.from-x.ensures c.if-x-own.true

pub returns-then-not-has : goal.returns-then-not-has
returns-then-not-has c = (
  omega arith,
  found-lacking _ _ _ _ _ c.requires _ c.loop-i-test.true c.loop-i.invariant _ c.from-x.ensures c.if-x-own.false _ c.has.ensures c.if-not-has.true,
)

pub loop-i-preserved : goal.loop-i-preserved
loop-i-preserved c =
    found-on _ _ _ _ _ c.requires _ c.loop-i-test.true c.loop-i.invariant _ c.from-x.ensures c.if-x-own.false _
    c.has.ensures c.if-not-has.false

pub returns : goal.returns
returns c = found_none _ _ _ _ _ c.requires _ c.loop-i-test.false c.loop-i.invariant
