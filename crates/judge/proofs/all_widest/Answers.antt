-- `judge::all_widest` meets its contract: the test holds at each row passed.
use mathlib.Core.Path.{refl}
use mathlib.Core.Bool.{true, false}
use native.Mathlib.Omega.{arith}
use borrow.Author.Tests.{eq-eqb, ne_eqb}
use Rattle.sets.proofs.Tabulated.{all_none, all_more, all_fails, all_done}
use Rattle.judge.proofs.RowLoops.{widest_test}
use Rattle.judge.specs.private.RowTests.{all_widest}
use Rattle.judge.proofs.all_widest.Goals as goal

pub loop-i-init : goal.loop-i-init
loop-i-init c = all_none _

pub returns-then-most-rows : goal.returns-then-most-rows
unfolding all_widest
returns-then-most-rows c =
    all_fails _ _ c.loop-i.i false c.loop-i-test.true
    (widest_test c.args.outer.now _ _ _ _ _ c.loop-i-test.true c.requires
    c.widest-most.ensures (ne_eqb _ _ c.if-most-rows.true)) refl

pub loop-i-preserved : goal.loop-i-preserved
loop-i-preserved c =
    all_more _ _ true c.loop-i.invariant
    (widest_test c.args.outer.now _ _ _ _ _ c.loop-i-test.true c.requires
    c.widest-most.ensures (eq-eqb _ _ c.if-most-rows.false)) refl

pub returns : goal.returns
unfolding all_widest
returns c = all_done _ _ _ c.loop-i.invariant (omega arith)
