-- `judge::widest` meets its contract: after `j` rows it is the definition's widest row over these.
use mathlib.Core.Path.{◌≡◌, sym, ap, ◌∙◌}
use native.Mathlib.Omega.{arith}
use Rattle.judge.specs.WidestRows.{widest}
use Rattle.judge.proofs.RowLoops.{widest_past, widest_long, widest_in, widest_start, widest_more}
use Rattle.judge.proofs.widest.Goals as goal

pub returns-then-i-ge-ROWS : goal.returns-then-i-ge-ROWS
returns-then-i-ge-ROWS c = widest_past _ _ _ _ c.if-i-ge-ROWS.true

pub returns-then-n-gt-ROWS : goal.returns-then-n-gt-ROWS
returns-then-n-gt-ROWS c = widest_long _ _ _ _ c.if-n-gt-ROWS.true

pub loop-j-init : goal.loop-j-init
loop-j-init c = widest_start _ _ _

pub loop-j-preserved : goal.loop-j-preserved
loop-j-preserved c = widest_more _ _ _ _ _ _ c.loop-j.invariant c.narrowed-wide.ensures

pub returns : goal.returns
returns c =
    let e : c.loop-j.j ≡ c.args.n = omega arith in
    c.loop-j.invariant ∙ ap (widest _ _ _) e ∙ sym (widest_in _ _ _ _ c.if-i-ge-ROWS.false c.if-n-gt-ROWS.false)
