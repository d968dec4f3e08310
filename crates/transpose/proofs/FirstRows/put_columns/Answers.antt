-- `transpose::FirstRows::put_columns` meets its contract: the columns below `k` are put.
use Rattle.std.proofs.Common.{◌≡◌, ◌+◌, ◌*◌, arith}
use Rattle.transpose.proofs.Columns.{putting_none, putting_more, putting_four}
use Rattle.transpose.proofs.FirstRows.put_columns.Goals as goal

pub loop-q-init : goal.loop-q-init
loop-q-init c = putting_none _ _ _

pub loop-q-preserved : goal.loop-q-preserved
loop-q-preserved c =
    let e : 4 * (c.loop-q.q + 1) ≡ 4 * c.loop-q.q + 4 = omega arith in
    rw e (putting_four _ _ _ _ _ _ c.loop-q.invariant c.four_columns-f.ensures)

pub loop-k-preserved : goal.loop-k-preserved
loop-k-preserved c = putting_more _ _ _ _ _ _ c.loop-k.invariant c.column.ensures
