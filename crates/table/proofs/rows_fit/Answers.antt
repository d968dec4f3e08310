-- `table::rows_fit` meets its contract: the rows fit exactly when the union of the first does and that of the others is empty.
use Rattle.table.proofs.Legality.{fit_wide, fit_past}
use Rattle.table.proofs.rows_fit.Goals as goal

pub returns-then-not-subset : goal.returns-then-not-subset
returns-then-not-subset c =
    fit_wide _ _ _ _ _ _ _ c.requires.2 c.requires.0 c.requires.1 c.union_of-used.ensures c.union_of-rest.ensures c.lowest.ensures
    c.subset.ensures (c.if-not-subset.true)

pub returns : goal.returns
returns c =
    fit_past _ _ _ _ _ _ _ c.requires.2 c.requires.0 c.requires.1 c.union_of-used.ensures c.union_of-rest.ensures c.lowest.ensures
    c.subset.ensures (c.if-not-subset.false)
