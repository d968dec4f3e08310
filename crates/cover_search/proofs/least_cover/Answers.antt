-- `cover_search::least_cover` meets its contract: before each k none was found, and what is left of the budget does for the rest (`Deepening`).
use Rattle.cover_search.proofs.Steps.{deepening-covers, deepening-spent, deepening-next, deepening_end}
use Rattle.cover_search.proofs.least_cover.Goals as goal

pub loop-k-preserved : goal.loop-k-preserved
loop-k-preserved c =
    deepening-next _ _ _ _ _ _ c.loop-k.invariant _ _ c.cover_left-found.ensures c.loop-k-test.true _ c.in-Nothing.is

pub returns-in-Cover : goal.returns-in-Cover
returns-in-Cover c = deepening-covers _ _ _ _ _ _ c.loop-k.invariant _ _ c.cover_left-found.ensures _ _ c.in-Cover.is

pub returns-in-Spent : goal.returns-in-Spent
returns-in-Spent c = deepening-spent _ _ _ _ _ _ c.loop-k.invariant _ _ c.cover_left-found.ensures c.loop-k-test.true c.in-Spent.is

pub returns : goal.returns
returns c = deepening_end _ _ _ _ _ _ c.loop-k.invariant c.loop-k-test.false _ _ c.cover_left-last.ensures
