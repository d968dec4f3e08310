-- `essentials::essential_rows` meets its contract: the rows passed have their essential pairs, the others none.
use Rattle.essentials.proofs.Outdoing.{Finding}
use Rattle.essentials.proofs.essential_rows.Given as goal

abbrev pub invariant-loop-i : goal.invariant-loop-i
invariant-loop-i l = Finding l.fn.t.rows l.n l.found l.i
