-- `extend::first_rows` meets its contract: each turn makes the next pick of `grow`, and the rows are the chain of the picks.
use lib.ListN.{take}
use Rattle.extend.proofs.Picking.{Picked}
use Rattle.extend.proofs.first_rows.Given as goal

abbrev pub invariant-loop-turn : goal.invariant-loop-turn
invariant-loop-turn l = Picked (take l.n l.outer) (take l.n l.initial.owed) l.n l.outer l.unpicked l.owed l.left l.rows l._turn
