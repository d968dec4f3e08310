-- `wiring::put_order` meets its contract: at each turn what is stored and what is still to be stored are the order (`Putting`).
use Prim.Native.Nat.{◌*◌}
use Rattle.wiring.proofs.Storing.{Putting}
use Rattle.wiring.proofs.put_order.Given as goal

abbrev pub invariant-loop-turn : goal.invariant-loop-turn
invariant-loop-turn l = Putting l.outer l.initial.rows l.n (2 * l.count) l.initial.out l.rows l.out (2 * l.turn)
