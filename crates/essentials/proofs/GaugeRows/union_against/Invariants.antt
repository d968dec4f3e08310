-- `essentials::GaugeRows::union_against` meets its contract: after `i` rows it is the union of these.
use mathlib.Core.Path.{◌≡◌}
use Rattle.essentials.specs.private.Unions.{against}
use Rattle.essentials.proofs.GaugeRows.union_against.Given as goal

abbrev pub invariant-loop-i : goal.invariant-loop-i
invariant-loop-i l = l.seen ≡ against l.self.rows.now l.own l.k l.i
