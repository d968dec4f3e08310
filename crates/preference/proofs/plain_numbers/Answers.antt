-- `preference::plain_numbers` meets its contract: at each place is what should be there.
use Rattle.std.proofs.Common.{rules}
use Rattle.sets.proofs.Tabulated.{from_fn_tabulated}
use Rattle.preference.specs.private.Testing.{plain_at}
use Rattle.preference.proofs.PlainOrder.{lifted_at, plain_written}
use Rattle.preference.proofs.plain_numbers.Goals as goal

pub returns : goal.returns
returns c =
    plain_written _ _
    (from_fn_tabulated _ _ (plain_at c.args.n) (λ i y q l k. (search rules, lifted_at _ c.lift_of-lift.result i _ l c.lift_of-lift.ensures (search rules))) c.from_fn.ensures.items)
